-- All records from a first one on were cut out of the index of a variable: where that is the one behind MaxRec, the cut is the one of a put that is past it, and a cut of all records is the one of `set-sparse`.
use Rattle.cdf_cuts.proofs.Common.{Each, Leaf, List, [], ap, arith, false, freed_of, leaves_of, length, no_node, plan_of, refl, size_at, subst, sym, tile_lies, true, true≢false, ℕ, ◌*◌, ◌+◌, ◌-◌, ◌<◌, ◌∙◌, ◌≡◌, ◌≤◌}
use Rattle.std.proofs.Common.{drop, take, ◌||◌}
use Rattle.std.proofs.lemmas.List.{take-take}
use Rattle.cdf_edits.proofs.Common.{Act, Bool, Good, Kind, Stays, Variable, VariableShape, byte, extent, max_rec_at, nat_le, plain_bytes, record_bytes, shape, variable_of}
use Rattle.cdf_edits.proofs.Edits.ActsThen.{taken-gave}
use Rattle.cdf_edits.proofs.Edits.LeafPieces.{IsOneOf, each_of, of_each, place_in, times_le}
use Rattle.cdf_edits.proofs.Edits.LeafRecords.{count_is}
use Rattle.cdf_edits.proofs.Edits.PlainLeaves.{PlainLeaf, own_rules, plain_leaf}
use Rattle.cdf_edits.proofs.Edits.StandsAmong.{StandsAmong, sound}
use Rattle.cdf_edits.proofs.Edits.VariableCopied.{block_behind}
use Rattle.cdf_edits.specs.Commands.Cuts.{CutsAll}
use Rattle.cdf_edits.specs.Commands.PutSteps.{BlockWritten, CutsPast, Goes}
use Rattle.cdf_edits.specs.Index.Cut.{BlocksFreedStay, CutsIndex, IsPart, IsPlaced, NodesFreedStay, StaysWhole, is_whole}
use Rattle.cdf_edits.specs.Index.Grown.{cut_nodes}
use Rattle.cdf_edits.specs.Index.Written.{is_given_at}
use Rattle.cdf_edits.specs.Space.Acts.{taken}
use Rattle.cdf_index.proofs.Common.{behind_in}
use Rattle.cdf_index.proofs.LeafRules.{index_order}
use Rattle.cdf_puts.proofs.GoesThen.{later_size, later_loose}
use Rattle.cdf_puts.specs.Going.{found_in}
use Rattle.cdf_cuts.proofs.BlocksMoved.{piece_shifted}
use Rattle.cdf_cuts.proofs.CutAll.{all_gone}
use Rattle.cdf_cuts.proofs.FreedKept.{given_filter, given_nodes}
use Rattle.cdf_cuts.proofs.PastKept.{Front, front, kept_same}
use Rattle.cdf_cuts.specs.Past.{CutPast, before_first, cut_off, past_acts, past_span, stage}

pub or_true : (p : Bool) → (p || true) ≡ true
or_true true = refl
or_true false = refl

module _ {b now : List ℕ} {kind : Kind} {before : List VariableShape} {own : VariableShape} {after : List VariableShape} {first : ℕ} (good : Good b) (at : StandsAmong b kind before own after) (x : CutPast b now kind before own (cut_off own first) after first) where
  abbrev v : Variable
  v = variable_of b own

  abbrev own' : VariableShape
  own' = cut_off own first

  abbrev size : ℕ
  size = record_bytes b own.vdr

  abbrev leaves : List Leaf
  leaves = leaves_of own.index

  abbrev leaves' : List Leaf
  leaves' = leaves_of own'.index

  abbrev acts : List Act
  acts = past_acts b own first

  rle : v.rle ≡ false
  rle = x.loose

  none_taken : taken acts ≡ []
  none_taken = taken-gave b (freed_of (plan_of (past_span first) 0 own.index))

  pub plain : (l : Leaf) → IsOneOf leaves l → PlainLeaf b size l
  plain l i = plain_leaf good at x.loose l i

  pub size_now : record_bytes now own'.vdr ≡ size
  size_now = later_size good at x.goes_on

  pub plain_now : (m : Leaf) → IsOneOf leaves' m → PlainLeaf now size m
  plain_now m i = subst (λ (n : ℕ). PlainLeaf now n m) size_now (plain_leaf x.goes_on.good x.goes_on.among (later_loose good at x.goes_on x.loose) m i)

  -- ---- a block that is left

  abbrev Whole : Leaf → Leaf → Type 0
  Whole old new = StaysWhole v (before_first first) acts old new

  there : (old new : Leaf) → IsOneOf leaves old → IsOneOf leaves' new → IsPart (before_first first) old new → (new.place ≡ old.place) × (new.packed ≡ old.packed) × (is_given_at acts old.place ≡ false)
  there old new i j part = of_each (Whole old) leaves' new (of_each (λ (o : Leaf). Each (Whole o) leaves') leaves old (x.cuts v).stay i) j part (rw rle (or_true (is_whole old new)))

  left : (old new : Leaf) → IsOneOf leaves old → IsOneOf leaves' new → IsPart (before_first first) old new → Front first old new
  left old new i j part =
      let s = there old new i j part in
      front first old new (plain old i).small (record { place_is = s.0; packed_is = s.1; more = []; kept_is = kept_same first old.first old.last (plain old i).small ∙ part })

  -- it keeps its bytes
  pub block_stays : (l : Leaf) → IsOneOf leaves l → l.first < first → Stays b now l.place []
  block_stays l i = of_each (λ (o : Leaf). o.first < first → Stays b now o.place []) leaves l x.blocks i

  pub block_inside : (l : Leaf) → IsOneOf leaves l → l.place + size_at b l.place ≤ length b
  block_inside l i = (tile_lies b 8 (length b) (shape b).records l.place (sound good at).has_shape.tiled (behind_in good at l.place (block_behind own l.place (place_in leaves l i)))).high

  placed : (old new : Leaf) → IsOneOf leaves old → IsOneOf leaves' new → IsPlaced b now v own'.vdr (before_first first) acts old new
  placed old new i j part = let s = there old new i j part in rw (rle, or_true (is_whole old new)) (s.0, s.2)

  abbrev count : Leaf → ℕ
  count l = l.last + 1 - l.first

  plain_was : (l : Leaf) → PlainLeaf b size l → plain_bytes b own.vdr l ≡ take (count l * size) (drop (l.place + 12) b)
  plain_was l p = rw (p.plain, count_is l p.small p.ordered) refl

  plain_is : (m : Leaf) → PlainLeaf now size m → plain_bytes now own'.vdr m ≡ take (count m * size) (drop (m.place + 12) now)
  plain_is m p = rw (p.plain, count_is m p.small p.ordered, size_now) refl

  -- of the bytes of its records it has the first ones
  front_bytes : (old new : Leaf) → IsOneOf leaves old → IsOneOf leaves' new → Front first old new → plain_bytes now own'.vdr new ≡ take (count new * size) (plain_bytes b own'.vdr old)
  front_bytes old new i j e =
      let p = plain old i in
      let y = plain_now new j in
      let k = block_stays old i e.reaches in
      let fit = times_le (count new) (count old) size (omega (arith, e.first_is, e.last_is)) in
      let inside = block_inside old i in
      let at : new.place ≡ old.place = e.place_is in
      let same = piece_shifted (count new * size) (new.place + 12) (old.place + 12) now b (omega (arith, at, fit, p.room, inside, x.long)) (omega (arith, fit, p.room, inside)) (λ n lt.
      let z : new.place + 12 + n ≡ old.place + (12 + n) = omega (arith, at) in
      let w : old.place + 12 + n ≡ old.place + (12 + n) = omega arith in
      ap (byte now) z ∙ k.same (12 + n) (omega (arith, lt, fit, p.room)) tt ∙ ap (byte b) (sym w)) in
      plain_is new y ∙ same ∙ sym (ap (take (count new * size)) (plain_was old p) ∙ take-take (count new * size) (count old * size) (drop (old.place + 12) b) fit)

  written : (old new : Leaf) → IsOneOf leaves old → IsOneOf leaves' new → IsPart (before_first first) old new → BlockWritten b now v.rle own'.vdr acts new (take (count new * size) (plain_bytes b own'.vdr old))
  written old new i j part =
      let e = left old new i j part in
      let y = plain_now new j in
      let k = block_stays old i e.reaches in
      record {
        plain_is = front_bytes old new i j e;
        packed = λ q. absurd (true≢false (sym q ∙ rle));
        spare = rw none_taken (record {
          each = λ p from upto.
              let n : p ≡ old.place + (p - old.place) = omega (arith, from, e.place_is) in
              ap (byte now) n ∙ k.same (p - old.place) (omega (arith, from, upto, e.place_is, ap (size_at b) e.place_is)) tt ∙ ap (byte b) (sym n);
        });
        reserved = λ q. absurd (true≢false (sym q ∙ y.plain));
      }

  -- ---- before a put past MaxRec

  takes_first : taken (drop (length (taken acts)) acts) ≡ []
  takes_first = ap (λ (n : ℕ). taken (drop n acts)) (ap length none_taken) ∙ none_taken

  all_placed : Each (λ old. Each (IsPlaced b now v own'.vdr (before_first first) acts old) leaves') leaves
  all_placed = each_of (λ old. Each (IsPlaced b now v own'.vdr (before_first first) acts old) leaves') leaves (λ old i. each_of (IsPlaced b now v own'.vdr (before_first first) acts old) leaves' (λ new j. placed old new i j))

  abbrev Written : ℕ → Leaf → Leaf → Type 0
  Written n old new = IsPart (before_first n) old new → is_whole old new ≡ false → BlockWritten b now v.rle own'.vdr acts new (take (count new * size) (plain_bytes b own'.vdr old))

  all_written : Each (λ old. Each (Written first old) leaves') leaves
  all_written = each_of (λ old. Each (Written first old) leaves') leaves (λ old i. each_of (Written first old) leaves' (λ new j part whole. written old new i j part))

  pub cuts_past : first ≡ extent (max_rec_at b own.vdr) → (next : ℕ) → CutsPast (found_in b kind before own) (stage b own [] next) (stage now own' acts next)
  cuts_past is next = record {
    cuts = (
      subst (λ (n : ℕ). CutsIndex v (before_first n) own.index (cut_nodes false (before_first n) own.index) own'.index acts) is (x.cuts v),
      subst (λ (n : ℕ). Each (λ old. Each (IsPlaced b now v own'.vdr (before_first n) acts old) leaves') leaves) is all_placed,
    );
    takes_first = takes_first;
    written = subst (λ (n : ℕ). Each (λ old. Each (Written n old) leaves') leaves) is all_written;
    goes = subst (λ (n : ℕ). Goes (found_in b kind before own) (stage b own [] next) (stage now own' acts next) (λ r. nat_le n r.last)) is (x.goes next);
    next_is = refl;
  }

  -- ---- what is freed

  pub blocks_freed : BlocksFreedStay b now acts acts
  blocks_freed = given_filter b now _ acts acts (x.goes 0).freed

  pub nodes_freed : NodesFreedStay b now acts acts
  nodes_freed = given_nodes b now acts acts (x.goes 0).freed

-- ---- all records

module _ {b now : List ℕ} {kind : Kind} {before : List VariableShape} {own : VariableShape} {after : List VariableShape} (good : Good b) (at : StandsAmong b kind before own after) (x : CutPast b now kind before own (cut_off own 0) after 0) where
  pub none_left : (cut_off own 0).index ≡ no_node
  none_left = all_gone own.index (index_order b (shape b).records own.vdr own.index (own_rules good at).1)

  pub cuts_all : CutsAll b now own (cut_off own 0) (past_acts b own 0)
  cuts_all = record { index_is = none_left; takes_none = none_taken good at x; tail = (x.goes 0).tail }
