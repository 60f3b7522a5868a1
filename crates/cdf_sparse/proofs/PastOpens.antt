-- All records from a first one on were cut out of the index of a variable: that is a cut after which later records keep their numbers, up to the greatest number of a record.
use Rattle.cdf_cuts.proofs.Common.{Each, Leaf, List, None, Option, Range, Some, [], ap, arith, cases_lt, false, inl, inr, le-ltb, leaves_of, length, lt-ltb, map, Nodes, range, refl, size_at, subst, sym, true, true≢false, ℕ, ◌*◌, ◌++◌, ◌+◌, ◌-◌, ◌<◌, ◌==◌, ◌∙◌, ◌∷◌, ◌≡◌, ◌≤◌}
use Rattle.std.specs.List.{flat_map}
use Rattle.std.proofs.Common.{drop, take}
use Rattle.std.proofs.lemmas.List.{take-take}
use Rattle.cdf_edits.proofs.Common.{Act, Found, Good, Kind, VariableShape, Variable, byte, find, lt-leb, nat_le, nat_lt, owned, plain_bytes, range_at, record_bytes, same_Some, shape, tile_lies}
use Rattle.cdf_edits.proofs.Edits.ActsThen.{taken-gave}
use Rattle.cdf_edits.proofs.Edits.LeafPieces.{IsOneOf, each_of, found_in, of_each, place_in, times_le}
use Rattle.cdf_edits.proofs.Edits.LeafRecords.{count_is}
use Rattle.cdf_edits.proofs.Edits.PlainLeaves.{PlainLeaf}
use Rattle.cdf_edits.proofs.Edits.StandsAmong.{StandsAmong, sound}
use Rattle.cdf_edits.proofs.Edits.VariableCopied.{block_behind}
use Rattle.cdf_edits.specs.Commands.PutSteps.{BlockWritten, Goes, Stage}
use Rattle.cdf_edits.specs.Index.Blocks.{record_length, shared}
use Rattle.cdf_edits.specs.Index.Cut.{CutsIndex, IsPart, IsPlaced, StaysWhole, is_whole}
use Rattle.cdf_edits.specs.Index.Grown.{index_cut_open, kept_open, split_off, with_ranges}
use Rattle.cdf_edits.specs.Index.Written.{is_given_at}
use Rattle.cdf_edits.specs.Space.Acts.{taken}
use Rattle.cdf_index.proofs.Common.{behind_in}
use Rattle.cdf_model.specs.Limits.{record_number_limit}
use Rattle.cdf_puts.proofs.GoesThen.{own_there}
use Rattle.cdf_puts.proofs.CoveringRanges.{some_or_none}
use Rattle.cdf_cuts.proofs.BlocksMoved.{piece_shifted}
use Rattle.cdf_cuts.proofs.PastFollows.{block_stays, or_true, plain, plain_now, size_now}
use Rattle.cdf_cuts.proofs.PastKept.{Front, front, kept_same}
use Rattle.cdf_cuts.specs.Past.{CutPast, before_first, cut_off, past_acts, past_span, stage}
use Rattle.cdf_cuts.specs.Planning.{freed_of, plan_of}
use Rattle.cdf_edits.specs.Commands.Deleting.{CutsOpen, LeafKept, LeafSplit}
use Rattle.cdf_edits.specs.Index.Cut.{part_bytes}
use Rattle.cdf_sparse.proofs.StepAllowed.{step_as}

-- ---- a cut of all records from a first one on

module _ (first : ℕ) where
  -- a block of which it takes no record ends before that one
  pub ends_before : (f l : ℕ) → f ≤ l → l ≤ record_number_limit → nat_lt 0 (shared first record_number_limit (range f l)) ≡ false → l < first
  ends_before f l order small e = elim (cases_lt l first) [
    | inl lt ↦ lt
    | inr le ↦ (let some : nat_lt 0 (shared first record_number_limit (range f l)) ≡ true = lt-ltb 0 (shared first record_number_limit (range f l)) (omega (arith, order, small, le)) in absurd (true≢false (sym some ∙ e)))
  ]

  reached : (f l : ℕ) → f ≤ l → l ≤ record_number_limit → nat_lt 0 (shared first record_number_limit (range f l)) ≡ false → nat_le first l ≡ false
  reached f l order small e = lt-leb first l (ends_before f l order small e)

  -- and no block is divided
  not_divided : (f l : ℕ) → l ≤ record_number_limit → split_off first record_number_limit (range f l) ≡ []
  not_divided f l small = elim (cases_lt f first) [
    | inl lt ↦ rw (lt-ltb f first lt, le-ltb record_number_limit l small) refl
    | inr le ↦ rw (le-ltb f first le, le-ltb record_number_limit l small) refl
  ]

  none_off : (leaves : List Leaf) → Each (λ (l : Leaf). l.last ≤ record_number_limit) leaves → flat_map (split_off first record_number_limit) (map (λ (l : Leaf). range l.first l.last) leaves) ≡ []
  none_off [] small = refl
  none_off (l ∷ leaves) small = ap (λ (rs : List Range). rs ++ flat_map (split_off first record_number_limit) (map (λ (l : Leaf). range l.first l.last) leaves)) (not_divided l.first l.last small.0) ∙ none_off leaves small.1

module _ {b now : List ℕ} {kind : Kind} {before : List VariableShape} {own : VariableShape} {after : List VariableShape} {first : ℕ} (good : Good b) (at : StandsAmong b kind before own after) (x : CutPast b now kind before own (cut_off own first) after first) (v : Variable) (long : record_length v ≡ record_bytes b own.vdr) (rle : v.rle ≡ false) where
  abbrev found : Found
  found = record { kind = kind; number = length before; variable = v }

  abbrev own' : VariableShape
  own' = cut_off own first

  abbrev size : ℕ
  size = record_bytes b own.vdr

  abbrev leaves : List Leaf
  leaves = leaves_of own.index

  abbrev leaves' : List Leaf
  leaves' = leaves_of own'.index

  abbrev acts : List Act
  acts = past_acts b own first

  none_taken : taken acts ≡ []
  none_taken = taken-gave b (freed_of (plan_of (past_span first) 0 own.index))

  small : Each (λ (l : Leaf). l.last ≤ record_number_limit) leaves
  small = each_of (λ (l : Leaf). l.last ≤ record_number_limit) leaves (λ l i. (plain good at x l i).small)

  index_is : index_cut_open first record_number_limit own.index ≡ own'.index
  index_is = ap (with_ranges own'.index) (none_off first leaves small)

  index : CutsIndex v (kept_open first record_number_limit) own.index (index_cut_open first record_number_limit own.index) own'.index acts
  index = subst (λ (n : Nodes). CutsIndex v (kept_open first record_number_limit) own.index n own'.index acts) (sym index_is) (x.cuts v)

  -- ---- a block that is left

  there : (old new : Leaf) → IsOneOf leaves old → IsOneOf leaves' new → IsPart (before_first first) old new → (new.place ≡ old.place) × (new.packed ≡ old.packed) × (is_given_at acts old.place ≡ false)
  there old new i j part = of_each (StaysWhole v (before_first first) acts old) leaves' new (of_each (λ (o : Leaf). Each (StaysWhole v (before_first first) acts o) leaves') leaves old (x.cuts v).stay i) j part (rw rle (or_true (is_whole old new)))

  left : (old new : Leaf) → IsOneOf leaves old → IsOneOf leaves' new → IsPart (before_first first) old new → Front first old new
  left old new i j part =
      let s = there old new i j part in
      let p = plain good at x old i in
      front first old new p.small (record { place_is = s.0; packed_is = s.1; more = []; kept_is = kept_same first old.first old.last p.small ∙ part })

  placed : (old new : Leaf) → IsOneOf leaves old → IsOneOf leaves' new → IsPlaced b now v own'.vdr (before_first first) acts old new
  placed old new i j part = let s = there old new i j part in rw (rle, or_true (is_whole old new)) (s.0, s.2)

  abbrev count : Leaf → ℕ
  count l = l.last + 1 - l.first

  block_inside : (l : Leaf) → IsOneOf leaves l → l.place + size_at b l.place ≤ length b
  block_inside l i = (tile_lies b 8 (length b) (shape b).records l.place (sound good at).has_shape.tiled (behind_in good at l.place (block_behind own l.place (place_in leaves l i)))).high

  plain_was : (l : Leaf) → PlainLeaf b size l → plain_bytes b own.vdr l ≡ take (count l * size) (drop (l.place + 12) b)
  plain_was l p = rw (p.plain, count_is l p.small p.ordered) refl

  plain_is : (m : Leaf) → PlainLeaf now size m → plain_bytes now own'.vdr m ≡ take (count m * size) (drop (m.place + 12) now)
  plain_is m p = rw (p.plain, count_is m p.small p.ordered, size_now good at x) refl

  part_is : (old new : Leaf) → new.first ≡ old.first → part_bytes b v own'.vdr old new ≡ take (count new * size) (plain_bytes b own.vdr old)
  part_is old new e =
      let zero : new.first - old.first ≡ 0 = omega (arith, e) in
      let none : (new.first - old.first) * record_length v ≡ 0 = omega (arith, ap (λ (n : ℕ). n * record_length v) zero) in
      (λ i. take (count new * long i) (drop (none i) (plain_bytes b own.vdr old)))

  -- of the bytes of its records it has the first ones
  front_bytes : (old new : Leaf) → IsOneOf leaves old → IsOneOf leaves' new → Front first old new → plain_bytes now own'.vdr new ≡ part_bytes b v own'.vdr old new
  front_bytes old new i j e =
      let p = plain good at x old i in
      let y = plain_now good at x new j in
      let k = block_stays good at x old i e.reaches in
      let fit = times_le (count new) (count old) size (omega (arith, e.first_is, e.last_is)) in
      let inside = block_inside old i in
      let here : new.place ≡ old.place = e.place_is in
      let same = piece_shifted (count new * size) (new.place + 12) (old.place + 12) now b (omega (arith, here, fit, p.room, inside, x.long)) (omega (arith, fit, p.room, inside)) (λ n lt.
      let z : new.place + 12 + n ≡ old.place + (12 + n) = omega (arith, here) in
      let w : old.place + 12 + n ≡ old.place + (12 + n) = omega arith in
      ap (byte now) z ∙ k.same (12 + n) (omega (arith, lt, fit, p.room)) tt ∙ ap (byte b) (sym w)) in
      plain_is new y ∙ same ∙ sym (ap (take (count new * size)) (plain_was old p) ∙ take-take (count new * size) (count old * size) (drop (old.place + 12) b) fit) ∙ sym (part_is old new e.first_is)

  written : (old new : Leaf) → IsOneOf leaves old → IsOneOf leaves' new → IsPart (before_first first) old new → BlockWritten b now v.rle own'.vdr acts new (part_bytes b v own'.vdr old new)
  written old new i j part =
      let e = left old new i j part in
      let y = plain_now good at x new j in
      let k = block_stays good at x old i e.reaches in
      record {
        plain_is = front_bytes old new i j e;
        packed = λ q. absurd (true≢false (sym q ∙ rle));
        spare = rw none_taken (record {
          each = λ p from upto.
              let n : p ≡ old.place + (p - old.place) = omega (arith, from, e.place_is) in
              ap (byte now) n ∙ k.same (p - old.place) (omega (arith, from, upto, e.place_is, ap (size_at b) e.place_is)) tt ∙ ap (byte b) (sym n);
        });
        reserved = λ q. absurd (true≢false (sym q ∙ y.plain));
      }

  -- ---- the whole

  module _ (so_far : List Act) (next : ℕ) where
    abbrev from : Stage
    from = stage b own so_far next

    abbrev to : Stage
    to = stage now own' acts next

    kept : Each (λ old. Each (LeafKept found first record_number_limit from to old) leaves') leaves
    kept = each_of (λ old. Each (LeafKept found first record_number_limit from to old) leaves') leaves (λ old i. each_of (LeafKept found first record_number_limit from to old) leaves' (λ new j. record { placed = placed old new i j; written = λ part whole. written old new i j part }))

    none_split : (old new : Leaf) → IsOneOf leaves old → IsPart (split_off first record_number_limit) old new → ⊥
    none_split old new i part = let none : [] ≡ range new.first new.last ∷ [] = sym (not_divided first old.first old.last (plain good at x old i).small) ∙ part in absurd cc

    split : Each (λ old. Each (LeafSplit found first record_number_limit from to old) leaves') leaves
    split = each_of (λ old. Each (LeafSplit found first record_number_limit from to old) leaves') leaves (λ old i. each_of (LeafSplit found first record_number_limit from to old) leaves' (λ new j. record { placed = λ part. absurd (none_split old new i part); written = λ part. absurd (none_split old new i part) }))

    -- the block at a place, by the records that it is said to have
    fewer : (m : ℕ) (r : Range) → range_at (shape b) found m ≡ Some r → nat_lt 0 (shared first record_number_limit r) ≡ false → nat_le first r.last ≡ false
    fewer m r e none =
        let q : (elim (find (λ (leaf : Leaf). leaf.place == m) leaves) as (λ x. Option Range) [ None ↦ None | Some leaf ↦ Some (range leaf.first leaf.last) ]) ≡ Some r = rw (own_there good at) at e in
        elim (some_or_none (find (λ (leaf : Leaf). leaf.place == m) leaves)) [
          | inl y ↦
              let is : Some (range y.0.first y.0.last) ≡ Some r = rw y.1 at q in
              let same = same_Some (range y.0.first y.0.last) r is in
              let p = plain good at x y.0 (found_in (λ (leaf : Leaf). leaf.place == m) leaves y.0 y.1).0 in
              subst (λ (s : Range). nat_le first s.last ≡ false) same (reached first y.0.first y.0.last p.ordered p.small (subst (λ (s : Range). nat_lt 0 (shared first record_number_limit s) ≡ false) (sym same) none))
          | inr y ↦ (let is : None ≡ Some r = rw y at q in absurd cc)
        ]

    goes : Goes found from to (λ r. nat_lt 0 (shared first record_number_limit r))
    goes =
        let g = x.goes next in
        record {
          good = g.good;
          stands = g.stands;
          acts_follow = g.acts_follow;
          keeps = step_as b now found (λ r. nat_le first r.last) (λ r. nat_lt 0 (shared first record_number_limit r)) acts fewer (owned b (shape b)) g.keeps;
          unused = g.unused;
          spare = g.spare;
          tail = g.tail;
          freed = g.freed;
        }

    pub past_opens : CutsOpen found first record_number_limit from to
    past_opens = record { index = index; kept = kept; split = split; goes = goes; next_is = refl }
