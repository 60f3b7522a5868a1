-- A leaf of a packed variable is given its records before a first one alone, and then all from this one on are cut: that is what a put under a rule cuts first.
use Rattle.std.proofs.Common.{List, [], ap, arith, false, inl, inr, length, map, refl, subst, sym, take, true, ℕ, ◌*◌, ◌+◌, ◌-◌, ◌<◌, ◌∙◌, ◌∷◌, ◌≡◌, ◌≤◌}
use Rattle.std.specs.List.{sum}
use Rattle.std.specs.Prelude.{max, nat_le}
use Rattle.cdf_edits.proofs.Common.{ActsFollow, Each, Gave, Kind, Leaf, Stays, Took, Variable, VariableShape, either, extent, leaves_of, max_rec_at, number, plain_bytes, r_max_rec, record_bytes, size_at, variable_of, vdr_max_rec}
use Rattle.cdf_edits.proofs.Edits.LeafPieces.{IsOneOf, each_of, times_le}
use Rattle.cdf_edits.specs.Commands.PutSteps.{BlockWritten, CutsPast, Goes}
use Rattle.cdf_edits.specs.Index.Cut.{CutsIndex, IsPart, IsPlaced, is_whole}
use Rattle.cdf_edits.specs.Index.Grown.{cut_nodes}
use Rattle.cdf_edits.specs.Index.Written.{block_need}
use Rattle.cdf_edits.specs.Space.Acts.{OnlyTakes}
use Rattle.cdf_puts.proofs.PutRoom.{longer_by, longer_moved}
use Rattle.cdf_puts.specs.Going.{found_in}
use Rattle.cdf_puts.specs.SoFar.{taken_bytes}
use Rattle.cdf_cuts.specs.Past.{before_first, cut_off, stage}
use Rattle.cdf_packed_cuts.proofs.PackedContent.{content_cut, variable_cut}
use Rattle.cdf_packed_cuts.proofs.TwoActs.{acts, first_acts, if_moved, if_stays, lasts, stays, taken_is, takes_first}
use Rattle.cdf_packed_cuts.proofs.TwoGoes.{block_stays, goes, goes_on}
use Rattle.cdf_packed_cuts.proofs.TwoIndex.{all_placed, cuts, part_of_old}
use Rattle.cdf_packed_cuts.proofs.TwoSteps.{TwoSteps}
use Rattle.cdf_packed_cuts.proofs.TwoStored.{stored}
use Rattle.cdf_packed_cuts.proofs.TwoWritten as of_block
use Rattle.cdf_packed_cuts.specs.Past.{PackedPast, SplitsWithin}

one_moved : (place need old size : ℕ) → taken_bytes (Took place need ∷ Gave old size ∷ []) ≡ need
one_moved place need old size = omega arith

module _ {b mid now : List ℕ} {kind : Kind} {before : List VariableShape} {own : VariableShape} {after : List VariableShape} {first : ℕ} {old new : Leaf} {plain : List ℕ} (t : TwoSteps b mid now kind before own after first old new plain) where
  abbrev v : Variable
  v = variable_of b own

  abbrev own2 : VariableShape
  own2 = cut_off t.short.own' first

  abbrev leaves : List Leaf
  leaves = leaves_of own.index

  abbrev size : ℕ
  size = record_bytes b own.vdr

  abbrev front_of : Leaf → Leaf → List ℕ
  front_of l n = take ((n.last + 1 - n.first) * size) (plain_bytes b own2.vdr l)

  plain_front : plain ≡ front_of old new
  plain_front = t.plain_is ∙ ap (λ (vdr : ℕ). take ((new.last + 1 - new.first) * size) (plain_bytes b vdr old)) (sym t.short.goes_on.vdr_is)

  written : (l n : Leaf) → IsOneOf leaves l → IsOneOf (lasts t) n → IsPart (before_first first) l n → is_whole l n ≡ false → BlockWritten b now v.rle own2.vdr (acts t) n (front_of l n)
  written l n i j part some =
      let e = part_of_old t l n i j part some in
      let one = subst (BlockWritten b now true own2.vdr (acts t) new) plain_front (of_block.written t) in
      let two = subst (λ (y : Leaf). BlockWritten b now true own2.vdr (acts t) y (front_of old y)) (sym e.1) one in
      rw t.rle (subst (λ (y : Leaf). BlockWritten b now true own2.vdr (acts t) n (front_of y n)) (sym e.0) two)

  abbrev Written : ℕ → Leaf → Leaf → Type 0
  Written m l n = IsPart (before_first m) l n → is_whole l n ≡ false → BlockWritten b now v.rle own2.vdr (acts t) n (front_of l n)

  all_written : Each (λ l. Each (Written first l) (lasts t)) leaves
  all_written = each_of (λ l. Each (Written first l) (lasts t)) leaves (λ l i. each_of (Written first l) (lasts t) (λ n j part some. written l n i j part some))

  cuts_past : first ≡ extent (max_rec_at b own.vdr) → (next : ℕ) → CutsPast (found_in b kind before own) (stage b own [] next) (stage now own2 (acts t) next)
  cuts_past is next = record {
    cuts = (
      subst (λ (m : ℕ). CutsIndex v (before_first m) own.index (cut_nodes false (before_first m) own.index) own2.index (acts t)) is (cuts t),
      subst (λ (m : ℕ). Each (λ l. Each (IsPlaced b now v own2.vdr (before_first m) (acts t) l) (lasts t)) leaves) is (all_placed t),
    );
    takes_first = takes_first t;
    written = subst (λ (m : ℕ). Each (λ l. Each (Written m l) (lasts t)) leaves) is all_written;
    goes = subst (λ (m : ℕ). Goes (found_in b kind before own) (stage b own [] next) (stage now own2 (acts t) next) (λ r. nat_le m r.last)) is (goes t next);
    next_is = refl;
  }

  max_rec_is : (number now own2.vdr vdr_max_rec ≡ number b own.vdr vdr_max_rec) × (r_max_rec now ≡ r_max_rec b)
  max_rec_is = (t.cut.max_rec_is ∙ ap (λ (m : ℕ). number mid m vdr_max_rec) t.short.goes_on.vdr_is ∙ t.short.max_rec_is, t.cut.r_max_rec_is ∙ t.short.r_max_rec_is)

  max_rec_own : number now own.vdr vdr_max_rec ≡ number b own.vdr vdr_max_rec
  max_rec_own = subst (λ (m : ℕ). number now m vdr_max_rec ≡ number b own.vdr vdr_max_rec) t.short.goes_on.vdr_is max_rec_is.0

  -- ---- what is taken

  need_most : block_need mid own.vdr new ≤ max 28 (12 + (old.last + 1 - old.first) * size)
  need_most =
      let is : length plain ≡ (new.last + 1 - new.first) * size = t.long in
      let first_is = t.first_is in
      let last_is = t.last_is in
      let behind = t.split.behind in
      let fewer = times_le (new.last + 1 - new.first) (old.last + 1 - old.first) size (omega arith) in
      let needs = t.short.needs in
      omega (arith, is, fewer, needs)

  first_within : (room : ℕ) → SplitsWithin leaves size first room → taken_bytes (first_acts t) ≤ room
  first_within room within = elim (either (stays t)) [
    | inl e ↦ (let none : taken_bytes (first_acts t) ≡ 0 = ap taken_bytes (if_stays t e) in omega (arith, none))
    | inr e ↦ (let one : taken_bytes (first_acts t) ≡ block_need mid own.vdr new = ap taken_bytes (if_moved t e) ∙ one_moved new.place (block_need mid own.vdr new) old.place (size_at b old.place) in let most = within old t.one t.split in omega (arith, one, most, need_most))
  ]

  taken_same : taken_bytes (acts t) ≡ taken_bytes (first_acts t)
  taken_same = ap (λ (takes : List (ℕ × ℕ)). sum (map (λ (take : ℕ × ℕ). take.1) takes)) (taken_is t)

  within_room : (room : ℕ) → SplitsWithin leaves size first room → taken_bytes (acts t) ≤ room
  within_room room within = let one = first_within room within in omega (arith, taken_same, one)

  longer_mid : length mid ≤ length b + taken_bytes (first_acts t)
  longer_mid = elim (either (stays t)) [
    | inl e ↦ longer_by b mid (first_acts t) t.short.goes_on.follow (subst OnlyTakes (sym (if_stays t e)) tt)
    | inr e ↦
        let one : taken_bytes (first_acts t) ≡ block_need mid own.vdr new = ap taken_bytes (if_moved t e) ∙ one_moved new.place (block_need mid own.vdr new) old.place (size_at b old.place) in
        let by = longer_moved b mid new.place (block_need mid own.vdr new) old.place (size_at b old.place) (subst (ActsFollow b mid) (if_moved t e) t.short.goes_on.follow) in
        omega (arith, one, by)
  ]

  pub past_in_two : PackedPast b now kind before own after first
  past_in_two = record {
    own' = own2;
    acts = acts t;
    goes_on = goes_on t;
    steps = cuts_past;
    blocks = each_of (λ l. l.last < first → Stays b now l.place []) leaves (block_stays t);
    stored = stored t;
    variable_is = variable_cut t.good t.among (goes_on t) max_rec_own (stored t);
    content_is = content_cut t.good t.among (goes_on t) max_rec_own (stored t);
    max_rec_is = max_rec_own;
    r_max_rec_is = max_rec_is.1;
    fits = within_room;
    longer = (let long = t.cut.long in let more = longer_mid in omega (arith, long, more, taken_same));
  }
