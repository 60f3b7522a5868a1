-- A leaf of a packed variable that has records before a first one and this one too is given those before alone, and then all from this one on are cut out of the index: the leaves on the way.
use Rattle.std.proofs.Common.{List, [], ap, arith, inl, inr, length, subst, suc, sym, take, true, ℕ, ◌*◌, ◌+◌, ◌-◌, ◌<◌, ◌∙◌, ◌∷◌, ◌≡◌, ◌≢◌, ◌≤◌, ◌⊎◌}
use Rattle.std.specs.Prelude.{min}
use Rattle.std.proofs.lemmas.Bool.{cases_lt}
use Rattle.cdf_edits.proofs.Common.{Each, Good, Kind, Leaf, Nodes, Range, VariableShape, is_compressed, leaves_of, plain_bytes, range, record_bytes, shape}
use Rattle.cdf_edits.proofs.Edits.Common.{StandsAmong}
use Rattle.cdf_edits.proofs.Edits.LeafPieces.{InOrder as LeafInOrder, IsOneOf, each_of, in_order, one_place}
use Rattle.cdf_edits.proofs.Edits.LeafRecords.{Ascending}
use Rattle.cdf_edits.proofs.Edits.PlainLeaves.{leaves_apart, leaves_ascend, own_rules}
use Rattle.cdf_edits.specs.Index.Cut.{IsPart}
use Rattle.cdf_index.proofs.LeafRules.{index_order}
use Rattle.cdf_blocks.proofs.PlacedLeaf.{all_placed, count_once, leaves_placed, one_placed, placed}
use Rattle.cdf_blocks.specs.Shortened.{BlockShortened}
use Rattle.cdf_cuts.proofs.CutStay.{nodes_left, to_left}
use Rattle.cdf_cuts.proofs.PastKept.{front, kept_front, kept_none, kept_same, same_index, some_left}
use Rattle.cdf_cuts.proofs.CutWords.{cut}
use Rattle.cdf_cuts.specs.Past.{EndCut, EndsOrGoes, PlainOrUncut, before_first, cut_off, past_span}
use Rattle.cdf_packed_cuts.specs.Past.{IsSplit}

-- ---- leaves in order

-- of two leaves one ends before the other begins, or they are one
pub apart_ranges : (low upto : ℕ) (ls : List Leaf) → Ascending low upto ls → (x y : Leaf) → IsOneOf ls x → IsOneOf ls y → (x ≡ y) ⊎ ((x.last < y.first) ⊎ (y.last < x.first))
apart_ranges low upto [] a x y i j = absurd i
apart_ranges low upto (l ∷ ls) a x y (inl p) (inl q) = inl (sym p ∙ q)
apart_ranges low upto (l ∷ ls) a x y (inl p) (inr j) = let o = (in_order (suc l.last) upto ls a.3 y j).from in let e : l.last ≡ x.last = ap (λ (z : Leaf). z.last) p in inr (inl (omega (arith, o, e)))
apart_ranges low upto (l ∷ ls) a x y (inr i) (inl q) = let o = (in_order (suc l.last) upto ls a.3 x i).from in let e : l.last ≡ y.last = ap (λ (z : Leaf). z.last) q in inr (inr (omega (arith, o, e)))
apart_ranges low upto (l ∷ ls) a x y (inr i) (inr j) = apart_ranges (suc l.last) upto ls a.3 x y i j

-- what another one than that with this First is stays
pub other_placed : (start : ℕ) (new : Leaf) (ls : List Leaf) (l : Leaf) → IsOneOf ls l → l.first ≢ start → IsOneOf (all_placed start new ls) l
other_placed start new [] l i ne = absurd i
other_placed start new (x ∷ xs) l (inl q) ne = inl (subst (λ (z : Leaf). placed start new z ≡ z) (sym q) (stays l ne) ∙ q)
  where
    stays : (z : Leaf) → z.first ≢ start → placed start new z ≡ z
    stays z ne = grind (arith, ne)
other_placed start new (x ∷ xs) l (inr i) ne = inr (other_placed start new xs l i ne)

-- ---- what a cut keeps of a leaf

module _ (first : ℕ) where
  pub keeps_before : (f l : ℕ) → l ≤ 2147483646 → f < first → before_first first (range f l) ≡ range f (min l (first - 1)) ∷ []
  keeps_before f l le lt = sym (kept_same first f l le) ∙ kept_front first f l le lt

  -- a part that stays begins where the leaf does, before the first record that goes
  pub record PartIs (l m : Leaf) : Type 0 where
    pub first_is : m.first ≡ l.first
    pub last_is : m.last ≡ min l.last (first - 1)
    pub reaches : l.first < first

  pub part_is : (l m : Leaf) → l.last ≤ 2147483646 → IsPart (before_first first) l m → PartIs l m
  part_is l m le part = elim (cases_lt l.first first) [
    | inl lt ↦
        let q : range m.first m.last ∷ [] ≡ range l.first (min l.last (first - 1)) ∷ [] = sym part ∙ keeps_before l.first l.last le lt in
        let s : range m.first m.last ≡ range l.first (min l.last (first - 1)) = cc in
        record { first_is = ap (λ (r : Range). r.first) s; last_is = ap (λ (r : Range). r.last) s; reaches = lt }
    | inr low ↦ (let q : range m.first m.last ∷ [] ≡ [] = sym part ∙ sym (kept_same first l.first l.last le) ∙ kept_none first l.first l.last le low in absurd cc)
  ]

-- ---- the steps

-- From an image by another one to a third: a leaf is given its records before a first one alone, and then all from this one on are cut.
pub record TwoSteps (b mid now : List ℕ) (kind : Kind) (before : List VariableShape) (own : VariableShape) (after : List VariableShape) (first : ℕ) (old new : Leaf) (plain : List ℕ) : Type 0 where
  pub good : Good b
  pub among : StandsAmong b kind before own after
  pub rle : is_compressed b own.vdr ≡ true
  pub one : IsOneOf (leaves_of own.index) old
  pub split : IsSplit first old
  pub first_is : new.first ≡ old.first
  pub last_is : new.last + 1 ≡ first
  pub plain_is : plain ≡ take ((new.last + 1 - new.first) * record_bytes b own.vdr) (plain_bytes b own.vdr old)
  pub long : length plain ≡ (new.last + 1 - new.first) * record_bytes b own.vdr
  pub short : BlockShortened b mid kind before own after old new plain
  pub cut : EndCut mid now kind before short.own' (cut_off short.own' first) after first

-- ---- the leaves once one of them was shortened

module _ {b mid : List ℕ} {kind : Kind} {before : List VariableShape} {own : VariableShape} {after : List VariableShape} {old new : Leaf} {plain : List ℕ} (good : Good b) (at : StandsAmong b kind before own after) (one : IsOneOf (leaves_of own.index) old) (x : BlockShortened b mid kind before own after old new plain) where
  abbrev leaves : List Leaf
  leaves = leaves_of own.index

  abbrev mids : List Leaf
  mids = leaves_of x.own'.index

  pub mids_are : mids ≡ all_placed old.first new leaves
  mids_are = ap leaves_of x.index_is ∙ leaves_placed old.first new own.index (count_once old.first 0 2147483647 leaves (leaves_ascend good at))

  -- of the others each ends before it begins, or begins behind its end
  pub sides : (l : Leaf) → IsOneOf leaves l → (l ≡ old) ⊎ ((l.last < old.first) ⊎ (old.last < l.first))
  sides l i = apart_ranges 0 2147483647 leaves (leaves_ascend good at) l old i one

  pub ordered : (l : Leaf) → IsOneOf leaves l → LeafInOrder 0 2147483647 l
  ordered l i = in_order 0 2147483647 leaves (leaves_ascend good at) l i

  pub other_first : (l : Leaf) → IsOneOf leaves l → (l ≡ old → ⊥) → l.first ≢ old.first
  other_first l i ne e = elim (sides l i) [
    | inl q ↦ ne q
    | inr s ↦ let o = (ordered l i).ordered in let p = (ordered old one).ordered in elim s [ inl lt ↦ omega (arith, o, lt, e) | inr lt ↦ omega (arith, p, lt, e) ]
  ]

  pub other_place : (l : Leaf) → IsOneOf leaves l → (l ≡ old → ⊥) → l.place ≢ old.place
  other_place l i ne e = ne (one_place leaves (leaves_apart good at) l old i one e)

  -- another leaf is one of those in between
  pub to_mid : (l : Leaf) → IsOneOf leaves l → (l ≡ old → ⊥) → IsOneOf mids l
  to_mid l i ne = subst (λ (ls : List Leaf). IsOneOf ls l) (sym mids_are) (other_placed old.first new leaves l i (other_first l i ne))

  -- and each of those is the new one, or another one of the first
  pub from_mid : (m : Leaf) → IsOneOf mids m → (m ≡ new) ⊎ (IsOneOf leaves m × (m.first ≢ old.first))
  from_mid m j = one_placed old.first new leaves m (subst (λ (ls : List Leaf). IsOneOf ls m) mids_are j)

  module _ {first : ℕ} (split : IsSplit first old) (last_is : new.last + 1 ≡ first) where
    ends_or_goes : (l : Leaf) → IsOneOf leaves l → (l ≡ old → ⊥) → EndsOrGoes first l
    ends_or_goes l i ne = let s = split.before in let t = split.behind in elim (sides l i) [
      | inl q ↦ absurd (ne q)
      | inr side ↦ elim side [ inl lt ↦ inl (omega (arith, lt, s)) | inr lt ↦ inr (omega (arith, lt, t)) ]
    ]

    -- then none is cut in part
    pub mid_ends : (m : Leaf) → IsOneOf mids m → EndsOrGoes first m
    mid_ends m j = elim (from_mid m j) [
      | inl q ↦ inl (omega (arith, last_is, ap (λ (z : Leaf). z.last) q))
      | inr other ↦ ends_or_goes m other.0 (λ q. other.1 (ap (λ (z : Leaf). z.first) q))
    ]

    pub none_split : Each (PlainOrUncut first) mids
    none_split = each_of (PlainOrUncut first) mids (λ m j. inr (mid_ends m j))

    pub others_whole : (l : Leaf) → IsOneOf leaves l → (l ≡ old → ⊥) → EndsOrGoes first l
    others_whole l i ne = ends_or_goes l i ne

-- ---- the leaves that are left

-- of leaves of which a cut takes none in part, those that end before the first record that goes are left
module _ {b : List ℕ} {kind : Kind} {before : List VariableShape} {own : VariableShape} {after : List VariableShape} (first : ℕ) (good : Good b) (at : StandsAmong b kind before own after) where
  pub whole_left : (l : Leaf) → IsOneOf (leaves_of own.index) l → l.last < first → IsOneOf (leaves_of (cut_off own first).index) l
  whole_left l i lt =
      let o = in_order 0 2147483647 (leaves_of own.index) (leaves_ascend good at) l i in
      let before = o.before in
      let ordered = o.ordered in
      let le : l.last ≤ 2147483646 = omega arith in
      let order = index_order b (shape b).records own.vdr own.index (own_rules good at).1 in
      let k = to_left (past_span first) (leaves_of own.index) (leaves_of (cut (past_span first) own.index)) (nodes_left (past_span first) own.index) l i (some_left first l le (omega (arith, ordered, lt))) in
      let m = k.0 in
      let f = front first l m le k.1.1 in
      let ends : m.last ≡ l.last = omega (arith, f.last_is, lt) in
      let same : m ≡ l = λ j. record { first = f.first_is j; last = ends j; place = f.place_is j; packed = f.packed_is j } in
      subst (λ (y : Nodes). IsOneOf (leaves_of y) l) (same_index first own.index order) (subst (IsOneOf (leaves_of (cut (past_span first) own.index))) same k.1.0)
