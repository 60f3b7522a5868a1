-- Leaves of an index beside one that has an edge: which of them keep some of their records, and which one has records on both sides.
use Rattle.std.proofs.Common.{Bool, List, None, Some, [], ap, arith, false, inl, inr, refl, sym, true, ℕ, ◌+◌, ◌-◌, ◌<◌, ◌∷◌, ◌≡◌, ◌≢◌, ◌≤◌, ◌⊎◌, ◌&&◌}
use Rattle.std.specs.Prelude.{nat_lt}
use Rattle.cdf_edits.proofs.Common.{Good, Kind, Leaf, VariableShape, leaves_of, le-ltb, lt-ltb, record_number_limit}
use Rattle.cdf_edits.proofs.Edits.Common.{StandsAmong}
use Rattle.cdf_edits.proofs.Edits.LeafPieces.{IsOneOf, in_order}
use Rattle.cdf_edits.proofs.Edits.LeafRecords.{Ascending}
use Rattle.cdf_edits.proofs.Edits.PlainLeaves.{leaves_ascend}
use Rattle.cdf_cuts.specs.Past.{EndsOrGoes}
use Rattle.cdf_packed_cuts.proofs.TwoSteps.{apart_ranges}
use Rattle.cdf_packed_cuts.specs.Past.{IsSplit}
use Rattle.cdf_packed_deletes.proofs.KeptLists.{filter_none, filter_one, filter_two, find_none, find_one}
use Rattle.cdf_packed_deletes.proofs.Parts.{cut_keeps, side_keeps}
use Rattle.cdf_packed_deletes.specs.Closing.{keeping}
use Rattle.cdf_packed_deletes.specs.Keeping.{IsAllOrNone, IsCutIn}
use Rattle.cdf_packed_deletes.specs.Steps.{freed_from, keeps_some, with_both}

-- a leaf with neither edge
pub sides_by : {first last : ℕ} (l : Leaf) → first ≤ last → EndsOrGoes first l → EndsOrGoes (last + 1) l → IsAllOrNone first last l
sides_by l order (inl lt) e = inl lt
sides_by l order (inr ge) (inl lt) = inr (inr (ge, omega (arith, lt)))
sides_by l order (inr ge) (inr gt) = inr (inl (omega (arith, gt)))

abbrev pub has_both : ℕ → ℕ → Leaf → Bool
has_both first last l = nat_lt l.first first && nat_lt last l.last

-- one that has not the first edge, or not the last one
pub no_front : {first last : ℕ} (l : Leaf) → first ≤ last → EndsOrGoes first l → has_both first last l ≡ false
no_front {first = first} {last = last} l order (inl lt) = rw (le-ltb last l.last (omega (arith, lt, order))) (and_none (nat_lt l.first first))
  where
    and_none : (p : Bool) → (p && false) ≡ false
    and_none true = refl
    and_none false = refl
no_front {first = first} {last = last} l order (inr ge) = rw (le-ltb l.first first ge) refl

pub no_back : (first : ℕ) {last : ℕ} (l : Leaf) → l.last ≤ last → has_both first last l ≡ false
no_back first {last = last} l le = rw (le-ltb last l.last le) (and_none (nat_lt l.first first))
  where
    and_none : (p : Bool) → (p && false) ≡ false
    and_none true = refl
    and_none false = refl

module _ {b : List ℕ} {kind : Kind} {before : List VariableShape} {own : VariableShape} {after : List VariableShape} (good : Good b) (at : StandsAmong b kind before own after) where
  abbrev leaves : List Leaf
  leaves = leaves_of own.index

  ascend : Ascending 0 2147483647 leaves
  ascend = leaves_ascend good at

  pub ordered : (l : Leaf) → IsOneOf leaves l → l.first ≤ l.last
  ordered l i = (in_order 0 2147483647 leaves ascend l i).ordered

  pub small : (l : Leaf) → IsOneOf leaves l → l.last ≤ record_number_limit
  small l i = let s = (in_order 0 2147483647 leaves ascend l i).before in omega (arith, s)

  -- of two leaves with other first records one ends before the other begins
  pub apart_firsts : (l x : Leaf) → IsOneOf leaves l → IsOneOf leaves x → l.first ≢ x.first → (l.last < x.first) ⊎ (x.last < l.first)
  apart_firsts l x i j ne = elim (apart_ranges 0 2147483647 leaves ascend l x i j) [ inl q ↦ absurd (ne (ap (λ (z : Leaf). z.first) q)) | inr side ↦ side ]

  -- beside a leaf that has an edge no other one has it
  pub edge_other : {edge : ℕ} (x : Leaf) → IsOneOf leaves x → IsSplit edge x → (l : Leaf) → IsOneOf leaves l → l.first ≢ x.first → EndsOrGoes edge l
  edge_other x j s l i ne = let f = s.before in let g = s.behind in elim (apart_firsts l x i j ne) [ inl lt ↦ inl (omega (arith, lt, f)) | inr lt ↦ inr (omega (arith, lt, g)) ]

  -- two leaves with the same first record are one
  pub one_first : (l x : Leaf) → IsOneOf leaves l → IsOneOf leaves x → l.first ≡ x.first → l ≡ x
  one_first l x i j e = elim (apart_ranges 0 2147483647 leaves ascend l x i j) [
    | inl q ↦ q
    | inr side ↦ (let o = ordered l i in let p = ordered x j in elim side [ inl lt ↦ absurd (omega (arith, lt, o, e)) | inr lt ↦ absurd (omega (arith, lt, p, e)) ])
  ]

  module _ {first last : ℕ} (order : first ≤ last) where
    keeps : (l : Leaf) → IsOneOf leaves l → IsCutIn first last l → keeps_some true first last l ≡ true
    keeps l i cut = cut_keeps first last order l (ordered l i) (small l i) cut

    keeps_not : (l : Leaf) → IsOneOf leaves l → IsAllOrNone first last l → keeps_some true first last l ≡ false
    keeps_not l i side = side_keeps first last order l (ordered l i) (small l i) side

    pub keeping_none : ((l : Leaf) → IsOneOf leaves l → IsAllOrNone first last l) → keeping first last leaves ≡ []
    keeping_none sides = filter_none (keeps_some true first last) leaves (λ l i. keeps_not l i (sides l i))

    pub keeping_one : (x : Leaf) → IsOneOf leaves x → IsCutIn first last x → ((l : Leaf) → IsOneOf leaves l → l.first ≢ x.first → IsAllOrNone first last l) → keeping first last leaves ≡ x ∷ []
    keeping_one x j cut sides = filter_one (keeps_some true first last) 0 2147483647 leaves ascend x j (keeps x j cut) (λ l i ne. keeps_not l i (sides l i ne))

    pub keeping_two : (x z : Leaf) → IsOneOf leaves x → IsOneOf leaves z → x.first < z.first → IsCutIn first last x → IsCutIn first last z → ((l : Leaf) → IsOneOf leaves l → l.first ≢ x.first → l.first ≢ z.first → IsAllOrNone first last l) → keeping first last leaves ≡ x ∷ z ∷ []
    keeping_two x z j k lt cut cut' sides = filter_two (keeps_some true first last) 0 2147483647 leaves ascend x z j k lt (keeps x j cut) (keeps z k cut') (λ l i ne ne'. keeps_not l i (sides l i ne ne'))

    -- from where on numbers go
    by_none : with_both first last leaves ≡ None → freed_from true first last leaves ≡ first
    by_none e = rw e refl

    pub from_first : ((l : Leaf) → IsOneOf leaves l → has_both first last l ≡ false) → first ≡ freed_from true first last leaves
    from_first none = sym (by_none (find_none (has_both first last) leaves none))

    pub from_both : (x : Leaf) → IsOneOf leaves x → x.first < first → last < x.last → x.last - (last - first) ≡ freed_from true first last leaves
    from_both x j lt gt =
        let f : IsSplit first x = record { before = lt; behind = omega (arith, gt, order) } in
        let is : has_both first last x ≡ true = rw (lt-ltb x.first first lt, lt-ltb last x.last gt) refl in
        let e : with_both first last leaves ≡ Some x = find_one (has_both first last) 0 2147483647 leaves ascend x j is (λ l i ne. no_front l order (edge_other x j f l i ne)) in
        rw e refl
