-- Leaves of an index, where later records keep their numbers: which of them keep some of their records, and which one has records on both sides.
use Rattle.std.proofs.Common.{List, None, Some, [], arith, false, inl, inr, refl, true, ℕ, ◌<◌, ◌∷◌, ◌≡◌, ◌≢◌, ◌≤◌}
use Rattle.std.proofs.lemmas.Bool.{cases_lt}
use Rattle.cdf_edits.proofs.Common.{Good, Kind, Leaf, VariableShape, leaves_of, lt-ltb, suc}
use Rattle.cdf_edits.proofs.Edits.Common.{StandsAmong}
use Rattle.cdf_edits.proofs.Edits.LeafPieces.{IsOneOf}
use Rattle.cdf_edits.proofs.Edits.LeafRecords.{Ascending}
use Rattle.cdf_edits.proofs.Edits.PlainLeaves.{leaves_ascend}
use Rattle.cdf_packed_cuts.specs.Past.{IsSplit}
use Rattle.cdf_packed_deletes.proofs.KeptLists.{filter_none, filter_one, filter_two, find_none, find_one}
use Rattle.cdf_packed_deletes.proofs.KeptSides.{edge_other, has_both, no_front, ordered, small}
use Rattle.cdf_packed_deletes.proofs.LeafKinds.{IsRanged}
use Rattle.cdf_packed_deletes.proofs.OpenKinds.{keeps_apart, keeps_back, keeps_front, keeps_inside}
use Rattle.cdf_packed_deletes.specs.Keeping.{IsAllOrNone, IsCutIn}
use Rattle.cdf_packed_deletes.specs.Opening.{keeping_open}
use Rattle.cdf_packed_deletes.specs.Steps.{keeps_some, with_both}

module _ {b : List ℕ} {kind : Kind} {before : List VariableShape} {own : VariableShape} {after : List VariableShape} (good : Good b) (at : StandsAmong b kind before own after) {first last : ℕ} (order : first ≤ last) where
  abbrev leaves : List Leaf
  leaves = leaves_of own.index

  ascend : Ascending 0 2147483647 leaves
  ascend = leaves_ascend good at

  up : first ≤ suc last
  up = omega (arith, order)

  ranged : (l : Leaf) → IsOneOf leaves l → IsRanged l
  ranged l i = record { ordered = ordered good at l i; small = small good at l i }

  pub open_keeps : (l : Leaf) → IsOneOf leaves l → IsCutIn first last l → keeps_some false first last l ≡ true
  open_keeps l i cut = elim (cases_lt l.first first) [
    | inl lt ↦ keeps_front first last up l (ranged l i) (lt, cut.reaches)
    | inr ge ↦ elim cut.some [
      | inl lt ↦ absurd (omega (arith, lt, ge))
      | inr gt ↦ keeps_back first last up l (ranged l i) (ge, cut.begins, gt)
    ]
  ]

  keeps_not : (l : Leaf) → IsOneOf leaves l → IsAllOrNone first last l → keeps_some false first last l ≡ false
  keeps_not l i (inl lt) = keeps_apart first last up l (ranged l i) (inl lt)
  keeps_not l i (inr (inl lt)) = keeps_apart first last up l (ranged l i) (inr lt)
  keeps_not l i (inr (inr all)) = keeps_inside first last up l (ranged l i) all

  pub opening_none : ((l : Leaf) → IsOneOf leaves l → IsAllOrNone first last l) → keeping_open first last leaves ≡ []
  opening_none sides = filter_none (keeps_some false first last) leaves (λ l i. keeps_not l i (sides l i))

  pub opening_one : (x : Leaf) → IsOneOf leaves x → IsCutIn first last x → ((l : Leaf) → IsOneOf leaves l → l.first ≢ x.first → IsAllOrNone first last l) → keeping_open first last leaves ≡ x ∷ []
  opening_one x j cut sides = filter_one (keeps_some false first last) 0 2147483647 leaves ascend x j (open_keeps x j cut) (λ l i ne. keeps_not l i (sides l i ne))

  pub opening_two : (x z : Leaf) → IsOneOf leaves x → IsOneOf leaves z → x.first < z.first → IsCutIn first last x → IsCutIn first last z → ((l : Leaf) → IsOneOf leaves l → l.first ≢ x.first → l.first ≢ z.first → IsAllOrNone first last l) → keeping_open first last leaves ≡ x ∷ z ∷ []
  opening_two x z j k lt cut cut' sides = filter_two (keeps_some false first last) 0 2147483647 leaves ascend x z j k lt (open_keeps x j cut) (open_keeps z k cut') (λ l i ne ne'. keeps_not l i (sides l i ne ne'))

  -- the leaf with records on both sides
  pub none_both : ((l : Leaf) → IsOneOf leaves l → has_both first last l ≡ false) → with_both first last leaves ≡ None
  none_both none = find_none (has_both first last) leaves none

  pub one_both : (x : Leaf) → IsOneOf leaves x → x.first < first → last < x.last → with_both first last leaves ≡ Some x
  one_both x j lt gt =
      let f : IsSplit first x = record { before = lt; behind = omega (arith, gt, order) } in
      let is : has_both first last x ≡ true = rw (lt-ltb x.first first lt, lt-ltb last x.last gt) refl in
      find_one (has_both first last) 0 2147483647 leaves ascend x j is (λ l i ne. no_front l order (edge_other good at x j f l i ne))
