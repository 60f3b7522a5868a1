-- The room of `del-recs` without a sparse rule, which is a sum over all blocks: those of which some records go, but not all, are at most the one that has the first of them and the one that has the last.
use Rattle.cdf_cuts.proofs.Common.{Bool, Leaf, List, None, Nodes, Option, Range, Some, [], ap, arith, cases_lt, false, if◌then◌else◌, inl, inr, lt-ltb, map, nat_tests, range, refl, suc, sym, true, ℕ, ◌*◌, ◌+◌, ◌<◌, ◌∙◌, ◌∷◌, ◌≡◌, ◌≤◌, ◌⊎◌}
use Rattle.std.specs.List.{filter, fold}
use Rattle.std.specs.Prelude.{find}
use Rattle.cdf_edits.proofs.Common.{NoRule, Variable, covers}
use Rattle.cdf_edits.proofs.Edits.LeafPieces.{covers_from}
use Rattle.cdf_edits.proofs.Edits.LeafRecords.{Ascending}
use Rattle.cdf_edits.specs.Commands.Room.{cut_room, cuts_in_part, del_recs_cuts_in_part, range_bytes, widest}
use Rattle.cdf_edits.specs.Index.Blocks.{is_sparse, record_length}
use Rattle.cdf_format.specs.Index.{leaves_of}
use Rattle.cdf_format.specs.Records.{linked_size, vxr_bytes}
use Rattle.cdf_model.specs.Limits.{record_number_limit}
use Rattle.cdf_cuts.specs.ClosingRoom.{back_room, front_room, part_room}

module _ (first last : ℕ) (order : first ≤ last) (size : ℕ) where
  abbrev pub in_part : Leaf → Bool
  in_part l = cuts_in_part first last (range l.first l.last)

  -- those of which some go
  unfoldable pub parts : List Leaf → ℕ
  parts [] = 0
  parts (l ∷ more) = if in_part l then part_room size l + parts more else parts more

  parts_with : (l : Leaf) (more : List Leaf) → in_part l ≡ true → parts (l ∷ more) ≡ part_room size l + parts more
  unfolding parts
  parts_with l more e = rw e refl

  parts_past : (l : Leaf) (more : List Leaf) → in_part l ≡ false → parts (l ∷ more) ≡ parts more
  unfolding parts
  parts_past l more e = rw e refl

  before : (l : Leaf) → l.first ≤ l.last → l.last < first → in_part l ≡ false
  before l o lt = grind (arith, nat_tests)

  behind : (l : Leaf) → l.first ≤ l.last → last < l.first → in_part l ≡ false
  behind l o lt = grind (arith, nat_tests)

  inside : (l : Leaf) → l.first ≤ l.last → first ≤ l.first → l.last ≤ last → in_part l ≡ false
  inside l o low high = grind (arith, nat_tests)

  across : (l : Leaf) → l.first ≤ l.last → l.first ≤ last → first ≤ l.last → (l.first < first) ⊎ (last < l.last) → in_part l ≡ true
  across l o a c side = grind (arith, nat_tests, side)

  abbrev pub found : ℕ → List Leaf → Option Leaf
  found k leaves = find (λ (l : Leaf). covers k (range l.first l.last)) leaves

  here : (k : ℕ) (l : Leaf) (more : List Leaf) → l.first ≤ k → k ≤ l.last → found k (l ∷ more) ≡ Some l
  here k l more a c = rw (covers_from k l a c) refl

  skips : (k : ℕ) (l : Leaf) → (k < l.first) ⊎ (l.last < k) → covers k (range l.first l.last) ≡ false
  skips k l side = grind (arith, nat_tests, side)

  there : (k : ℕ) (l : Leaf) (more : List Leaf) → (k < l.first) ⊎ (l.last < k) → found k (l ∷ more) ≡ found k more
  there k l more side = rw (skips k l side) refl

  none_found : (k low upto : ℕ) (leaves : List Leaf) → Ascending low upto leaves → k < low → found k leaves ≡ None
  none_found k low upto [] a lt = refl
  none_found k low upto (l ∷ more) a lt = there k l more (inl (omega (arith, a.0))) ∙ none_found k (suc l.last) upto more a.3 (omega (arith, a.0, a.1))

  none_behind : (low upto : ℕ) (leaves : List Leaf) → Ascending low upto leaves → last < low → parts leaves ≡ 0
  unfolding parts
  none_behind low upto [] a lt = refl
  none_behind low upto (l ∷ more) a lt = parts_past l more (behind l a.1 (omega (arith, a.0))) ∙ none_behind (suc l.last) upto more a.3 (omega (arith, a.0, a.1))

  -- what a room comes to
  front_yes : (l : Leaf) → (l.first < first) ⊎ (last < l.last) → front_room first last size (Some l) ≡ part_room size l
  front_yes l side = grind (arith, nat_tests, side)

  front_no : (l : Leaf) → first ≤ l.first → l.last ≤ last → front_room first last size (Some l) ≡ 0
  front_no l a c = grind (arith, nat_tests)

  back_yes : (l : Leaf) → first < l.first → last < l.last → back_room first last size (Some l) ≡ part_room size l
  back_yes l a c = rw (lt-ltb first l.first a, lt-ltb last l.last c) refl

  back_no : (l : Leaf) → (l.first ≤ first) ⊎ (l.last ≤ last) → back_room first last size (Some l) ≡ 0
  back_no l side = grind (arith, nat_tests, side)

  -- of leaves behind the first record
  in_back : (low upto : ℕ) (leaves : List Leaf) → Ascending low upto leaves → first < low → parts leaves ≡ back_room first last size (found last leaves)
  unfolding parts
  in_back low upto [] a lt = refl
  in_back low upto (l ∷ more) a lt = elim (cases_lt last l.first) [
    | inl out ↦ parts_past l more (behind l a.1 out) ∙ none_behind (suc l.last) upto more a.3 (omega (arith, a.1)) ∙ sym (ap (back_room first last size) (there last l more (inl out) ∙ none_found last (suc l.last) upto more a.3 (omega (arith, a.1))))
    | inr from ↦ elim (cases_lt l.last last) [
      | inl less ↦ parts_past l more (inside l a.1 (omega (arith, a.0)) (omega arith)) ∙ in_back (suc l.last) upto more a.3 (omega (arith, a.0, a.1)) ∙ sym (ap (back_room first last size) (there last l more (inr less)))
      | inr upto' ↦ elim (cases_lt last l.last) [
        | inl past ↦ parts_with l more (across l a.1 from (omega (arith, a.0, a.1)) (inr past)) ∙ ap (λ (n : ℕ). part_room size l + n) (none_behind (suc l.last) upto more a.3 (omega arith)) ∙ omega arith ∙ sym (ap (back_room first last size) (here last l more from upto') ∙ back_yes l (omega (arith, a.0)) past)
        | inr ends ↦ parts_past l more (inside l a.1 (omega (arith, a.0)) ends) ∙ none_behind (suc l.last) upto more a.3 (omega arith) ∙ sym (ap (back_room first last size) (here last l more from upto') ∙ back_no l (inr ends))
      ]
    ]
  ]

  pub in_all : (low upto : ℕ) (leaves : List Leaf) → Ascending low upto leaves → parts leaves ≡ front_room first last size (found first leaves) + back_room first last size (found last leaves)
  unfolding parts
  in_all low upto [] a = refl
  in_all low upto (l ∷ more) a = elim (cases_lt l.last first) [
    | inl less ↦
        parts_past l more (before l a.1 less) ∙ in_all (suc l.last) upto more a.3
        ∙ (λ i. front_room first last size (sym (there first l more (inr less)) i) + back_room first last size (sym (there last l more (inr (omega (arith, less)))) i))
    | inr from ↦ elim (cases_lt first l.first) [
      | inl out ↦
          let none : front_room first last size (found first (l ∷ more)) ≡ 0 = ap (front_room first last size) (there first l more (inl out) ∙ none_found first (suc l.last) upto more a.3 (omega (arith, a.1))) in
          omega (arith, in_back l.first upto (l ∷ more) (omega arith, a.1, a.2, a.3) out, none)
      | inr low' ↦ elim (cases_lt l.last last) [
        | inl less ↦
            let rest = in_back (suc l.last) upto more a.3 (omega arith) ∙ sym (ap (back_room first last size) (there last l more (inr less))) in
            let front = ap (front_room first last size) (here first l more low' from) in
            elim (cases_lt l.first first) [
              | inl in_it ↦ parts_with l more (across l a.1 (omega (arith, a.1)) from (inl in_it)) ∙ omega (arith, rest, front, front_yes l (inl in_it))
              | inr at_it ↦ parts_past l more (inside l a.1 at_it (omega arith)) ∙ omega (arith, rest, front, front_no l at_it (omega arith))
            ]
        | inr upto' ↦
            let none = none_behind (suc l.last) upto more a.3 (omega arith) in
            let front = ap (front_room first last size) (here first l more low' from) in
            let back = ap (back_room first last size) (here last l more (omega arith) upto') ∙ back_no l (inl low') in
            elim (cases_lt l.first first) [
              | inl in_it ↦ parts_with l more (across l a.1 (omega arith) from (inl in_it)) ∙ omega (arith, none, front, back, front_yes l (inl in_it))
              | inr at_it ↦ elim (cases_lt last l.last) [
                | inl past ↦ parts_with l more (across l a.1 (omega arith) from (inr past)) ∙ omega (arith, none, front, back, front_yes l (inr past))
                | inr ends ↦ parts_past l more (inside l a.1 at_it ends) ∙ omega (arith, none, front, back, front_no l at_it ends)
              ]
            ]
      ]
    ]
  ]

-- ---- the room

module _ (v : Variable) (rule : v.sparse ≡ NoRule) (first last : ℕ) (order : first ≤ last) where
  -- the sum over ranges, from a number on
  abbrev summed : ℕ → List Range → ℕ
  summed n rs = fold ◌+◌ n (map (λ (r : Range). 3 * linked_size + 2 * range_bytes v r) (filter (del_recs_cuts_in_part v first last) rs))

  sums : (n : ℕ) (leaves : List Leaf) → summed n (map (λ (l : Leaf). range l.first l.last) leaves) ≡ n + parts first last order (record_length v) leaves
  unfolding parts
  sums n [] = omega arith
  sums n (l ∷ more) = by (λ m. sums m more) (cuts_in_part first last (range l.first l.last)) refl
    where
      by : ((m : ℕ) → summed m (map (λ (l : Leaf). range l.first l.last) more) ≡ m + parts first last order (record_length v) more) → (p : Bool) → cuts_in_part first last (range l.first l.last) ≡ p → summed n (range l.first l.last ∷ map (λ (l : Leaf). range l.first l.last) more) ≡ n + parts first last order (record_length v) (l ∷ more)
      by so true e = rw e (so (n + part_room (record_length v) l) ∙ omega arith)
      by so false e = rw (e, ap is_sparse rule) (so n)

  pub room_is : (nodes : Nodes) → Ascending 0 (suc record_number_limit) (leaves_of nodes) → cut_room v nodes first last ≡ vxr_bytes (widest nodes) + (front_room first last (record_length v) (found first last order (record_length v) first (leaves_of nodes)) + back_room first last (record_length v) (found first last order (record_length v) last (leaves_of nodes)))
  room_is nodes a =
      let all : summed 0 (map (λ (l : Leaf). range l.first l.last) (leaves_of nodes)) ≡ parts first last order (record_length v) (leaves_of nodes) = sums 0 (leaves_of nodes) ∙ omega arith in
      ap (λ (n : ℕ). vxr_bytes (widest nodes) + n) (all ∙ in_all first last order (record_length v) 0 (suc record_number_limit) (leaves_of nodes) a)
