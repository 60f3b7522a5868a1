-- The room of `del-recs` under a rule for missing records, which is a sum over all blocks: those of which some records go, but not all, are at most the one that has the first of them, the one that has the last, and the one that has the end.
use Rattle.cdf_edits.proofs.Common.{Bool, Leaf, List, None, Nodes, Option, Range, Some, [], ap, arith, cases_lt, covers, false, filter, fold, if◌then◌else◌, inl, inr, is_sparse, leaves_of, map, nat_tests, not, range, record_number_limit, refl, suc, sym, true, true≢false, vxr_bytes, Variable, ℕ, ◌&&◌, ◌*◌, ◌+◌, ◌<◌, ◌∙◌, ◌∷◌, ◌≡◌, ◌≤◌, ◌⊎◌, ◌||◌}
use Rattle.cdf_edits.proofs.Edits.LeafPieces.{covers_from, covers_within}
use Rattle.cdf_edits.proofs.Edits.LeafRecords.{Ascending}
use Rattle.cdf_edits.specs.Commands.Room.{cut_room, cuts_in_part, del_recs_cuts_in_part, range_bytes, widest}
use Rattle.cdf_edits.specs.Index.Blocks.{extent_after, record_length}
use Rattle.cdf_format.specs.Records.{linked_size}
use Rattle.cdf_index.specs.Order.{leaf_of}
use Rattle.cdf_cuts.specs.ClosingRoom.{part_room}
use Rattle.cdf_sparse_reads.specs.OpeningRoom.{found_room, opens_in_part, without_record}

abbrev has : ℕ → Leaf → Bool
has k l = covers k (range l.first l.last)

skips : (k : ℕ) (l : Leaf) → (k < l.first) ⊎ (l.last < k) → has k l ≡ false
skips k l side = grind (arith, nat_tests, side)

-- those that pass a test and do not have a record
abbrev beside : ℕ → (Leaf → Bool) → Leaf → Bool
beside k test l = test l && not (has k l)

-- ---- the leaves that pass a test

module _ (size : ℕ) where
  abbrev room_if : (Leaf → Bool) → Leaf → ℕ
  room_if test l = if test l then part_room size l else 0

  unfoldable pub parts : (Leaf → Bool) → List Leaf → ℕ
  parts test [] = 0
  parts test (l ∷ more) = room_if test l + parts test more

  none_past : (k : ℕ) (test : Leaf → Bool) (low upto : ℕ) (leaves : List Leaf) → Ascending low upto leaves → k < low → parts (λ (l : Leaf). test l && has k l) leaves ≡ 0
  unfolding parts
  none_past k test low upto [] a lt = refl
  none_past k test low upto (l ∷ more) a lt =
      let rest = none_past k test (suc l.last) upto more a.3 (omega (arith, a.0, a.1)) in
      by (test l) (has k l) (skips k l (inl (omega (arith, a.0)))) rest
    where
      by : (p q : Bool) → q ≡ false → parts (λ (x : Leaf). test x && has k x) more ≡ 0 → (if p && q then part_room size l else 0) + parts (λ (x : Leaf). test x && has k x) more ≡ 0
      by true q e rest = rw e (omega (arith, rest))
      by false q e rest = omega (arith, rest)

  -- those that have a record are one at most
  one : (k : ℕ) (test : Leaf → Bool) (low upto : ℕ) (leaves : List Leaf) → Ascending low upto leaves → parts (λ (l : Leaf). test l && has k l) leaves ≡ found_room test size (leaf_of k leaves)
  unfolding parts
  one k test low upto [] a = refl
  one k test low upto (l ∷ more) a = by (has k l) refl (one k test (suc l.last) upto more a.3)
    where
      this : (p : Bool) → parts (λ (x : Leaf). test x && has k x) more ≡ 0 → (if p && true then part_room size l else 0) + parts (λ (x : Leaf). test x && has k x) more ≡ (if p then part_room size l else 0)
      this true rest = omega (arith, rest)
      this false rest = omega (arith, rest)

      none_here : (p : Bool) {n : ℕ} → parts (λ (x : Leaf). test x && has k x) more ≡ n → (if p && false then part_room size l else 0) + parts (λ (x : Leaf). test x && has k x) more ≡ n
      none_here true rest = omega (arith, rest)
      none_here false rest = omega (arith, rest)

      by : (q : Bool) → has k l ≡ q → parts (λ (x : Leaf). test x && has k x) more ≡ found_room test size (leaf_of k more) → room_if (λ (x : Leaf). test x && has k x) l + parts (λ (x : Leaf). test x && has k x) more ≡ found_room test size (leaf_of k (l ∷ more))
      by true e behind =
          let k_in = covers_within k l e in
          let rest = none_past k test (suc l.last) upto more a.3 (omega (arith, k_in.1)) in
          rw e (this (test l) rest)
      by false e behind = rw e (none_here (test l) behind)

  -- those that pass a test, by whether they have a record
  splits : (k : ℕ) (test : Leaf → Bool) (leaves : List Leaf) → parts test leaves ≡ parts (λ (l : Leaf). test l && has k l) leaves + parts (beside k test) leaves
  unfolding parts
  splits k test [] = refl
  splits k test (l ∷ more) = by (test l) (has k l) (part_room size l) (parts test more) (parts (λ (x : Leaf). test x && has k x) more) (parts (beside k test) more) (splits k test more)
    where
      by : (p q : Bool) (n a b c : ℕ) → a ≡ b + c → (if p then n else 0) + a ≡ ((if p && q then n else 0) + b) + ((if p && not q then n else 0) + c)
      by true true n a b c e = omega (arith, e)
      by true false n a b c e = omega (arith, e)
      by false q n a b c e = omega (arith, e)

  -- the one that has a record, and the others
  first_out : (k : ℕ) (test : Leaf → Bool) (low upto : ℕ) (leaves : List Leaf) → Ascending low upto leaves → parts test leaves ≡ found_room test size (leaf_of k leaves) + parts (beside k test) leaves
  first_out k test low upto leaves a = splits k test leaves ∙ ap (λ (n : ℕ). n + parts (beside k test) leaves) (one k test low upto leaves a)

  -- where each has the record, there is no other one
  alone : (k : ℕ) (test : Leaf → Bool) (low upto : ℕ) (leaves : List Leaf) → Ascending low upto leaves → ((l : Leaf) → l.first ≤ l.last → l.last < upto → test l ≡ true → has k l ≡ true) → parts (beside k test) leaves ≡ 0
  unfolding parts
  alone k test low upto [] a each = refl
  alone k test low upto (l ∷ more) a each = by (test l) refl (alone k test (suc l.last) upto more a.3 each)
    where
      by : (p : Bool) → test l ≡ p → parts (beside k test) more ≡ 0 → room_if (beside k test) l + parts (beside k test) more ≡ 0
      by true e rest = rw (e, each l a.1 a.2 e) (omega (arith, rest))
      by false e rest = rw e (omega (arith, rest))

  -- of one that was found, where it is another one
  kept : (k : ℕ) (test : Leaf → Bool) (o : Option Leaf) → found_room (beside k test) size o ≡ found_room test size (without_record k o)
  kept k test None = refl
  kept k test (Some l) = by (test l) refl (has k l) refl
    where
      by : (p : Bool) → test l ≡ p → (q : Bool) → has k l ≡ q → (if test l && not (has k l) then part_room size l else 0) ≡ found_room test size (if has k l then None else Some l)
      by true e true f = rw (e, f) refl
      by true e false f = rw (e, f, e) refl
      by false e true f = rw (e, f) refl
      by false e false f = rw (e, f, e) refl

-- ---- which leaves those are

module _ (first last end : ℕ) (order : first ≤ last) where
  abbrev in_part : Leaf → Bool
  in_part l = opens_in_part first last end l

  abbrev cut_part : Leaf → Bool
  cut_part l = cuts_in_part first last (range l.first l.last)

  abbrev end_part : Leaf → Bool
  end_part l = cuts_in_part end record_number_limit (range l.first l.last)

  before : (l : Leaf) → l.last < first → cut_part l ≡ false
  before l lt = grind (arith, nat_tests)

  behind : (l : Leaf) → last < l.first → cut_part l ≡ false
  behind l lt = grind (arith, nat_tests)

  inside : (l : Leaf) → l.first ≤ l.last → first ≤ l.first → l.last ≤ last → cut_part l ≡ false
  inside l o low high = grind (arith, nat_tests)

  end_out : (l : Leaf) → l.last < end → end_part l ≡ false
  end_out l lt = grind (arith, nat_tests)

  end_before : (l : Leaf) → l.first ≤ l.last → l.last ≤ record_number_limit → end ≤ l.first → end_part l ≡ false
  end_before l o small le = grind (arith, nat_tests)

  -- of those that have neither the first record nor the last, none is cut in part but the one that has the end
  not_one : (l : Leaf) → l.first ≤ l.last → end_part l ≡ false → (in_part l && not (has first l)) && not (has last l) ≡ true → ⊥
  not_one l o out e = elim (cases_lt l.last first) [
    | inl less ↦ no_part (cut_part l) (end_part l) (has first l) (has last l) (before l less) out e
    | inr upto ↦ elim (cases_lt first l.first) [
      | inr from ↦ with_first (in_part l) (has first l) (has last l) (covers_from first l from upto) e
      | inl past ↦ elim (cases_lt last l.first) [
        | inl less ↦ no_part (cut_part l) (end_part l) (has first l) (has last l) (behind l less) out e
        | inr from ↦ elim (cases_lt l.last last) [
          | inl less ↦ no_part (cut_part l) (end_part l) (has first l) (has last l) (inside l o (omega arith) (omega arith)) out e
          | inr upto' ↦ with_last (in_part l && not (has first l)) (has last l) (covers_from last l from upto') e
        ]
      ]
    ]
  ]
    where
      no_part : (p q r s : Bool) → p ≡ false → q ≡ false → ((p || q) && not r) && not s ≡ true → ⊥
      no_part p q r s a b e = true≢false (sym (rw (a, b) at e))

      with_first : (p r s : Bool) → r ≡ true → (p && not r) && not s ≡ true → ⊥
      with_first true r s f e = true≢false (sym (rw f at e))
      with_first false r s f e = true≢false (sym e)

      with_last : (p s : Bool) → s ≡ true → p && not s ≡ true → ⊥
      with_last true s f e = true≢false (sym (rw f at e))
      with_last false s f e = true≢false (sym e)

  holds_one : (l : Leaf) → l.first ≤ l.last → l.last < suc record_number_limit → (in_part l && not (has first l)) && not (has last l) ≡ true → has end l ≡ true
  holds_one l o small e = elim (cases_lt l.last end) [
    | inl out ↦ absurd (not_one l o (end_out l out) e)
    | inr upto ↦ elim (cases_lt end l.first) [
      | inl less ↦ absurd (not_one l o (end_before l o (omega arith) (omega arith)) e)
      | inr from ↦ covers_from end l from upto
    ]
  ]

  pub in_all : (size : ℕ) (leaves : List Leaf) → Ascending 0 (suc record_number_limit) leaves → parts size in_part leaves ≡ found_room in_part size (leaf_of first leaves) + found_room in_part size (without_record first (leaf_of last leaves)) + found_room in_part size (without_record first (without_record last (leaf_of end leaves)))
  in_all size leaves a =
      let one = first_out size first in_part 0 (suc record_number_limit) leaves a in
      let two = first_out size last (beside first in_part) 0 (suc record_number_limit) leaves a in
      let three = first_out size end (beside last (beside first in_part)) 0 (suc record_number_limit) leaves a in
      let none = alone size end (beside last (beside first in_part)) 0 (suc record_number_limit) leaves a holds_one in
      let back = kept size first in_part (leaf_of last leaves) in
      let past = kept size last (beside first in_part) (leaf_of end leaves) ∙ kept size first in_part (without_record last (leaf_of end leaves)) in
      omega (arith, one, two, three, none, back, past)

-- ---- the room

module _ (v : Variable) (rule : is_sparse v.sparse ≡ true) (first last : ℕ) (order : first ≤ last) (end : ℕ) (end_is : end ≡ extent_after v first last) where
  abbrev size : ℕ
  size = record_length v

  -- the sum over ranges that pass a test, from a number on
  abbrev summed : (Range → Bool) → ℕ → List Range → ℕ
  summed test n rs = fold ◌+◌ n (map (λ (r : Range). 3 * linked_size + 2 * range_bytes v r) (filter test rs))

  sums : (test : Range → Bool) (n : ℕ) (leaves : List Leaf) → summed test n (map (λ (l : Leaf). range l.first l.last) leaves) ≡ n + parts size (λ (l : Leaf). test (range l.first l.last)) leaves
  unfolding parts
  sums test n [] = omega arith
  sums test n (l ∷ more) = by (λ m. sums test m more) (test (range l.first l.last)) refl
    where
      by : ((m : ℕ) → summed test m (map (λ (x : Leaf). range x.first x.last) more) ≡ m + parts size (λ (x : Leaf). test (range x.first x.last)) more) → (p : Bool) → test (range l.first l.last) ≡ p → summed test n (range l.first l.last ∷ map (λ (x : Leaf). range x.first x.last) more) ≡ n + parts size (λ (x : Leaf). test (range x.first x.last)) (l ∷ more)
      by so true e = rw e (so (n + part_room size l) ∙ omega arith)
      by so false e = rw e (so n ∙ omega arith)

  test_is : del_recs_cuts_in_part v first last ≡ (λ (r : Range). cuts_in_part first last r || cuts_in_part end record_number_limit r)
  test_is = λ i. λ (r : Range). cuts_in_part first last r || (rule i && cuts_in_part (sym end_is i) record_number_limit r)

  pub room_is : (nodes : Nodes) → Ascending 0 (suc record_number_limit) (leaves_of nodes) → cut_room v nodes first last ≡ vxr_bytes (widest nodes) + (found_room (opens_in_part first last end) size (leaf_of first (leaves_of nodes)) + found_room (opens_in_part first last end) size (without_record first (leaf_of last (leaves_of nodes))) + found_room (opens_in_part first last end) size (without_record first (without_record last (leaf_of end (leaves_of nodes)))))
  room_is nodes a =
      let rs = map (λ (l : Leaf). range l.first l.last) (leaves_of nodes) in
      let all : summed (λ (r : Range). cuts_in_part first last r || cuts_in_part end record_number_limit r) 0 rs ≡ parts size (opens_in_part first last end) (leaves_of nodes) = sums (λ (r : Range). cuts_in_part first last r || cuts_in_part end record_number_limit r) 0 (leaves_of nodes) ∙ omega arith in
      ap (λ (n : ℕ). vxr_bytes (widest nodes) + n) (ap (λ (test : Range → Bool). summed test 0 rs) test_is ∙ all ∙ in_all first last end order size (leaves_of nodes) a)
