-- The leaves that are left where later records close up, and what is stored of each record then.
use Rattle.cdf_cuts.proofs.Common.{Leaf, List, None, Range, Some, [], ap, arith, cases_lt, inl, inr, kept_by, option_map, range, suc, sym, ℕ, ◌*◌, ◌+◌, ◌-◌, ◌<◌, ◌∙◌, ◌∷◌, ◌≡◌, ◌≤◌, ◌⊎◌}
use Rattle.std.proofs.Common.{drop, find, take}
use Rattle.cdf_edits.proofs.Common.{covers, record_bytes, record_number_limit, stored_bytes}
use Rattle.cdf_edits.proofs.Edits.LeafPieces.{IsOneOf, find_covering, plain_piece, record_place}
use Rattle.cdf_edits.proofs.Edits.LeafRecords.{Ascending}
use Rattle.cdf_edits.proofs.Edits.PlainLeaves.{PlainLeaf}
use Rattle.cdf_edits.specs.Index.Blocks.{fallen}
use Rattle.cdf_puts.proofs.CoveringRanges.{some_or_none}
use Rattle.cdf_puts.proofs.PutBytes.{found_covering}
use Rattle.cdf_cuts.proofs.ClosedUp.{fallen_high, fallen_low, fallen_risen, fallen_rises, risen, risen_is}
use Rattle.cdf_cuts.proofs.CutLaws.{falls, kept_some}
use Rattle.cdf_cuts.proofs.CutLeaves.{IsLeft}
use Rattle.cdf_cuts.proofs.CutStay.{LeftOf, from_left, to_left}
use Rattle.cdf_cuts.specs.Planning.{closing}

module _ (first last : ℕ) (order : first ≤ last) where
  -- what is left of a leaf, by the numbers to which its records fall
  pub record Ends (l m : Leaf) : Type 0 where
    pub place_is : m.place ≡ l.place
    pub packed_is : m.packed ≡ l.packed
    pub first_is : m.first ≡ fallen first last l.first
    pub last_is : m.last ≡ fallen first last (suc l.last) - 1
    pub some : fallen first last l.first < fallen first last (suc l.last)

  pub ends : (l m : Leaf) → IsLeft (closing first last) l m → Ends l m
  ends l m left = elim ((falls first last order).keeps l.first l.last) [
    | inl none ↦ (let q : range m.first m.last ∷ left.more ≡ [] = sym left.kept_is ∙ none in absurd cc)
    | inr some ↦
        let q : range m.first m.last ∷ left.more ≡ range (fallen first last l.first) (fallen first last (suc l.last) - 1) ∷ [] = sym left.kept_is ∙ some.0 in
        let s : range m.first m.last ≡ range (fallen first last l.first) (fallen first last (suc l.last) - 1) = cc in
        record { place_is = left.place_is; packed_is = left.packed_is; first_is = ap (λ (r : Range). r.first) s; last_is = ap (λ (r : Range). r.last) s; some = some.1 }
  ]

  -- something is left of a leaf that has records which fall apart
  pub some_left : (l : Leaf) → fallen first last l.first < fallen first last (suc l.last) → kept_by (closing first last) (range l.first l.last) ≡ [] → ⊥
  some_left l lt e =
      let is : kept_by (closing first last) (range l.first l.last) ≡ range (fallen first last l.first) (fallen first last (suc l.last) - 1) ∷ [] = kept_some first last l.first l.last lt in
      let q : range (fallen first last l.first) (fallen first last (suc l.last) - 1) ∷ [] ≡ [] = sym is ∙ e in
      absurd cc

  -- the leaf that is left of such a one
  pub to_ends : (leaves leaves' : List Leaf) → LeftOf (closing first last) leaves leaves' → (l : Leaf) → IsOneOf leaves l → fallen first last l.first < fallen first last (l.last + 1) → (m : Leaf) × (IsOneOf leaves' m × Ends l m)
  to_ends leaves leaves' left l i less =
      let z : l.last + 1 ≡ suc l.last = omega arith in
      let k = to_left (closing first last) leaves leaves' left l i (some_left l (rw z at less)) in
      (k.0, (k.1.0, ends l k.0 k.1.1))

  next_is : (k : ℕ) → fallen first last (risen first last order k + 1) ≡ k + 1
  next_is k = elim (risen_is first last order k) [
    | inl x ↦ ap (λ (n : ℕ). fallen first last (n + 1)) x.1 ∙ fallen_low first last order (k + 1) (omega (arith, x.0))
    | inr x ↦ fallen_high first last order (risen first last order k + 1) (omega (arith, x.1, x.0)) ∙ omega (arith, x.1)
  ]

  -- a leaf has a record where the one that is left of it has the record to which it falls
  pub falls_in : (k : ℕ) (l : Leaf) → l.first ≤ risen first last order k → risen first last order k ≤ l.last → (fallen first last l.first ≤ k) × (k < fallen first last (suc l.last))
  falls_in k l low high = (
    omega (arith, fallen_rises first last order l.first (risen first last order k) low, fallen_risen first last order k),
    omega (arith, fallen_rises first last order (risen first last order k + 1) (suc l.last) (omega arith), next_is k),
  )

  pub rises_in : (k : ℕ) (l : Leaf) → fallen first last l.first ≤ k → k < fallen first last (suc l.last) → (l.first ≤ risen first last order k) × (risen first last order k ≤ l.last)
  rises_in k l low high = (
    elim (cases_lt (risen first last order k) l.first) [
      | inl lt ↦ absurd (omega (arith, low, fallen_rises first last order (risen first last order k + 1) l.first (omega arith), next_is k))
      | inr ge ↦ ge
    ],
    elim (cases_lt l.last (risen first last order k)) [
      | inl lt ↦ absurd (omega (arith, high, fallen_rises first last order (suc l.last) (risen first last order k) (omega arith), fallen_risen first last order k))
      | inr ge ↦ ge
    ],
  )

  -- ---- what is stored of a record

  -- The blocks hold what they did: a record that stays stands as far behind the first one that does as it fell.
  pub record BlocksKeep (b now : List ℕ) (vdr vdr' size : ℕ) (leaves leaves' : List Leaf) : Type 0 where
    pub was_size : record_bytes b vdr ≡ size
    pub is_size : record_bytes now vdr' ≡ size
    pub ascend : Ascending 0 (suc record_number_limit) leaves
    pub ascend_now : Ascending 0 (suc record_number_limit) leaves'
    pub left : LeftOf (closing first last) leaves leaves'
    pub plain : (l : Leaf) → IsOneOf leaves l → PlainLeaf b size l
    pub plain_now : (m : Leaf) → IsOneOf leaves' m → PlainLeaf now size m
    pub pieces : (l : Leaf) → IsOneOf leaves l → (j : ℕ) → l.first ≤ j → j ≤ l.last → (j < first) ⊎ (last < j) → take size (drop (l.place + (12 + (fallen first last j - fallen first last l.first) * size)) now) ≡ take size (drop (record_place l size j) b)

  module _ {b now : List ℕ} {vdr vdr' size : ℕ} {leaves leaves' : List Leaf} (p : BlocksKeep b now vdr vdr' size leaves leaves') where
    stored_was : (j : ℕ) (l : Leaf) → IsOneOf leaves l → l.first ≤ j → j ≤ l.last → stored_bytes b vdr size leaves j ≡ Some (take size (drop (record_place l size j) b))
    stored_was j l i f t = let x = p.plain l i in ap (option_map _) (find_covering j 0 (suc record_number_limit) leaves p.ascend l i f t) ∙ ap Some (plain_piece b vdr size j l x.plain x.small p.was_size f t)

    stored_is : (j : ℕ) (m : Leaf) → IsOneOf leaves' m → m.first ≤ j → j ≤ m.last → stored_bytes now vdr' size leaves' j ≡ Some (take size (drop (record_place m size j) now))
    stored_is j m i f t = let x = p.plain_now m i in ap (option_map _) (find_covering j 0 (suc record_number_limit) leaves' p.ascend_now m i f t) ∙ ap Some (plain_piece now vdr' size j m x.plain x.small p.is_size f t)

    aside : (k : ℕ) → (risen first last order k < first) ⊎ (last < risen first last order k)
    aside k = elim (risen_is first last order k) [ inl x ↦ inl (omega (arith, x.0, x.1)) | inr x ↦ inr (omega (arith, x.0, x.1)) ]

    pub stored_kept : (k : ℕ) → stored_bytes now vdr' size leaves' k ≡ stored_bytes b vdr size leaves (risen first last order k)
    stored_kept k = elim (some_or_none (find (λ (leaf : Leaf). covers (risen first last order k) (range leaf.first leaf.last)) leaves)) [
      | inl x ↦
          let l = x.0 in
          let o = found_covering (risen first last order k) leaves l x.1 in
          let f = falls_in k l o.1.0 o.1.1 in
          let t = to_left (closing first last) leaves leaves' p.left l o.0 (some_left l (omega (arith, f.0, f.1))) in
          let m = t.0 in
          let e = ends l m t.1.1 in
          let at : record_place m size k ≡ l.place + (12 + (fallen first last (risen first last order k) - fallen first last l.first) * size) = λ i. e.place_is i + (12 + (sym (fallen_risen first last order k) i - e.first_is i) * size) in
          stored_is k m t.1.0 (omega (arith, e.first_is, f.0)) (omega (arith, e.last_is, f.1)) ∙ ap (λ (n : ℕ). Some (take size (drop n now))) at ∙ ap Some (p.pieces l o.0 (risen first last order k) o.1.0 o.1.1 (aside k)) ∙ sym (stored_was (risen first last order k) l o.0 o.1.0 o.1.1)
      | inr none ↦ elim (some_or_none (find (λ (leaf : Leaf). covers k (range leaf.first leaf.last)) leaves')) [
        | inl y ↦
            let m = y.0 in
            let o = found_covering k leaves' m y.1 in
            let t = from_left (closing first last) leaves leaves' p.left m o.0 in
            let e = ends t.0 m t.1.1 in
            let r = rises_in k t.0 (omega (arith, e.first_is, o.1.0)) (omega (arith, e.last_is, e.some, o.1.1)) in
            let q : Some t.0 ≡ None = sym (find_covering (risen first last order k) 0 (suc record_number_limit) leaves p.ascend t.0 t.1.0 r.0 r.1) ∙ none in
            absurd cc
        | inr gone ↦ ap (option_map _) gone ∙ sym (ap (option_map _) none)
      ]
    ]
