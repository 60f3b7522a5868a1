-- The records of a variable of which some go, while later ones keep their numbers and nothing is left past the new MaxRec: what its leaves hold then says that they are the records of the content but for those.
use Rattle.cdf_cuts.proofs.Common.{Leaf, List, None, ap, arith, cases_lt, false, inl, inr, option_map, refl, suc, sym, true, ℕ, ◌<◌, ◌∙◌, ◌≡◌, ◌≤◌, ◌⊎◌}
use Rattle.std.proofs.Common.{not, ◌&&◌}
use Rattle.cdf_edits.proofs.Common.{Bool, either, extent, is_little, item_at, le-leb, lt-leb, max_rec_at, nat_le, record_bytes, record_number_limit, records_in, stored_bytes, turned, type_of_variable, without}
use Rattle.cdf_edits.proofs.Edits.Common.{record_is, record_past, rising_records}
use Rattle.cdf_edits.proofs.Edits.LeafRecords.{Ascending}
use Rattle.cdf_edits.proofs.Edits.NumberedItems.{Rising}
use Rattle.cdf_edits.proofs.Edits.NumberedLookup.{item_those, none_those, rising_those, same_items}
use Rattle.cdf_model.specs.Numbered.{greatest}
use Rattle.cdf_sparse.proofs.GreatestLeft.{greatest_below, greatest_is, past_greatest}

-- the numbers that stay
abbrev stays_at : ℕ → ℕ → ℕ → Bool
stays_at first last k = not (nat_le first k && nat_le k last)

goes_inside : (first last k : ℕ) → first ≤ k → k ≤ last → stays_at first last k ≡ false
goes_inside first last k low high = rw (le-leb first k low, le-leb k last high) refl

stays_outside : (first last k : ℕ) → (k < first) ⊎ (last < k) → stays_at first last k ≡ true
stays_outside first last k (inl lt) = rw (lt-leb first k lt) refl
stays_outside first last k (inr lt) = elim (either (nat_le first k)) [ inl e ↦ rw (e, lt-leb k last lt) refl | inr e ↦ rw e refl ]

-- Of a variable the VDR says now of each record as much as before, and MaxRec is the greatest number that is left. Below it what was stored stays but for the records from a first to a last, of which nothing is stored.
pub record StoresLeft (b now : List ℕ) (vdr vdr' : ℕ) (leaves leaves' : List Leaf) (first last : ℕ) : Type 0 where
  pub typed : type_of_variable now vdr' ≡ type_of_variable b vdr
  pub little : is_little now ≡ is_little b
  pub as_long : record_bytes now vdr' ≡ record_bytes b vdr
  pub ascend : Ascending 0 (suc record_number_limit) leaves
  pub ascend_now : Ascending 0 (suc record_number_limit) leaves'
  pub upto : extent (max_rec_at now vdr') ≡ extent (greatest_is (greatest (without first last (records_in b vdr leaves))))
  pub inside : (k : ℕ) → k < extent (max_rec_at now vdr') → first ≤ k → k ≤ last → stored_bytes now vdr' (record_bytes b vdr) leaves' k ≡ None
  pub kept : (k : ℕ) → k < extent (max_rec_at now vdr') → (k < first) ⊎ (last < k) → stored_bytes now vdr' (record_bytes b vdr) leaves' k ≡ stored_bytes b vdr (record_bytes b vdr) leaves k

module _ {b now : List ℕ} {vdr vdr' : ℕ} {leaves leaves' : List Leaf} {first last : ℕ} (p : StoresLeft b now vdr vdr' leaves leaves' first last) where
  abbrev turn : List ℕ → List ℕ
  turn = turned (type_of_variable b vdr) (is_little b)

  abbrev was : List (ℕ × List ℕ)
  was = records_in b vdr leaves

  abbrev is : List (ℕ × List ℕ)
  is = records_in now vdr' leaves'

  abbrev some : List (ℕ × List ℕ)
  some = without first last was

  abbrev most : ℕ
  most = extent (max_rec_at now vdr')

  rising_some : Rising 0 some
  rising_some = rising_those (stays_at first last) 0 was (rising_records b vdr leaves p.ascend)

  some_past : (k : ℕ) → extent (max_rec_at b vdr) ≤ k → item_at k some ≡ None
  some_past k le = elim (either (stays_at first last k)) [
    | inl e ↦ item_those (stays_at first last) k was e ∙ record_past b vdr leaves p.ascend k le
    | inr e ↦ none_those (stays_at first last) k was e
  ]

  less : most ≤ extent (max_rec_at b vdr)
  less = omega (arith, p.upto, greatest_below 0 (extent (max_rec_at b vdr)) some rising_some some_past)

  now_is : (k : ℕ) → k < most → item_at k is ≡ option_map turn (stored_bytes now vdr' (record_bytes b vdr) leaves' k)
  now_is k lt =
      let t = p.typed in
      let l = p.little in
      let n = p.as_long in
      record_is now vdr' leaves' p.ascend_now k lt ∙ (λ i. option_map (turned (t i) (l i)) (stored_bytes now vdr' (n i) leaves' k))

  outside : (k : ℕ) → k < most → (k < first) ⊎ (last < k) → item_at k is ≡ item_at k some
  outside k lt side = now_is k lt ∙ ap (option_map turn) (p.kept k lt side) ∙ sym (record_is b vdr leaves p.ascend k (omega (arith, lt, less))) ∙ sym (item_those (stays_at first last) k was (stays_outside first last k side))

  each : (k : ℕ) → item_at k is ≡ item_at k some
  each k = elim (cases_lt k most) [
    | inl lt ↦ elim (cases_lt k first) [
      | inl low ↦ outside k lt (inl low)
      | inr from ↦ elim (cases_lt last k) [
        | inl high ↦ outside k lt (inr high)
        | inr upto ↦ now_is k lt ∙ ap (option_map turn) (p.inside k lt from upto) ∙ sym (none_those (stays_at first last) k was (goes_inside first last k from upto))
      ]
    ]
    | inr le ↦ record_past now vdr' leaves' p.ascend_now k le ∙ sym (past_greatest 0 k some rising_some (omega (arith, p.upto, le)))
  ]

  pub records_left : is ≡ some
  records_left = same_items 0 0 is some (rising_records now vdr' leaves' p.ascend_now) rising_some each
