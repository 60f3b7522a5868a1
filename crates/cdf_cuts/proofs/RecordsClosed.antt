-- The records of a variable of which some go and later ones close up: what its leaves hold then says that they are those of the content.
use Rattle.cdf_cuts.proofs.Common.{Leaf, List, ap, arith, cases_lt, inl, inr, option_map, suc, sym, ℕ, ◌+◌, ◌-◌, ◌<◌, ◌∙◌, ◌≡◌, ◌≤◌}
use Rattle.cdf_edits.proofs.Common.{closed_up, extent, is_little, item_at, max_rec_at, record_bytes, record_number_limit, records_in, stored_bytes, turned, type_of_variable}
use Rattle.cdf_edits.proofs.Edits.Common.{Ascending, record_is, record_past, rising_records}
use Rattle.cdf_edits.proofs.Edits.NumberedLookup.{same_items}
use Rattle.cdf_cuts.proofs.ClosedUp.{item_closed, risen, risen_is, rising_closed}

-- Of a variable the VDR says now of each record as much as before; its records from a first to a last go, which it has, and what was stored up to MaxRec stays, of later ones by the numbers to which they fall.
pub record StoresCut (b now : List ℕ) (vdr vdr' : ℕ) (leaves leaves' : List Leaf) (first last : ℕ) : Type 0 where
  pub order : first ≤ last
  pub has : last < extent (max_rec_at b vdr)
  pub typed : type_of_variable now vdr' ≡ type_of_variable b vdr
  pub little : is_little now ≡ is_little b
  pub as_long : record_bytes now vdr' ≡ record_bytes b vdr
  pub ascend : Ascending 0 (suc record_number_limit) leaves
  pub ascend_now : Ascending 0 (suc record_number_limit) leaves'
  pub upto : extent (max_rec_at now vdr') ≡ extent (max_rec_at b vdr) - (last + 1 - first)
  pub kept : (k : ℕ) → stored_bytes now vdr' (record_bytes b vdr) leaves' k ≡ stored_bytes b vdr (record_bytes b vdr) leaves (risen first last order k)

module _ {b now : List ℕ} {vdr vdr' : ℕ} {leaves leaves' : List Leaf} {first last : ℕ} (p : StoresCut b now vdr vdr' leaves leaves' first last) where
  abbrev turn : List ℕ → List ℕ
  turn = turned (type_of_variable b vdr) (is_little b)

  abbrev most : ℕ
  most = extent (max_rec_at now vdr')

  abbrev was : List (ℕ × List ℕ)
  was = records_in b vdr leaves

  abbrev up : ℕ → ℕ
  up = risen first last p.order

  now_is : (k : ℕ) → k < most → item_at k (records_in now vdr' leaves') ≡ option_map turn (stored_bytes now vdr' (record_bytes b vdr) leaves' k)
  now_is k lt =
      let t = p.typed in
      let l = p.little in
      let n = p.as_long in
      record_is now vdr' leaves' p.ascend_now k lt ∙ (λ i. option_map (turned (t i) (l i)) (stored_bytes now vdr' (n i) leaves' k))

  each : (k : ℕ) → item_at k (records_in now vdr' leaves') ≡ item_at k (closed_up first last was)
  each k =
      let r = risen_is first last p.order k in
      elim (cases_lt k most) [
        | inl lt ↦ now_is k lt ∙ ap (option_map turn) (p.kept k) ∙ sym (record_is b vdr leaves p.ascend (up k) (elim r [ inl x ↦ omega (arith, x.1, x.0, p.has, p.order) | inr x ↦ omega (arith, x.1, p.upto) ])) ∙ sym (item_closed first last p.order k was)
        | inr le ↦ record_past now vdr' leaves' p.ascend_now k le ∙ sym (record_past b vdr leaves p.ascend (up k) (elim r [ inl x ↦ absurd (omega (arith, x.0, p.upto, p.has, p.order)) | inr x ↦ omega (arith, x.1, p.upto) ])) ∙ sym (item_closed first last p.order k was)
      ]

  pub records_closed : records_in now vdr' leaves' ≡ closed_up first last (records_in b vdr leaves)
  records_closed = same_items 0 _ (records_in now vdr' leaves') (closed_up first last was) (rising_records now vdr' leaves' p.ascend_now) (rising_closed first last p.order 0 was (rising_records b vdr leaves p.ascend)) each
