-- The rules of variables stay where the bytes of their records do.
use Rattle.cdf_edits.proofs.Common.{Bool, In, List, Row, [], ap, arith, asked, both, cpr_c_type, cpr_link, cpr_p_count, cpr_parameter, cpr_rows, cpr_type, cvvr_type, dimension_limit, dimensions_at, false, fixed_size, has_bit, has_dimensions, if◌then◌else◌, inl, inr, is_a, is_a-in, is_a-type, is_block, is_characters, is_cpr, is_in, is_known_packing, is_max_rec, is_named_apart, is_no_link, is_positive, is_z, le_of, length, list_all, name_in, nat_le, notation_of, number, number_kept, record_limit, refl, row, signed_limit, size_at, size_kept, subst, true, true-is_in, type_at, type_of, variable_rows, vdr_end, vdr_name, vdr_z_dim_size, vdr_z_num_dims, vvr_type, ℕ, ◌*◌, ◌+◌, ◌==◌, ◌∙◌, ◌∷◌, ◌≡◌, ◌≤◌}
use Rattle.std.proofs.Common.{not, is_some, ◌&&◌, ◌||◌}
use Rattle.std.specs.Prelude.{bytes_eq}
use Rattle.cdf_edits.proofs.Frame.Meaning.{FileSame, Kept, KeptButLink, late_size, late_number}
use Rattle.cdf_edits.proofs.Frame.VdrCopied.{z_copied, dims_copied, raw_type_copied, type_copied, raw_elems_copied, value_copied, record_copied, pad_field_copied, raw_max_copied, raw_sparse_copied, cpr_link_copied}
use Rattle.cdf_edits.proofs.Frame.VdrStays.{long_z}
use Rattle.cdf_edits.proofs.Frame.VdrKept.{vdr_kept, flags_same, name_same as vdr_name_same, compressed_same}
use Rattle.cdf_edits.proofs.Frame.LinksStay.{SameHeads}

-- ---- tests of which a second is asked only after a first

pub and_same : (p q x y : Bool) → p ≡ q → (q ≡ true → x ≡ y) → (p && x) ≡ (q && y)
and_same p true x y e f = let g = f refl in λ i. e i && g i
and_same p false x y e f = ap (λ (r : Bool). r && x) e

unless_same : (p q x y : Bool) → p ≡ q → (q ≡ true → x ≡ y) → (not p || x) ≡ (not q || y)
unless_same p true x y e f = let g = f refl in λ i. not (e i) || g i
unless_same p false x y e f = ap (λ (r : Bool). not r || x) e

pub asked_same : (p q : Bool) (xs ys : List Row) → p ≡ q → (q ≡ true → xs ≡ ys) → asked p xs ≡ asked q ys
asked_same p true xs ys e f = let g = f refl in λ i. asked (e i) (g i)
asked_same p false xs ys e f = ap (λ (r : Bool). asked r xs) e

-- ---- records of a type

module _ (b now records : List ℕ) (same : SameHeads b now records records) where
  pub is_a_same : (type place : ℕ) → is_a now records type place ≡ is_a b records type place
  is_a_same type place = and_same (is_in place records) (is_in place records) (type_at now place == type) (type_at b place == type) refl (λ e. ap (λ (t : ℕ). t == type) (same.types place (true-is_in place records e)))

  pub is_block_same : (place : ℕ) → is_block now records place ≡ is_block b records place
  is_block_same place =
      let p = is_a_same vvr_type place in
      let q = is_a_same cvvr_type place in
      λ i. p i || q i

  module _ (file : FileSame b now) (fixed : (m : ℕ) → In m records → fixed_size (type_at b m) ≤ size_at b m) (cpr_kept : (m : ℕ) → is_a b records cpr_type m ≡ true → Kept b now m) where
    of_type : (type place : ℕ) → is_a b records type place ≡ true → fixed_size type ≤ size_at b place
    of_type type place e = subst (λ (t : ℕ). fixed_size t ≤ size_at b place) (is_a-type b records type place e) (fixed place (is_a-in b records type place e))

    -- ---- parameters

    is_cpr_same : (place : ℕ) → is_cpr now records place ≡ is_cpr b records place
    is_cpr_same place = and_same (is_a now records cpr_type place) (is_a b records cpr_type place) _ _ (is_a_same cpr_type place) (λ e.
        let k = cpr_kept place e in
        let long : 24 ≤ size_at b place = of_type cpr_type place e in
        let count = number_kept b now place k.same cpr_p_count (omega arith) in
        let size = size_kept b now place k.same (omega arith) in
        λ i. is_positive (count i) && nat_le (24 + 4 * count i) (size i))

    packing_same : (place : ℕ) → is_cpr b records place ≡ true → is_known_packing now place ≡ is_known_packing b place
    packing_same place e =
        let p = both (is_a b records cpr_type place) (is_positive (number b place cpr_p_count) && nat_le (24 + 4 * number b place cpr_p_count) (size_at b place)) e in
        let q = both (is_positive (number b place cpr_p_count)) (nat_le (24 + 4 * number b place cpr_p_count) (size_at b place)) p.1 in
        let some = le_of 1 (number b place cpr_p_count) (both (nat_le 1 (number b place cpr_p_count)) (nat_le (number b place cpr_p_count) signed_limit) q.0).0 in
        let long = room (number b place cpr_p_count) (size_at b place) some (le_of (24 + 4 * number b place cpr_p_count) (size_at b place) q.1) in
        let k = cpr_kept place p.0 in
        let type = number_kept b now place k.same cpr_c_type (omega arith) in
        let parameter = number_kept b now place k.same (cpr_parameter 0) (omega arith) in
        λ i. (type i == 1) && (parameter i == 0)
      where
        room : (n s : ℕ) → 1 ≤ n → 24 + 4 * n ≤ s → 28 ≤ s
        room n s p q = omega arith

    cpr_rows_same : (place : ℕ) → cpr_rows now records place ≡ cpr_rows b records place
    cpr_rows_same place = asked_same (is_cpr now records place) (is_cpr b records place) _ _ (is_cpr_same place) (λ e. let p = packing_same place e in λ i. row 12 place (p i) ∷ [])

    -- ---- a variable

    apart_same : (ids : List ℕ) (v : ℕ) → name_in now v vdr_name ≡ name_in b v vdr_name → ((m : ℕ) → In m ids → name_in now m vdr_name ≡ name_in b m vdr_name) → is_named_apart now ids v ≡ is_named_apart b ids v
    apart_same [] v here names = refl
    apart_same (m ∷ ids) v here names =
        let there = names m (inl refl) in
        let rest = apart_same ids v here (λ x j. names x (inr j)) in
        λ i. ((m == v) || not (bytes_eq (here i) (there i))) && rest i

    module _ (v : ℕ) (k : KeptButLink b now v) (fits : vdr_end b v ≤ size_at b v) where
      size_same : size_at now v ≡ size_at b v
      size_same = late_size b now v k

      dimensions_rule_same : is_z b v ≡ true → has_dimensions now v ≡ has_dimensions b v
      dimensions_rule_same e =
          let l = long_z b v fits e in
          let count = late_number b now v k vdr_z_num_dims (omega arith) (few (dimensions_at b v) (size_at b v) l) in
          let size = size_same in
          let dims = dims_copied file (vdr_kept b now file v k fits) in
          λ i. nat_le (count i) dimension_limit && (nat_le (vdr_z_dim_size (count i)).place (size i) && list_all is_positive (dims i))
        where
          few : (d s : ℕ) → 344 + 8 * d ≤ s → 344 ≤ s
          few d s p = omega arith

      pub variable_rows_same : (ids : List ℕ) → ((m : ℕ) → In m ids → name_in now m vdr_name ≡ name_in b m vdr_name) → variable_rows now records ids v ≡ variable_rows b records ids v
      variable_rows_same ids names =
          let c = vdr_kept b now file v k fits in
          let name = vdr_name_same b now file v k fits in
          let apart = apart_same ids v name names in
          let raw_type = raw_type_copied file c in
          let type = type_copied file c in
          let elems = raw_elems_copied file c in
          let z = z_copied file c in
          let dimensions = unless_same (is_z now v) (is_z b v) (has_dimensions now v) (has_dimensions b v) z dimensions_rule_same in
          let pad = pad_field_copied file c in
          let value = value_copied file c in
          let flags = flags_same b now file v k fits in
          let size = size_same in
          let bytes = record_copied file c in
          let max = raw_max_copied file c in
          let sparse = raw_sparse_copied file c in
          let packed = compressed_same b now file v k fits in
          let link = cpr_link_copied file c in
          let cpr : is_cpr now records (cpr_link now v) ≡ is_cpr b records (cpr_link b v) = ap (is_cpr now records) link ∙ is_cpr_same (cpr_link b v) in
          let parameters : cpr_rows now records (cpr_link now v) ≡ cpr_rows b records (cpr_link b v) = ap (cpr_rows now records) link ∙ cpr_rows_same (cpr_link b v) in
          λ i.
          row 1 v (not (length (name i) == 0))
          ∷ row 2 v (apart i)
          ∷ row 3 v (is_some (type_of (raw_type i)))
          ∷ row 4 v (is_positive (elems i) && ((elems i == 1) || is_characters (notation_of (type i))))
          ∷ row 5 v (dimensions i)
          ∷ row 6 v (nat_le ((pad i).place + (if has_bit (flags i) 1 then value i else 0)) (size i))
          ∷ row 7 v (nat_le (bytes i) record_limit)
          ∷ row 8 v (is_max_rec (max i))
          ∷ row 9 v (nat_le (sparse i) 2)
          ∷ row 10 v (packed i || is_no_link (link i))
          ∷ row 11 v (not (packed i) || cpr i)
          ∷ asked (packed i) (parameters i)
