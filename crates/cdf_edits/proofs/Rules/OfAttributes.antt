-- The rules of an attribute and of its entries stay where their fields do.
use Rattle.cdf_edits.proofs.Common.{AttributeFits, AttributeShape, Byte, Each, EntryFits, Field, Hold, In, In-append_left, In-append_right, List, Row, [], adr_name, adr_ngr_entries, adr_num, adr_nz_entries, adr_scope, aedr_attr_num, aedr_data_type, aedr_num, aedr_num_elems, arith, attribute_shape_rows, differ_rows, entries_rows, entry_bytes, entry_rows, flat_map, has_name, inl, inr, integer_kept, is_positive, length, list_any, nat_le, number, number_kept, record_limit, record_number_limit, refl, row, same_number, size_at, size_kept, size_of, subst, sym, true, type_of, unwrap_or, ℕ, ◌*◌, ◌++◌, ◌+◌, ◌==◌, ◌∷◌, ◌≡◌, ◌≤◌}
use Rattle.std.proofs.Common.{not, is_some, ◌&&◌, ◌||◌}
use Rattle.cdf_edits.proofs.Frame.Meaning.{Kept}

long_entry : (n s : ℕ) → 56 + n ≤ s → 56 ≤ s
long_entry n s h = omega arith

module _ (b now : List ℕ) (adr : ℕ) (number_stays : number now adr adr_num ≡ number b adr adr_num) where
  entry_rows_same : (e : ℕ) → Kept b now e → EntryFits b e → entry_rows now adr e ≡ entry_rows b adr e
  entry_rows_same e k fits =
      let long : 56 ≤ size_at b e = long_entry (entry_bytes b e) (size_at b e) fits in
      let attribute = number_kept b now e k.same aedr_attr_num (omega arith) in
      let num = number_kept b now e k.same aedr_num (omega arith) in
      let type = integer_kept b now e k.same aedr_data_type (omega arith) in
      let elems = number_kept b now e k.same aedr_num_elems (omega arith) in
      let size = size_kept b now e k.same (omega arith) in
      λ i.
      row 6 e (attribute i == number_stays i)
      ∷ row 7 e (nat_le (num i) record_number_limit)
      ∷ row 8 e ((is_some (type_of (type i)) && is_positive (elems i)) && (nat_le (size_of (unwrap_or (type_of (type i)) Byte) * elems i) record_limit && nat_le (56 + size_of (unwrap_or (type_of (type i)) Byte) * elems i) (size i)))
      ∷ []

  each_same : (es : List ℕ) → ((m : ℕ) → In m es → Kept b now m) → Each (EntryFits b) es → flat_map (entry_rows now adr) es ≡ flat_map (entry_rows b adr) es
  each_same [] k fits = refl
  each_same (e ∷ es) k fits =
      let here = entry_rows_same e (k e (inl refl)) fits.0 in
      let rest = each_same es (λ m i. k m (inr i)) fits.1 in
      λ i. here i ++ rest i

num_same : (b now : List ℕ) (e : ℕ) → Kept b now e → EntryFits b e → number now e aedr_num ≡ number b e aedr_num
num_same b now e k fits = number_kept b now e k.same aedr_num (let l = long_entry (entry_bytes b e) (size_at b e) fits in omega arith)

any_same : (b now : List ℕ) (e : ℕ) → number now e aedr_num ≡ number b e aedr_num → (es : List ℕ) → Each (λ m. number now m aedr_num ≡ number b m aedr_num) es → list_any (same_number now e) es ≡ list_any (same_number b e) es
any_same b now e here [] same = refl
any_same b now e here (m ∷ es) same =
    let there = same.0 in
    let rest = any_same b now e here es same.1 in
    λ i. (here i == there i) || rest i

each_push : (P : ℕ → Type 0) (xs : List ℕ) (x : ℕ) → Each P xs → P x → Each P (xs ++ x ∷ [])
each_push P [] x h p = (p, tt)
each_push P (y ∷ xs) x h p = (h.0, each_push P xs x h.1 p)

-- the rule that numbers differ
pub differ_same : (b now : List ℕ) (before es : List ℕ) → Each (λ m. number now m aedr_num ≡ number b m aedr_num) before → Each (λ m. number now m aedr_num ≡ number b m aedr_num) es
    → differ_rows 7 (same_number now) before es ≡ differ_rows 7 (same_number b) before es
differ_same b now before [] seen same = refl
differ_same b now before (e ∷ es) seen same =
    let here = any_same b now e same.0 before seen in
    let rest = differ_same b now (before ++ e ∷ []) es (each_push (λ m. number now m aedr_num ≡ number b m aedr_num) before e seen same.0) same.1 in
    λ i. row 7 e (not (here i)) ∷ rest i

numbers_same : (b now es : List ℕ) → ((m : ℕ) → In m es → Kept b now m) → Each (EntryFits b) es → Each (λ m. number now m aedr_num ≡ number b m aedr_num) es
numbers_same b now [] k fits = tt
numbers_same b now (e ∷ es) k fits = (num_same b now e (k e (inl refl)) fits.0, numbers_same b now es (λ m i. k m (inr i)) fits.1)

pub entries_rows_same : (b now : List ℕ) (adr : ℕ) (count : Field) (es : List ℕ) → number now adr adr_num ≡ number b adr adr_num → number now adr count ≡ number b adr count → ((m : ℕ) → In m es → Kept b now m) → Each (EntryFits b) es
    → entries_rows now adr count es ≡ entries_rows b adr count es
entries_rows_same b now adr count es num total k fits =
    let each = each_same b now adr num es k fits in
    let differ = differ_same b now [] es tt (numbers_same b now es k fits) in
    λ i. (row 5 adr (total i == length es) ∷ []) ++ each i ++ differ i

-- the fields of an ADR between its next field and its Name, and its entries
pub record AttributeKept (b now : List ℕ) (a : AttributeShape) : Type 0 where
  pub fields : (f : Field) → 20 ≤ f.place → f.place + f.width ≤ 68 → number now a.adr f ≡ number b a.adr f
  pub entries : (m : ℕ) → In m (a.gr_entries ++ a.z_entries) → Kept b now m

abbrev later_rows : List ℕ → AttributeShape → List Row
later_rows b a = (row 3 a.adr (nat_le 1 (number b a.adr adr_scope) && nat_le (number b a.adr adr_scope) 4) ∷ []) ++ entries_rows b a.adr adr_ngr_entries a.gr_entries ++ entries_rows b a.adr adr_nz_entries a.z_entries

-- the rules of an attribute but for the one that it has a name
pub attribute_rules_kept : (b now : List ℕ) (a : AttributeShape) → AttributeKept b now a → AttributeFits b a → has_name now a.adr adr_name ≡ true → Hold (attribute_shape_rows b a) → Hold (attribute_shape_rows now a)
attribute_rules_kept b now a k fits named h =
    let scope = k.fields adr_scope (omega arith) (omega arith) in
    let num = k.fields adr_num (omega arith) (omega arith) in
    let gr = entries_rows_same b now a.adr adr_ngr_entries a.gr_entries num (k.fields adr_ngr_entries (omega arith) (omega arith)) (λ m i. k.entries m (In-append_left m a.gr_entries a.z_entries i)) fits.0 in
    let z = entries_rows_same b now a.adr adr_nz_entries a.z_entries num (k.fields adr_nz_entries (omega arith) (omega arith)) (λ m i. k.entries m (In-append_right m a.gr_entries a.z_entries i)) fits.1 in
    let rest : later_rows now a ≡ later_rows b a = λ i. (row 3 a.adr (nat_le 1 (scope i) && nat_le (scope i) 4) ∷ []) ++ gr i ++ z i in
    (named, subst Hold (sym rest) h.1)
