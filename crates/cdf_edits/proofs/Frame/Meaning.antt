-- What records mean stays where their bytes do.
use Rattle.cdf_edits.proofs.Common.{AttributeFits, AttributeShape, Bool, Byte, DataType, Each, Entry, EntryFits, Field, In, List, Same, Same-part, [], adr_name, adr_scope, aedr_data_type, aedr_num, aedr_num_elems, aedr_value, ap, arith, attribute_of, bytes_kept, cast_signed, counted, cvvr_c_size, cvvr_packed, data_type_in, dimensions_at, entry_bytes, entry_of, false, field_bytes, has_value, if◌then◌else◌, inl, inr, integer4, is_little, is_positive, is_z, length, name_kept, nat_le, number, number_kept, packed_bytes, pad_field, piece_kept, record_limit, refl, scope_of, size_at, size_of, subst, sym, true, turned, type_at, type_of, unwrap_or, value_bytes, vdr_r_dim_vary, vdr_r_pad_value, vdr_z_dim_vary, vdr_z_pad_value, w32, w64, with_item, word_kept, ℕ, ℤ, ◌*◌, ◌+◌, ◌∙◌, ◌∷◌, ◌≡◌, ◌≤◌}
use Rattle.std.proofs.Common.{is_some, ◌&&◌}
use Rattle.cdf_format.specs.Content.{entries_of}
pub use Rattle.cdf_edits.specs.Frame.Kept.{FileSame, Kept}

-- the bytes of a record but for its next field
pub record KeptButLink (b now : List ℕ) (m : ℕ) : Type 0 where
  pub start : Same b now (m + 0) (m + 12)
  pub rest : Same b now (m + 20) (m + size_at b m)
  pub inside : m + size_at b m ≤ length b
  pub long : 12 ≤ size_at b m

pub but_link : (b now : List ℕ) (m : ℕ) → Kept b now m → KeptButLink b now m
but_link b now m k = record {
  start = Same-part b now m (m + size_at b m) (m + 0) (m + 12) k.same (omega arith) (let l = k.long in omega arith);
  rest = Same-part b now m (m + size_at b m) (m + 20) (m + size_at b m) k.same (omega arith) (omega arith);
  inside = k.inside;
  long = k.long;
}

module _ (b now : List ℕ) (m : ℕ) (k : KeptButLink b now m) where
  pub late_size : size_at now m ≡ size_at b m
  late_size = word_kept b now (m + 0) (m + 12) k.start (m + 0) 8 (omega arith) (omega arith)

  pub late_type : type_at now m ≡ type_at b m
  late_type = word_kept b now (m + 0) (m + 12) k.start (m + 8) 4 (omega arith) (omega arith)

  -- fields behind the next field
  pub late_number : (f : Field) → 20 ≤ f.place → f.place + f.width ≤ size_at b m → number now m f ≡ number b m f
  late_number f late fits = word_kept b now (m + 20) (m + size_at b m) k.rest (m + f.place) f.width (omega arith) (omega arith)

  pub late_integer : (f : Field) → 20 ≤ f.place → f.place + 4 ≤ size_at b m → integer4 now m f ≡ integer4 b m f
  late_integer f late fits = ap (cast_signed w32) (word_kept b now (m + 20) (m + size_at b m) k.rest (m + f.place) 4 (omega arith) (omega arith))

  pub late_bytes : (f : Field) → 20 ≤ f.place → f.place + f.width ≤ size_at b m → length b ≤ length now → field_bytes now m f ≡ field_bytes b m f
  late_bytes f late fits longer = piece_kept b now (m + 20) (m + size_at b m) k.rest (m + f.place) f.width (omega arith) (omega arith) k.inside longer

less : (a p s : ℕ) → a + p ≤ s → a ≤ s
less a p s h = omega arith

pub if_same : {A : Type 0} (p q : Bool) (x y x' y' : A) → p ≡ q → (q ≡ true → x ≡ x') → (q ≡ false → y ≡ y') → (if p then x else y) ≡ (if q then x' else y')
if_same true true x y x' y' e f g = f refl
if_same true false x y x' y' e f g = absurd cc
if_same false true x y x' y' e f g = absurd cc
if_same false false x y x' y' e f g = g refl

-- ---- attributes

-- the bytes of an entry that give its value
pub record EntryBytes (b now : List ℕ) (e : ℕ) : Type 0 where
  pub size : size_at now e ≡ size_at b e
  pub code : Same b now (e + 24) (e + 28)
  pub rest : Same b now (e + 32) (e + size_at b e)
  pub inside : e + size_at b e ≤ length b

pub record EntryMeans (b now : List ℕ) (e : ℕ) : Type 0 where
  pub meant : entry_of now e ≡ entry_of b e
  pub valued : has_value now e ≡ has_value b e
  pub fits : EntryFits now e

pub long_entry : (n s : ℕ) → 56 + n ≤ s → 56 ≤ s
long_entry n s h = omega arith

pub link_bytes : (b now : List ℕ) (e : ℕ) → KeptButLink b now e → EntryFits b e → EntryBytes b now e
link_bytes b now e k fits =
    let long = long_entry (entry_bytes b e) (size_at b e) fits in
    record { size = late_size b now e k; code = Same-part b now (e + 20) (e + size_at b e) (e + 24) (e + 28) k.rest (omega arith) (omega arith); rest = Same-part b now (e + 20) (e + size_at b e) (e + 32) (e + size_at b e) k.rest (omega arith) (omega arith); inside = k.inside }

entry_from : DataType → ℕ → Bool → List ℕ → Entry
entry_from t n little raw = record { type = t; elems = n; bytes = turned t little raw }

module _ (b now : List ℕ) (file : FileSame b now) where
  pub entry_means : (e : ℕ) → EntryBytes b now e → EntryFits b e → EntryMeans b now e
  unfolding entry_from
  entry_means e k fits =
      let long = long_entry (entry_bytes b e) (size_at b e) fits in
      let code = ap (cast_signed w32) (word_kept b now (e + 24) (e + 28) k.code (e + 24) 4 (omega arith) (omega arith)) in
      let t : data_type_in now e aedr_data_type ≡ data_type_in b e aedr_data_type = ap (λ (z : ℤ). unwrap_or (type_of z) Byte) code in
      let n : number now e aedr_num_elems ≡ number b e aedr_num_elems = word_kept b now (e + 32) (e + size_at b e) k.rest (e + 32) 4 (omega arith) (omega arith) in
      let raw : field_bytes now e (aedr_value (entry_bytes b e)) ≡ field_bytes b e (aedr_value (entry_bytes b e)) = piece_kept b now (e + 32) (e + size_at b e) k.rest (e + 56) (entry_bytes b e) (omega arith) (room e (entry_bytes b e) (size_at b e) fits) k.inside file.longer in
      let first : entry_of now e ≡ entry_from (data_type_in b e aedr_data_type) (number b e aedr_num_elems) (is_little b) (field_bytes now e (aedr_value (entry_bytes b e))) =
      λ i. entry_from (t i) (n i) (file.little i) (field_bytes now e (aedr_value (size_of (t i) * n i))) in
      let bytes : entry_bytes now e ≡ entry_bytes b e = λ i. size_of (t i) * n i in
      let size = k.size in
      record {
        meant = first ∙ ap (entry_from (data_type_in b e aedr_data_type) (number b e aedr_num_elems) (is_little b)) raw;
        valued = λ i. (is_some (type_of (code i)) && is_positive (n i)) && (nat_le (bytes i) record_limit && nat_le (56 + bytes i) (size i));
        fits = subst (λ (x : ℕ). 56 + entry_bytes now e ≤ x) (sym size) (subst (λ (x : ℕ). 56 + x ≤ size_at b e) (sym bytes) fits);
      }
    where
      room : (e n s : ℕ) → 56 + n ≤ s → e + 56 + n ≤ e + s
      room e n s h = omega arith

  kept_means : (e : ℕ) → Kept b now e → EntryFits b e → EntryMeans b now e
  kept_means e k fits = entry_means e (link_bytes b now e (but_link b now e k) fits) fits

  pub entry_fits_kept : (e : ℕ) → Kept b now e → EntryFits b e → EntryFits now e
  entry_fits_kept e k fits = (kept_means e k fits).fits

  pub entries_kept : (es : List ℕ) → ((m : ℕ) → In m es → Kept b now m) → Each (EntryFits b) es → entries_of now es ≡ entries_of b es
  entries_kept [] k fits = refl
  entries_kept (e ∷ es) k fits =
      let here = k e (inl refl) in
      let long : 56 ≤ size_at b e = less 56 (entry_bytes b e) (size_at b e) fits.0 in
      let n : number now e aedr_num ≡ number b e aedr_num = number_kept b now e here.same aedr_num (omega arith) in
      let entry = (kept_means e here fits.0).meant in
      let rest = entries_kept es (λ m i. k m (inr i)) fits.1 in
      λ i. with_item (n i) (entry i) (rest i)

  pub attribute_kept : (a : AttributeShape) → Kept b now a.adr → 324 ≤ size_at b a.adr → ((m : ℕ) → In m a.gr_entries → Kept b now m) → ((m : ℕ) → In m a.z_entries → Kept b now m) → AttributeFits b a → attribute_of now a ≡ attribute_of b a
  attribute_kept a k long gr z fits =
      let name = name_kept b now a.adr k.same adr_name (omega arith) k.inside file.longer in
      let scope : number now a.adr adr_scope ≡ number b a.adr adr_scope = number_kept b now a.adr k.same adr_scope (omega arith) in
      let gs = entries_kept a.gr_entries gr fits.0 in
      let zs = entries_kept a.z_entries z fits.1 in
      λ i. record { name = name i; scope = scope_of (scope i); g = gs i; z = zs i }

-- ---- variables

pub pad_place : (p : Bool) (d n : ℕ) → p ≡ true → (if p then vdr_z_pad_value d n else vdr_r_pad_value d n).place ≡ 344 + 8 * d
pad_place true d n e = refl
pad_place false d n e = absurd cc

pub pad_long : (p : Bool) (d n : ℕ) → 340 ≤ (if p then vdr_z_pad_value d n else vdr_r_pad_value d n).place
pad_long true d n = omega arith
pad_long false d n = omega arith

pub pad_width : (p : Bool) (d n : ℕ) → (if p then vdr_z_pad_value d n else vdr_r_pad_value d n).width ≡ n
pad_width true d n = refl
pad_width false d n = refl

-- of a VDR
pub pad_late : (b : List ℕ) (v : ℕ) → 340 ≤ (pad_field b v).place
pad_late b v = pad_long (is_z b v) (dimensions_at b v) (value_bytes b v)

pub pad_wide : (b : List ℕ) (v : ℕ) → (pad_field b v).width ≡ value_bytes b v
pad_wide b v = pad_width (is_z b v) (dimensions_at b v) (value_bytes b v)

pub vary_fits : (p : Bool) (d n : ℕ) → (if p then vdr_z_dim_vary d 0 else vdr_r_dim_vary 0).place + 4 * d ≤ (if p then vdr_z_pad_value d n else vdr_r_pad_value d n).place
vary_fits true d n = omega arith
vary_fits false d n = omega arith

pub end_fits : (q : Bool) (p w s : ℕ) → p + (if q then w else 0) ≤ s → q ≡ true → p + w ≤ s
end_fits true p w s h e = h
end_fits false p w s h e = absurd cc

-- the packed bytes of a CVVR
counted_least : (n : ℕ) → counted (cast_signed w64 n) ≤ n
counted_least n = grind arith

pub packed_same : (b now : List ℕ) (file : FileSame b now) (place : ℕ) → Kept b now place → 24 + number b place cvvr_c_size ≤ size_at b place → packed_bytes now place ≡ packed_bytes b place
packed_same b now file place kept fits =
    let c = number_kept b now place kept.same cvvr_c_size (less 24 (number b place cvvr_c_size) (size_at b place) fits) in
    let n = counted (cast_signed w64 (number b place cvvr_c_size)) in
    let fit : 24 + n ≤ size_at b place = at_most n (number b place cvvr_c_size) (size_at b place) (counted_least (number b place cvvr_c_size)) fits in
    ap (λ (k : ℕ). field_bytes now place (cvvr_packed (counted (cast_signed w64 k)))) c ∙ bytes_kept b now place kept.same (cvvr_packed n) fit kept.inside file.longer
  where
    at_most : (n c s : ℕ) → n ≤ c → 24 + c ≤ s → 24 + n ≤ s
    at_most n c s p q = omega arith
