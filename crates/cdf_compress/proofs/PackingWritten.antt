-- Flags and CPRorSPRoffset of a descriptor are written: what they say then, and that no other byte is another one.
use Rattle.cdf_edits.proofs.Common.{AreTiles, Changed, Edit, In, Kind, LiesIn, List, Mark, R, Z, [], arith, cpr_of, false, field_marks, field_reads, has_bit, if◌then◌else◌, inl, inr, is_compressed, length, length-with_field, number, other_words, refl, size_at, tile_lies, touched_field, true, type_at, type_in, variables_chain, vdr_cpr_or_spr_offset, vdr_flags, with_field, ℕ, ◌%◌, ◌*◌, ◌++◌, ◌+◌, ◌/◌, ◌<◌, ◌==◌, ◌^◌, ◌∙◌, ◌∷◌, ◌≡◌, ◌≤◌, ap, Bool}
use Rattle.cdf_edits.proofs.Edits.Common.{MarkTests}
use Rattle.cdf_edits.proofs.Edits.Composing.{changed_edit}
use Rattle.cdf_edits.proofs.Edits.WrittenFields.{with_field_changed}
use Rattle.cdf_edits.proofs.Frame.ChangedBytes.{changed_then}
use Rattle.cdf_compress.specs.Repacking.{packed_flags, with_packing}

-- ---- the bit of packing

pub packed_0 : (n : ℕ) (rle : Bool) → has_bit (packed_flags n rle) 0 ≡ has_bit n 0
packed_0 n true = let same : (n % 4 + 4 * 1 + 8 * (n / 8)) / 1 % 2 ≡ n / 1 % 2 = omega arith in ap (λ (k : ℕ). k == 1) same
packed_0 n false = let same : (n % 4 + 4 * 0 + 8 * (n / 8)) / 1 % 2 ≡ n / 1 % 2 = omega arith in ap (λ (k : ℕ). k == 1) same

pub packed_1 : (n : ℕ) (rle : Bool) → has_bit (packed_flags n rle) 1 ≡ has_bit n 1
packed_1 n true = let same : (n % 4 + 4 * 1 + 8 * (n / 8)) / 2 % 2 ≡ n / 2 % 2 = omega arith in ap (λ (k : ℕ). k == 1) same
packed_1 n false = let same : (n % 4 + 4 * 0 + 8 * (n / 8)) / 2 % 2 ≡ n / 2 % 2 = omega arith in ap (λ (k : ℕ). k == 1) same

pub packed_2 : (n : ℕ) (rle : Bool) → has_bit (packed_flags n rle) 2 ≡ rle
packed_2 n true = let same : (n % 4 + 4 * 1 + 8 * (n / 8)) / 4 % 2 ≡ 1 = omega arith in ap (λ (k : ℕ). k == 1) same
packed_2 n false = let same : (n % 4 + 4 * 0 + 8 * (n / 8)) / 4 % 2 ≡ 0 = omega arith in ap (λ (k : ℕ). k == 1) same

pub small_flags : (n : ℕ) (rle : Bool) → n < 256 ^ 4 → packed_flags n rle < 256 ^ 4
small_flags n true l = omega arith
small_flags n false l = omega arith

-- ---- marks

abbrev pub packing_marks : ℕ → ℕ → List Mark
packing_marks type v = field_marks type v vdr_flags ++ field_marks type v vdr_cpr_or_spr_offset

pub packing_tests : (kind : Kind) (v : ℕ) → MarkTests kind (packing_marks (type_in (variables_chain kind)) v)
packing_tests R v = record { file_clear = refl; attributes_clear = refl; other_clear = refl; index_clear = refl; unused_clear = refl; gdr_clear = λ lo hi. refl }
packing_tests Z v = record { file_clear = refl; attributes_clear = refl; other_clear = refl; index_clear = refl; unused_clear = refl; gdr_clear = λ lo hi. refl }

-- ---- the bytes

module _ (b records : List ℕ) {type : ℕ} (v : ℕ) (rle : Bool) (link : ℕ) (tiled : AreTiles b 8 (length b) records) (inside : In v records) (typed : type_at b v ≡ type) (wide : 80 ≤ size_at b v) (small : number b v vdr_flags < 256 ^ 4) (fits : link < 256 ^ 8) where
  abbrev flagged : List ℕ
  flagged = with_field b v vdr_flags (packed_flags (number b v vdr_flags) rle)

  abbrev now : List ℕ
  now = with_packing b v rle link

  high : v + size_at b v ≤ length b
  high = (tile_lies b 8 (length b) records v tiled inside).high

  lies : LiesIn b v vdr_flags
  lies = omega (arith, high, wide)

  flagged_long : length flagged ≡ length b
  flagged_long = length-with_field b v vdr_flags (packed_flags (number b v vdr_flags) rle) lies

  link_lies : LiesIn flagged v vdr_cpr_or_spr_offset
  link_lies = omega (arith, high, wide, flagged_long)

  pub as_long : length now ≡ length b
  as_long = length-with_field flagged v vdr_cpr_or_spr_offset link link_lies ∙ flagged_long

  pub changed : Changed b now (touched_field v vdr_flags ∷ touched_field v vdr_cpr_or_spr_offset ∷ [])
  changed = changed_then b flagged now (touched_field v vdr_flags ∷ []) (touched_field v vdr_cpr_or_spr_offset ∷ []) (with_field_changed b v vdr_flags _ lies) (with_field_changed flagged v vdr_cpr_or_spr_offset link link_lies)

  pub edit : Edit b now records records (packing_marks type v) []
  edit = changed_edit b now records (touched_field v vdr_flags ∷ touched_field v vdr_cpr_or_spr_offset ∷ []) (packing_marks type v) [] tiled as_long changed (
    record { inside = inside; fits = omega (arith, wide); behind_size = omega arith; behind_type = inl (omega arith); covered = inl (record { typed = typed; lies = inl refl; low = omega arith; high = omega arith }) },
    (record { inside = inside; fits = omega (arith, wide); behind_size = omega arith; behind_type = inl (omega arith); covered = inr (inl (record { typed = typed; lies = inl refl; low = omega arith; high = omega arith })) }, tt),
  ) (omega (arith, high, wide))

  pub flags_are : number now v vdr_flags ≡ packed_flags (number b v vdr_flags) rle
  flags_are = other_words flagged v vdr_cpr_or_spr_offset link (v + 44) 4 link_lies (inl (omega arith)) ∙ field_reads b v vdr_flags _ lies (small_flags (number b v vdr_flags) rle small)

  pub link_is : number now v vdr_cpr_or_spr_offset ≡ link
  link_is = field_reads flagged v vdr_cpr_or_spr_offset link link_lies fits

  pub packed_is : is_compressed now v ≡ rle
  packed_is = ap (λ (n : ℕ). has_bit n 2) flags_are ∙ packed_2 (number b v vdr_flags) rle

  pub cpr_is : cpr_of now v ≡ (if rle then link ∷ [] else [])
  cpr_is = let p = packed_is in let l = link_is in λ i. if p i then l i ∷ [] else []

  pub vary_is : has_bit (number now v vdr_flags) 0 ≡ has_bit (number b v vdr_flags) 0
  vary_is = ap (λ (n : ℕ). has_bit n 0) flags_are ∙ packed_0 (number b v vdr_flags) rle

  pub padded_is : has_bit (number now v vdr_flags) 1 ≡ has_bit (number b v vdr_flags) 1
  padded_is = ap (λ (n : ℕ). has_bit n 1) flags_are ∙ packed_1 (number b v vdr_flags) rle
