-- A variable whose VDR gets another number and another link to the next one, and whose other records an edit leaves: it means what it meant, and keeps its rules.
use Rattle.cdf_edits.proofs.Common.{Edit, HasVariable, In, IsSound, List, Mark, Same, Same-part, Shape, VariableFits, VariableShape, [], ap, arith, before_first, cast_signed, field_bytes, has_bit, has_pad, if◌then◌else◌, integer4, is_compressed, length, name_in, number, pad_field, piece_kept, refl, size_at, subst, sym, true, value_bytes, variable_of, vdr_blocking_factor, vdr_end, vdr_flags, vdr_name, w32, word_kept, ℕ, ◌+◌, ◌==◌, ◌∙◌, ◌≡◌, ◌≤◌}
use Rattle.std.proofs.Common.{not}
use Rattle.cdf_edits.proofs.Edits.Composing.{head_size, head_type}
use Rattle.cdf_edits.proofs.Edits.RecordFrame.{index_records, through}
use Rattle.cdf_edits.proofs.Edits.VariableCopied.{links_copied, content_copied, index_rules_stay, rules_stay, fits_copied}
use Rattle.cdf_edits.proofs.Edits.VariableFrame.{VariableRemains}
use Rattle.cdf_edits.proofs.Frame.Meaning.{FileSame, Kept, pad_late, pad_wide, end_fits}
use Rattle.cdf_edits.proofs.Frame.VdrCopied.{VdrCopied, copied_in_place, pad_copied, pad_field_copied, value_copied}

-- the bytes of a VDR but for its next field and its number
pub record KeptButNum (b now : List ℕ) (m : ℕ) : Type 0 where
  pub start : Same b now (m + 0) (m + 12)
  pub middle : Same b now (m + 20) (m + 68)
  pub rest : Same b now (m + 72) (m + size_at b m)
  pub inside : m + size_at b m ≤ length b

least : (p w n : ℕ) → p + w ≤ n → p ≤ n
least p w n h = omega arith

module _ {b now : List ℕ} {s : Shape} {new : List ℕ} {marks : List Mark} {reborn : List ℕ} (sound : IsSound b s) (e : Edit b now s.records new marks reborn) (file : FileSame b now) (own : VariableShape) (has : HasVariable b s.records own) (fits : VariableFits b s.records own)
    (stand : (m : ℕ) → In m (index_records own) → In m s.records) (kept : (m : ℕ) → In m (index_records own) → Kept b now m) (k : KeptButNum b now own.vdr) where
  abbrev v : ℕ
  v = own.vdr

  pad_fits : (pad_field b v).place ≤ size_at b v
  pad_fits = least (pad_field b v).place (if has_pad b v then value_bytes b v else 0) (size_at b v) fits.0

  wide : 340 ≤ size_at b v
  wide = through 340 (pad_field b v).place (size_at b v) (pad_late b v) pad_fits

  size_same : size_at now v ≡ size_at b v
  size_same = head_size b now v k.start

  front : (lo hi : ℕ) → 20 ≤ lo → hi ≤ 68 → Same b now (v + lo) (v + hi)
  front lo hi l h = Same-part b now (v + 20) (v + 68) (v + lo) (v + hi) k.middle (omega arith) (omega arith)

  back : (lo hi : ℕ) → 72 ≤ lo → hi ≤ size_at b v → Same b now (v + lo) (v + hi)
  back lo hi l h = Same-part b now (v + 72) (v + size_at b v) (v + lo) (v + hi) k.rest (omega arith) (omega arith)

  copied : VdrCopied b now v v
  copied = record {
    typed = head_type b now v k.start;
    first = copied_in_place b now v 20 44 (front 20 44 (omega arith) (omega arith));
    second = copied_in_place b now v 48 68 (front 48 68 (omega arith) (omega arith));
    third = copied_in_place b now v 72 80 (back 72 80 (omega arith) (through 80 340 (size_at b v) (omega arith) wide));
    behind = copied_in_place b now v 340 (pad_field b v).place (back 340 (pad_field b v).place (omega arith) pad_fits);
  }

  flags_same : number now v vdr_flags ≡ number b v vdr_flags
  flags_same = word_kept b now (v + 44) (v + 48) (front 44 48 (omega arith) (omega arith)) (v + 44) 4 (omega arith) (omega arith)

  packed : is_compressed now v ≡ is_compressed b v
  packed = ap (λ (n : ℕ). has_bit n 2) flags_same

  name_same : name_in now v vdr_name ≡ name_in b v vdr_name
  name_same = ap (before_first (λ (x : ℕ). x == 0)) (piece_kept b now (v + 84) (v + 340) (back 84 340 (omega arith) wide) (v + 84) 256 (omega arith) (omega arith) (through (v + 340) (v + size_at b v) (length b) (let l = wide in omega arith) k.inside) file.longer)

  blocking_same : integer4 now v vdr_blocking_factor ≡ integer4 b v vdr_blocking_factor
  blocking_same = ap (cast_signed w32) (word_kept b now (v + 80) (v + 84) (back 80 84 (omega arith) (through 84 340 (size_at b v) (omega arith) wide)) (v + 80) 4 (omega arith) (omega arith))

  pad_bytes : has_pad b v ≡ true → field_bytes now v (pad_field b v) ≡ field_bytes b v (pad_field b v)
  pad_bytes p =
      let ends = end_fits (has_pad b v) (pad_field b v).place (value_bytes b v) (size_at b v) fits.0 p in
      let room : (pad_field b v).place + (pad_field b v).width ≤ size_at b v = subst (λ (n : ℕ). (pad_field b v).place + n ≤ size_at b v) (sym (pad_wide b v)) ends in
      piece_kept b now (v + 340) (v + size_at b v) (back 340 (size_at b v) (omega arith) (omega arith)) (v + (pad_field b v).place) (pad_field b v).width (from v (pad_field b v).place (pad_late b v)) (upto v (pad_field b v).place (pad_field b v).width (size_at b v) room)
      k.inside file.longer
    where
      from : (v p : ℕ) → 340 ≤ p → v + 340 ≤ v + p
      from v p l = omega arith

      upto : (v p n s : ℕ) → p + n ≤ s → v + p + n ≤ v + s
      upto v p n s l = omega arith

  end_same : vdr_end now v ≡ vdr_end b v
  end_same =
      let pad = pad_field_copied file copied in
      let flags = flags_same in
      let value = value_copied file copied in
      λ i. (pad i).place + (if has_bit (flags i) 1 then value i else 0)

  ends : vdr_end now v ≤ size_at now v
  ends = subst (λ (n : ℕ). vdr_end now v ≤ n) (sym size_same) (subst (λ (n : ℕ). n ≤ size_at b v) (sym end_same) fits.0)

  meaning : variable_of now own ≡ variable_of b own
  meaning =
      let name = name_same in
      let flags = flags_same in
      let blocking = blocking_same in
      let pad = pad_copied file copied flags_same pad_bytes in
      content_copied sound e file own has fits stand kept copied packed ∙ (λ i. record (variable_of b own) { name = name i; vary = has_bit (flags i) 0; rle = has_bit (flags i) 2; blocking = blocking i; pad = pad i })

  pub numbered_remains : VariableRemains b now s.records new own
  numbered_remains = record {
    stays = (links_copied sound e file own has fits stand kept copied packed, meaning);
    fits = fits_copied sound e file own has fits stand kept copied packed ends;
    ruled = λ rules. (
      rules_stay sound e file own has fits stand kept copied packed [] [] rules.0 (ap (λ (name : List ℕ). not (length name == 0)) name_same ∙ rules.0.0) refl ends (subst (λ (n : ℕ). size_at b v ≤ n) (sym size_same) (omega arith)),
      index_rules_stay sound e file own has fits stand kept copied packed rules.1,
    );
  }
