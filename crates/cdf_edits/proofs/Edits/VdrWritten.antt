-- BlockingFactor or Name of a VDR is written where it stands.
use Rattle.cdf_edits.proofs.Common.{Changed, Edit, Field, Good, Kind, List, Mark, R, Same, VariableShape, Within, Z, [], ap, arith, before_first, cast_signed, field_bytes, field_marks, has_bit, has_pad, if◌then◌else◌, inl, inr, integer4, is_compressed, length, name_in, number, of_le, pad_at, pad_field, piece_kept, refl, shape, size_at, subst, sym, touched_field, true, type_in, value_bytes, variable_of, variables_chain, vdr_blocking_factor, vdr_end, vdr_flags, vdr_name, w32, word_kept, ℕ, ◌+◌, ◌==◌, ◌∙◌, ◌∷◌, ◌≡◌, ◌≤◌, ◌⊎◌}
use Rattle.cdf_edits.proofs.Edits.Common.{EditsVdr, FileSame, MarkTests, StandsAmong, VdrCopied, behind_in, behind_kept, changed_edit, content_copied, copied_in_place, file, file_same, fits, has, head_type, high, long, pad_field_copied, pad_late, pad_wide, some_bytes, sound, tile, typed, value_copied}
use Rattle.cdf_edits.proofs.Frame.Meaning.{end_fits}
use Rattle.cdf_edits.proofs.Frame.VdrCopied.{pad_copied}

-- a field of the record at a place, behind CPRorSPRoffset of a VDR and before its dimensions, is written, and no other byte changes
pub record WritesVdr (b now : List ℕ) (v : ℕ) (f : Field) : Type 0 where
  pub late : 80 ≤ f.place
  pub early : f.place + f.width ≤ 340
  pub changed : Changed b now (touched_field v f ∷ [])
  pub as_long : length now ≡ length b

field_tests : (kind : Kind) (v : ℕ) (f : Field) → MarkTests kind (field_marks (type_in (variables_chain kind)) v f)
field_tests R v f = record { file_clear = refl; attributes_clear = refl; other_clear = refl; index_clear = refl; unused_clear = refl; gdr_clear = λ lo hi. refl }
field_tests Z v f = record { file_clear = refl; attributes_clear = refl; other_clear = refl; index_clear = refl; unused_clear = refl; gdr_clear = λ lo hi. refl }

module _ {b now : List ℕ} {kind : Kind} {before : List VariableShape} {own : VariableShape} {after : List VariableShape} {f : Field} (good : Good b) (at : StandsAmong b kind before own after) (w : WritesVdr b now own.vdr f) where
  abbrev v : ℕ
  v = own.vdr

  abbrev type : ℕ
  type = type_in (variables_chain kind)

  abbrev marks : List Mark
  marks = field_marks type v f

  t : MarkTests kind marks
  t = field_tests kind v f

  -- the field may change
  pub marks_within : Within marks type v (f ∷ [])
  marks_within = ((λ same lies. rw (of_le f.place f.place (omega arith), of_le (f.place + f.width) (f.place + f.width) (omega arith)) refl), tt)

  edit : Edit b now (shape b).records (shape b).records marks []
  edit =
      let late = w.late in
      let n = long good at in
      let early = w.early in
      let h = (sound good at).has_shape in
      changed_edit b now (shape b).records (touched_field v f ∷ []) marks [] h.tiled w.as_long w.changed
      (record { inside = tile good at; fits = omega arith; behind_size = omega arith; behind_type = inl (omega arith); covered = inl (record { typed = typed good at; lies = inl refl; low = omega arith; high = omega arith }) }, tt) (some_bytes b (shape b) h)

  same_file : FileSame b now
  same_file = file_same (sound good at) edit t.file_clear

  part : (lo hi : ℕ) → (hi ≤ f.place) ⊎ (f.place + f.width ≤ lo) → hi ≤ size_at b v → Same b now (v + lo) (v + hi)
  part lo hi side fits = edit.part v type lo hi (tile good at) (typed good at) ((λ same lies. inl (let l = w.late in omega arith)), tt) ((λ same lies. side), tt) fits

  early_part : (lo hi : ℕ) → hi ≤ 80 → Same b now (v + lo) (v + hi)
  early_part lo hi l = part lo hi (inl (let late = w.late in omega arith)) (let n = long good at in omega arith)

  copied : VdrCopied b now v v
  copied = record {
    typed = head_type b now v (early_part 0 12 (omega arith));
    first = copied_in_place b now v 20 44 (early_part 20 44 (omega arith));
    second = copied_in_place b now v 48 68 (early_part 48 68 (omega arith));
    third = copied_in_place b now v 72 80 (early_part 72 80 (omega arith));
    behind = copied_in_place b now v 340 (pad_field b v).place (part 340 (pad_field b v).place (inr w.early) (less (pad_field b v).place _ (size_at b v) (fits good at).0));
  }
    where
      less : (a p s : ℕ) → a + p ≤ s → a ≤ s
      less a p s h = omega arith

  flags_same : number now v vdr_flags ≡ number b v vdr_flags
  flags_same = word_kept b now (v + 44) (v + 48) (early_part 44 48 (omega arith)) (v + 44) 4 (omega arith) (omega arith)

  packed : is_compressed now v ≡ is_compressed b v
  packed = ap (λ (n : ℕ). has_bit n 2) flags_same

  pad_bytes : has_pad b v ≡ true → field_bytes now v (pad_field b v) ≡ field_bytes b v (pad_field b v)
  pad_bytes e =
      let n = size_at b v in
      let ends = end_fits (has_pad b v) (pad_field b v).place (value_bytes b v) n (fits good at).0 e in
      let room : (pad_field b v).place + (pad_field b v).width ≤ n = subst (λ (k : ℕ). (pad_field b v).place + k ≤ n) (sym (pad_wide b v)) ends in
      piece_kept b now (v + 340) (v + n) (part 340 n (inr w.early) (omega arith)) (v + (pad_field b v).place) (pad_field b v).width (from v (pad_field b v).place (pad_late b v)) (upto v (pad_field b v).place (pad_field b v).width n room)
      (high good at) (let l = w.as_long in omega arith)
    where
      from : (v p : ℕ) → 340 ≤ p → v + 340 ≤ v + p
      from v p l = omega arith

      upto : (v p k n : ℕ) → p + k ≤ n → v + p + k ≤ v + n
      upto v p k n l = omega arith

  end_same : vdr_end now v ≡ vdr_end b v
  end_same =
      let pad = pad_field_copied same_file copied in
      let flags = flags_same in
      let value = value_copied same_file copied in
      λ i. (pad i).place + (if has_bit (flags i) 1 then value i else 0)

  pub edits : EditsVdr b now kind own marks
  edits = record {
    edit = edit;
    as_long = w.as_long;
    own_marks = (refl, (let l = w.late in omega arith), tt);
    tests = t;
    copied = copied;
    num_is = word_kept b now (v + 68) (v + 72) (early_part 68 72 (omega arith)) (v + 68) 4 (omega arith) (omega arith);
    packed = packed;
    end_fits = subst (λ (n : ℕ). n ≤ size_at b v) (sym end_same) (fits good at).0;
  }

  pub meaning : variable_of now own ≡ record (variable_of b own) { name = name_in now v vdr_name; blocking = integer4 now v vdr_blocking_factor }
  meaning =
      let flags = flags_same in
      let pad = pad_copied (file good at edits) copied flags_same pad_bytes in
      let rest : record (variable_of b own) { name = name_in now v vdr_name; vary = has_bit (number now v vdr_flags) 0; rle = has_bit (number now v vdr_flags) 2; blocking = integer4 now v vdr_blocking_factor; pad = pad_at now v } ≡ record (variable_of b own) { name = name_in now v vdr_name; blocking = integer4 now v vdr_blocking_factor } =
      λ i. record (variable_of b own) { name = name_in now v vdr_name; vary = has_bit (flags i) 0; rle = has_bit (flags i) 2; blocking = integer4 now v vdr_blocking_factor; pad = pad i } in
      content_copied (sound good at) edit (file good at edits) own (has good at) (fits good at) (behind_in good at) (behind_kept good at edits) copied packed ∙ rest

  -- each of the two fields stays where the other is written
  pub name_same : f.place + f.width ≤ 84 → name_in now v vdr_name ≡ name_in b v vdr_name
  name_same l =
      let n = long good at in
      ap (before_first (λ (x : ℕ). x == 0)) (piece_kept b now (v + 84) (v + 340) (part 84 340 (inr l) n) (v + 84) 256 (omega arith) (omega arith) (let l = high good at in omega arith) (let l = w.as_long in omega arith))

  pub blocking_same : 84 ≤ f.place → integer4 now v vdr_blocking_factor ≡ integer4 b v vdr_blocking_factor
  blocking_same l = let n = long good at in ap (cast_signed w32) (word_kept b now (v + 80) (v + 84) (part 80 84 (inl l) (omega arith)) (v + 80) 4 (omega arith) (omega arith))
