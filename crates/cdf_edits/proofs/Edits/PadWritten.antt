-- A VDR gets another pad value, and the flag that says that there is one: what it says then, and that it is written where there is room for it.
use Rattle.cdf_edits.proofs.Common.{Among, Bool, Changed, Edit, Field, Gave, Good, Kind, LiesIn, List, Mark, None, OutsideFields, SetsPad, Some, Took, VariableShape, [], ap, arith, before_first, byte, cast_signed, drop, drop-put_there, field_bytes, field_reads, has_bit, has_pad, if◌then◌else◌, inl, inr, integer4, is_compressed, is_little, length, length-put, length-with_field, mark, name_in, number, of_le, pad_at, pad_field, put, records_vary, refl, shape, size_at, subst, sym, take, take_at, touched_field, true, turned, type_at, type_in, type_of_variable, value_bytes, variable_of, variables_chain, vdr_blocking_factor, vdr_end, vdr_flags, vdr_name, vdr_num, w32, with_bits, with_field, word-put_outside, ℕ, ◌%◌, ◌*◌, ◌+◌, ◌/◌, ◌<◌, ◌==◌, ◌^◌, ◌∙◌, ◌∷◌, ◌≡◌, ◌≤◌}
use Rattle.cdf_edits.proofs.Edits.Common.{Copied, EditsVdr, FileSame, MarkTests, StandsAmong, VdrCopied, behind_in, behind_kept, changed_edit, content_copied, copied_part, file, file_same, fits, has, high, long, name_room, pad_field_copied, pad_late, pad_wide, piece_copied, some_bytes, sound, through, tile, type_copied, typed, value_copied, word_copied}
use Rattle.cdf_edits.proofs.Edits.WrittenFields.{with_field_changed}
use Rattle.cdf_edits.proofs.Frame.ChangedBytes.{changed_put, changed_then}

-- ---- bit 1 of the flags

abbrev pub padded_flags : ℕ → ℕ
padded_flags n = with_bits n 1 1 1

pub padded_0 : (n : ℕ) → has_bit (padded_flags n) 0 ≡ has_bit n 0
padded_0 n = let same : (n % 2 + 2 * 1 + 4 * (n / 4)) / 1 % 2 ≡ n / 1 % 2 = omega arith in ap (λ (k : ℕ). k == 1) same

pub padded_1 : (n : ℕ) → has_bit (padded_flags n) 1 ≡ true
padded_1 n = let same : (n % 2 + 2 * 1 + 4 * (n / 4)) / 2 % 2 ≡ 1 = omega arith in ap (λ (k : ℕ). k == 1) same

pub padded_2 : (n : ℕ) → has_bit (padded_flags n) 2 ≡ has_bit n 2
padded_2 n = let same : (n % 2 + 2 * 1 + 4 * (n / 4)) / 4 % 2 ≡ n / 4 % 2 = omega arith in ap (λ (k : ℕ). k == 1) same

pub small_flags : (x : ℕ) → x < 256 ^ 4 → padded_flags x < 256 ^ 4
small_flags x l = omega arith

-- ---- a VDR with another pad value, at its place or at another one

-- it is the one before up to the pad value but for its link and its flags, which say that there is one, and has these bytes as that
pub record HoldsPad (b now : List ℕ) (v v' : ℕ) (bytes : List ℕ) : Type 0 where
  pub typed : type_at now v' ≡ type_at b v
  pub alike : (i : ℕ) → 12 ≤ i → i < (pad_field b v).place → OutsideFields (vdr_flags ∷ []) i → byte now (v' + i) ≡ byte b (v + i)
  pub flags_are : number now v' vdr_flags ≡ padded_flags (number b v vdr_flags)
  pub pad_is : field_bytes now v' (pad_field b v) ≡ bytes

module _ {b now : List ℕ} {v v' : ℕ} {bytes : List ℕ} (p : HoldsPad b now v v' bytes) where
  behind : Copied b now v v' 48 (pad_field b v).place
  behind = record { each = λ i l h. p.alike i (omega arith) h (inr l, tt) }

  pub copied : VdrCopied b now v v'
  copied = let l = pad_late b v in record { typed = p.typed; first = record { each = λ i low h. p.alike i (omega arith) (omega arith) (inl h, tt) }; second = copied_part behind 48 68 (omega arith) (omega arith); third = copied_part behind 72 80 (omega arith) (omega arith); behind = copied_part behind 340 _ (omega arith) (omega arith) }

  pub num_is : number now v' vdr_num ≡ number b v vdr_num
  num_is = let l = pad_late b v in word_copied behind 68 4 (omega arith) (omega arith)

  blocking_is : integer4 now v' vdr_blocking_factor ≡ integer4 b v vdr_blocking_factor
  blocking_is = let l = pad_late b v in ap (cast_signed w32) (word_copied behind 80 4 (omega arith) (omega arith))

  pub name_is : v + 340 ≤ length b → v' + 340 ≤ length now → name_in now v' vdr_name ≡ name_in b v vdr_name
  name_is inside there = let l = pad_late b v in ap (before_first (λ (x : ℕ). x == 0)) (piece_copied behind 84 256 (omega arith) (omega arith) (omega arith) (omega arith))

  pub packed : is_compressed now v' ≡ is_compressed b v
  packed = ap (λ (n : ℕ). has_bit n 2) p.flags_are ∙ padded_2 (number b v vdr_flags)

  module _ (file : FileSame b now) where
    pub padded_end : vdr_end now v' ≡ (pad_field b v).place + value_bytes b v
    padded_end =
        let f = pad_field_copied file copied in
        let value = value_copied file copied in
        let flag : has_pad now v' ≡ true = ap (λ (n : ℕ). has_bit n 1) p.flags_are ∙ padded_1 (number b v vdr_flags) in
        λ i. (f i).place + (if flag i then value i else 0)

    pub padded_means : (own own' : VariableShape) → v + 340 ≤ length b → v' + 340 ≤ length now → variable_of now own' ≡ record (variable_of b own) { name = name_in now v' vdr_name; vary = records_vary now v'; rle = is_compressed now v'; blocking = integer4 now v' vdr_blocking_factor; pad = pad_at now v' }
        → v ≡ own.vdr → variable_of now own' ≡ record (variable_of b own) { pad = Some (turned (type_of_variable b v) (is_little b) bytes) }
    padded_means own own' inside there is at =
        let name = name_is inside there in
        let vary : records_vary now v' ≡ records_vary b v = ap (λ (n : ℕ). has_bit n 0) p.flags_are ∙ padded_0 (number b v vdr_flags) in
        let rle = packed in
        let blocking = blocking_is in
        let t = type_copied file copied in
        let f = pad_field_copied file copied in
        let flag : has_pad now v' ≡ true = ap (λ (n : ℕ). has_bit n 1) p.flags_are ∙ padded_1 (number b v vdr_flags) in
        is ∙ (λ i. record (variable_of b own) { name = name i; vary = vary i; rle = rle i; blocking = blocking i; pad = if flag i then Some (turned (t i) (file.little i) (field_bytes now v' (f i))) else None })
        ∙ (λ i. record (variable_of b own) { name = name_in b (at i) vdr_name; vary = records_vary b (at i); rle = is_compressed b (at i); blocking = integer4 b (at i) vdr_blocking_factor; pad = Some (turned (type_of_variable b v) (is_little b) (p.pad_is i)) })

-- ---- the edit

-- these bytes of a value were written as the pad value of the VDR at a place, which has room for them, once its flags said that there is one
pub record WritesPad (b now : List ℕ) (v : ℕ) (bytes : List ℕ) : Type 0 where
  pub long : length bytes ≡ value_bytes b v
  pub room : (pad_field b v).place + value_bytes b v ≤ size_at b v
  pub small : number b v vdr_flags < 256 ^ 4
  pub written : now ≡ put (with_field b v vdr_flags (padded_flags (number b v vdr_flags))) (v + (pad_field b v).place) bytes

abbrev pad_marks : ℕ → ℕ → Field → List Mark
pad_marks type v pad = mark type (Among (v ∷ [])) vdr_flags ∷ mark type (Among (v ∷ [])) pad ∷ []

pad_tests : (kind : Kind) (v : ℕ) (pad : Field) → MarkTests kind (pad_marks (type_in (variables_chain kind)) v pad)
pad_tests kind v pad = grind arith

module _ {b now : List ℕ} {kind : Kind} {before : List VariableShape} {own : VariableShape} {after : List VariableShape} {bytes : List ℕ} (good : Good b) (at : StandsAmong b kind before own after) (w : WritesPad b now own.vdr bytes) where
  abbrev v : ℕ
  v = own.vdr

  abbrev pad : Field
  pad = pad_field b v

  abbrev marks : List Mark
  marks = pad_marks (type_in (variables_chain kind)) v pad

  t : MarkTests kind marks
  t = pad_tests kind v pad

  abbrev flagged : List ℕ
  flagged = with_field b v vdr_flags (padded_flags (number b v vdr_flags))

  lies : LiesIn b v vdr_flags
  lies = let h = high good at in let n = long good at in omega arith

  in_flagged : (length flagged ≡ length b) × (v + pad.place + length bytes ≤ length flagged)
  in_flagged =
      let same = length-with_field b v vdr_flags (padded_flags (number b v vdr_flags)) lies in
      let h = high good at in
      (same, omega (arith, same, w.room, w.long, h))

  as_long : length now ≡ length b
  as_long = ap (λ (x : List ℕ). length x) w.written ∙ length-put flagged (v + pad.place) bytes in_flagged.1 ∙ in_flagged.0

  changed : Changed b now (touched_field v vdr_flags ∷ touched_field v pad ∷ [])
  changed = subst (λ (x : List ℕ). Changed b x (touched_field v vdr_flags ∷ touched_field v pad ∷ [])) (sym w.written) (changed_then b flagged _ (touched_field v vdr_flags ∷ []) (touched_field v pad ∷ []) (with_field_changed b v vdr_flags _ lies)
      (changed_put flagged v pad.place pad.width bytes (w.long ∙ sym (pad_wide b v)) (let l = in_flagged.1 in omega (arith, l, pad_wide b v, w.long))))

  edit : Edit b now (shape b).records (shape b).records marks []
  edit =
      let late = pad_late b v in
      let n = long good at in
      changed_edit b now (shape b).records (touched_field v vdr_flags ∷ touched_field v pad ∷ []) marks [] (sound good at).has_shape.tiled as_long changed (
        record { inside = tile good at; fits = omega arith; behind_size = omega arith; behind_type = inl (omega arith); covered = inl (record { typed = typed good at; lies = inl refl; low = omega arith; high = omega arith }) },
        (record { inside = tile good at; fits = subst (λ (k : ℕ). pad.place + k ≤ size_at b v) (sym (pad_wide b v)) w.room; behind_size = through 8 340 pad.place (omega arith) late; behind_type = inl (through 12 340 pad.place (omega arith) late); covered = inr (inl (record { typed = typed good at; lies = inl refl; low = omega arith; high = omega arith })) }, tt),
      ) (some_bytes b (shape b) (sound good at).has_shape)

  same_file : FileSame b now
  same_file = file_same (sound good at) edit t.file_clear

  same : (i : ℕ) → i < pad.place → OutsideFields (vdr_flags ∷ []) i → byte now (v + i) ≡ byte b (v + i)
  same i up out = changed.same (v + i) (let h = high good at in let r = w.room in omega arith) (elim out.0 [ inl x ↦ inl (omega arith) | inr x ↦ inr (omega arith) ], (inl (omega arith), tt))

  head : Copied b now v v 0 12
  head = record { each = λ i l h. same i (let late = pad_late b v in omega arith) (inl (omega arith), tt) }

  holds : HoldsPad b now v v bytes
  holds = record { typed = word_copied head 8 4 (omega arith) (omega arith); alike = λ i low up out. same i up out; flags_are = flags_are; pad_is = pad_is }
    where
      flags_are : number now v vdr_flags ≡ padded_flags (number b v vdr_flags)
      flags_are = ap (λ (x : List ℕ). number x v vdr_flags) w.written ∙ word-put_outside flagged bytes (v + pad.place) (v + 44) 4 in_flagged.1 (inl (let late = pad_late b v in omega arith)) ∙ field_reads b v vdr_flags _ lies (small_flags (number b v vdr_flags) w.small)

      pad_is : field_bytes now v pad ≡ bytes
      pad_is = ap (λ (x : List ℕ). field_bytes x v pad) w.written ∙ ap (λ (k : ℕ). take k (drop (v + pad.place) (put flagged (v + pad.place) bytes))) (pad_wide b v ∙ sym w.long) ∙ ap (take (length bytes)) (drop-put_there flagged bytes (v + pad.place) (let l = in_flagged.1 in omega (arith, l))) ∙ take_at bytes (drop (v + pad.place + length bytes) flagged) (length bytes) refl

  pub edits : EditsVdr b now kind own marks
  edits = record {
    edit = edit;
    as_long = as_long;
    own_marks = (refl, omega arith, (refl, through 20 340 pad.place (omega arith) (pad_late b v), tt));
    tests = t;
    copied = copied holds;
    num_is = num_is holds;
    packed = packed holds;
    end_fits = subst (λ (n : ℕ). n ≤ size_at b v) (sym (padded_end holds same_file)) w.room;
  }

  pub meaning : variable_of now own ≡ record (variable_of b own) { pad = Some (turned (type_of_variable b v) (is_little b) bytes) }
  meaning =
      let inside = name_room good at in
      padded_means holds same_file own own inside (subst (λ (n : ℕ). v + 340 ≤ n) (sym as_long) inside)
      (content_copied (sound good at) edit (file good at edits) own (has good at) (fits good at) (behind_in good at) (behind_kept good at edits) (copied holds) (packed holds)) refl

  -- ---- what `set-pad` does where the VDR stays

  pub pads_in_place : SetsPad b now v v []
  pads_in_place =
      let fit : vdr_end now v ≤ size_at b v = edits.end_fits in
      record {
        acts_are = sym (ap (λ (p : Bool). if p then [] else Took v (vdr_end now v) ∷ Gave v (size_at b v) ∷ []) (of_le (vdr_end now v) (size_at b v) fit));
        copied = λ i low up out. same i up out;
        flags_are = holds.flags_are;
        room = λ within. record {
          place_stays = refl;
          size_stays = word_copied head 0 8 (omega arith) (omega arith);
          rest_stays = record { each = λ i low up. let e = padded_end holds same_file in let k = pad_wide b v in let late = pad_late b v in let h = high good at in changed.same i (omega arith) (inr (omega arith), (inr (omega arith), tt)) };
        };
        freed = tt;
      }
