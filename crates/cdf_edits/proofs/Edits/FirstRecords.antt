-- What every edit leaves that keeps the CDR and the GDR: the rules on the file.
use Rattle.cdf_edits.proofs.Common.{AllHold, Edit, HasShape, In, IsSound, List, Mark, Shape, ap, arith, cases_eq, cdr_type, cdr_version, either, encoding_at, eof, false-is_in, first_phases, fixed_size, gdr_type, has_bit, inl, inr, is_a-type, is_in, is_positive, is_record_type, is_some, keeps_file, length, list_all, number_kept, r_num_dims, refl, sealed, size_at, subst, sym, tile_lies, true, true-is_in, type_at, type_kept, uir_type, word_kept, ℕ, ◌*◌, ◌+◌, ◌∙◌, ◌≡◌, ◌≤◌}
use Rattle.std.proofs.Common.{not, ◌||◌}
use Rattle.cdf_edits.proofs.Rules.FirstHead.{FirstSays, first_said}
use Rattle.cdf_edits.proofs.Edits.RecordFrame.{cdr_kept, cdr_long, gdr_start, gdr_part, gdr_dimensions, dimensions_same, file_stays}
use Rattle.cdf_edits.proofs.Edits.StepEdits.{gdr_typed, gdr_long}
use Rattle.cdf_edits.proofs.Edits.Composing.{head_size, head_type}

module _ {b now : List ℕ} {s : Shape} {new : List ℕ} {marks : List Mark} {reborn : List ℕ} (sound : IsSound b s) (e : Edit b now s.records new marks reborn) (clear : keeps_file marks ≡ true) (typed : (m : ℕ) → In m reborn → (is_record_type (type_at now m) ≡ true) × (fixed_size (type_at now m) ≤ size_at now m)) where
  h : HasShape b s
  h = sound.has_shape

  pub gdr_still : type_at now s.gdr ≡ gdr_type
  gdr_still = head_type b now s.gdr (gdr_part sound e clear 0 12 (gdr_start sound e clear) (let l = gdr_long b s h in omega arith)) ∙ gdr_typed b s h

  pub cdr_still : type_at now 8 ≡ cdr_type
  cdr_still = let k = cdr_kept sound e clear in type_kept b now 8 k.same k.long ∙ is_a-type b s.records cdr_type 8 h.cdr_stands

  of_type : (P : ℕ → Type 0) (m type : ℕ) → type_at now m ≡ type → P type → P (type_at now m)
  of_type P m type is p = subst P (sym is) p

  pub typed_now : (m : ℕ) → In m new → is_record_type (type_at now m) ≡ true
  typed_now m i = elim (e.kind m i) [
    | inl j ↦ of_type (λ t. is_record_type t ≡ true) m (type_at b m) j.1 (h.typed m j.0)
    | inr j ↦ elim j [ inl u ↦ of_type (λ t. is_record_type t ≡ true) m uir_type u.1 refl | inr r ↦ (typed m r).0 ]
  ]

  unused_fixed : (m : ℕ) → In m new → fixed_size uir_type ≤ size_at now m
  unused_fixed m i = (tile_lies now 8 (length now) new m e.tiled_now i).long

  pub fixed_now : (m : ℕ) → In m new → fixed_size (type_at now m) ≤ size_at now m
  fixed_now m i = elim (either (is_in m reborn)) [
    | inl x ↦ (typed m (true-is_in m reborn x)).1
    | inr x ↦
        let out = false-is_in m reborn x in
        elim (e.kind m i) [
          | inl j ↦ elim (cases_eq (type_at b m) uir_type) [
            | inl u ↦ of_type (λ t. fixed_size t ≤ size_at now m) m uir_type (j.1 ∙ u) (unused_fixed m i)
            | inr used ↦ of_type (λ t. fixed_size t ≤ size_at now m) m (type_at b m) j.1 (subst (λ (n : ℕ). fixed_size (type_at b m) ≤ n) (sym (head_size b now m (e.head m j.0 used out))) (h.fixed m j.0))
          ]
          | inr j ↦ elim j [ inl u ↦ of_type (λ t. fixed_size t ≤ size_at now m) m uir_type u.1 (unused_fixed m i) | inr r ↦ (typed m r).1 ]
        ]
  ]

  pub gdr_room : 84 + 4 * r_num_dims now s.gdr ≤ size_at now s.gdr
  gdr_room =
      let size = head_size b now s.gdr (gdr_part sound e clear 0 12 (gdr_start sound e clear) (let l = gdr_long b s h in omega arith)) in
      let dims = dimensions_same sound e clear in
      subst (λ (x : ℕ). 84 + 4 * r_num_dims now s.gdr ≤ x) (sym size) (subst (λ (x : ℕ). 84 + 4 * x ≤ size_at b s.gdr) (sym dims) sound.gdr_fits)

  -- what the rules ask of the file is what they asked
  pub first_says : AllHold (first_phases (sealed b)) → eof now s.gdr ≡ length now → FirstSays now s.gdr
  first_says first eof_is =
      let was = first_said b s h sound.gdr_fits first in
      let long = cdr_long sound e clear in
      let stays = file_stays sound e clear in
      record {
        first_magic = word_kept b now 0 8 e.front 0 4 (omega arith) (omega arith) ∙ was.first_magic;
        second_magic = word_kept b now 0 8 e.front 4 4 (omega arith) (omega arith) ∙ was.second_magic;
        version_is = number_kept b now 8 (cdr_kept sound e clear).same cdr_version (omega arith) ∙ was.version_is;
        encoding_read = ap (λ (n : ℕ). is_some (encoding_at n)) stays.encoding_is ∙ was.encoding_read;
        single_file = ap (λ (n : ℕ). has_bit n 1) stays.flags_are ∙ was.single_file;
        md5_used = ap (λ (n : ℕ). not (has_bit n 2) || has_bit n 3) stays.flags_are ∙ was.md5_used;
        few = subst (λ (n : ℕ). n ≤ 10) (sym (word_kept b now (s.gdr + 56) (s.gdr + 60) (gdr_dimensions sound e clear) (s.gdr + 56) 4 (omega arith) (omega arith))) was.few;
        positive = ap (list_all is_positive) stays.sizes_are ∙ was.positive;
        eof_is = eof_is;
      }
