-- `checksum` writes two bits of Flags: the image is good as before, and its data set says whether a checksum is in use.
use Rattle.cdf_edits.proofs.Common.{AllHold, AllKeep, Allowances, AreNew, Bool, ByStep, Changed, ChangedWithin, DataSet, Each, Each-split, Edit, Field, Follows, Go, Good, HasShape, Hold, Hold-append, Hold-split, In, In-append_left, In-append_right, IsGoodByShape, IsSound, Leaves, LeavesFinding, List, Mark, Only, Same, Shape, Unused, VariableStays, [], adr_name, adr_num, adrs, adrs_rows, ap, arith, attribute_shape_rows, cast_signed, cdr_flags, cdr_type, content, content_is, content_of, differ_by_names, differ_rows, encoding, encoding_at, false, field_marks, first_phases, flags, flat_map, gdr_eof, gdr_nr_vars, gdr_num_attr, gdr_nz_vars, gdr_offset, gdr_r_num_dims, gdr_type, good_by_its_shape, good_is_sound, good_long, has_bit, if◌then◌else◌, image_limit, inl, inr, is_a-in, is_a-type, is_in, is_positive, is_some, length, linked_types, list_all, majority_of, names_differ, number, number_kept, owned, r_sizes, r_vdrs_rows, refl, row, rules_of_good, same_name, sealed, sealed_keeps, sealed_kept, shape, shape_is, size_at, subst, sym, touched_field, true, type_at, unused_records, variables, vdr_num, vdrs, vdrs_append, w32, with_bits, word_kept, z_vdrs_rows, ℕ, ◌%◌, ◌*◌, ◌++◌, ◌+◌, ◌/◌, ◌==◌, ◌∙◌, ◌∷◌, ◌≡◌, ◌≢◌, ◌≤◌}
use Rattle.std.proofs.Common.{not, ◌||◌}
use Rattle.cdf_model.specs.declared.answer.Reply.TheVariants as replies
use Rattle.cdf_model.specs.declared.command.Command.TheVariants as commands
use Rattle.cdf_edits.specs.Commands.Setup.{checksum_changes}
use Rattle.cdf_edits.proofs.Commands.KeptRecords.{Stood, keep_attributes, keep_owned, keeps_stood}
use Rattle.cdf_edits.proofs.Edits.AttributeFrame.{AreThere, lives_clear, all_remain, remaining_rules, remaining_names, nums_stay}
use Rattle.cdf_edits.proofs.Edits.EditActs.{acts_none}
use Rattle.cdf_edits.proofs.Edits.OwnedOnce.{all_attributes_in, owned_once_if}
use Rattle.cdf_edits.proofs.Edits.OwnersKept.{stood, keeps_fields, keep_file, all_keep}
use Rattle.cdf_edits.proofs.Edits.RecordFrame.{AttributeLives, VariableLives, kept_away, part_clear}
use Rattle.cdf_edits.proofs.Edits.StepEdits.{gdr_in, gdr_typed, gdr_long, fixed_long, field_edit}
use Rattle.cdf_edits.proofs.Edits.VariableFrame.{all_variables_kept, kept_live, variables_in, variables_rules, indexes_rules, nums_kept}
use Rattle.cdf_edits.proofs.Frame.FileSound.{file_stays_sound}
use Rattle.cdf_edits.proofs.Frame.Meaning.{FileSame, Kept}
use Rattle.cdf_edits.proofs.Frame.OwnersApart.{adrs_linked, file_found, file_from_attributes, file_from_variables, file_is_alone, unused_from_file, unused_in}
use Rattle.cdf_edits.proofs.Frame.SameShape.{same_attributes, same_variables}
use Rattle.cdf_edits.proofs.Rules.FirstHead.{FirstSays, first_hold, first_said}
use Rattle.cdf_edits.proofs.Rules.WithoutLinks.{number_rows_kept}
use Rattle.cdf_edits.proofs.Space.UsedRecords.{apart}

-- ---- bits 2 and 3 of a number, which are both set or both clear

abbrev pub checksum_flags : ℕ → Bool → ℕ
checksum_flags n md5 = with_bits n 2 2 (if md5 then 3 else 0)

bit_0 : (n : ℕ) (md5 : Bool) → has_bit (checksum_flags n md5) 0 ≡ has_bit n 0
bit_0 n true = let same : (n % 4 + 4 * 3 + 16 * (n / 16)) / 1 % 2 ≡ n / 1 % 2 = omega arith in ap (λ (k : ℕ). k == 1) same
bit_0 n false = let same : (n % 4 + 4 * 0 + 16 * (n / 16)) / 1 % 2 ≡ n / 1 % 2 = omega arith in ap (λ (k : ℕ). k == 1) same

bit_1 : (n : ℕ) (md5 : Bool) → has_bit (checksum_flags n md5) 1 ≡ has_bit n 1
bit_1 n true = let same : (n % 4 + 4 * 3 + 16 * (n / 16)) / 2 % 2 ≡ n / 2 % 2 = omega arith in ap (λ (k : ℕ). k == 1) same
bit_1 n false = let same : (n % 4 + 4 * 0 + 16 * (n / 16)) / 2 % 2 ≡ n / 2 % 2 = omega arith in ap (λ (k : ℕ). k == 1) same

bit_2 : (n : ℕ) (md5 : Bool) → has_bit (checksum_flags n md5) 2 ≡ md5
bit_2 n true = let same : (n % 4 + 4 * 3 + 16 * (n / 16)) / 4 % 2 ≡ 1 = omega arith in ap (λ (k : ℕ). k == 1) same
bit_2 n false = let same : (n % 4 + 4 * 0 + 16 * (n / 16)) / 4 % 2 ≡ 0 = omega arith in ap (λ (k : ℕ). k == 1) same

bit_3 : (n : ℕ) (md5 : Bool) → has_bit (checksum_flags n md5) 3 ≡ md5
bit_3 n true = let same : (n % 4 + 4 * 3 + 16 * (n / 16)) / 8 % 2 ≡ 1 = omega arith in ap (λ (k : ℕ). k == 1) same
bit_3 n false = let same : (n % 4 + 4 * 0 + 16 * (n / 16)) / 8 % 2 ≡ 0 = omega arith in ap (λ (k : ℕ). k == 1) same

either_way : (md5 : Bool) → (not md5 || md5) ≡ true
either_way true = refl
either_way false = refl

module _ (b now : List ℕ) (md5 : Bool) (good : Good b) (changed : Changed b now (touched_field 8 cdr_flags ∷ [])) (as_long : length now ≡ length b) (flags_are : flags now ≡ checksum_flags (flags b) md5) where
  abbrev s : Shape
  s = shape b

  sound : IsSound b s
  sound = good_is_sound b good

  h : HasShape b s
  h = sound.has_shape

  -- ---- the edit

  tile : In 8 s.records
  tile = is_a-in b s.records cdr_type 8 h.cdr_stands

  typed : type_at b 8 ≡ cdr_type
  typed = is_a-type b s.records cdr_type 8 h.cdr_stands

  long : 312 ≤ size_at b 8
  long = fixed_long b s h cdr_type 8 tile typed

  abbrev marks : List Mark
  marks = field_marks cdr_type 8 cdr_flags

  e : Edit b now s.records s.records marks []
  e = field_edit b now s h 8 cdr_type cdr_flags tile typed (let l = long in omega arith) (omega arith) changed as_long

  -- each other record stays whole
  other : (m : ℕ) → In m s.records → m ≢ 8 → Kept b now m
  other m i apart_from = kept_away e m (type_at b m) i refl ((λ same lies. elim lies [ inl q ↦ apart_from q | inr none ↦ none ]), tt)

  gdr_other : s.gdr ≢ 8
  gdr_other q = apart gdr_type cdr_type refl (sym (gdr_typed b s h) ∙ ap (type_at b) q ∙ typed)

  gdr_kept : Kept b now s.gdr
  gdr_kept = other s.gdr (gdr_in b s h) gdr_other

  later : (p : Bool) → (if p then 20 else 12) ≤ 32
  later true = omega arith
  later false = omega arith

  change : ChangedWithin b now (8 ∷ s.gdr ∷ [])
  change = record { touches = touched_field 8 cdr_flags ∷ []; changed = changed; within = (record { inside = inl refl; fits = let l = long in omega arith; later = later (is_in (type_at b 8) linked_types) }, tt) }

  finding : LeavesFinding b s change.touches
  unfolding change
  finding = record {
    gdr_offset_stays = ((λ q. inl (omega arith)), tt);
    encoding_stays = ((λ q. inl (omega arith)), tt);
    attribute_head = ((λ q. absurd (gdr_other q)), tt);
    r_head = ((λ q. absurd (gdr_other q)), tt);
    z_head = ((λ q. absurd (gdr_other q)), tt);
    unused_head = ((λ q. absurd (gdr_other q)), tt);
    dimensions_stay = ((λ q. absurd (gdr_other q)), tt);
    sizes_stay = ((λ q. absurd (gdr_other q)), tt);
  }

  file : FileSame b now
  file = file_found b s sound now s.records (λ m i. i) change finding

  leaves : Leaves b now s s.records s.attributes (variables s)
  leaves = file_is_alone b s sound now s.records (λ m i. i) change finding

  now_sound : IsSound now s
  now_sound = file_stays_sound b now s change sound as_long finding

  pub shape_now : HasShape now s
  shape_now = now_sound.has_shape

  pub same_shape : shape now ≡ s
  same_shape = shape_is now s shape_now

  records_are : (shape now).records ≡ s.records
  records_are = ap (λ (x : Shape). x.records) same_shape

  -- ---- the content

  gdr_found : gdr_offset now ≡ gdr_offset b
  gdr_found = file.gdr_is

  before_flags : Same b now (8 + 0) (8 + 32)
  before_flags = part_clear e 8 cdr_type 0 32 tile typed refl refl (let l = long in omega arith)

  after_flags : Same b now (8 + 36) (8 + 312)
  after_flags = part_clear e 8 cdr_type 36 312 tile typed refl refl long

  encoding_now : encoding now ≡ encoding b
  encoding_now = word_kept b now (8 + 0) (8 + 32) before_flags 36 4 (omega arith) (omega arith)

  sizes_now : r_sizes now s.gdr ≡ r_sizes b s.gdr
  sizes_now = ap (r_sizes now) (sym (gdr_found ∙ h.gdr_is)) ∙ file.sizes ∙ ap (r_sizes b) h.gdr_is

  pub content_now : content now ≡ record (content b) { md5 = md5 }
  content_now =
      let parts = Each-split (VariableStays b now s.records) s.r_variables s.z_variables leaves.variables_stay in
      let release = ap (cast_signed w32) (word_kept b now (8 + 0) (8 + 32) before_flags 32 4 (omega arith) (omega arith)) in
      let increment = ap (cast_signed w32) (word_kept b now (8 + 36) (8 + 312) after_flags 52 4 (omega arith) (omega arith)) in
      let row_major : has_bit (flags now) 0 ≡ has_bit (flags b) 0 = ap (λ (n : ℕ). has_bit n 0) flags_are ∙ bit_0 (flags b) md5 in
      let in_use : has_bit (flags now) 2 ≡ md5 = ap (λ (n : ℕ). has_bit n 2) flags_are ∙ bit_2 (flags b) md5 in
      let as_ = same_attributes b now s.records s.attributes leaves.attributes_stay in
      let rs = same_variables b now s.records s.r_variables parts.0 in
      let zs = same_variables b now s.records s.z_variables parts.1 in
      let whole : content_of now s ≡ record (content_of b s) { md5 = md5 } = λ i. record {
        release = release i;
        increment = increment i;
        encoding = encoding_now i;
        majority = majority_of (row_major i);
        md5 = in_use i;
        rdims = sizes_now i;
        attributes = as_ i;
        r_variables = rs i;
        z_variables = zs i;
      } in
      content_is now s shape_now ∙ whole ∙ ap (λ (d : DataSet). record d { md5 = md5 }) (sym (content_is b s h))

  -- ---- the rules

  there : AreThere b s.records s.attributes
  there = record { linked = adrs_linked b s sound; have = h.entry_chains; fit = sound.attributes_fit }

  attributes_live : Each (AttributeLives b now) s.attributes
  attributes_live = lives_clear sound e s.attributes there refl

  variables_live : Each (VariableLives b now) (variables s)
  variables_live = kept_live sound e (all_variables_kept sound e refl)

  count_at : (f : Field) → f.place + f.width ≤ 84 → number now (gdr_offset now) f ≡ number b (gdr_offset b) f
  count_at f fits =
      let here : number now s.gdr f ≡ number b s.gdr f = number_kept b now s.gdr gdr_kept.same f (let l = gdr_long b s h in omega arith) in
      ap (λ (g : ℕ). number now g f) (gdr_found ∙ h.gdr_is) ∙ here ∙ sym (ap (λ (g : ℕ). number b g f) h.gdr_is)

  nums : (m : ℕ) → In m (vdrs (variables s)) → number now m vdr_num ≡ number b m vdr_num
  nums = nums_kept sound e file variables_live

  adr_rows_same : adrs_rows now (adrs s) ≡ adrs_rows b (adrs s)
  adr_rows_same =
      let place = gdr_found in
      let count = count_at gdr_num_attr (omega arith) in
      let numbers = number_rows_kept 4 b now adr_num 0 (adrs s) (nums_stay sound e file s.attributes there attributes_live) in
      λ i. (row 3 (place i) (count i == length (adrs s)) ∷ []) ++ numbers i

  r_rows_same : r_vdrs_rows now (vdrs s.r_variables) ≡ r_vdrs_rows b (vdrs s.r_variables)
  r_rows_same =
      let place = gdr_found in
      let count = count_at gdr_nr_vars (omega arith) in
      let ms = vdrs s.r_variables in
      let numbers = number_rows_kept 7 b now vdr_num 0 ms (λ m i. nums m (subst (λ (x : List ℕ). In m x) (sym (vdrs_append s.r_variables s.z_variables)) (In-append_left m ms (vdrs s.z_variables) i))) in
      λ i. (row 6 (place i) (count i == length ms) ∷ []) ++ numbers i

  z_rows_same : z_vdrs_rows now (vdrs s.z_variables) ≡ z_vdrs_rows b (vdrs s.z_variables)
  z_rows_same =
      let place = gdr_found in
      let count = count_at gdr_nz_vars (omega arith) in
      let ms = vdrs s.z_variables in
      let numbers = number_rows_kept 10 b now vdr_num 0 ms (λ m i. nums m (subst (λ (x : List ℕ). In m x) (sym (vdrs_append s.r_variables s.z_variables)) (In-append_right m (vdrs s.r_variables) ms i))) in
      λ i. (row 9 (place i) (count i == length ms) ∷ []) ++ numbers i

  pub good_now : IsGoodByShape b s → IsGoodByShape now s
  good_now image =
      let c = Hold-split (adrs_rows b (adrs s) ++ r_vdrs_rows b (vdrs s.r_variables)) (z_vdrs_rows b (vdrs s.z_variables)) image.counting in
      let d = Hold-split (adrs_rows b (adrs s)) (r_vdrs_rows b (vdrs s.r_variables)) c.0 in
      let p = Hold-split (flat_map (attribute_shape_rows b) s.attributes) (differ_rows 2 (same_name b adr_name) [] (adrs s)) image.attributes in
      let names = remaining_names b now s.records s.attributes (all_remain sound e file s.attributes there attributes_live) in
      record {
        has_shape = shape_now;
        counting = Hold-append (adrs_rows now (adrs s) ++ r_vdrs_rows now (vdrs s.r_variables)) (z_vdrs_rows now (vdrs s.z_variables))
            (Hold-append (adrs_rows now (adrs s)) (r_vdrs_rows now (vdrs s.r_variables)) (subst Hold (sym adr_rows_same) d.0) (subst Hold (sym r_rows_same) d.1)) (subst Hold (sym z_rows_same) c.1);
        attributes = Hold-append (flat_map (attribute_shape_rows now) s.attributes) (differ_rows 2 (same_name now adr_name) [] (adrs s))
            (remaining_rules b now s.records s.attributes (all_remain sound e file s.attributes there attributes_live) p.0) (differ_by_names 2 now adr_name (adrs s) (subst (AreNew []) (sym names) (names_differ 2 b adr_name (adrs s) p.1)));
        of_variables = variables_rules sound e file variables_live image.of_variables;
        indexes = indexes_rules sound e file variables_live image.indexes;
        owned_once = owned_once_if b now s s marks [] sound image.owned_once e (λ m out. refl) (λ m i. absurd i);
      }

  first_says : AllHold (first_phases (sealed b)) → FirstSays now s.gdr
  first_says first =
      let was = first_said b s h sound.gdr_fits first in
      let l = gdr_long b s h in
      let in_use : has_bit (flags now) 2 ≡ md5 = ap (λ (n : ℕ). has_bit n 2) flags_are ∙ bit_2 (flags b) md5 in
      let is_md5 : has_bit (flags now) 3 ≡ md5 = ap (λ (n : ℕ). has_bit n 3) flags_are ∙ bit_3 (flags b) md5 in
      let test : (not (has_bit (flags now) 2) || has_bit (flags now) 3) ≡ (not md5 || md5) = λ i. not (in_use i) || is_md5 i in
      record {
        first_magic = word_kept b now 0 8 e.front 0 4 (omega arith) (omega arith) ∙ was.first_magic;
        second_magic = word_kept b now 0 8 e.front 4 4 (omega arith) (omega arith) ∙ was.second_magic;
        version_is = word_kept b now (8 + 0) (8 + 32) before_flags 28 4 (omega arith) (omega arith) ∙ was.version_is;
        encoding_read = ap (λ (n : ℕ). is_some (encoding_at n)) encoding_now ∙ was.encoding_read;
        single_file = ap (λ (n : ℕ). has_bit n 1) flags_are ∙ bit_1 (flags b) md5 ∙ was.single_file;
        md5_used = test ∙ either_way md5;
        few = subst (λ (n : ℕ). n ≤ 10) (sym (number_kept b now s.gdr gdr_kept.same gdr_r_num_dims (omega arith))) was.few;
        positive = ap (list_all is_positive) sizes_now ∙ was.positive;
        eof_is = number_kept b now s.gdr gdr_kept.same gdr_eof (omega arith) ∙ was.eof_is ∙ sym as_long;
      }

  -- ---- what stays

  abbrev may : Allowances
  may = checksum_changes

  stands : (m : ℕ) → In m s.records → m ≢ 8 → Stood b now m
  stands m i apart_from = stood sound e records_are m i (other m i apart_from)

  keeps : AllKeep b now may [] (owned b s)
  keeps =
      let f = keep_file b now may [] sound (keeps_fields sound e records_are 8 cdr_type (cdr_flags ∷ []) tile typed refl refl) (keeps_stood b now s.gdr (stands s.gdr (gdr_in b s h) gdr_other) (Only [])) in
      let a = keep_attributes b now may [] 0 s.attributes (λ m i. stands m (all_attributes_in sound m i) (λ q. file_from_attributes b s sound m i (inl q))) in
      let u = keep_owned b now may [] Unused (unused_records b s) (λ m i. stands m (unused_in b s sound m i) (λ q. unused_from_file b s sound m (inl q) i)) in
      all_keep b now may [] f a (λ m i. stands m (variables_in b s sound m i) (λ q. file_from_variables b s sound m i (inl q))) u

  -- the whole
  pub checksum_follows : length b ≤ image_limit → Follows b (commands.Checksum md5) now
  checksum_follows short =
      let image = good_by_its_shape b good in
      let first = (sealed_kept b (good_long b s image) (rules_of_good b good)).0 in
      record {
        reply = replies.Plain;
        goes = ap (λ (d : DataSet). ByStep (Go d replies.Plain)) (sym content_now);
        good = sealed_keeps now s (first_hold now s shape_now now_sound.gdr_fits (first_says first) (omega arith)) (good_now image);
        longer = omega arith;
        within = omega arith;
        reads = λ e. absurd cc;
        acts = [];
        takes_within = omega arith;
        acts_follow = acts_none sound e refl refl records_are (ap (λ (x : Shape). x.unused) same_shape) as_long;
        keeps = keeps;
        does = record { acts_are = refl; flags_are = flags_are };
      }
