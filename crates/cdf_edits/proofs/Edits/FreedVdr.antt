-- The old VDR is freed that another one took the place of: what the image is then, and what `set-pad` does where the VDR moves.
use Rattle.cdf_edits.proofs.Common.{Act, ActsFollow, AllKeep, Allowances, Anything, Each, Edit, Field, Found, Gave, Gives, Good, In, In-append, Keeps, Kind, List, Mark, Only, R, SetsPad, Shape, Some, Took, Unused, Variable, VariableShape, Z, [], adding_marks, ap, arith, bytes_kept, content, count_of, eq-eqb, fixed_size, gdr_eof, gdr_offset, giving_marks, good_by_its_shape, head_of, image_limit, inl, inr, is_little, is_record_type, le_refl, length, lt-leb, making_marks, ne_eqb, next_field, number, number_kept, owned, owned_by, pad_field, refl, set_pad_changes, shape, shape_is, shapes_of, size_at, size_kept, slice_set, stays_own, subst, suc, sym, times-none, true, turned, type_at, type_in, type_kept, type_of_variable, unused_records, variable_of, variables_chain, variables_of, vdr_end, vdr_flags, vdr_type, vdrs, vdrs_append, with_variables, ℕ, ◌++◌, ◌+◌, ◌<◌, ◌==◌, ◌∙◌, ◌∷◌, ◌≡◌, ◌≢◌, ◌≤◌, ◌⊎◌}
use Rattle.std.proofs.Common.{not}
use Rattle.cdf_edits.proofs.Edits.VdrEdited.{ours}
use Rattle.cdf_edits.proofs.Edits.MadeRecord.{place_in}
use Rattle.cdf_edits.proofs.Edits.Common.{FileSame, FreesRecord, IsRuled, IsSorted, Kept, KeptButLink, StandsAmong, VariableLives, VariableSplices, after_ours, attributes_kept, as_long_now, behind_in, content_copied, fits, freed_each, freed_keeps_unused, freed_list, freed_real, freed_type, file_same, gdr_place, gdr_same, has, index_records, index_rules_stay, keep_own, keep_variable_parts, kind_type, links_copied, listed_before, listed_marks, long, loose_away, name_room, no_block, nums_from, other_chain, other_links, owned_once_if, pad_late, pad_wide, records_now, remain_from, rules_stay, same_as_itself, shape_now, sound, stood, the_one, through, tile, typed, used_times, vdr_allowance, with_shapes}
use Rattle.cdf_edits.proofs.Edits.FreedRecord.{other_kept, freed_edit, freed_acts, linked_bytes}
use Rattle.cdf_edits.proofs.Edits.JoinedVdr.{KindTests, edit, ends, fills, gdr_is, join_tests, joined_acts, joined_size, joined_type, linked, list, member_in, plain_kind, real, records}
use Rattle.cdf_edits.proofs.Edits.MovedVdr.{CopiesVdr, MovesVdr, beside, by_not_old, by_once, chain_late, late_is, late_shape, old_live, old_unowned, own', sound_late, traded, old_type}
use Rattle.cdf_edits.proofs.Edits.OwnEdited.{replaced_content, replaced_counted, replaced_good, replaced_named, ruled_before}
use Rattle.cdf_edits.proofs.Edits.PadWritten.{HoldsPad, copied, name_is, num_is, packed, padded_end, padded_means}
use Rattle.cdf_edits.proofs.Edits.VariablesLinked.{behind_kept, keep_numbered, keep_with_kind, live, next_keeps, other_stays, others_live}
use Rattle.cdf_edits.proofs.Frame.Meaning.{late_size}

-- ---- by the kind

give_tests : (kind : Kind) (b unused : List ℕ) (by need : ℕ) (listed : List ℕ) (old size : ℕ) → KindTests kind (making_marks unused by need (adding_marks b (variables_chain kind) by) ++ giving_marks listed (type_in (variables_chain kind)) old size)
give_tests R b unused by need listed old size = record { file_clear = refl; attributes_clear = refl; other_clear = refl; index_clear = refl; others_clear = refl; gdr_within = refl }
give_tests Z b unused by need listed old size = record { file_clear = refl; attributes_clear = refl; other_clear = refl; index_clear = refl; others_clear = refl; gdr_within = refl }

early_gdr : (kind : Kind) → ((head_of (variables_chain kind)).place + (head_of (variables_chain kind)).width ≤ 64) × ((count_of (variables_chain kind)).place + (count_of (variables_chain kind)).width ≤ 64)
early_gdr R = (omega arith, omega arith)
early_gdr Z = (omega arith, omega arith)

-- ---- the image

module _ {b late now : List ℕ} {kind : Kind} {before : List VariableShape} {own : VariableShape} {after : List VariableShape} {body : List ℕ} {by : ℕ} {bytes : List ℕ} (good : Good b) (at : StandsAmong b kind before own after) (m : MovesVdr b late kind own body by) (says : CopiesVdr b late own body by bytes) (gives : Gives late now (shape late) (shape now) own.vdr) where
  abbrev old : ℕ
  old = own.vdr

  abbrev s : Shape
  s = shape b

  abbrev rs : List ℕ
  rs = records (sound good at) m

  abbrev ls : List ℕ
  ls = list (sound good at) m

  abbrev ty : ℕ
  ty = type_in (variables_chain kind)

  abbrev needed : ℕ
  needed = 8 + length body

  abbrev making : List Mark
  making = making_marks s.unused by needed (adding_marks b (variables_chain kind) by)

  f : FreesRecord b late now (late_shape good at m says) making (by ∷ []) old ty
  f = record { sound = sound good at; edit = edit (sound good at) m; late_sound = sound_late good at m says; late_is = late_is good at m says; inside = tile good at; typed = old_type good at m; used = (plain_kind kind).no_uir; other = λ q. absurd ((plain_kind kind).no_gdr q); size_is = late_size b late old (old_live good at m).vdr; frees = gives }

  abbrev all_marks : List Mark
  all_marks = making ++ giving_marks ls ty old (size_at late old)

  pub edit_now : Edit b now s.records rs all_marks (by ∷ old ∷ [])
  edit_now = freed_edit f

  t : KindTests kind all_marks
  t = give_tests kind b s.unused by needed ls old (size_at late old)

  by_in : In by rs
  by_in = place_in (sound good at) (fills (sound good at) m)

  by_kept : Kept late now by
  by_kept = other_kept f ty by (plain_kind kind) (joined_type (sound good at) m) by_in (by_not_old good at m)

  -- what holds of the new one, whose type and size stay, and of the old one
  of_both : (P : ℕ → Type 0) → (type_at now by ≡ type_at late by → size_at now by ≡ size_at late by → P by) → P old → (x : ℕ) → In x (by ∷ old ∷ []) → P x
  of_both P new mine = freed_each f P (λ x i. subst (λ (y : ℕ). In y rs) (sym (the_one by x i)) by_in) (λ i. by_not_old good at m (sym (the_one by old i))) (λ x i. subst (λ (y : ℕ). type_at now y ≡ type_at late y → size_at now y ≡ size_at late y → P y) (sym (the_one by x i)) new) mine

  -- ---- each variable

  links_now : (x : ℕ) → In x (vdrs before) ⊎ In x (vdrs after) → KeptButLink b now x
  links_now x i =
      let there = beside good at m x i in
      let k = member_in (sound good at) m x there.0 in
      other_links f ty x (plain_kind kind) k.1 k.0 there.1 (linked (sound good at) m x there.0)

  front_live : Each (VariableLives b now) before
  front_live = live (sound good at) edit_now t before (ours good at).0 (λ x i. links_now x (inl i))

  back_live : Each (VariableLives b now) after
  back_live = live (sound good at) edit_now t after (after_ours good at) (λ x i. links_now x (inr i))

  behind_now : (x : ℕ) → In x (index_records own) → Kept b now x
  behind_now x i = behind_kept (sound good at) edit_now t own (has good at) (fits good at) x i (behind_in good at x i)

  -- ---- the VDR

  file_now : FileSame b now
  file_now = file_same (sound good at) edit_now t.file_clear

  abbrev pad : Field
  pad = pad_field b old

  by_long : (340 ≤ pad.place) × (pad.place + pad.width ≤ size_at late by) × (340 ≤ size_at late by)
  by_long =
      let l = pad_late b old in
      let wide = pad_wide b old in
      let size = joined_size (sound good at) m ∙ says.whole in
      (l, omega (arith, wide, size), omega (arith, l, size))

  says_now : HoldsPad b now old by bytes
  says_now =
      let k = by_kept in
      let l = by_long in
      record {
        typed = type_kept late now by k.same k.long ∙ says.held.typed;
        alike = λ i low up out. k.same.each (by + i) (omega arith) (omega arith) ∙ says.held.alike i low up out;
        flags_are = number_kept late now by k.same vdr_flags (omega arith) ∙ says.held.flags_are;
        pad_is = bytes_kept late now by k.same pad (omega arith) k.inside (let e = as_long_now f in omega arith) ∙ says.held.pad_is;
      }

  end_now : vdr_end now by ≡ needed
  end_now = padded_end says_now file_now ∙ sym says.whole

  inside : (old + 340 ≤ length b) × (by + 340 ≤ length now)
  inside = (name_room good at, (let k = by_kept in let wide = by_long in let e = as_long_now f in omega (arith, k.inside, e)))

  pub freed_splices : VariableSplices b now s kind rs (shape now).unused all_marks (by ∷ old ∷ []) before (own ∷ []) (own' good at m ∷ []) after
  freed_splices = record {
    edit = edit_now;
    was = at.was;
    file_clear = t.file_clear;
    attributes_clear = t.attributes_clear;
    other_clear = t.other_clear;
    before_remain = remain_from (sound good at) edit_now file_now before (ours good at).0 front_live;
    after_remain = remain_from (sound good at) edit_now file_now after (after_ours good at) back_live;
    others_live = others_live (sound good at) edit_now t;
    typed = of_both (λ (x : ℕ). (is_record_type (type_at now x) ≡ true) × (fixed_size (type_at now x) ≤ size_at now x)) (λ type size. rw (type, size) (real (sound good at) m)) (freed_real f);
    variable_chain = other_chain f ty _ _ (vdrs (before ++ own' good at m ∷ after)) (plain_kind kind) (chain_late good at m) (gdr_same f (head_of (variables_chain kind)) (early_gdr kind).0) (λ x i. elim (In-append x (vdrs before) (by ∷ vdrs after) (subst (In x) (vdrs_append before (own' good at m ∷ after)) i)) [
      | inl j ↦ (beside good at m x (inl j)).1
      | inr (inl q) ↦ λ e. by_not_old good at m (sym q ∙ e)
      | inr (inr j) ↦ (beside good at m x (inr j)).1
    ]);
    unused_chain = freed_list f;
    own_have = (links_copied (sound good at) edit_now file_now own (has good at) (fits good at) (behind_in good at) behind_now (copied says_now) (packed says_now), tt);
  }

  pub freed_is : shape now ≡ with_shapes s kind rs (shape now).unused (before ++ own' good at m ∷ after)
  freed_is = shape_is now _ (shape_now (sound good at) freed_splices)

  -- ---- the content

  pub freed_content : content now ≡ with_variables (content b) kind (slice_set (variables_of (content b) kind) (length before) (variable_of now (own' good at m)))
  freed_content = replaced_content good at freed_splices

  pub pad_means : variable_of now (own' good at m) ≡ record (variable_of b own) { pad = Some (turned (type_of_variable b old) (is_little b) bytes) }
  pad_means = padded_means says_now file_now own (own' good at m) inside.0 inside.1 (content_copied (sound good at) edit_now file_now own (has good at) (fits good at) (behind_in good at) behind_now (copied says_now) (packed says_now)) refl

  -- ---- the rules

  count_now : number now (gdr_offset now) (count_of (variables_chain kind)) ≡ number b (gdr_offset b) (count_of (variables_chain kind))
  count_now =
      let g = count_of (variables_chain kind) in
      ap (λ (x : ℕ). number now x g) (gdr_place (sound good at) edit_now t.file_clear) ∙ gdr_same f g (early_gdr kind).1 ∙ ap (λ (x : ℕ). number late x g) (sym (gdr_is (sound good at) m)) ∙ m.joined.counted ∙ ap (λ (x : ℕ). number b x g) (gdr_is (sound good at) m ∙ sym (sound good at).has_shape.gdr_is)

  ruled : IsRuled now rs (own' good at m)
  ruled =
      let rules = ruled_before good at freed_splices in
      let size : size_at now by ≡ needed = (let k = by_kept in size_kept late now by k.same (let l = k.long in omega arith)) ∙ joined_size (sound good at) m in (
        rules_stay (sound good at) edit_now file_now own (has good at) (fits good at) (behind_in good at) behind_now (copied says_now) (packed says_now) [] [] rules.0
            (ap (λ (name : List ℕ). not (length name == 0)) (name_is says_now inside.0 inside.1) ∙ rules.0.0) refl (subst (λ (n : ℕ). vdr_end now by ≤ n) (end_now ∙ sym size) (le_refl (vdr_end now by))) (subst (λ (n : ℕ). size_at b old ≤ n) (sym size) (let l = says.short in omega arith)),
        index_rules_stay (sound good at) edit_now file_now own (has good at) (fits good at) (behind_in good at) behind_now (copied says_now) (packed says_now) rules.1,
      )

  abbrev shape_then : Shape
  shape_then = with_shapes s kind rs (shape now).unused (before ++ own' good at m ∷ after)

  same_owners : (x : ℕ) → (In x (by ∷ old ∷ []) → ⊥) → used_times shape_then x ≡ used_times s x
  same_owners x out = omega (arith, traded good at m says x, times-none x (old ∷ []) (λ i. out (inr i)), times-none x (by ∷ []) (λ i. out (inl (the_one by x i))))

  pub freed_good : length late ≤ image_limit → Good now
  freed_good short =
      let image = good_by_its_shape b good in
      let e = as_long_now f in
      replaced_good good at freed_splices (replaced_counted good at freed_splices count_now (nums_from (sound good at) edit_now file_now before (ours good at).0 front_live) (nums_from (sound good at) edit_now file_now after (after_ours good at) back_live) (num_is says_now))
      ruled (replaced_named good at freed_splices (name_is says_now inside.0 inside.1))
      (owned_once_if b now s shape_then all_marks (by ∷ old ∷ []) (sound good at) image.owned_once edit_now same_owners
      (of_both (IsSorted now shape_then) (λ type size. inl ((λ u. (plain_kind kind).no_uir (sym (typed good at) ∙ sym says_now.typed ∙ u)), by_once good at m says)) (inr (freed_type f, old_unowned good at m says))))
      (gdr_same f gdr_eof (omega arith) ∙ ends (sound good at) m ∙ sym e) (omega arith)

  -- ---- the acts, and what is left of the old one

  abbrev pub acts : List Act
  acts = Took by needed ∷ Gave old (size_at b old) ∷ []

  pub acts_now : ActsFollow b now acts
  acts_now = freed_acts f (joined_acts (sound good at) m _ (late_is good at m says))

  pub long_now : length now ≡ length late
  long_now = as_long_now f

  -- ---- what `set-pad` does

  pub moved_sets_pad : SetsPad b now old by acts
  moved_sets_pad =
      let over : size_at b old < vdr_end now by = subst (λ (n : ℕ). size_at b old < n) (sym end_now) says.short in
      record {
        acts_are = rw (lt-leb (vdr_end now by) (size_at b old) over) (ap (λ (k : ℕ). Took by k ∷ Gave old (size_at b old) ∷ []) (sym end_now));
        copied = says_now.alike;
        flags_are = says_now.flags_are;
        room = λ l. absurd (omega (arith, over, l));
        freed = linked_bytes f acts (old_live good at m).vdr (through 28 340 (size_at b old) (omega arith) (long good at));
      }

  -- ---- what the command may change

  unused_keep : (may : Allowances) → AllKeep b now may acts (owned_by Unused (unused_records b s))
  unused_keep may =
      let w = fills (sound good at) m in
      let j = m.joined in
      let late_clear = (join_tests kind b s.unused by needed).lately in
      freed_keeps_unused f may acts (listed_marks (sound good at) w j.linked j.as_long late_clear (ap (λ (y : Shape). y.records) (late_is good at m says)))
      (λ x i out. (loose_away (sound good at) w j.linked j.as_long late_clear x i out, λ l. out (listed_before (sound good at) w j.linked j.as_long late_clear x i l)))

  module _ (variable : Variable) where
    abbrev found : Found
    found = record { kind = kind; number = length before; variable = variable }

    abbrev may : Allowances
    may = set_pad_changes b s found

    beside_keeps : (k x : ℕ) → length before ≢ k → In x (vdrs (shapes_of s kind)) → KeptButLink b now x → Keeps b now x (may.variables kind k x)
    beside_keeps k x ne i l =
        let only : may.variables kind k x ≡ Only (next_field ∷ []) = rw (same_as_itself kind, ne_eqb (length before) k ne, eq-eqb (type_at b x) (vdr_type kind) ((member_in (sound good at) m x i).1 ∙ kind_type kind)) refl in
        subst (Keeps b now x) (sym only) (next_keeps (sound good at) edit_now t (records_now f) x (member_in (sound good at) m x i).0 l)

    own_may : Keeps b now old (may.variables kind (length before) old)
    own_may = subst (Keeps b now old) (sym (vdr_allowance b found before own after at.was refl (typed good at ∙ kind_type kind) (no_block good at) (record stays_own { vdr = Anything }) (next_field ∷ []))) tt

    pub keeps_now : AllKeep b now may acts (owned b s)
    keeps_now =
        let keep = keep_numbered (sound good at) edit_now t (records_now f) may acts kind in
        keep_with_kind (sound good at) edit_now t (records_now f) may.variables acts (λ k x. rw (other_stays kind) refl)
        (keep_variable_parts b now may acts kind before own after at.was
        (keep 0 before (ours good at).0 (λ k x low high i inside. beside_keeps k x (λ q. omega (arith, q, high)) (beside good at m x (inl i)).0 (links_now x (inl i))))
        (keep_own b now may acts kind (length before) own own_may (λ x i. stood (sound good at) edit_now (records_now f) x (behind_in good at x i) (behind_now x i)))
        (keep (suc (length before)) after (after_ours good at) (λ k x low high i inside. beside_keeps k x (λ q. omega (arith, q, low)) (beside good at m x (inr i)).0 (links_now x (inr i)))))
        (attributes_kept (sound good at) freed_splices) (unused_keep may)
