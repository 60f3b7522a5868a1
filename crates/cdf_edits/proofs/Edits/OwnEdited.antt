-- One variable of a kind is another one by now, or has another index, and may say otherwise of itself, where all other variables stay: the shape, the content and the rules of the image.
use Rattle.cdf_edits.proofs.Edits.StepEdits.{gdr_long}
use Rattle.cdf_edits.proofs.Edits.RecordFrame.{gdr_part, chain_stays, gdr_field, gdr_place, file_same}
use Rattle.cdf_edits.proofs.Edits.MarkLemmas.{the_one}
use Rattle.cdf_edits.proofs.Edits.EditActs.{acts_none}
use Rattle.cdf_edits.proofs.Edits.OwnedOnce.{used_times, owned_once_if}
use Rattle.cdf_edits.proofs.Rules.WithoutLinks.{eof_by_rules, number_rows_kept}
use Rattle.cdf_edits.proofs.Edits.VariableFrame.{IsRuled, variables_away, remain_from}
use Rattle.cdf_edits.proofs.Edits.VariableKept.{OnlyVariable, only_variable}
use Rattle.cdf_edits.proofs.Edits.VariableKinds.{kind_ours, other_kind, with_shapes, vdrs_rows, in_gdr, counted_before, vdrs_rows_kept, keeps_kind, kind_chain, variables_of_are}
use Rattle.cdf_edits.proofs.Edits.VariableNames.{own_names_apart, apart_if, IsBeside}
use Rattle.cdf_edits.proofs.Edits.VariableSplice.{VariableSplices, shape_now, good_image_if, keeps_all_attributes, content_now, parts_ruled}
use Rattle.cdf_edits.proofs.Frame.Meaning.{FileSame}
use Rattle.cdf_edits.proofs.Frame.OwnersApart.{all_variable_records}
use Rattle.cdf_edits.proofs.Common.{ActsFollow, Avoids, Away, DataSet, Edit, Field, Good, HasShape, HasVariable, Hold, In, IsChain, Kind, List, Mark, Nodes, OwnedOnce, R, Shape, Variable, VariableShape, Z, [], ap, arith, avoided, bytes_eq, cast_signed, content, content_is, count_of, eof, false, fixed_size, flat_map, gdr_eof, gdr_offset, gdr_r_max_rec, gdr_type, gdr_uir_head, good_by_its_shape, good_long, head_of, image_limit, inl, inr, integer4, is_record_type, keeps_file, length, length-append, length-map, map, map-append, name_in, number, number_rows, owned, r_max_rec, refl, rules_of_good, sealed_kept, set_at, shape, shape_is, shapes_of, size_at, slice_set, subst, suc, sym, true, type_at, type_in, uir_type, unmarked, variable_of, variable_records, variables_chain, variables_of, vdr_name, vdr_num, vdrs, vdrs_append, w32, with_variables, word_kept, ℕ, ◌++◌, ◌+◌, ◌==◌, ◌∙◌, ◌∷◌, ◌≡◌, ◌≤◌}
use Rattle.cdf_edits.proofs.Edits.StandsAmong.{StandsAmong, sound, ours, after_ours}

-- ---- one variable of a kind became another one

numbers_replaced : (rule : ℕ) (b now : List ℕ) (f : Field) (n : ℕ) (before : List VariableShape) (own mine : VariableShape) (after : List VariableShape) → ((m : ℕ) → In m (vdrs before) → number now m f ≡ number b m f) → ((m : ℕ) → In m (vdrs after) → number now m f ≡ number b m f) → number now mine.vdr f ≡ number b own.vdr f
    → Hold (number_rows rule b f n (vdrs (before ++ own ∷ after))) → Hold (number_rows rule now f n (vdrs (before ++ mine ∷ after)))
numbers_replaced rule b now f n [] own mine after front back same rules = (ap (λ (k : ℕ). k == n) same ∙ rules.0, subst Hold (sym (number_rows_kept rule b now f (suc n) (vdrs after) back)) rules.1)
numbers_replaced rule b now f n (v ∷ before) own mine after front back same rules = (ap (λ (k : ℕ). k == n) (front v.vdr (inl refl)) ∙ rules.0, numbers_replaced rule b now f (suc n) before own mine after (λ m i. front m (inr i)) back same rules.1)

module _ {b now : List ℕ} {kind : Kind} {before : List VariableShape} {own mine : VariableShape} {after : List VariableShape} {new list : List ℕ} {marks : List Mark} {reborn : List ℕ} (good : Good b) (at : StandsAmong b kind before own after) (sp : VariableSplices b now (shape b) kind new list marks reborn before (own ∷ []) (mine ∷ []) after) where
  pub replaced_content : content now ≡ with_variables (content b) kind (slice_set (variables_of (content b) kind) (length before) (variable_of now mine))
  replaced_content =
      let split : variables_of (content b) kind ≡ map (variable_of b) before ++ variable_of b own ∷ map (variable_of b) after =
      ap (λ (d : DataSet). variables_of d kind) (content_is b (shape b) (sound good at).has_shape) ∙ variables_of_are b (shape b) kind ∙ ap (map (variable_of b)) at.was ∙ map-append (variable_of b) before (own ∷ after) in
      let set = ap (λ (vs : List Variable). slice_set vs (length before) (variable_of now mine)) split ∙ set_at (map (variable_of b) before) (variable_of b own) (map (variable_of b) after) (variable_of now mine) (length before) (length-map before (variable_of b)) in
      content_now (sound good at) sp ∙ ap (with_variables (content b) kind) (sym set)

  -- the variable had its rules
  pub ruled_before : IsRuled b (shape b).records own
  ruled_before = (parts_ruled (sound good at) sp (good_by_its_shape b good)).0.1.0.0

  -- those of the kind are counted as before, and have their numbers
  pub replaced_counted : number now (gdr_offset now) (count_of (variables_chain kind)) ≡ number b (gdr_offset b) (count_of (variables_chain kind)) → ((m : ℕ) → In m (vdrs before) → number now m vdr_num ≡ number b m vdr_num) → ((m : ℕ) → In m (vdrs after) → number now m vdr_num ≡ number b m vdr_num) → number now mine.vdr vdr_num ≡ number b own.vdr vdr_num
      → Hold (vdrs_rows kind now (vdrs (before ++ mine ∷ after)))
  replaced_counted count front back same = by kind count (subst (λ (vs : List VariableShape). Hold (vdrs_rows kind b (vdrs vs))) at.was (counted_before (good_by_its_shape b good) kind))
    where
      many : length (vdrs (before ++ mine ∷ after)) ≡ length (vdrs (before ++ own ∷ after))
      many = simp (vdrs_append, length-append)

      by : (k : Kind) → number now (gdr_offset now) (count_of (variables_chain k)) ≡ number b (gdr_offset b) (count_of (variables_chain k)) → Hold (vdrs_rows k b (vdrs (before ++ own ∷ after))) → Hold (vdrs_rows k now (vdrs (before ++ mine ∷ after)))
      by R count rules = let long = many in ((λ i. count i == long i) ∙ rules.0, numbers_replaced 7 b now vdr_num 0 before own mine after front back same rules.1)
      by Z count rules = let long = many in ((λ i. count i == long i) ∙ rules.0, numbers_replaced 10 b now vdr_num 0 before own mine after front back same rules.1)

  -- with the name that it had
  pub replaced_named : name_in now mine.vdr vdr_name ≡ name_in b own.vdr vdr_name → (m : ℕ) → IsBeside (sound good at) sp m → bytes_eq (name_in now mine.vdr vdr_name) (name_in b m vdr_name) ≡ false
  replaced_named same m beside = subst (λ (n : List ℕ). bytes_eq n (name_in b m vdr_name) ≡ false) (sym same) (own_names_apart (sound good at) sp (good_by_its_shape b good) own.vdr m (inl refl) beside)

  -- where it has its rules again, with a name that no other has
  pub replaced_good : Hold (vdrs_rows kind now (vdrs (before ++ mine ∷ after))) → IsRuled now new mine → ((m : ℕ) → IsBeside (sound good at) sp m → bytes_eq (name_in now mine.vdr vdr_name) (name_in b m vdr_name) ≡ false) → OwnedOnce now (with_shapes (shape b) kind new list (before ++ mine ∷ after)) → eof now (shape b).gdr ≡ length now
      → length now ≤ image_limit → Good now
  replaced_good counted ruled named owned end short =
      let image = good_by_its_shape b good in
      good_image_if (sound good at) sp (sealed_kept b (good_long b (shape b) image) (rules_of_good b good)).0 image (record {
        counted = counted;
        apart = apart_if (sound good at) sp image (λ y z i j differ. absurd (differ (the_one mine.vdr y i ∙ sym (the_one mine.vdr z j)))) (λ y z i beside. subst (λ (u : ℕ). bytes_eq (name_in now u vdr_name) (name_in b z vdr_name) ≡ false) (sym (the_one mine.vdr y i)) (named z beside));
        own_ruled = (ruled, tt);
        owned = owned;
      }) end short

-- ---- its descriptor stays in its place

-- No mark meets another variable, the links and the numbers of descriptors, the attributes, or what the file says.
pub record OwnEdit (b now : List ℕ) (kind : Kind) (own : VariableShape) (index : Nodes) (new list : List ℕ) (marks : List Mark) (reborn : List ℕ) : Type 0 where
  pub edit : Edit b now (shape b).records new marks reborn
  pub file_clear : keeps_file marks ≡ true
  pub attributes_clear : keeps_all_attributes marks ≡ true
  pub other_clear : keeps_kind marks (other_kind kind) ≡ true
  pub head_clear : avoided marks gdr_type (head_of (variables_chain kind)).place ((head_of (variables_chain kind)).place + (head_of (variables_chain kind)).width) ≡ true
  pub count_clear : avoided marks gdr_type (count_of (variables_chain kind)).place ((count_of (variables_chain kind)).place + (count_of (variables_chain kind)).width) ≡ true
  pub beside : (m : ℕ) → In m (all_variable_records (shape b)) → (In m (variable_records own) → ⊥) → Away marks (type_at b m) m
  pub linked : (m : ℕ) → Avoids marks (type_in (variables_chain kind)) m 0 20
  pub nums : (m : ℕ) → In m (vdrs (shapes_of (shape b) kind)) → number now m vdr_num ≡ number b m vdr_num
  pub typed : (m : ℕ) → In m reborn → (is_record_type (type_at now m) ≡ true) × (fixed_size (type_at now m) ≤ size_at now m)
  pub unused_chain : IsChain now new uir_type (number now (shape b).gdr gdr_uir_head) list
  pub has_now : HasVariable now new (record own { index = index })

module _ {b now : List ℕ} {kind : Kind} {before : List VariableShape} {own : VariableShape} {after : List VariableShape} {index : Nodes} {new list : List ℕ} {marks : List Mark} {reborn : List ℕ} (good : Good b) (at : StandsAmong b kind before own after) (x : OwnEdit b now kind own index new list marks reborn) where
  abbrev s : Shape
  s = shape b

  abbrev type : ℕ
  type = type_in (variables_chain kind)

  abbrev mine : VariableShape
  mine = record own { index = index }

  h : HasShape b s
  h = (sound good at).has_shape

  pub file : FileSame b now
  file = file_same (sound good at) x.edit x.file_clear

  -- no other variable has a record of this one
  pub only : (m : ℕ) → In m (variable_records own) → OnlyVariable b s kind before after m
  only m i = only_variable (sound good at) kind before own after at.was m i

  away : (xs : List ℕ) → ((m : ℕ) → In m xs → In m (all_variable_records s)) → ((m : ℕ) → In m (variable_records own) → In m xs → ⊥) → (m : ℕ) → In m xs → Away marks (type_at b m) m
  away xs sub out m i = x.beside m (sub m i) (λ j. out m j i)

  pub same_vdrs : vdrs (before ++ mine ∷ after) ≡ vdrs (shapes_of s kind)
  same_vdrs = vdrs_append before (mine ∷ after) ∙ sym (vdrs_append before (own ∷ after)) ∙ sym (ap vdrs at.was)

  gdr_same : (g : Field) → avoided marks gdr_type g.place (g.place + g.width) ≡ true → g.place + g.width ≤ 84 → number now s.gdr g ≡ number b s.gdr g
  gdr_same g clear l = gdr_field (sound good at) x.edit x.file_clear g clear l

  abbrev others : List VariableShape
  others = shapes_of s (other_kind kind)

  pub splices : VariableSplices b now s kind new list marks reborn before (own ∷ []) (mine ∷ []) after
  splices =
      let before_remain = remain_from (sound good at) x.edit file before (ours good at).0 (variables_away (sound good at) x.edit before (ours good at).0 (away (flat_map variable_records before) (ours good at).0.sub (λ m i. (only m i).in_before))) in
      let after_remain = remain_from (sound good at) x.edit file after (after_ours good at) (variables_away (sound good at) x.edit after (after_ours good at) (away (flat_map variable_records after) (after_ours good at).sub (λ m i. (only m i).in_after))) in
      let others_live = variables_away (sound good at) x.edit others (kind_ours b s (sound good at) (other_kind kind)) (away (flat_map variable_records others) (kind_ours b s (sound good at) (other_kind kind)).sub (λ m i. (only m i).in_others)) in
      let chain = subst (λ (ms : List ℕ). IsChain now new type (number now s.gdr (head_of (variables_chain kind))) ms) (sym same_vdrs)
      (chain_stays x.edit type _ _ (vdrs (shapes_of s kind)) (kind_chain kind h) (gdr_same (head_of (variables_chain kind)) x.head_clear (in_gdr kind).0) (λ m i. x.linked m)) in
      grind (arith, at, x, before_remain, after_remain, others_live, chain)

  -- ---- the shape and the content

  pub same_shape : shape now ≡ with_shapes s kind new list (before ++ mine ∷ after)
  same_shape = shape_is now _ (shape_now (sound good at) splices)

  pub records_are : (shape now).records ≡ new
  records_are = ap (λ (y : Shape). y.records) same_shape

  pub unused_are : (shape now).unused ≡ list
  unused_are = ap (λ (y : Shape). y.unused) same_shape

  pub among_now : StandsAmong now kind before mine after
  among_now = record { was = ap (λ (y : Shape). shapes_of y kind) same_shape ∙ by kind }
    where
      by : (k : Kind) → shapes_of (with_shapes s k new list (before ++ mine ∷ after)) k ≡ before ++ mine ∷ after
      by R = refl
      by Z = refl

  pub others_are : shapes_of (shape now) (other_kind kind) ≡ others
  others_are = ap (λ (y : Shape). shapes_of y (other_kind kind)) same_shape ∙ by kind
    where
      by : (k : Kind) → shapes_of (with_shapes s k new list (before ++ mine ∷ after)) (other_kind k) ≡ shapes_of s (other_kind k)
      by R = refl
      by Z = refl

  pub content_replaced : content now ≡ with_variables (content b) kind (slice_set (variables_of (content b) kind) (length before) (variable_of now mine))
  content_replaced = replaced_content good at splices

  pub r_max_rec_kept : avoided marks gdr_type 52 56 ≡ true → r_max_rec now ≡ r_max_rec b
  r_max_rec_kept clear =
      let same = gdr_part (sound good at) x.edit x.file_clear 52 56 clear (let l = gdr_long b s h in omega arith) in
      ap (λ (y : ℕ). integer4 now y gdr_r_max_rec) (gdr_place (sound good at) x.edit x.file_clear)
      ∙ ap (cast_signed w32) (word_kept b now (s.gdr + 52) (s.gdr + 56) same (s.gdr + 52) 4 (omega arith) (omega arith))
      ∙ sym (ap (λ (y : ℕ). integer4 b y gdr_r_max_rec) h.gdr_is)

  -- ---- the rules

  count_same : number now (gdr_offset now) (count_of (variables_chain kind)) ≡ number b (gdr_offset b) (count_of (variables_chain kind))
  count_same =
      let g = count_of (variables_chain kind) in
      ap (λ (y : ℕ). number now y g) (gdr_place (sound good at) x.edit x.file_clear) ∙ gdr_same g x.count_clear (in_gdr kind).1 ∙ sym (ap (λ (y : ℕ). number b y g) h.gdr_is)

  counted : Hold (vdrs_rows kind now (vdrs (before ++ mine ∷ after)))
  counted =
      let same = vdrs_rows_kept kind b now (vdrs (shapes_of s kind)) (gdr_place (sound good at) x.edit x.file_clear ∙ sym h.gdr_is) count_same x.nums in
      subst (λ (ms : List ℕ). Hold (vdrs_rows kind now ms)) (sym same_vdrs) (subst Hold (sym same) (counted_before (good_by_its_shape b good) kind))

  pub own_ruled : IsRuled b s.records own
  own_ruled = ruled_before good at splices

  -- where it has them again, with a name that no other has
  pub good_by : IsRuled now new mine → ((m : ℕ) → IsBeside (sound good at) splices m → bytes_eq (name_in now own.vdr vdr_name) (name_in b m vdr_name) ≡ false) → OwnedOnce now (with_shapes s kind new list (before ++ mine ∷ after)) → eof now s.gdr ≡ length now → length now ≤ image_limit → Good now
  good_by = replaced_good good at splices counted

  pub named_before : name_in now own.vdr vdr_name ≡ name_in b own.vdr vdr_name → (m : ℕ) → IsBeside (sound good at) splices m → bytes_eq (name_in now own.vdr vdr_name) (name_in b m vdr_name) ≡ false
  named_before = replaced_named good at splices

-- where no record is made or freed, and the variable keeps its index
module _ {b now : List ℕ} {kind : Kind} {before : List VariableShape} {own : VariableShape} {after : List VariableShape} {marks : List Mark} (good : Good b) (at : StandsAmong b kind before own after) (x : OwnEdit b now kind own own.index (shape b).records (shape b).unused marks []) (as_long : length now ≡ length b) where
  as_was : with_shapes (shape b) kind (shape b).records (shape b).unused (before ++ own ∷ after) ≡ shape b
  as_was = ap (with_shapes (shape b) kind (shape b).records (shape b).unused) (sym at.was) ∙ by_itself kind
    where
      by_itself : (kind : Kind) → with_shapes (shape b) kind (shape b).records (shape b).unused (shapes_of (shape b) kind) ≡ shape b
      by_itself R = refl
      by_itself Z = refl

  pub shape_stays : shape now ≡ shape b
  shape_stays = same_shape good at x ∙ as_was

  pub good_in_place : avoided marks gdr_type gdr_eof.place (gdr_eof.place + gdr_eof.width) ≡ true → IsRuled now (shape b).records own → ((m : ℕ) → IsBeside (sound good at) (splices good at x) m → bytes_eq (name_in now own.vdr vdr_name) (name_in b m vdr_name) ≡ false) → length b ≤ image_limit → Good now
  good_in_place clear ruled named short =
      let image = good_by_its_shape b good in
      let first = (sealed_kept b (good_long b (shape b) image) (rules_of_good b good)).0 in
      good_by good at x ruled named (owned_once_if b now (shape b) (with_shapes (shape b) kind (shape b).records (shape b).unused (before ++ own ∷ after)) marks [] (sound good at) image.owned_once x.edit (λ m out. ap (λ (y : Shape). used_times y m) as_was) (λ m i. absurd i))
      (gdr_field (sound good at) x.edit x.file_clear gdr_eof clear (omega arith) ∙ eof_by_rules b (shape b) (sound good at) first ∙ sym as_long) (omega arith)

  pub no_acts_follow : unmarked marks uir_type ≡ true → ActsFollow b now []
  no_acts_follow clear = acts_none (sound good at) x.edit clear refl (records_are good at x) (unused_are good at x) as_long
