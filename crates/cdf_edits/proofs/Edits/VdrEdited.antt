-- An edit that changes a VDR where it stands, behind its link and in what leaves the variable its records: the image has its shape and its rules, and the other variables stay.
use Rattle.cdf_edits.proofs.Common.{AllKeep, Allowances, Among, Avoids, Away, ByStep, Command, Does, Edit, Field, File, Follows, Go, Good, HasShape, In, IsGoodByShape, Keeps, Kind, Lies, List, Mark, Only, Reply, Shape, Unused, VariableShape, Where, Within, [], all_unmarked, allowances, ap, arith, avoided, bytes_eq, cases_eq, content, false, fixed_size, flat_map, gdr_type, gdr_uir_head, has_name, image_limit, index_types, inl, inr, is_compressed, keeps_file, length, linkable-in, linkable-type, name_in, number, number_kept, only_reads, owned, refl, shape, shapes_of, size_at, slice_set, step, subst, sym, true, true≢false, type_at, type_in, uir_type, unmarked, unused_records, variable_of, variable_records, variables_chain, variables_of, vdr_end, vdr_name, vdr_num, vdrs, with_variables, ℕ, ◌∙◌, ◌∷◌, ◌≡◌, ◌≤◌}
use Rattle.cdf_edits.proofs.Commands.KeptRecords.{Stood, keep_owned, keep_attributes}
use Rattle.cdf_edits.proofs.Edits.Composing.{head_size}
use Rattle.cdf_edits.proofs.Edits.MarkLemmas.{all_unmarked-away}
use Rattle.cdf_edits.proofs.Edits.OwnedOnce.{all_attributes_in}
use Rattle.cdf_edits.proofs.Edits.OwnersKept.{stood, keeps_within}
use Rattle.cdf_edits.proofs.Edits.RecordFrame.{index_records, kept_away, chain_stays, gdr_field, file_same}
use Rattle.cdf_edits.proofs.Edits.StepEdits.{fixed_long}
use Rattle.cdf_edits.proofs.Edits.VariableCopied.{links_copied, index_rules_stay, rules_stay}
use Rattle.cdf_edits.proofs.Edits.VariableFrame.{IsRuled, index_typed, variables_in}
use Rattle.cdf_edits.proofs.Edits.VariableKept.{keep_one_variable}
use Rattle.cdf_edits.proofs.Edits.VariableKinds.{other_kind, keeps_kind, kind_chain, kind_ours}
use Rattle.cdf_edits.proofs.Edits.VariableNames.{IsBeside}
use Rattle.cdf_edits.proofs.Edits.VariableSplice.{VariableSplices, keeps_all_attributes}
use Rattle.cdf_edits.proofs.Frame.Meaning.{FileSame, Kept}
use Rattle.cdf_edits.proofs.Frame.OwnersApart.{all_attribute_records, all_variable_records, file_in, unused_in}
use Rattle.cdf_edits.proofs.Frame.VdrCopied.{VdrCopied}
use Rattle.cdf_edits.proofs.Edits.OwnEdited.{OwnEdit, shape_stays, good_in_place, no_acts_follow}
use Rattle.cdf_edits.proofs.Edits.OwnEdited as of_own
pub use Rattle.cdf_edits.proofs.Edits.StandsAmong.{StandsAmong, through, in_middle, high, least_size, name_room, sound, tile, typed, long, ours, after_ours, has, fits, behind_in, behind_ours, only, no_block}

-- each mark is in the record at a place, behind its link
abbrev pub AreIn : ℕ → List Mark → Type 0
AreIn v [] = Unit {0}
AreIn v (k ∷ more) = (k.tiles ≡ Among (v ∷ [])) × (20 ≤ k.place) × AreIn v more

-- no mark is of another type than that of a VDR of the kind
pub record MarkTests (kind : Kind) (marks : List Mark) : Type 0 where
  pub file_clear : keeps_file marks ≡ true
  pub attributes_clear : keeps_all_attributes marks ≡ true
  pub other_clear : keeps_kind marks (other_kind kind) ≡ true
  pub index_clear : all_unmarked marks index_types ≡ true
  pub unused_clear : unmarked marks uir_type ≡ true
  pub gdr_clear : (lo hi : ℕ) → avoided marks gdr_type lo hi ≡ true

pub record EditsVdr (b now : List ℕ) (kind : Kind) (own : VariableShape) (marks : List Mark) : Type 0 where
  pub edit : Edit b now (shape b).records (shape b).records marks []
  pub as_long : length now ≡ length b
  pub own_marks : AreIn own.vdr marks
  pub tests : MarkTests kind marks
  pub copied : VdrCopied b now own.vdr own.vdr
  pub num_is : number now own.vdr vdr_num ≡ number b own.vdr vdr_num
  pub packed : is_compressed now own.vdr ≡ is_compressed b own.vdr
  pub end_fits : vdr_end now own.vdr ≤ size_at b own.vdr

away_from : (v : ℕ) (marks : List Mark) → AreIn v marks → (type m : ℕ) → (m ≡ v → ⊥) → Away marks type m
away_from v [] own type m other = tt
away_from v (k ∷ more) own type m other = ((λ same lies. elim (subst (λ (w : Where). Lies w m) own.0 lies) [ inl q ↦ other q | inr none ↦ none ]), away_from v more own.2 type m other)

links_avoid : (v : ℕ) (marks : List Mark) → AreIn v marks → (type m lo hi : ℕ) → hi ≤ 20 → Avoids marks type m lo hi
links_avoid v [] own type m lo hi l = tt
links_avoid v (k ∷ more) own type m lo hi l = ((λ same lies. inl (through hi 20 k.place l own.1)), links_avoid v more own.2 type m lo hi l)

-- ---- its VDR is another

module _ {b now : List ℕ} {kind : Kind} {before : List VariableShape} {own : VariableShape} {after : List VariableShape} {marks : List Mark} (good : Good b) (at : StandsAmong b kind before own after) (w : EditsVdr b now kind own marks) where
  abbrev s : Shape
  s = shape b

  abbrev v : ℕ
  v = own.vdr

  abbrev type : ℕ
  type = type_in (variables_chain kind)

  h : HasShape b s
  h = (sound good at).has_shape

  abbrev t : MarkTests kind marks
  t = w.tests

  abbrev edit : Edit b now s.records s.records marks []
  edit = w.edit

  pub file : FileSame b now
  file = file_same (sound good at) edit t.file_clear

  away : (m : ℕ) → (m ≡ v → ⊥) → Away marks (type_at b m) m
  away m other = away_from v marks w.own_marks (type_at b m) m other

  early : (of m lo hi : ℕ) → hi ≤ 20 → Avoids marks of m lo hi
  early of m lo hi l = links_avoid v marks w.own_marks of m lo hi l

  size_same : size_at now v ≡ size_at b v
  size_same = head_size b now v (edit.part v type 0 12 (tile good at) (typed good at) (early type v 0 12 (omega arith)) (early type v 0 12 (omega arith)) (let l = long good at in omega arith))

  -- by its type
  pub behind_kept : (m : ℕ) → In m (index_records own) → Kept b now m
  behind_kept m i = kept_away edit m (type_at b m) ((behind_in good at) m i) refl (all_unmarked-away marks index_types (type_at b m) m t.index_clear (index_typed b s own (has good at) (fits good at) m i))

  ruled : IsRuled b s.records own → has_name now v vdr_name ≡ true → IsRuled now s.records own
  ruled rules named = (
    rules_stay (sound good at) edit file own (has good at) (fits good at) (behind_in good at) behind_kept w.copied w.packed [] [] rules.0 named refl (subst (λ (n : ℕ). vdr_end now v ≤ n) (sym size_same) w.end_fits) (subst (λ (n : ℕ). size_at b v ≤ n) (sym size_same) (omega arith)),
    index_rules_stay (sound good at) edit file own (has good at) (fits good at) (behind_in good at) behind_kept w.copied w.packed rules.1,
  )

  not_here : (xs : List ℕ) → (In v xs → ⊥) → (m : ℕ) → In m xs → Away marks (type_at b m) m
  not_here xs out m i = away m (λ q. out (subst (λ (x : ℕ). In x xs) q i))

  abbrev others : List VariableShape
  others = shapes_of s (other_kind kind)

  num_same : (m : ℕ) → In m (vdrs (shapes_of s kind)) → number now m vdr_num ≡ number b m vdr_num
  num_same m i =
      let ok = (kind_chain kind h).linkable m i in
      let inside = linkable-in b s.records type m ok in
      let is = linkable-type b s.records type m ok in
      let wide = through 340 (fixed_size type) (size_at b m) (least_size kind) (fixed_long b s h type m inside is) in
      elim (cases_eq m v) [
        | inl q ↦ subst (λ (x : ℕ). number now x vdr_num ≡ number b x vdr_num) (sym q) w.num_is
        | inr other ↦ number_kept b now m (kept_away edit m (type_at b m) inside refl (away m other)).same vdr_num (omega arith)
      ]

  own_edit : OwnEdit b now kind own own.index s.records s.unused marks []
  own_edit =
      let list = chain_stays edit uir_type _ _ s.unused h.unused_chain (gdr_field (sound good at) edit t.file_clear gdr_uir_head (t.gdr_clear _ _) (omega arith)) (λ m i. early uir_type m 0 20 (omega arith)) in
      let beside = λ (m : ℕ) (i : In m (all_variable_records s)) (out : In m (variable_records own) → ⊥). away m (λ q. out (inl q)) in
      grind (arith, t, list, beside, early type, num_same, links_copied (sound good at) edit file own (has good at) (fits good at) (behind_in good at) behind_kept w.copied w.packed)

  pub splices : VariableSplices b now s kind s.records s.unused marks [] before (own ∷ []) (own ∷ []) after
  splices = of_own.splices good at own_edit

  pub same_shape : shape now ≡ s
  same_shape = shape_stays good at own_edit w.as_long

  records_are : (shape now).records ≡ s.records
  records_are = ap (λ (x : Shape). x.records) same_shape

  pub content_replaced : content now ≡ with_variables (content b) kind (slice_set (variables_of (content b) kind) (length before) (variable_of now own))
  content_replaced = of_own.content_replaced good at own_edit

  pub own_ruled : IsGoodByShape b s → IsRuled b s.records own
  own_ruled image = of_own.own_ruled good at own_edit

  pub good_now : length b ≤ image_limit → has_name now v vdr_name ≡ true → ((m : ℕ) → IsBeside (sound good at) splices m → bytes_eq (name_in now v vdr_name) (name_in b m vdr_name) ≡ false) → Good now
  good_now short named apart = good_in_place good at own_edit w.as_long (t.gdr_clear _ _) (ruled (of_own.own_ruled good at own_edit) named) apart short

  -- ---- what stays

  stands : (xs : List ℕ) → (In v xs → ⊥) → ((m : ℕ) → In m xs → In m s.records) → (m : ℕ) → In m xs → Stood b now m
  stands xs out sub m i = stood (sound good at) edit records_are m (sub m i) (kept_away edit m (type_at b m) (sub m i) refl (not_here xs out m i))

  -- its marks are in these fields
  pub keeps_vdr : (fields : List Field) → Within marks type v fields → Keeps b now v (Only fields)
  keeps_vdr fields lie = keeps_within (sound good at) edit records_are v type fields (tile good at) (typed good at) (early type v 0 12 (omega arith)) lie

  all_keep_but : (may : Allowances) → Keeps b now v (may.variables kind (length before) v) → AllKeep b now may [] (owned b s)
  all_keep_but may vdr =
      keep_one_variable b now may [] kind before own after at.was vdr (λ m i. stood (sound good at) edit records_are m ((behind_in good at) m i) (behind_kept m i))
      (stands (flat_map variable_records before) (only good at).in_before (λ m i. variables_in b s (sound good at) m ((ours good at).0.sub m i)))
      (stands (flat_map variable_records after) (only good at).in_after (λ m i. variables_in b s (sound good at) m ((after_ours good at).sub m i)))
      (stands (flat_map variable_records others) (only good at).in_others (λ m i. variables_in b s (sound good at) m ((kind_ours b s (sound good at) (other_kind kind)).sub m i)))
      (keep_owned b now may [] File (8 ∷ s.gdr ∷ []) (stands (8 ∷ s.gdr ∷ []) (only good at).in_file (file_in b s (sound good at))))
      (keep_attributes b now may [] 0 s.attributes (stands (all_attribute_records s) (only good at).in_attributes (all_attributes_in (sound good at))))
      (keep_owned b now may [] Unused (unused_records b s) (stands (unused_records b s) (only good at).in_unused (unused_in b s (sound good at))))

  -- a command that changes its VDR, and takes and frees nothing
  pub follows_by : (c : Command) (reply : Reply) → only_reads c ≡ false → step (content b) c ≡ ByStep (Go (content now) reply) → Good now → Keeps b now v ((allowances b (content b) s c).variables kind (length before) v) → Does b c now [] → Follows b c now
  follows_by c reply changes goes good_after vdr does = record {
    reply = reply;
    goes = goes;
    good = good_after;
    longer = let l = w.as_long in omega arith;
    within = let l = w.as_long in omega arith;
    reads = λ e. absurd (true≢false (sym e ∙ changes));
    acts = [];
    takes_within = omega arith;
    acts_follow = no_acts_follow good at own_edit w.as_long t.unused_clear;
    keeps = all_keep_but (allowances b (content b) s c) vdr;
    does = does;
  }
