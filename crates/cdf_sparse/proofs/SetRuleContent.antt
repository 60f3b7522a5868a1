-- All blocks of a variable without records went, and then its rule for missing records was written: the variable says the rule, all else that it means stays, and each record keeps what `set-sparse` leaves of it.
use Rattle.cdf_edits.proofs.Common.{Act, AllKeep, Allowance, Allowances, Anything, DataSet, Field, Good, In, Keeps, Kind, List, OneVariable, Only, Option, Range, Stays, Unused, Variable, VariableShape, [], ap, attribute_records, content, eq-eqb, flat_map, if◌then◌else◌, inl, inr, length, linkable-type, number, owned, range_at, refl, shape, shapes_of, space_fields, sparse_at, subst, suc, sym, type_at, uir_type, unused_records, variable_of, variable_records, with_variable, ℕ, ◌==◌, ◌∙◌, ◌∷◌, ◌≡◌}
use Rattle.cdf_edits.proofs.Commands.KeptRecords.{Stood, keep_attributes, keep_variables, keeps_stood}
use Rattle.cdf_edits.proofs.Edits.ActsJoined.{ListedStay}
use Rattle.cdf_edits.proofs.Edits.Common.{FileSame, StandsAmong, keep_all, keep_file, keep_kinds, keep_places, keep_variable_parts, other_kind, sound, stays_then, typed}
use Rattle.cdf_edits.proofs.Edits.StandsAmong.{only}
use Rattle.cdf_edits.proofs.Frame.OwnersApart.{unused_in}
use Rattle.cdf_puts.proofs.Common.{same_as_itself}
use Rattle.cdf_edits.proofs.Edits.RecordGrown.{kept_then}
use Rattle.cdf_edits.specs.Commands.Cuts.{set_sparse_changes}
use Rattle.cdf_format.specs.Records.{vdr_s_records}
use Rattle.cdf_index.proofs.OwnRecords as of_own
use Rattle.cdf_model.specs.declared.kinds.Sparse.{Sparse}
use Rattle.cdf_model.specs.declared.kinds.Sparse.TheVariants.{NoRule, Pad, Previous}
use Rattle.cdf_puts.specs.Going.{IsOther, LooseStay, found_in}
use Rattle.cdf_puts.proofs.GoesKeep.{each_own, unused_stays}
use Rattle.cdf_cuts.proofs.WritesThen.{links}
use Rattle.cdf_cuts.specs.Past.{cut_off, past_acts}
use Rattle.cdf_sparse.proofs.AllContent.{content_stays, same_variable}
use Rattle.cdf_sparse.proofs.CutKept.{cut_cpr, cut_gdr, cut_vdr, heads, none_left}
use Rattle.cdf_sparse.proofs.OwnParameters.{cpr_allowed, cpr_apart}
use Rattle.cdf_sparse.proofs.RuledVdr.{variable_ruled}
use Rattle.cdf_sparse.proofs.SetRuleWritten as of_rule
use Rattle.cdf_sparse.proofs.SetRuleWritten.{used_vdr}
use Rattle.cdf_sparse.specs.SetRule.{RuleWritten, SetRule, rule_code}

-- a number that SRecords has for a rule says the rule
rule_said : (rule : Sparse) (n : ℕ) → n ≡ rule_code rule → (if n == 0 then NoRule else (if n == 1 then Pad else Previous)) ≡ rule
rule_said NoRule n e = rw e refl
rule_said Pad n e = rw e refl
rule_said Previous n e = rw e refl

module _ {b mid now : List ℕ} {kind : Kind} {before : List VariableShape} {own : VariableShape} {after : List VariableShape} {rule : Sparse} (s : SetRule b mid now kind before own after rule) where
  abbrev v : Variable
  v = variable_of b own

  abbrev own' : VariableShape
  own' = cut_off own 0

  abbrev acts : List Act
  acts = past_acts b own 0

  good_mid : Good mid
  good_mid = s.cut.goes_on.good

  among_mid : StandsAmong mid kind before own' after
  among_mid = s.cut.goes_on.among

  w : RuleWritten mid now own'.vdr (rule_code rule)
  w = s.written

  -- ---- what the write leaves

  -- each record stands where it stood
  pub rule_lies : (shape now ≡ shape mid) × (length now ≡ length b)
  rule_lies = (of_rule.rule_shape good_mid among_mid w, s.written.as_long ∙ s.cut.long)

  -- what the CDR and the GDR say of other records, the descriptor but for SRecords, and each other record
  pub rule_file : FileSame mid now
  rule_file = of_rule.file good_mid among_mid w

  pub rule_vdr : Stays mid now own.vdr (vdr_s_records ∷ [])
  rule_vdr = of_rule.vdr_stays good_mid among_mid w

  pub rule_beside : (m : ℕ) → In m (shape mid).records → (m ≡ own.vdr → ⊥) → Stood mid now m
  rule_beside = of_rule.stood_beside good_mid among_mid w

  pub rule_among : StandsAmong now kind before own' after
  rule_among = of_rule.rule_among good_mid among_mid w

  -- ---- the content

  pub rule_is : sparse_at now own.vdr ≡ rule
  rule_is = rule_said rule (number now own.vdr vdr_s_records) s.written.code_is

  pub variable_is : variable_of now own' ≡ record v { sparse = rule }
  variable_is =
      let was = same_variable s.good s.among s.cut.goes_on (cut_vdr s.good s.among s.cut) s.none_stored in
      let said = rule_is in
      variable_ruled rule_file own' (of_rule.ruled_vdr good_mid among_mid w) (none_left s.good s.among s.cut) ∙ (λ i. record (was i) { sparse = said i })

  pub content_ruled : content now ≡ with_variable (content b) (found_in b kind before own) (record v { sparse = rule })
  content_ruled =
      of_rule.rule_content good_mid among_mid w ∙ ap (λ (u : Variable). with_variable (content mid) (found_in b kind before own) u) variable_is
      ∙ ap (λ (d : DataSet). with_variable d (found_in b kind before own) (record v { sparse = rule })) (content_stays s.good s.among s.cut.goes_on (cut_vdr s.good s.among s.cut) s.none_stored)

  -- ---- the records beside the descriptor

  beside : (m : ℕ) (fs : List Field) → (m ≡ own.vdr → ⊥) → Stays b mid m fs → Stays b now m fs
  beside m fs other x = stays_then b mid now m fs [] fs x (keeps_stood mid now m (rule_beside m x.stands other) (Only [])) (λ i o. (o, tt))

  stood_then : (m : ℕ) → (m ≡ own.vdr → ⊥) → Stood b mid m → Stood b now m
  stood_then m other x =
      let y = rule_beside m x.stands other in
      record { stands = y.stands; whole = kept_then b mid now m x.whole y.whole }

  no_unused : (m : ℕ) → type_at b m ≡ uir_type → m ≡ own.vdr → ⊥
  no_unused m u e = used_vdr kind (sym (typed s.good s.among) ∙ ap (type_at b) (sym e) ∙ u)

  loose_then : LooseStay b now
  loose_then m i u out = beside m [] (no_unused m u) (s.cut.goes_on.loose m i u out)

  listed_then : ListedStay b now acts
  listed_then m j free =
      let ok = (sound s.good s.among).has_shape.unused_chain.linkable m j in
      beside m links (no_unused m (linkable-type b (shape b).records uir_type m ok)) (s.cut.goes_on.listed m j free)

  other_than : (m : ℕ) → IsOther (shape b).attributes before after (shapes_of (shape b) (other_kind kind)) m → m ≡ own.vdr → ⊥
  other_than m (inl q) e = (only s.good s.among).in_file (inl (sym e ∙ q))
  other_than m (inr (inl i)) e = (only s.good s.among).in_attributes (subst (λ (x : ℕ). In x (flat_map attribute_records (shape b).attributes)) e i)
  other_than m (inr (inr (inl i))) e = (only s.good s.among).in_before (subst (λ (x : ℕ). In x (flat_map variable_records before)) e i)
  other_than m (inr (inr (inr (inl i)))) e = (only s.good s.among).in_after (subst (λ (x : ℕ). In x (flat_map variable_records after)) e i)
  other_than m (inr (inr (inr (inr i)))) e = (only s.good s.among).in_others (subst (λ (x : ℕ). In x (flat_map variable_records (shapes_of (shape b) (other_kind kind)))) e i)

  stay_then : (m : ℕ) → IsOther (shape b).attributes before after (shapes_of (shape b) (other_kind kind)) m → Stood b now m
  stay_then m i = stood_then m (other_than m i) (s.cut.goes_on.stay m i)

  gdr_then : Stays b now (shape b).gdr space_fields
  gdr_then = beside (shape b).gdr space_fields (λ e. (only s.good s.among).in_file (inr (inl (sym e)))) (cut_gdr s.good s.among s.cut)

  -- ---- the records of the variable

  abbrev fields : List Field
  fields = vdr_s_records ∷ heads

  vdr_then : Stays b now own.vdr fields
  vdr_then = stays_then b mid now own.vdr heads (vdr_s_records ∷ []) fields (cut_vdr s.good s.among s.cut) rule_vdr (λ i o. (o.1, (o.0, tt)))

  abbrev may : Allowances
  may = set_sparse_changes b (shape b) (found_in b kind before own)

  abbrev own_may : ℕ → Allowance
  own_may m = may.variables kind (length before) m

  abbrev block_may : Range → Allowance
  block_may r = Anything

  allowed : (m : ℕ) (o : Option Range) → range_at (shape b) (found_in b kind before own) m ≡ o → own_may m ≡ of_own.by_range b kind fields block_may m o
  allowed m o e = let same = same_as_itself kind in let number = eq-eqb (length before) (length before) refl in rw (same, number, e)

  own_keeps : (m : ℕ) → In m (variable_records own) → Keeps b now m (own_may m)
  own_keeps = each_own (λ (m : ℕ). Keeps b now m (own_may m)) own (rw (of_own.descriptor_allowed (found_in b kind before own) s.good s.among refl fields block_may own_may allowed) vdr_then)
      (λ m i. rw (of_own.node_allowed (found_in b kind before own) s.good s.among refl fields block_may own_may allowed m i) tt)
      (λ l i. rw (of_own.block_allowed (found_in b kind before own) s.good s.among refl fields block_may own_may allowed l i) tt)
      (λ m i. rw (cpr_allowed (found_in b kind before own) s.good s.among refl fields block_may own_may allowed m i) (beside m [] (cpr_apart s.good s.among m i) (cut_cpr s.good s.among s.cut m i)))

  pub rule_keeps : AllKeep b now may acts (owned b (shape b))
  rule_keeps =
      let front = keep_variables b now may acts kind 0 before (λ m i. stay_then m (inr (inr (inl i)))) in
      let back = keep_variables b now may acts kind (suc (length before)) after (λ m i. stay_then m (inr (inr (inr (inl i))))) in
      let others = keep_variables b now may acts (other_kind kind) 0 (shapes_of (shape b) (other_kind kind)) (λ m i. stay_then m (inr (inr (inr (inr i))))) in
      let both = keep_kinds b now may acts kind (keep_variable_parts b now may acts kind before own after s.among.was front (keep_places b now may acts (OneVariable kind (length before)) (variable_records own) own_keeps) back) others in
      keep_all b now may acts (keep_file b now may acts (sound s.good s.among) (keeps_stood b now 8 (stay_then 8 (inl refl)) may.cdr) gdr_then) (keep_attributes b now may acts 0 (shape b).attributes (λ m i. stay_then m (inr (inl i)))) both.0 both.1
      (keep_places b now may acts Unused (unused_records b (shape b)) (λ m i. unused_stays acts listed_then loose_then m i (unused_in b (shape b) (sound s.good s.among) m i)))
