-- All blocks of a variable without records went, and then its rule for missing records was written: the image follows `set-sparse`.
use Rattle.cdf_edits.proofs.Common.{Act, AllKeep, Allowances, ByStep, DataSet, Follows, Found, Go, Kind, List, None, Option, Some, Variable, VariableShape, [], ap, arith, content, owned, refl, shape, stays_all, step, subst, sym, true≢false, variable_named, variable_of, with_variable, ℕ, ◌∙◌, ◌≡◌}
use Rattle.cdf_model.specs.declared.answer.Reply.TheVariants as replies
use Rattle.cdf_model.specs.declared.command.Command.TheVariants as commands
use Rattle.cdf_model.specs.declared.kinds.Sparse.{Sparse}
use Rattle.cdf_edits.proofs.Edits.ActsStill.{acts_still_by}
use Rattle.cdf_edits.proofs.Edits.StandsAmong.{StandsAmong, sound}
use Rattle.cdf_edits.specs.Commands.Cuts.{set_sparse_changes}
use Rattle.cdf_edits.specs.Commands.Named.{OfVariable}
use Rattle.cdf_edits.specs.Space.Acts.{ActsFollow, taken}
use Rattle.cdf_format.specs.Shape.{Shape}
use Rattle.cdf_format.specs.WellFormed.{Good}
use Rattle.cdf_puts.proofs.Common.{same_Some}
use Rattle.cdf_puts.proofs.GoesThen.{own_there}
use Rattle.cdf_puts.specs.Going.{found_in}
use Rattle.cdf_cuts.specs.Past.{cut_off, past_acts, stage}
use Rattle.cdf_sparse.proofs.CutKept.{cuts_open, none_taken as all_given}
use Rattle.cdf_sparse.proofs.SetRuleContent.{content_ruled, rule_among, rule_is, rule_keeps, rule_lies}
use Rattle.cdf_sparse.proofs.SetRuleWritten as of_rule
use Rattle.cdf_edits.specs.Commands.Deleting.{SetsSparse}
use Rattle.cdf_sparse.specs.SetRule.{RuleWritten, SetRule, rule_code}

module _ {b mid now : List ℕ} {kind : Kind} {before : List VariableShape} {own : VariableShape} {after : List VariableShape} {rule : Sparse} (s : SetRule b mid now kind before own after rule) where
  abbrev v : Variable
  v = variable_of b own

  abbrev found : Found
  found = found_in b kind before own

  abbrev own' : VariableShape
  own' = cut_off own 0

  abbrev acts : List Act
  acts = past_acts b own 0

  good_mid : Good mid
  good_mid = s.cut.goes_on.good

  among_mid : StandsAmong mid kind before own' after
  among_mid = s.cut.goes_on.among

  w : RuleWritten mid now own'.vdr (rule_code rule)
  w = s.written

  none_taken : taken acts ≡ []
  none_taken = all_given s.good s.among s.cut

  -- ---- what was freed

  same : shape now ≡ shape mid
  same = (rule_lies s).0

  pub rule_acts : ActsFollow b now acts
  rule_acts = acts_still_by (sound good_mid among_mid) s.cut.goes_on.follow (of_rule.edit good_mid among_mid w) (of_rule.unused_clear good_mid among_mid w) (ap (λ (x : Shape). x.records) same) (ap (λ (x : Shape). x.unused) same) s.written.as_long

  pub sets_sparse : SetsSparse b now found rule own own' acts
  sets_sparse = record { left = stage mid own' acts 0; cuts = cuts_open s.good s.among s.cut; acts_are = refl; stands = refl; changed = s.written.changed; as_long = s.written.as_long; rule_is = rule_is s }

  -- ---- the command, which names the variable

  module _ (name : List ℕ) (named : variable_named (content b) name ≡ Some found) where
    sets_named : OfVariable b now name (λ found y y'. SetsSparse b now found rule y y' acts)
    sets_named found' y y' is =
        let q : found ≡ found' = same_Some _ _ (sym named ∙ is.named) in
        let was : own ≡ y = same_Some own y (sym (own_there s.good s.among) ∙ (rw (← q) at is.before)) in
        let now_is : own' ≡ y' = same_Some own' y' (sym (own_there s.still_good (rule_among s)) ∙ (rw (← q) at is.after)) in
        rw (← q, ← was, ← now_is) sets_sparse

    -- the data set gives the variable with the rule
    pub set_sparse_goes : step (content b) (commands.SetSparse name rule) ≡ ByStep (Go (with_variable (content b) found (record v { sparse = rule })) replies.Plain)
    set_sparse_goes = rw (named, s.none_stored) refl

    pub follows_rule : step (content b) (commands.SetSparse name rule) ≡ ByStep (Go (with_variable (content b) found (record v { sparse = rule })) replies.Plain) → Follows b (commands.SetSparse name rule) now
    follows_rule goes =
        let may_be = ap (λ (o : Option Found). elim o as (λ x. Allowances) [ None ↦ stays_all | Some found ↦ set_sparse_changes b (shape b) found ]) named in
        let long = (rule_lies s).1 in
        record {
          reply = replies.Plain;
          goes = goes ∙ ap (λ (d : DataSet). ByStep (Go d replies.Plain)) (sym (content_ruled s));
          good = s.still_good;
          longer = omega (arith, long);
          within = omega (arith, long);
          reads = λ e. absurd (true≢false (sym e));
          acts = acts;
          takes_within = rw none_taken (omega arith);
          acts_follow = rule_acts;
          keeps = subst (λ (a : Allowances). AllKeep b now a acts (owned b (shape b))) (sym may_be) (rule_keeps s);
          does = sets_named;
        }
