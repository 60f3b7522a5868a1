use Rattle.cdf_vars.proofs.Common.{Option, Some, rules, subst, sym, ◌∙◌, ◌≡◌}
use Rattle.cdf_edits.proofs.Common.{both, eqb-true}
use Rattle.cdf_model.specs.contracts.kinds.Kind.{the_type}
use Rattle.cdf_vars.specs.Events.{ReadsFrom}
use Rattle.cdf_vars.specs.declared.record_view.LastRead.{LastRead}
use Rattle.cdf_vars.specs.declared.vars.VarId.{VarId}
use Rattle.std.specs.Prelude.{IfSome}
use denote.Enum.Bare.{same_true}
use Rattle.cdf_vars.proofs.record_view.RecordView.take.Goals as goal

pub returns-then-eq-clause-reader : goal.returns-then-eq-clause-reader
returns-then-eq-clause-reader c b known =
    let last = c.in_ok-last.last in
    let kept : c.args.self.now.last ≡ Some last = sym c.take.ensures.value ∙ c.in_ok-last.was in
    let reads : ReadsFrom b last.id last.reader = subst (λ (o : Option LastRead). IfSome o (λ l. ReadsFrom b l.id l.reader)) kept known.last in
    let kind = same_true the_type (search rules) _ _ (both _ _ (sym c.if-eq.ensures)).0 in
    let num = eqb-true _ _ (both _ _ (sym c.if-eq.ensures)).1 in
    let same : last.id ≡ c.args.id = λ i. record { kind = kind i; num = num i } in
    subst (λ (id : VarId). ReadsFrom b id last.reader) same reads
