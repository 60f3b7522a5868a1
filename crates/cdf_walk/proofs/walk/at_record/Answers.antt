use Rattle.std.proofs.Common.{◌+◌, slice_get, subst}
use Rattle.cdf_model.specs.Names.{variables_of}
use Rattle.cdf_walk.specs.Parts.{IsFirstOf}
use Rattle.cdf_walk.proofs.Steps as steps
use Rattle.cdf_walk.proofs.walk.at_record.Goals as goal

pub returns-in_default-clause-step : goal.returns-in_default-clause-step
returns-in_default-clause-step g c =
    let d = g.P.Parts.told c.args.parts.now in
    (steps.past_records d c.args.kind c.args.num c.args.from (subst (λ o. IsFirstOf (slice_get (variables_of d c.args.kind) c.args.num) c.args.from o) c.in_default.is c.in_ok-found.ensures.value), tt, steps.variable_nearer c.args.kind c.args.num (c.args.num + 1) c.args.from)

pub returns-clause-step : goal.returns-clause-step
returns-clause-step g c =
    let d = g.P.Parts.told c.args.parts.now in
    (steps.at_record d c.args.kind c.args.num c.args.from c.in-Some.found (subst (λ o. IsFirstOf (slice_get (variables_of d c.args.kind) c.args.num) c.args.from o) c.in-Some.is c.in_ok-found.ensures.value), c.requires)
