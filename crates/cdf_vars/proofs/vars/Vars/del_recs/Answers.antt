use Rattle.cdf_vars.proofs.Common.{IfOk-weaker, NoSuchVar, refl, refused}
use Rattle.cdf_model.specs.declared.command.Command.TheVariants.{DelRecs}
use Rattle.cdf_vars.proofs.vars.Vars.del_recs.Goals as goal
use Rattle.cdf_vars.proofs.Unpacked.{unpacked_there}
use Rattle.cdf_vars.proofs.PutRead.{form_vdr}

pub returns-in_default-clause-answers : goal.returns-in_default-clause-answers
returns-in_default-clause-answers g c =
    rw (c.find_target.ensures.area.image) (refused (g.A.Area.frame c.args.area.now).limit (g.A.Area.image c.args.area.now) (DelRecs c.args.name.now c.args.first c.args.last) NoSuchVar (rw (rw c.in_default.is at c.in_ok-target.ensures.target) refl))

pub delete_target-requires-clause-good : goal.delete_target-requires-clause-good
delete_target-requires-clause-good g c = rw (c.find_target.ensures.area.image) c.requires.good

pub delete_target-requires-clause-unpacked : goal.delete_target-requires-clause-unpacked
delete_target-requires-clause-unpacked g c =
    let target = rw c.in-Some.is at c.in_ok-target.ensures.target in
    rw (c.find_target.ensures.area.image) (unpacked_there _ _ c.requires.read (form_vdr c.requires.good target.is.is_form))

pub returns-clause-answers : goal.returns-clause-answers
returns-clause-answers g c =
    let target = rw c.in-Some.is at c.in_ok-target.ensures.target in
    let answers = rw (c.find_target.ensures.area.image, c.find_target.ensures.area.frame) at c.delete_target.ensures.answers in
    IfOk-weaker c.delete_target.result _ _ (λ o answer. answer c.args.name.now target.named) answers
