use Rattle.cdf_session.proofs.Common.{DelVar, refl}
use Rattle.cdf_session.proofs.OpenLemmas.{good_stays, ends_known}
use Rattle.cdf_session.proofs.session.Session.del_var.Goals as goal

pub delete_variable-done-requires-clause-good : goal.delete_variable-done-requires-clause-good
delete_variable-done-requires-clause-good g c = good_stays (g.A.Area.image c.self.inside.area) (g.A.Area.image c.mark.new.self) c.self.invariant.0.good c.mark.ensures.image

pub invariant_of-self : goal.invariant_of-self
invariant_of-self g c = (
  ends_known (g.A.Area.image c.self.inside.area) (g.A.Area.image c.mark.new.self) (g.A.Area.image c.delete_variable-done.new.area) (g.A.Area.image c.settle.new.area)
      (g.A.Area.frame c.self.inside.area) (g.A.Area.frame c.mark.new.self) (g.A.Area.frame c.delete_variable-done.new.area) (g.A.Area.frame c.settle.new.area)
      c.self.inside.attrs c.delete_variable-done.new.attrs c.self.inside.vars c.delete_variable-done.new.vars (DelVar c.args.name.now) refl c.delete_variable-done.result
      c.self.invariant.0 c.mark.ensures.image c.mark.ensures.frame c.delete_variable-done.ensures.area.frame c.settle.ensures.frame c.delete_variable-done.ensures.answers
      c.delete_variable-done.ensures.attributes c.delete_variable-done.ensures.attributes_stay c.delete_variable-done.ensures.variables c.delete_variable-done.ensures.variables_stay
      c.settle.ensures.kept c.settle.ensures.undone,
  c.forget.ensures _,
)
