use Rattle.cdf_vars.proofs.Common.{Knows, subst, sym, ◌∙◌}
use Rattle.cdf_vars.proofs.VariableFound.{named_first, named_second}
use Rattle.cdf_vars.proofs.vars.Vars.find.Goals as goal

pub returns-in-Some-clause-named : goal.returns-in-Some-clause-named
returns-in-Some-clause-named c = λ b knows. named_first b _ c.args.name.now c.in-Some.id (subst (Knows b) (sym c.self.view_is) knows) (sym c.find.ensures.found ∙ c.in-Some.is)

pub returns-in-None-clause-named : goal.returns-in-None-clause-named
returns-in-None-clause-named c = λ b knows. named_second b _ c.args.name.now c.find-in-None.result (subst (Knows b) (sym c.self.view_is) knows) (sym c.find.ensures.found ∙ c.in-None.is) c.find-in-None.ensures.found
