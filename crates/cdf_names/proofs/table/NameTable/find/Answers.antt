use Rattle.std.proofs.Common.{◌∙◌, ap, sym, is_some}
use Rattle.cdf_names.proofs.Keys.{number_of-keys, has_name-keys, found_at}
use Rattle.cdf_names.proofs.table.NameTable.find.Goals as goal

pub returns-in_err-number-clause-number : goal.returns-in_err-number-clause-number
returns-in_err-number-clause-number c = c.from_residual.ensures ∙ c.in_err-number.ensures.index ∙ number_of-keys (λ key. key.items) c.self.inside.names.keys _ c.self.view_is _

pub returns-in_err-number-clause-exact : goal.returns-in_err-number-clause-exact
returns-in_err-number-clause-exact c = ap is_some c.from_residual.ensures ∙ c.in_err-number.ensures.found ∙ has_name-keys (λ key. key.items) c.self.inside.names.keys _ c.self.view_is _

pub returns-clause-number : goal.returns-clause-number
returns-clause-number c = c.in_ok-number.ensures.index ∙ number_of-keys (λ key. key.items) c.self.inside.names.keys _ c.self.view_is _

pub returns-clause-found : goal.returns-clause-found
returns-clause-found c = found_at _ _ _ (sym (returns-clause-number c))

pub returns-clause-exact : goal.returns-clause-exact
returns-clause-exact c = c.in_ok-number.ensures.found ∙ has_name-keys (λ key. key.items) c.self.inside.names.keys _ c.self.view_is _
