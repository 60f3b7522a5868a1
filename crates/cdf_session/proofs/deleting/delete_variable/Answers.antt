use Rattle.cdf_session.proofs.Common.{Known, ap, arith, delete_refused, none_found, sym, ◌∙◌}
use Rattle.cdf_session.proofs.DeletionLemmas as deletion
use Rattle.cdf_session.proofs.OpenLemmas.{on_err}
use Rattle.cdf_session.proofs.deleting.delete_variable.Goals as goal

pub remove-requires-clause-good : goal.remove-requires-clause-good
remove-requires-clause-good g c = deletion.good_between c.args.name.now c.requires.good c.requires.variables (sym c.find.ensures.found ∙ c.in-Some.is) c.in_ok-drop_var.ensures.dropped

pub remove-requires-clause-known : goal.remove-requires-clause-known
remove-requires-clause-known g c = deletion.knows_between c.args.name.now c.requires.good c.requires.variables (sym c.find.ensures.found ∙ c.in-Some.is) c.in_ok-drop_var.ensures.dropped

pub remove-requires-clause-within : goal.remove-requires-clause-within
remove-requires-clause-within g c = deletion.stands_within c.args.name.now c.requires.good c.requires.variables (sym c.find.ensures.found ∙ c.in-Some.is) c.in_ok-drop_var.ensures.dropped

pub remove-requires-clause-short : goal.remove-requires-clause-short
remove-requires-clause-short g c = let f = c.requires.fits in let l = c.requires.limit in deletion.short_between c.args.name.now c.requires.good c.requires.variables (sym c.find.ensures.found ∙ c.in-Some.is) c.in_ok-drop_var.ensures.dropped (omega arith)

pub returns-clause-answers : goal.returns-clause-answers
returns-clause-answers g c = deletion.is_deleted c.args.name.now c.requires.good c.requires.variables (sym c.find.ensures.found ∙ c.in-Some.is) c.in_ok-drop_var.ensures.dropped _ c.requires.fits c.requires.limit c.in_ok-remove.ensures.removed

pub returns-in_default-clause-answers : goal.returns-in_default-clause-answers
returns-in_default-clause-answers g c = delete_refused _ _ c.args.name.now (none_found _ _ c.args.name.now c.requires.variables (sym c.find.ensures.found ∙ c.in_default.is))

pub returns-in_err-remove-clause-variables_stay : goal.returns-in_err-remove-clause-variables_stay
returns-in_err-remove-clause-variables_stay g c = on_err _ (deletion.knew_before c.args.name.now c.requires.good c.requires.variables (sym c.find.ensures.found ∙ c.in-Some.is) c.in_ok-drop_var.ensures.dropped c.in_err-remove.ensures.stays)

pub returns-clause-attributes : goal.returns-clause-attributes
returns-clause-attributes g c = deletion.attributes_stay (deletion.good_between c.args.name.now c.requires.good c.requires.variables (sym c.find.ensures.found ∙ c.in-Some.is) c.in_ok-drop_var.ensures.dropped) c.in_ok-remove.ensures.removed
    (ap (λ (k : Known). k.entries) c.forget_entries.ensures) (ap (λ (k : Known). k.order) c.forget_entries.ensures) (deletion.forgets c.in_ok-drop_var.ensures.known c.forget_entries.ensures)

pub returns-in_err-remove-clause-attributes_stay : goal.returns-in_err-remove-clause-attributes_stay
returns-in_err-remove-clause-attributes_stay g c = on_err _ (deletion.forgets c.drop_var.ensures.stays c.forget_entries.ensures)
