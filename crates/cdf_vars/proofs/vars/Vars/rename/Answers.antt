use Rattle.cdf_vars.proofs.Common.{BadName, NameTaken, NoSuchVar, RenameVar, ap, is_among, refl, refused, sym, ◌∙◌}
use Rattle.cdf_vars.proofs.VariableFound.{all_names, may_rename, rename_done, rename_knows, found_view, knows_view, none_found, the_parts}
use Rattle.cdf_vars.proofs.vars.Vars.rename.Goals.{in-R+in_ok-rename_in-in-R, in-Z+in_ok-rename_in-in-Z}
use Rattle.cdf_vars.proofs.vars.Vars.rename.Goals as goal

pub returns-in_default-clause-answers : goal.returns-in_default-clause-answers
returns-in_default-clause-answers g c = refused _ _ (RenameVar c.args.from.now c.args.to.now) NoSuchVar (rw (none_found _ c.args.self.now c.args.from.now c.requires.known (sym c.find.ensures.found ∙ c.in_default.is)) refl)

pub returns-then-is_bad_name-clause-answers : goal.returns-then-is_bad_name-clause-answers
returns-then-is_bad_name-clause-answers g c =
    refused _ _ (RenameVar c.args.from.now c.args.to.now) BadName (rw ((the_parts c.args.from.now c.requires.good c.requires.known (sym c.find.ensures.found ∙ c.in-Some.is)).named, sym c.is_bad_name.ensures ∙ c.if-is_bad_name.true) refl)

pub returns-then-is_some-clause-answers : goal.returns-then-is_some-clause-answers
returns-then-is_some-clause-answers g c =
    let taken = ap (is_among c.args.to.now) (sym (all_names c.requires.known)) ∙ sym c.find-2.ensures.exact ∙ sym c.is_some.ensures ∙ c.if-is_some.true in
    refused _ _ (RenameVar c.args.from.now c.args.to.now) NameTaken (rw ((the_parts c.args.from.now c.requires.good c.requires.known (sym c.find.ensures.found ∙ c.in-Some.is)).named, sym c.is_bad_name.ensures ∙ c.if-is_bad_name.false, taken) refl)

pub rename_in-requires-clause-may : goal.rename_in-requires-clause-may
rename_in-requires-clause-may g c =
    may_rename c.args.from.now c.requires.good (knows_view c.self.view_is c.requires.known) (found_view c.args.from.now c.self.view_is c.find.ensures.found c.in-Some.is) c.in-R.is c.args.to.now
    (ap (is_among c.args.to.now) (sym (all_names c.requires.known)) ∙ sym c.find-2.ensures.exact ∙ sym c.is_some.ensures ∙ c.if-is_some.false)

pub rename_in-requires-in-Z-clause-may : goal.rename_in-requires-in-Z-clause-may
rename_in-requires-in-Z-clause-may g c =
    may_rename c.args.from.now c.requires.good (knows_view c.self.view_is c.requires.known) (found_view c.args.from.now c.self.view_is c.find.ensures.found c.in-Some.is) c.in-Z.is c.args.to.now
    (ap (is_among c.args.to.now) (sym (all_names c.requires.known)) ∙ sym c.find-2.ensures.exact ∙ sym c.is_some.ensures ∙ c.if-is_some.false)

pub returns-clause-answers : goal.returns-clause-answers
returns-clause-answers g c =
    let knows = knows_view c.self.view_is c.requires.known in
    let found = found_view c.args.from.now c.self.view_is c.find.ensures.found c.in-Some.is in
    let fine = sym c.is_bad_name.ensures ∙ c.if-is_bad_name.false in
    let free = ap (is_among c.args.to.now) (sym (all_names c.requires.known)) ∙ sym c.find-2.ensures.exact ∙ sym c.is_some.ensures ∙ c.if-is_some.false in
    elim c.match-found.branch [
      | in-R+in_ok-rename_in-in-R w ↦ rw w.area-is (rename_done c.args.from.now c.requires.good knows found c.args.to.now fine w.in-R.is w.in_ok-rename_in-in-R.ensures.written free _ c.requires.fits c.requires.limit)
      | in-Z+in_ok-rename_in-in-Z w ↦ rw w.area-is (rename_done c.args.from.now c.requires.good knows found c.args.to.now fine w.in-Z.is w.in_ok-rename_in-in-Z.ensures.written free _ c.requires.fits c.requires.limit)
    ]

pub returns-clause-known : goal.returns-clause-known
returns-clause-known g c =
    let knows = knows_view c.self.view_is c.requires.known in
    let found = found_view c.args.from.now c.self.view_is c.find.ensures.found c.in-Some.is in
    let fine = sym c.is_bad_name.ensures ∙ c.if-is_bad_name.false in
    elim c.match-found.branch [
      | in-R+in_ok-rename_in-in-R w ↦ rw (w.area-is, w.self-is, w.in_ok-rename_in-in-R.ensures.renamed) (rename_knows c.args.from.now c.requires.good knows found c.args.to.now fine w.in-R.is w.in_ok-rename_in-in-R.ensures.written)
      | in-Z+in_ok-rename_in-in-Z w ↦ rw (w.area-is, w.self-is, w.in_ok-rename_in-in-Z.ensures.renamed) (rename_knows c.args.from.now c.requires.good knows found c.args.to.now fine w.in-Z.is w.in_ok-rename_in-in-Z.ensures.written)
    ]
