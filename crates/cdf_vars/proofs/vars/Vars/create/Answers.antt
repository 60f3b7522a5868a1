use Rattle.cdf_vars.proofs.Common.{BadName, BadShape, Follows, List, NameTaken, R, Z, ap, arith, is_among, length, making, refl, refused, sym, vdr_bytes, wanted, ℕ, ◌∙◌}
use Rattle.cdf_vars.proofs.CreatedVariable.{is_done, is_making, no_room}
use Rattle.cdf_vars.proofs.VariableFound.{all_names, knows_made}
use Rattle.cdf_vars.proofs.vars.Vars.create.Goals as goal
use Rattle.cdf_vars.proofs.vars.Vars.create.Goals.{in-R+in_ok-add-in-R, in-Z+in_ok-add-in-Z}

pub returns-then-is_bad_name-clause-answers : goal.returns-then-is_bad_name-clause-answers
returns-then-is_bad_name-clause-answers g c = let bad = sym c.is_bad_name.ensures ∙ c.if-is_bad_name.true in refused _ _ (making c.args.kind (wanted c.args.name.now c.args.form.now c.args.vary)) BadName ((is_making _ c.args.kind (wanted c.args.name.now c.args.form.now c.args.vary) c.requires.dims).step_is ∙ rw bad refl)

pub returns-then-is_some-clause-answers : goal.returns-then-is_some-clause-answers
returns-then-is_some-clause-answers g c =
    refused _ _ (making c.args.kind (wanted c.args.name.now c.args.form.now c.args.vary)) NameTaken ((is_making _ c.args.kind (wanted c.args.name.now c.args.form.now c.args.vary) c.requires.dims).step_is ∙ rw (sym c.is_bad_name.ensures ∙ c.if-is_bad_name.false, ap (is_among c.args.name.now) (sym (all_names c.requires.known)) ∙ sym c.find.ensures.exact ∙ sym c.is_some.ensures ∙ c.if-is_some.true) refl)

pub returns-then-is_bad_shape-clause-answers : goal.returns-then-is_bad_shape-clause-answers
returns-then-is_bad_shape-clause-answers g c =
    refused _ _ (making c.args.kind (wanted c.args.name.now c.args.form.now c.args.vary)) BadShape ((is_making _ c.args.kind (wanted c.args.name.now c.args.form.now c.args.vary) c.requires.dims).step_is ∙ rw (sym c.is_bad_name.ensures ∙ c.if-is_bad_name.false, ap (is_among c.args.name.now) (sym (all_names c.requires.known)) ∙ sym c.find.ensures.exact ∙ sym c.is_some.ensures ∙ c.if-is_some.false, sym c.is_bad_shape.ensures ∙ c.if-is_bad_shape.true) refl)

pub returns-then-limit-size-clause-answers : goal.returns-then-limit-size-clause-answers
returns-then-limit-size-clause-answers g c =
    no_room _ (g.A.Area.image c.args.area.now) c.args.kind (wanted c.args.name.now c.args.form.now c.args.vary) c.requires.dims (sym c.is_bad_name.ensures ∙ c.if-is_bad_name.false) (ap (is_among c.args.name.now) (sym (all_names c.requires.known)) ∙ sym c.find.ensures.exact ∙ sym c.is_some.ensures ∙ c.if-is_some.false) (sym c.is_bad_shape.ensures ∙ c.if-is_bad_shape.false)
    (omega (arith, c.if-limit-size.true, c.limit.ensures, c.size.ensures, c.descriptor_size.ensures ∙ ap (λ (xs : List ℕ). vdr_bytes c.args.kind (length xs)) c.as_slice.ensures))

pub returns-clause-answers : goal.returns-clause-answers
returns-clause-answers g c =
    let made : Follows (g.A.Area.image c.args.area.now) (making c.args.kind (wanted c.args.name.now c.args.form.now c.args.vary)) (g.A.Area.image c.match-kind.area) = elim c.match-kind.branch [
      | in-R+in_ok-add-in-R w ↦ rw w.area-is w.in_ok-add-in-R.ensures.follows
      | in-Z+in_ok-add-in-Z w ↦ rw w.area-is w.in_ok-add-in-Z.ensures.follows
    ] in
    is_done _ (g.A.Area.image c.args.area.now) c.args.kind (wanted c.args.name.now c.args.form.now c.args.vary) c.requires.dims (sym c.is_bad_name.ensures ∙ c.if-is_bad_name.false) (ap (is_among c.args.name.now) (sym (all_names c.requires.known)) ∙ sym c.find.ensures.exact ∙ sym c.is_some.ensures ∙ c.if-is_some.false) (sym c.is_bad_shape.ensures ∙ c.if-is_bad_shape.false)
    (omega (arith, c.if-limit-size.false, c.limit.ensures, c.size.ensures, c.descriptor_size.ensures ∙ ap (λ (xs : List ℕ). vdr_bytes c.args.kind (length xs)) c.as_slice.ensures)) made

pub returns-clause-known : goal.returns-clause-known
returns-clause-known g c = elim c.match-kind.branch [
  | in-R+in_ok-add-in-R w ↦ rw (w.area-is, w.self-is) (knows_made R w.in-R.is c.requires.known c.self.view_is w.in_ok-add-in-R.ensures.known w.in_ok-add-in-R.ensures.others)
  | in-Z+in_ok-add-in-Z w ↦ rw (w.area-is, w.self-is) (knows_made Z w.in-Z.is c.requires.known c.self.view_is w.in_ok-add-in-Z.ensures.known w.in_ok-add-in-Z.ensures.others)
]
