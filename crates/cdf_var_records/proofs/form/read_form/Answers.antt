use Rattle.cdf_var_records.proofs.Common.{Good, List, ap, arith, dims_at, is_little, length, refl, subst, sym, varys_at, ℕ, ◌∙◌}
use Rattle.cdf_var_records.proofs.PadSites.{vdr_lies}
use Rattle.cdf_var_records.proofs.RecordForms.{form_is}
use Rattle.cdf_var_records.proofs.form.read_form.Goals as goal

pub read_encoding-requires : goal.read_encoding-requires
read_encoding-requires g c = let l = vdr_lies c.requires.good c.requires.vdr in let same = ap length c.read_pad_place.ensures.area.image in omega arith

pub read_dims_of-requires-clause-good : goal.read_dims_of-requires-clause-good
read_dims_of-requires-clause-good g c = subst Good (sym (c.read_encoding.ensures.area.image ∙ c.read_pad_place.ensures.area.image)) c.requires.good

pub read_varys_of-requires-clause-good : goal.read_varys_of-requires-clause-good
read_varys_of-requires-clause-good g c = subst Good (sym (c.read_dims_of.ensures.area.image ∙ c.read_encoding.ensures.area.image ∙ c.read_pad_place.ensures.area.image)) c.requires.good

pub returns-clause-form : goal.returns-clause-form
returns-clause-form g c =
    let b = g.A.Area.image c.args.area.now in
    let first = c.read_pad_place.ensures.area.image in
    let second = c.read_encoding.ensures.area.image ∙ first in
    let third = c.read_dims_of.ensures.area.image ∙ second in
    let place = c.in_ok-place.ensures.place in
    let dims = c.in_ok-dims.ensures.dims ∙ ap (λ (x : List ℕ). dims_at x c.args.vdr) second in
    let varys = c.in_ok-varys.ensures.varys ∙ (λ i. varys_at (third i) (place.vdr_is i)) in
    form_is c.requires.good c.requires.vdr _ place.vdr_is place (c.in_ok-encoding.ensures.order ∙ ap is_little first) refl refl dims varys
