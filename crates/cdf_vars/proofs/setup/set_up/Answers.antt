use Rattle.cdf_vars.proofs.Common.{BadShape, Frame, InUse, NumberOutOfRange, Plain, Setup, ap, are_bad_sizes, arith, content, gone, length, not, refl, refused, sym, too_large, ◌∙◌}
use Rattle.cdf_vars.proofs.SetUpAnswers.{is_unread, step_goes}
use Rattle.cdf_vars.proofs.setup.set_up.Goals as goal

pub returns-then-not-is_encoding-clause-answers : goal.returns-then-not-is_encoding-clause-answers
returns-then-not-is_encoding-clause-answers g c = refused _ _ (Setup c.args.encoding c.args.majority c.args.dims.now) NumberOutOfRange (rw (is_unread c.args.encoding _ (sym c.is_encoding.ensures ∙ c.if-not-is_encoding.true)) refl)

pub returns-then-are_bad_sizes-clause-answers : goal.returns-then-are_bad_sizes-clause-answers
returns-then-are_bad_sizes-clause-answers g c =
    refused _ _ (Setup c.args.encoding c.args.majority c.args.dims.now) BadShape (rw (is_unread c.args.encoding _ (sym c.is_encoding.ensures ∙ c.if-not-is_encoding.false), ap are_bad_sizes (sym c.as_slice-sizes.ensures) ∙ sym c.are_bad_sizes.ensures ∙ c.if-are_bad_sizes.true) refl)

pub returns-then-heads-clause-answers : goal.returns-then-heads-clause-answers
returns-then-heads-clause-answers g c =
    let fine = ap are_bad_sizes (sym c.as_slice-sizes.ensures) ∙ sym c.are_bad_sizes.ensures ∙ c.if-are_bad_sizes.false in
    rw c.in_ok-heads.ensures.area.image (refused _ _ (Setup c.args.encoding c.args.majority c.args.dims.now) InUse (rw (is_unread c.args.encoding _ (sym c.is_encoding.ensures ∙ c.if-not-is_encoding.false), fine, c.in_ok-heads.ensures.in_use ∙ ap not c.if-heads.true) refl))

pub returns-then-limit-size-clause-answers : goal.returns-then-limit-size-clause-answers
returns-then-limit-size-clause-answers g c =
    let goes = step_goes (content (g.A.Area.image c.args.area.now)) c.args.encoding c.args.majority c.args.dims.now (sym c.is_encoding.ensures ∙ c.if-not-is_encoding.false) (ap are_bad_sizes (sym c.as_slice-sizes.ensures) ∙ sym c.are_bad_sizes.ensures ∙ c.if-are_bad_sizes.false) (c.in_ok-heads.ensures.in_use ∙ ap not c.if-heads.false) in
    rw c.in_ok-heads.ensures.area.image (too_large _ _ (Setup c.args.encoding c.args.majority c.args.dims.now) _ Plain goes (omega (arith, c.if-limit-size.true, c.limit.ensures ∙ ap (λ (f : Frame _). f.limit) c.in_ok-heads.ensures.area.frame, c.size.ensures ∙ ap length c.in_ok-heads.ensures.area.image, ap length c.as_slice-sizes.ensures)))

pub carry_out-requires-clause-good : goal.carry_out-requires-clause-good
carry_out-requires-clause-good g c = rw c.in_ok-heads.ensures.area.image c.requires.good

pub returns-clause-answers : goal.returns-clause-answers
returns-clause-answers g c =
    let goes = step_goes (content (g.A.Area.image c.args.area.now)) c.args.encoding c.args.majority c.args.dims.now (sym c.is_encoding.ensures ∙ c.if-not-is_encoding.false) (ap are_bad_sizes (sym c.as_slice-sizes.ensures) ∙ sym c.are_bad_sizes.ensures ∙ c.if-are_bad_sizes.false) (c.in_ok-heads.ensures.in_use ∙ ap not c.if-heads.false) in
    gone _ _ (Setup c.args.encoding c.args.majority c.args.dims.now) _ Plain _ goes (omega (arith, c.if-limit-size.false, c.limit.ensures ∙ ap (λ (f : Frame _). f.limit) c.in_ok-heads.ensures.area.frame, c.size.ensures ∙ ap length c.in_ok-heads.ensures.area.image, ap length c.as_slice-sizes.ensures))
    (rw (c.in_ok-heads.ensures.area.image, c.as_slice-sizes.ensures) at c.in_ok-carry_out.ensures.follows)
