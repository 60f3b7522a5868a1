use Rattle.cdf_tool.proofs.Common.{false, has_tap, kinds_of, map, sym, ◌∙◌, ◌≡◌}
use Rattle.cdf_tool.proofs.Commands.{unknown_if}
use Rattle.cdf_tool.proofs.replay.answer_report.Goals as goal

pub returns : goal.returns
returns g c = λ limit b.
    let taps = (kinds_of (map (λ b. (goal.Tap-dyn g (b.vtable, b.value)).meaning b.value) c.args.taps.now.items)) in
    let none : has_tap taps c.args.name ≡ false = rw (sym c.deref.ensures.value, sym c.as_slice.ensures) (sym c.has_tap.ensures ∙ c.if-has_tap.false) in
    unknown_if limit b taps c.args.line.now.number c.args.name none c.answer_of.result c.answer_of.ensures
