use Rattle.cdf_store.proofs.Fronts.{on_err}
use Rattle.cdf_walk.proofs.Texts.{text_cut}
use Rattle.cdf_walk.proofs.reporting.write_texts.Goals as goal

pub returns-in_err-write_text-clause-part : goal.returns-in_err-write_text-clause-part
returns-in_err-write_text-clause-part g c =
    on_err c.from_residual.result (text_cut c.args.name.now _ c.args.taps.now c.loop-tap.tap-index c.tap-item.result c.loop-tap-test.true c.tap-item.is _ _ _ c.loop-tap.invariant.wrote c.in_err-write_text.ensures.part)
