use Rattle.std.proofs.Common.{◌∙◌, sym}
use Rattle.cdf_model.specs.Taps.{is_named}
use Rattle.cdf_tap.specs.Meanings.{Meaning}
use Rattle.cdf_tap.proofs.Lists.{any_at, any_of}
use Rattle.cdf_tap.proofs.list.has_tap.Goals as goal

pub returns-then-is_named : goal.returns-then-is_named
returns-then-is_named g c =
    sym (any_of (is_named c.args.name.now) (λ (m : Meaning). m.own) _ ∙ any_at _ _ c.args.taps.now c.loop-tap.tap-index c.tap-item.result c.loop-tap-test.true c.tap-item.is (sym c.is_named.ensures ∙ c.if-is_named.true))
