use Rattle.std.proofs.Common.{◌∙◌, false, arith, sym}
use Rattle.std.proofs.lemmas.List.{length-map}
use Rattle.cdf_tap.proofs.Dropped.{dropped, stayed}
use Rattle.cdf_tap.proofs.dropping.drop_ended.Goals as goal

pub loop-i-preserved-then-ended-i : goal.loop-i-preserved-then-ended-i
loop-i-preserved-then-ended-i g c =
    let long = length-map c.args.taps.now.items (λ b. (goal.Tap-dyn g (b.vtable, b.value)).meaning b.value) in
    record {
      left = c.drop_at.ensures ∙ dropped c.loop-i.i _ _ _ false c.loop-i-test.true (omega (arith, long, c.loop-i.invariant.within)) (c.requires ∙ sym long) c.loop-i.invariant.left c.if-ended-i.true;
      within = omega (arith, c.loop-i.invariant.within);
    }

pub loop-i-preserved : goal.loop-i-preserved
loop-i-preserved g c =
    let long = length-map c.args.taps.now.items (λ b. (goal.Tap-dyn g (b.vtable, b.value)).meaning b.value) in
    record {
      left = stayed c.loop-i.i _ _ _ false c.loop-i-test.true (omega (arith, long, c.loop-i.invariant.within)) (c.requires ∙ sym long) c.loop-i.invariant.left c.if-ended-i.false;
      within = omega (arith, c.loop-i.invariant.within);
    }
