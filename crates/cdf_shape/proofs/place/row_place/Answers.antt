use Rattle.std.proofs.Common.{arith}
use Rattle.cdf_shape.proofs.Places.{row_fits, row_stays, row_varies}
use Rattle.cdf_shape.proofs.place.row_place.Goals as goal
use Rattle.cdf_shape.proofs.place.row_place.Goals.{then-varys-k, else-varys-k}

pub overflow_mul-place : goal.overflow_mul-place
overflow_mul-place c =
    rw c.from.ensures (omega (arith, row_fits c.args.dims.now c.args.varys.now c.args.index.now c.loop-k.k c.loop-k.place c.requires.one_each c.requires.has c.loop-k-test.true c.loop-k.invariant c.if-varys-k.true))

pub overflow_add-place : goal.overflow_add-place
overflow_add-place c =
    rw (c.from.ensures, c.from-then-varys-k.ensures) (omega (arith, row_fits c.args.dims.now c.args.varys.now c.args.index.now c.loop-k.k c.loop-k.place c.requires.one_each c.requires.has c.loop-k-test.true c.loop-k.invariant c.if-varys-k.true))

pub loop-k-preserved : goal.loop-k-preserved
loop-k-preserved c = elim c.if-varys-k.branch [
  | then-varys-k w ↦ rw (w.place-is, w.from.ensures, w.from-then-varys-k.ensures) (row_varies _ _ _ _ _ _ c.requires.one_each c.requires.has c.loop-k-test.true c.loop-k.invariant w.if-varys-k.true)
  | else-varys-k w ↦ rw w.place-is (row_stays _ _ _ _ _ _ c.requires.one_each c.requires.has c.loop-k-test.true c.loop-k.invariant w.if-varys-k.false)
]
