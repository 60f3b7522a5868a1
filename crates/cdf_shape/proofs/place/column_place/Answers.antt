use Rattle.std.proofs.Common.{arith}
use Rattle.cdf_shape.proofs.Places.{column_fits, column_stays, column_varies, length-index}
use Rattle.cdf_shape.proofs.place.column_place.Goals as goal
use Rattle.cdf_shape.proofs.place.column_place.Goals.{then-varys-k, else-varys-k}

pub bounds-index-k : goal.bounds-index-k
bounds-index-k c = omega (arith, length-index c.args.dims.now c.args.index.now c.requires.has)

pub overflow_mul-place : goal.overflow_mul-place
overflow_mul-place c =
    rw c.from.ensures (omega (arith, (column_fits c.args.dims.now c.args.varys.now c.args.index.now c.loop-k.k c.loop-k.place c.loop-k.before c.requires.one_each c.requires.has c.loop-k-test.true c.loop-k.invariant c.if-varys-k.true).0))

pub overflow_add-place : goal.overflow_add-place
overflow_add-place c =
    rw c.from.ensures (omega (arith, (column_fits c.args.dims.now c.args.varys.now c.args.index.now c.loop-k.k c.loop-k.place c.loop-k.before c.requires.one_each c.requires.has c.loop-k-test.true c.loop-k.invariant c.if-varys-k.true).0))

pub overflow_mul-before : goal.overflow_mul-before
overflow_mul-before c =
    rw c.from-before.ensures (omega (arith, (column_fits c.args.dims.now c.args.varys.now c.args.index.now c.loop-k.k c.loop-k.place c.loop-k.before c.requires.one_each c.requires.has c.loop-k-test.true c.loop-k.invariant c.if-varys-k.true).1))

pub loop-k-preserved : goal.loop-k-preserved
loop-k-preserved c = elim c.if-varys-k.branch [
  | then-varys-k w ↦ rw (w.place-is, w.before-is, w.from.ensures, w.from-before.ensures) (column_varies _ _ _ _ _ _ _ _ c.requires.one_each c.requires.has c.loop-k-test.true c.loop-k.invariant w.if-varys-k.true)
  | else-varys-k w ↦ rw (w.place-is, w.before-is) (column_stays _ _ _ _ _ _ _ _ c.requires.one_each c.requires.has c.loop-k-test.true c.loop-k.invariant w.if-varys-k.false)
]
