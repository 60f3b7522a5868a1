use Rattle.std.proofs.Common.{length, false, sym, ◌∙◌, length-append, arith}
use Rattle.std.proofs.lemmas.Slice.Zip.{zip_end, zip_turn}
use Rattle.cdf_shape.proofs.Products.{more_values, no_more_values}
use Rattle.cdf_shape.proofs.shape.times_varying.Goals as goal

pub loop-size-preserved-then-varies : goal.loop-size-preserved-then-varies
loop-size-preserved-then-varies c =
    let turn = zip_turn c.args.dims.now c.args.varys.now c.loop-size.yielded c.into_iter-size-iterator.result c.loop-size.size-iterator c.next.new.self c.next.result (cc) (cc) c.loop-size.yielded_by (c.in-Some.size, c.in-Some.varies) c.in-Some.is c.next.ensures.steps in
    record {
      so_far = rw (c.saturating_mul-product.ensures, c.from.ensures, turn.2 0, length-append) (more_values _ c.args.dims.now c.args.varys.now (length c.loop-size.yielded) _ _ turn.0 turn.1 (sym (turn.3 false) ∙ c.if-varies.true) c.loop-size.invariant.so_far);
      fits = omega arith;
    }

pub returns : goal.returns
returns c =
    let all = zip_end c.args.dims.now c.args.varys.now c.loop-size.yielded c.into_iter-size-iterator.result c.loop-size.size-iterator c.next.new.self c.next.result (cc) (cc) c.loop-size.yielded_by c.in-None.is c.next.ensures.steps in
    no_more_values _ c.args.dims.now c.args.varys.now (length c.loop-size.yielded) _ _ (omega (arith, all)) (omega arith) c.loop-size.invariant.so_far
