use Rattle.std.proofs.Common.{arith, rules}
use Rattle.std.proofs.KnownBytes.{Appends-kept}
use Rattle.cdf_store.proofs.Fronts.{rest_of, written_more, front_of, on_err}
use Rattle.cdf_store.proofs.writing.write_all.Goals as goal

pub returns-in_err-count-clause-part : goal.returns-in_err-count-clause-part
returns-in_err-count-clause-part g c =
    let W = g.O.Sink.written in
    let kept = Appends-kept (W c.args.out.now) (W c.loop-done.out) (W c.write.new.self) _ c.loop-done.invariant.written c.in_err-count.ensures.bytes in
    on_err _ (front_of (W c.args.out.now) (W c.write.new.self) c.args.text.now c.loop-done.done kept)

pub loop-done-preserved : goal.loop-done-preserved
loop-done-preserved g c =
    let W = g.O.Sink.written in
    let took = rw (rest_of c.args.text.now c.loop-done.done) at c.in_ok-count.ensures.bytes in
    record {
      written = written_more (W c.args.out.now) (W c.loop-done.out) (W c.write.new.self) c.args.text.now c.loop-done.done c.in_ok-count.count c.loop-done.invariant.written took;
      within = search arith;
      faults = search rules;
    }
