use Rattle.std.proofs.Common.{arith}
use Rattle.cdf_store.proofs.Fronts.{rest_of, written_more}
use Rattle.cdf_store.proofs.file_store.writing.write_some.Goals as goal

pub loop-count-preserved : goal.loop-count-preserved
loop-count-preserved g c =
    let W = g.F.Write.contents in
    let took = rw (rest_of c.args.bytes.now c.loop-count.count) at c.in-Ok.ensures.bytes in
    record {
      written = written_more (W c.args.file.now) (W c.loop-count.file) (W c.write_more.new.file) c.args.bytes.now c.loop-count.count c.in-Ok.more c.loop-count.invariant.written took;
      within = search arith;
    }
