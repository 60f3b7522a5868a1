use Rattle.cdf_puts.proofs.Common.{arith, on_ok_weaker}
use Rattle.cdf_puts.proofs.PutSpot.{held, held_within, holds, written_on}
use Rattle.cdf_puts.proofs.putting.write_one.Goals as goal

pub write_recs-requires-clause-block : goal.write_recs-requires-clause-block
write_recs-requires-clause-block g c =
    holds c.requires.some.putting c.requires.some.is c.requires.more c.args.leaf.now c.requires.found c.len.result (omega (arith, c.args.put.now.raw.ok))

pub write_recs-requires-clause-from : goal.write_recs-requires-clause-from
write_recs-requires-clause-from g c = (held c.requires.some.putting c.requires.some.is c.requires.more c.args.leaf.now c.requires.found).1

pub write_recs-requires-clause-within : goal.write_recs-requires-clause-within
write_recs-requires-clause-within g c =
    held_within c.requires.some.putting c.requires.some.is c.requires.more c.args.leaf.now c.requires.found c.len.result (omega (arith, c.args.put.now.raw.ok)) c.bytes_of.result.now c.bytes_of.ensures

pub returns-clause-put : goal.returns-clause-put
returns-clause-put g c =
    on_ok_weaker c.write_recs.result
    (λ w b kind before own after putting is. written_on putting is c.requires.more c.args.leaf.now c.requires.found c.len.result (omega (arith, c.args.put.now.raw.ok)) c.bytes_of.result.now c.bytes_of.ensures w)
    c.write_recs.ensures.written
