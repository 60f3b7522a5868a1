use Rattle.cdf_attrs.proofs.Common.{arith, fewer}
use Rattle.cdf_attrs.proofs.ValueWords.{numbers_written}
use Rattle.cdf_attrs.proofs.value.read_numbers.Goals as goal

pub overflow_cast-result : goal.overflow_cast-result
overflow_cast-result c = omega (arith, fewer c.args.words.now, c.requires.fit, c.len-count.ensures)

pub returns-clause-ok : goal.returns-clause-ok
returns-clause-ok c = rw c.len-count.ensures (numbers_written c.args.t c.args.words.now c.in_ok-bytes.bytes.items c.requires.number c.requires.some c.requires.fit (rw c.len-count.ensures at c.in_ok-bytes.ensures.ok))
