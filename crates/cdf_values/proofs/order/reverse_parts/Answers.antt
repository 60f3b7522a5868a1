use Rattle.cdf_values.proofs.Common.{length}
use Rattle.cdf_values.proofs.ListLemmas.{turned_more, turned_singly, has_part}
use Rattle.cdf_values.proofs.order.reverse_parts.Goals as goal

pub returns-then-size-eq1 : goal.returns-then-size-eq1
returns-then-size-eq1 c = turned_singly c.args.size c.args.bytes.now c.if-size-eq1.true

pub loop-i-preserved : goal.loop-i-preserved
loop-i-preserved c =
    turned_more c.args.size c.loop-i.i c.args.bytes.now c.loop-i.bytes c.reverse.new.self (has_part c.args.size c.loop-i.i (length c.args.bytes.now) c.loop-i-test.true) c.loop-i.invariant c.reverse.ensures.after
