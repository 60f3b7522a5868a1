use Rattle.std.specs.Fmt.{decimal}
use Rattle.cdf_gen.proofs.Words.{word_more}
use Rattle.cdf_gen.proofs.line.append_decimals.Goals as goal

pub loop-preserved : goal.loop-preserved
loop-preserved c =
    word_more c.loop.counter (decimal c.args.number) c.args.text.now.items c.loop.text.items c.push.new.self.items c.append_decimal.new.text.items
    c.loop.invariant c.in_ok-push.ensures.items c.in_ok-append_decimal.ensures
