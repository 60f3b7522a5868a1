use Rattle.std.proofs.Common.{◌+◌, ◌-◌, ◌∙◌, arith}
use Rattle.cdf_gen.specs.Generated.{script_of}
use Rattle.cdf_gen.proofs.Lines.{lines_end, lines_more}
use Rattle.cdf_gen.proofs.script.script_of.Goals as goal

pub loop-preserved : goal.loop-preserved
loop-preserved c =
    lines_more c.loop.x c.next_number-x.result (c.args.n - c.loop.counter) (c.args.n - (c.loop.counter + 1)) c.loop.script.items c.append_line.new.text.items (omega arith)
    c.next_number-x.ensures c.in_ok-append_line.ensures ∙ c.loop.invariant

pub returns : goal.returns
returns c = lines_end c.loop.x (c.args.n - c.loop.counter) c.loop.script.items (script_of c.args.n) (omega arith) c.loop.invariant
