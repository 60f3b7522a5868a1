use Rattle.cdf_tool.proofs.Lines.{passes_one}
use Rattle.cdf_tool.proofs.script.next_to_answer.Goals as goal

pub ready-preserved : goal.ready-preserved
ready-preserved c =
    passes_one c.args.lines.now c.ready.lines c.next_line.new.self c.line.result c.ready.invariant (c.next_line.ensures.line c.ready-test.true) c.line.ensures.text (c.is_blank_line.ensures c.if-not-is_blank_line.false)
