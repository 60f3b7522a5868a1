use Rattle.std.proofs.Common.{◌∙◌, sym, ap}
use Rattle.cdf_lines.specs.Waiting.{short_lines}
use Rattle.cdf_lines.proofs.Queue.{IsBlock, pushes, rest-first}
use Rattle.cdf_lines.proofs.lines.push_lines.Goals as goal

pub loop-line-preserved : goal.loop-line-preserved
loop-line-preserved c =
    let block : IsBlock c.new.result _ c.leading_lines.result.0.now = record {
      line_is = c.new.ensures.line ∙ c.in_ok-text.ensures;
      others_are = c.new.ensures.others ∙ ap short_lines c.in_ok-behind.ensures.items;
    } in
    rw c.in_ok-push_back.ensures.items (
      pushes c.loop-line.waiting.items c.new.result _ c.in-Some.ensures.first c.leading_lines.ensures block c.loop-line.invariant.0,
      sym (rest-first c.in-Some.ensures.first c.leading_lines.ensures) ∙ c.loop-line.invariant.1,
    )
