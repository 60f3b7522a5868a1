use Rattle.cdf_tool.proofs.Whole.{can_be_written}
use Rattle.cdf_rows.proofs.limited.answer_outcome.Goals as goal

pub reply_text-requires : goal.reply_text-requires
reply_text-requires c = can_be_written _ _ c.args.command.now c.in-Ok.outcome _ c.in-Ok.ensures.answers
