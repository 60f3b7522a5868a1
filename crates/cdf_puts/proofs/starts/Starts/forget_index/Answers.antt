use Rattle.cdf_puts.proofs.Common.{index_at, number, vdr_vxr_head}
use Rattle.cdf_puts.proofs.KnownStarts.{known_kept}
use Rattle.cdf_puts.proofs.starts.Starts.forget_index.Goals as goal

pub returns-clause-known : goal.returns-clause-known
returns-clause-known c b good knows = known_kept knows c.args.vdr good c.take-known.new.self c.take-known.ensures.others (c.take-known.ensures.own (index_at b (number b c.args.vdr vdr_vxr_head)))
