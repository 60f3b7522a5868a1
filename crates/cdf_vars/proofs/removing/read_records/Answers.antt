use Rattle.std.proofs.Common.{◌∙◌}
use Rattle.cdf_vars.proofs.RemovalAnswers.{has_index, are_records}
use Rattle.cdf_vars.proofs.removing.read_records.Goals as goal

pub index_records-requires-clause-index : goal.index_records-requires-clause-index
index_records-requires-clause-index g c = has_index c.requires.good c.in_ok-head.ensures.area.image c.args.vdr c.in_ok-head.ensures.value c.requires.vdr

pub returns-clause-records : goal.returns-clause-records
returns-clause-records g c = are_records c.requires.good c.in_ok-head.ensures.area.image (c.in_ok-records.ensures.area.image ∙ c.in_ok-head.ensures.area.image) c.args.vdr c.in_ok-head.ensures.value c.in_ok-records.ensures.value c.in_ok-push_parameters.ensures.records c.in_ok-push.ensures.items
