use Rattle.std.proofs.Common.{◌∙◌}
use Rattle.cdf_writer.proofs.EventsTaken.{events_make_image}
use Rattle.cdf_writer.proofs.writer.Writer.into_area.Goals as goal

pub returns-clause-whole : goal.returns-clause-whole
returns-clause-whole g c d fine took = took.shows.image_is ∙ events_make_image d fine
