use Rattle.std.proofs.Common.{subst, sym}
use Rattle.cdf_model.specs.declared.event.Event.{Event}
use Rattle.cdf_writer.specs.Progress.{begins}
use Rattle.cdf_writer.specs.Shown.{Shows}
use Rattle.cdf_writer.specs.declared.progress.Part.TheVariants as parts
use Rattle.cdf_writer.proofs.EventShows.{begun_shows}
use Rattle.cdf_writer.proofs.writer.take_first.Goals as goal

pub returns-in_ok-file-in-Head-clause-shows : goal.returns-in_ok-file-in-Head-clause-shows
returns-in_ok-file-in-Head-clause-shows g c s h =
    let now = g.A.Area.image c.begin_file.new.area in
    subst (λ (e : Event). Shows now c.in_ok-file-in-Head.field-0 parts.Between (begins s e)) (sym c.in-Head.is) (begun_shows now c.in_ok-file-in-Head.field-0 c.in-Head.head c.in_ok-file-in-Head.ensures.begun c.in_ok-file-in-Head.ensures.file)
