use Rattle.std.proofs.Common.{Bool, ap, length, subst, sym, ◌∙◌}
use Rattle.cdf_model.specs.ByteOrder.{turned}
use Rattle.cdf_writer.specs.Progress.{added}
use Rattle.cdf_writer.specs.Shown.{Shows}
use Rattle.cdf_writer.specs.declared.progress.Part.{Part}
use Rattle.cdf_writer.proofs.EventShows.{record_shows}
use Rattle.cdf_writer.proofs.Writing.{on_ok_both}
use Rattle.cdf_writer.proofs.taking.take_record.Goals as goal

pub returns-in-Variable-clause-shows : goal.returns-in-Variable-clause-shows
returns-in-Variable-clause-shows g c file s same h =
    let b = g.A.Area.image c.args.area.now in
    let now = g.A.Area.image c.add_record.new.area in
    let v = c.in-Variable.v in
    let t = c.args.t in
    let bytes = c.args.bytes.now in
    let shown : Shows b file _ s = subst (λ (p : Part). Shows b file p s) c.in-Variable.is h in
    on_ok_both c.add_record.result c.add_record.ensures.appended c.add_record.ensures.variable
    (λ image variable. record_shows b now file v c.add_record.new.v s c.args.num t bytes shown image (variable ∙ ap (λ (x : Bool). added (length b) v c.args.num (turned t x bytes) (length bytes)) (sym same)))
