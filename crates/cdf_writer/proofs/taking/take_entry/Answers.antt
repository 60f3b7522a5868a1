use Rattle.std.proofs.Common.{subst}
use Rattle.cdf_writer.specs.Shown.{Shows}
use Rattle.cdf_writer.specs.declared.progress.Part.{Part}
use Rattle.cdf_writer.proofs.EventShows.{entry_shows}
use Rattle.cdf_writer.proofs.Writing.{on_ok_both}
use Rattle.cdf_writer.proofs.taking.take_entry.Goals as goal

pub returns-in-Attribute-clause-shows : goal.returns-in-Attribute-clause-shows
returns-in-Attribute-clause-shows g c file s h =
    let b = g.A.Area.image c.args.area.now in
    let now = g.A.Area.image c.add_entry.new.area in
    let a = c.in-Attribute.a in
    let shown : Shows b file _ s = subst (λ (p : Part). Shows b file p s) c.in-Attribute.is h in
    on_ok_both c.add_entry.result c.add_entry.ensures.appended c.add_entry.ensures.attribute (λ image attribute. entry_shows b now file a c.add_entry.new.a s c.args.held shown image attribute)
