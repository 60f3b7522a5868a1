use Rattle.std.proofs.Common.{false, refl}
use Rattle.cdf_mem_disk.specs.Events.{Wrote}
use Rattle.cdf_mem_disk.specs.MemParts.{parts_in}
use Rattle.cdf_mem_disk.proofs.Replays.{noted, still_made, still_replayed}
use Rattle.std.proofs.lemmas.Bool.{le-leb}
use Rattle.cdf_mem_disk.proofs.past.Past.refuse_write.Goals as goal

pub invariant_of-self : goal.invariant_of-self
invariant_of-self c =
    let s = c.args.self.now in
    let more = noted c.note_write.result s.history c.note_write.new.self (Wrote c.args.part c.args.place c.args.bytes.now false) c.note_write.ensures.ok c.note_write.ensures.err in
    record {
      replayed = still_replayed (parts_in s.base) (parts_in s.parts) s.history c.note_write.new.self _ s.replayed refl more;
      made = still_made (parts_in s.base) (parts_in s.parts) s.history c.note_write.new.self _ s.made s.replayed (le-leb _ _ c.requires) more;
    }
