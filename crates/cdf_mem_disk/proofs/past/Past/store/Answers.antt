use Rattle.std.proofs.Common.{refl}
use Rattle.cdf_mem_disk.specs.Events.{Stored}
use Rattle.cdf_mem_disk.specs.MemParts.{parts_in}
use Rattle.cdf_mem_disk.proofs.Replays.{noted, still_made, still_replayed}
use Rattle.cdf_mem_disk.proofs.past.Past.store.Goals as goal

pub invariant_of-self : goal.invariant_of-self
invariant_of-self c =
    let s = c.args.self.now in
    let more = noted c.note_store.result s.history c.note_store.new.self Stored c.note_store.ensures.ok c.note_store.ensures.err in
    record {
      replayed = still_replayed (parts_in s.base) (parts_in s.parts) s.history c.note_store.new.self _ s.replayed refl more;
      made = still_made (parts_in s.base) (parts_in s.parts) s.history c.note_store.new.self _ s.made s.replayed refl more;
    }
