use Rattle.std.proofs.Common.{false, refl}
use Rattle.cdf_mem_disk.specs.Events.{Cut}
use Rattle.cdf_mem_disk.specs.MemParts.{parts_in}
use Rattle.cdf_mem_disk.proofs.Replays.{noted, still_made, still_replayed}
use Rattle.cdf_mem_disk.proofs.past.Past.refuse_cut.Goals as goal

pub invariant_of-self : goal.invariant_of-self
invariant_of-self c =
    let s = c.args.self.now in
    let more = noted c.note_cut.result s.history c.note_cut.new.self (Cut c.args.part c.args.n false) c.note_cut.ensures.ok c.note_cut.ensures.err in
    record {
      replayed = still_replayed (parts_in s.base) (parts_in s.parts) s.history c.note_cut.new.self _ s.replayed refl more;
      made = still_made (parts_in s.base) (parts_in s.parts) s.history c.note_cut.new.self _ s.made s.replayed refl more;
    }
