use Rattle.std.proofs.Common.{refl, true, ◌∙◌}
use Rattle.cdf_mem_disk.specs.Events.{Cut}
use Rattle.cdf_mem_disk.specs.MemParts.{parts_in}
use Rattle.cdf_mem_disk.proofs.Replays.{replays, stays_made}
use Rattle.cdf_mem_disk.proofs.past.Past.cut.Goals as goal

pub invariant_of-self-2 : goal.invariant_of-self-2
invariant_of-self-2 c =
    let s = c.args.self.now in
    record {
      replayed = c.cut.ensures ∙ replays (parts_in s.base) (parts_in s.parts) s.history c.note_cut.new.self (Cut c.args.part c.args.n true) s.replayed c.in_ok-note_cut.ensures.ok;
      made = stays_made (parts_in s.base) (parts_in s.parts) s.history c.note_cut.new.self (Cut c.args.part c.args.n true) s.made s.replayed refl c.in_ok-note_cut.ensures.ok;
    }
