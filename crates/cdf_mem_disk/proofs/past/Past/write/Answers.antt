use Rattle.std.proofs.Common.{ap, true, ◌∙◌}
use Rattle.std.proofs.lemmas.Bool.{le-leb}
use Rattle.cdf_journal.specs.Crashes.{Parts}
use Rattle.cdf_mem_disk.specs.Events.{Wrote, after_event}
use Rattle.cdf_mem_disk.specs.MemParts.{parts_in}
use Rattle.cdf_mem_disk.proofs.Replays.{replays, stays_made}
use Rattle.cdf_mem_disk.proofs.past.Past.write.Goals as goal

pub invariant_of-self-2 : goal.invariant_of-self-2
invariant_of-self-2 c =
    let s = c.args.self.now in
    let event = Wrote c.args.part c.args.place c.args.bytes.now true in
    record {
      replayed = c.put.ensures ∙ ap (λ (p : Parts). after_event p event) c.in_ok-reserve.ensures.same ∙ replays (parts_in s.base) (parts_in s.parts) s.history c.note_write.new.self event s.replayed c.in_ok-note_write.ensures.ok;
      made = stays_made (parts_in s.base) (parts_in s.parts) s.history c.note_write.new.self event s.made s.replayed (le-leb _ _ c.requires) c.in_ok-note_write.ensures.ok;
    }
