use Rattle.std.proofs.Common.{List, ap, drop, sym, ◌+◌, ◌∙◌}
use Rattle.cdf_mem_disk.specs.Events.{Event, kept_end}
use Rattle.cdf_mem_disk.specs.History.{event_of}
use Rattle.cdf_mem_disk.proofs.Histories.{next_event}
use Rattle.cdf_mem_disk.proofs.history.History.kept_end.Goals as goal

pub loop-at-preserved : goal.loop-at-preserved
loop-at-preserved c =
    let h = c.self.inside in
    let next = next_event (event_of h.bytes.items) h.calls.items c.deref-call-items.result.now c.args.self.now c.loop-at.at _ c.deref-call-items.ensures.value c.self.view_is c.loop-at-test.true in
    record {
      end = sym (c.kept_after-kept.ensures.end h.bytes.items (drop (c.loop-at.at + 1) c.args.self.now)) ∙ sym (ap (λ (es : List Event). kept_end c.args.keep c.loop-at.at c.loop-at.kept.end c.loop-at.kept.left es) next) ∙ c.loop-at.invariant.end;
      within = c.kept_after-kept.ensures.within c.loop-at.invariant.within;
    }
