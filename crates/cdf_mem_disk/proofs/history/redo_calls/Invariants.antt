use Rattle.std.proofs.Common.{drop, map, true, ◌≡◌}
use Rattle.cdf_mem_disk.specs.Events.{after_events, are_made}
use Rattle.cdf_mem_disk.specs.History.{event_of}
use Rattle.cdf_mem_disk.specs.MemParts.{parts_in}
use Rattle.cdf_mem_disk.proofs.history.redo_calls.Given as goal

abbrev pub invariant-loop-call : goal.invariant-loop-call
invariant-loop-call l = record {
  done : after_events (parts_in l.parts) (drop l.call-index (map (event_of l.bytes) l.calls)) ≡ after_events (parts_in l.initial.parts) (map (event_of l.bytes) l.calls);
  made : are_made (parts_in l.parts) (drop l.call-index (map (event_of l.bytes) l.calls)) ≡ true;
}
