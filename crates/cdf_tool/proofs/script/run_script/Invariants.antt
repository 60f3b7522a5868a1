use Rattle.cdf_tool.proofs.Common.{IfIdle, Stays, [], counts, map, script_limit, was_refused, with_taps, ◌≡◌, ◌≤◌}
use Rattle.cdf_tool.proofs.Standing.{IsAfter}
use Rattle.cdf_tool.proofs.script.run_script.Given as goal

abbrev pub invariant-loop : goal.invariant-loop
invariant-loop g l = record {
  after : IsAfter (g.A.Area.frame l.fn.session).limit (g.A.Area.image l.fn.session) (g.I.Source.left l.fn.script) (g.I.Source.left l.script) (with_taps (g.O.Sink.written l.fn.out) (map (λ b. (goal.Tap-dyn g (b.vtable, b.value)).meaning b.value) l.fn.taps.items)) l.lines (g.A.Area.image l.session) (was_refused l.refusals) (with_taps (g.O.Sink.written l.out) (map (λ b. (goal.Tap-dyn g (b.vtable, b.value)).meaning b.value) l.taps.items)) l.taken;
  idle : IfIdle (g.A.Area.frame l.fn.session).limit (g.A.Area.image l.fn.session) (g.I.Source.left l.fn.script) (Stays g.A.Area.image g.A.Area.frame g.A.Area.faults g.A.Area.edited l.fn.session l.session);
  none_left : l.replies ≡ [];
  turns : l.counter ≤ l.taken;
  within : l.taken ≤ script_limit;
  frame : g.A.Area.frame l.session ≡ g.A.Area.frame l.fn.session;
  counted : counts (g.A.Area.faults l.session) 0 (g.O.Sink.faults l.out) (g.I.Source.faults l.script) ≡ counts (g.A.Area.faults l.fn.session) 0 (g.O.Sink.faults l.fn.out) (g.I.Source.faults l.fn.script);
}
