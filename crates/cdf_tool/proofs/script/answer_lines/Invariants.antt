use Rattle.cdf_tool.proofs.Common.{AreShort, Stays, all_idle_over, counts, length, map, true, was_refused, with_taps, ◌≡◌}
use Rattle.cdf_tool.proofs.Standing.{Reached}
use Rattle.cdf_tool.proofs.script.answer_lines.Given as goal

abbrev pub invariant-ready : goal.invariant-ready
invariant-ready g l = record {
  reached : Reached (g.A.Area.frame l.fn.session).limit (g.A.Area.image l.fn.session) l.fn.lines.given l.fn.lines.ready (with_taps (g.O.Sink.written l.fn.out) (map (λ b. (goal.Tap-dyn g (b.vtable, b.value)).meaning b.value) l.fn.taps.items)) l.lines.given l.lines.ready (g.A.Area.image l.session) (was_refused l.refusals) (with_taps (g.O.Sink.written l.out) (map (λ b. (goal.Tap-dyn g (b.vtable, b.value)).meaning b.value) l.taps.items)) l.replies;
  short : AreShort l.lines.ready;
  idle : all_idle_over (g.A.Area.frame l.fn.session).limit (g.A.Area.image l.fn.session) l.fn.lines.ready ≡ true → (all_idle_over (g.A.Area.frame l.fn.session).limit (g.A.Area.image l.fn.session) l.lines.ready ≡ true) × Stays g.A.Area.image g.A.Area.frame g.A.Area.faults g.A.Area.edited l.fn.session l.session;
  rest : l.lines.rest ≡ l.fn.lines.rest;
  over : l.lines.over ≡ l.fn.lines.over;
  frame : g.A.Area.frame l.session ≡ g.A.Area.frame l.fn.session;
  counted : counts (g.A.Area.faults l.session) 0 (g.O.Sink.faults l.out) 0 ≡ counts (g.A.Area.faults l.fn.session) 0 (g.O.Sink.faults l.fn.out) 0;
}

abbrev pub decreases-ready : goal.decreases-ready
decreases-ready g l = length l.lines.ready
