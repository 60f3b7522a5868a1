use Rattle.cdf_tool.proofs.Common.{IsAnswer, OnOk, Parsed, Stays, asked_by, kinds_of, line_of, map, parse, subst, sym, true, ◌≡◌}
unfoldable use Rattle.cdf_tool.proofs.Common.{asks_idly}
use Rattle.std.proofs.Common.{IfOk}
use Rattle.cdf_tool.proofs.Commands.{asked_is, asked_sayable}
use Rattle.cdf_tool.proofs.replay.answer_line.Goals as goal

pub answer_parsed-requires : goal.answer_parsed-requires
answer_parsed-requires g c =
    let asked = asked_is (parse (line_of c.args.line.now)) c.in-Ok.parsed c.in-Ok.ensures in
    asked_sayable (line_of c.args.line.now) (asked_by c.in-Ok.parsed) c.requires asked

pub returns-in-Ok : goal.returns-in-Ok
returns-in-Ok g c =
    let asked = asked_is (parse (line_of c.args.line.now)) c.in-Ok.parsed c.in-Ok.ensures in
    record {
      answers = subst (λ (a : Parsed). IfOk c.answer_parsed.result (IsAnswer (g.A.Area.frame c.args.session.now).limit (g.A.Area.image c.args.session.now) (kinds_of (map (λ b. (goal.Tap-dyn g (b.vtable, b.value)).meaning b.value) c.args.taps.now.items)) c.args.line.now.number a (g.A.Area.image c.answer_parsed.new.session))) (sym asked) c.answer_parsed.ensures.answers;
      idle = subst (λ (a : Parsed). asks_idly (g.A.Area.frame c.args.session.now).limit (g.A.Area.image c.args.session.now) a ≡ true → OnOk c.answer_parsed.result (Stays g.A.Area.image g.A.Area.frame g.A.Area.faults g.A.Area.edited c.args.session.now c.answer_parsed.new.session)) (sym asked) c.answer_parsed.ensures.idle;
      area = c.answer_parsed.ensures.area;
    }
