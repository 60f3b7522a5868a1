use Rattle.cdf_tool.proofs.Common.{Stays, all_idle_over, ap, arith, line_idles, refl, was_refused, ◌∙◌}
use Rattle.cdf_tool.proofs.CountLemmas.{counted_on}
use Rattle.cdf_tool.proofs.ScriptLemmas.{at_end, at_start, goes_on, halted, has_taken, none_taken, taken_more}
use Rattle.cdf_tool.proofs.OnlyReads.{if_all, stays_on, stays_still, taken_pass}
use Rattle.cdf_tool.proofs.script.run_script.Goals as goal

pub loop-init : goal.loop-init
loop-init g c = record {
  after = rw c.none-refusals.ensures (at_start (g.A.Area.frame c.args.session.now).limit (g.A.Area.image c.args.session.now) (g.I.Source.left c.args.script.now) _ c.new-lines.result c.new-lines.ensures);
  idle = if_all (line_idles (g.A.Area.frame c.args.session.now).limit (g.A.Area.image c.args.session.now)) (g.I.Source.left c.args.script.now) _ (stays_still g.A.Area.image g.A.Area.frame g.A.Area.faults g.A.Area.edited c.args.session.now);
  none_left = c.new-replies.ensures;
  turns = omega arith;
  within = omega arith;
  frame = refl;
  counted = refl;
}

pub returns-in-Err : goal.returns-in-Err
returns-in-Err g c =
    let i = c.loop.invariant in
    record {
      ok = tt;
      err = none_taken (g.A.Area.frame c.args.session.now).limit (g.A.Area.image c.args.session.now) (g.I.Source.left c.args.script.now) (g.I.Source.left c.loop.script) _ c.loop.lines (g.A.Area.image c.loop.session) (was_refused c.loop.refusals) _ c.loop.taken i.after
          (g.I.Source.left c.take_piece.new.script) c.in-Err.status i.within c.in-Err.ensures.err;
      idle = tt;
      frame = i.frame;
      counted = counted_on _ _ _ c.in-Err.status i.counted (c.in-Err.ensures.counted (g.A.Area.faults c.loop.session) (g.O.Sink.faults c.loop.out));
    }

pub answer_lines-requires : goal.answer_lines-requires
answer_lines-requires g c =
    let i = c.loop.invariant in
    let has = has_taken (g.A.Area.frame c.args.session.now).limit (g.A.Area.image c.args.session.now) (g.I.Source.left c.args.script.now) (g.I.Source.left c.loop.script) _ c.loop.lines (g.A.Area.image c.loop.session) (was_refused c.loop.refusals) _ c.loop.taken i.after
    c.in-Ok.more (g.I.Source.left c.take_piece.new.script) c.take_piece.new.lines c.take_piece.new.taken i.within c.in-Ok.ensures.ok in
    record { short = has.are_short; none_left = i.none_left }

pub returns-in-Err-answer_lines : goal.returns-in-Err-answer_lines
returns-in-Err-answer_lines g c =
    let i = c.loop.invariant in
    let has = has_taken (g.A.Area.frame c.args.session.now).limit (g.A.Area.image c.args.session.now) (g.I.Source.left c.args.script.now) (g.I.Source.left c.loop.script) _ c.loop.lines (g.A.Area.image c.loop.session) (was_refused c.loop.refusals) _ c.loop.taken i.after
    c.in-Ok.more (g.I.Source.left c.take_piece.new.script) c.take_piece.new.lines c.take_piece.new.taken i.within c.in-Ok.ensures.ok in
    record {
      ok = tt;
      err = halted c.in-Ok.more (g.A.Area.frame c.args.session.now).limit (g.A.Area.image c.args.session.now) (g.I.Source.left c.args.script.now) (g.I.Source.left c.take_piece.new.script) _ c.take_piece.new.lines
          (g.A.Area.image c.loop.session) (was_refused c.loop.refusals) _ c.take_piece.new.taken has (g.A.Area.frame c.loop.session).limit (ap (λ f. f.limit) i.frame)
          _ c.in-Err-answer_lines.status c.in-Err-answer_lines.ensures.stops;
      idle = tt;
      frame = c.answer_lines.ensures.frame ∙ i.frame;
      counted = counted_on _ _ _ c.in-Err-answer_lines.status (c.in-Ok.ensures.counted (g.A.Area.faults c.loop.session) (g.O.Sink.faults c.loop.out) ∙ i.counted) (c.in-Err-answer_lines.ensures.counted (g.I.Source.faults c.take_piece.new.script));
    }

pub returns-then-not-more : goal.returns-then-not-more
returns-then-not-more g c =
    let i = c.loop.invariant in
    let has = has_taken (g.A.Area.frame c.args.session.now).limit (g.A.Area.image c.args.session.now) (g.I.Source.left c.args.script.now) (g.I.Source.left c.loop.script) _ c.loop.lines (g.A.Area.image c.loop.session) (was_refused c.loop.refusals) _ c.loop.taken i.after
    c.in-Ok.more (g.I.Source.left c.take_piece.new.script) c.take_piece.new.lines c.take_piece.new.taken i.within c.in-Ok.ensures.ok in
    let answered = c.in-Ok-answer_lines.ensures in
    record {
      ok = at_end c.in-Ok.more (g.A.Area.frame c.args.session.now).limit (g.A.Area.image c.args.session.now) (g.I.Source.left c.args.script.now) (g.I.Source.left c.take_piece.new.script) _ c.take_piece.new.lines
          (g.A.Area.image c.loop.session) (was_refused c.loop.refusals) _ c.take_piece.new.taken has (g.A.Area.frame c.loop.session).limit (ap (λ f. f.limit) i.frame)
          (g.A.Area.image c.answer_lines.new.session) (was_refused c.in-Ok-answer_lines.more) (was_refused c.join.new.self) _ c.join.ensures answered.ok c.if-not-more.true;
      err = tt;
      idle = taken_pass (line_idles (g.A.Area.frame c.args.session.now).limit (g.A.Area.image c.args.session.now)) c.in-Ok.more (g.A.Area.frame c.args.session.now).limit (g.A.Area.image c.args.session.now) (g.I.Source.left c.args.script.now) (g.I.Source.left c.take_piece.new.script) _ c.take_piece.new.lines
          (g.A.Area.image c.loop.session) (was_refused c.loop.refusals) _ c.take_piece.new.taken has
          (Stays g.A.Area.image g.A.Area.frame g.A.Area.faults g.A.Area.edited c.args.session.now c.loop.session) (Stays g.A.Area.image g.A.Area.frame g.A.Area.faults g.A.Area.edited c.args.session.now c.answer_lines.new.session) i.idle
          (λ all so_far. stays_on g.A.Area.image g.A.Area.frame g.A.Area.faults g.A.Area.edited c.args.session.now c.loop.session c.answer_lines.new.session so_far (answered.idle ((λ i. all_idle_over (so_far.frame i).limit (so_far.image i) c.take_piece.new.lines.ready) ∙ all)));
      frame = c.answer_lines.ensures.frame ∙ i.frame;
      counted = answered.counted (g.I.Source.faults c.take_piece.new.script) ∙ c.in-Ok.ensures.counted (g.A.Area.faults c.loop.session) (g.O.Sink.faults c.loop.out) ∙ i.counted;
    }

pub loop-preserved : goal.loop-preserved
loop-preserved g c =
    let i = c.loop.invariant in
    let has = has_taken (g.A.Area.frame c.args.session.now).limit (g.A.Area.image c.args.session.now) (g.I.Source.left c.args.script.now) (g.I.Source.left c.loop.script) _ c.loop.lines (g.A.Area.image c.loop.session) (was_refused c.loop.refusals) _ c.loop.taken i.after
    c.in-Ok.more (g.I.Source.left c.take_piece.new.script) c.take_piece.new.lines c.take_piece.new.taken i.within c.in-Ok.ensures.ok in
    let answered = c.in-Ok-answer_lines.ensures in
    record {
      after = goes_on c.in-Ok.more (g.A.Area.frame c.args.session.now).limit (g.A.Area.image c.args.session.now) (g.I.Source.left c.args.script.now) (g.I.Source.left c.take_piece.new.script) _ c.take_piece.new.lines
          (g.A.Area.image c.loop.session) (was_refused c.loop.refusals) _ c.take_piece.new.taken has (g.A.Area.frame c.loop.session).limit (ap (λ f. f.limit) i.frame)
          (g.A.Area.image c.answer_lines.new.session) (was_refused c.in-Ok-answer_lines.more) (was_refused c.join.new.self) _ c.join.ensures answered.ok c.answer_lines.new.lines c.if-not-more.false answered.drained;
      idle = taken_pass (line_idles (g.A.Area.frame c.args.session.now).limit (g.A.Area.image c.args.session.now)) c.in-Ok.more (g.A.Area.frame c.args.session.now).limit (g.A.Area.image c.args.session.now) (g.I.Source.left c.args.script.now) (g.I.Source.left c.take_piece.new.script) _ c.take_piece.new.lines
          (g.A.Area.image c.loop.session) (was_refused c.loop.refusals) _ c.take_piece.new.taken has
          (Stays g.A.Area.image g.A.Area.frame g.A.Area.faults g.A.Area.edited c.args.session.now c.loop.session) (Stays g.A.Area.image g.A.Area.frame g.A.Area.faults g.A.Area.edited c.args.session.now c.answer_lines.new.session) i.idle
          (λ all so_far. stays_on g.A.Area.image g.A.Area.frame g.A.Area.faults g.A.Area.edited c.args.session.now c.loop.session c.answer_lines.new.session so_far (answered.idle ((λ i. all_idle_over (so_far.frame i).limit (so_far.image i) c.take_piece.new.lines.ready) ∙ all)));
      none_left = answered.none_left;
      turns = taken_more c.in-Ok.more _ _ _ _ _ _ c.if-not-more.false c.in-Ok.ensures.ok c.loop.counter i.turns;
      within = has.within;
      frame = c.answer_lines.ensures.frame ∙ i.frame;
      counted = answered.counted (g.I.Source.faults c.take_piece.new.script) ∙ c.in-Ok.ensures.counted (g.A.Area.faults c.loop.session) (g.O.Sink.faults c.loop.out) ∙ i.counted;
    }
