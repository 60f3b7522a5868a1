use Rattle.cdf_tool.proofs.Common.{GivesNext, IsShort, ap, counts, is_some, line_idles, refl, subst, sym, was_refused, ◌∙◌}
use Rattle.cdf_saving.specs.declared.status.Status.TheVariants as statuses
use Rattle.cdf_tool.proofs.CountLemmas.{counted_on, counts_stay, sink_counted, with_source}
use Rattle.cdf_tool.proofs.Lines.{all_drained, all_replies, next_answered, next_fewer, next_same, next_short, next_stops, starts, stopped_cut}
use Rattle.cdf_tool.proofs.OnlyReads.{next_pass, stays_on, stays_still}
use Rattle.cdf_tool.proofs.script.answer_lines.Goals as goal

pub ready-init : goal.ready-init
ready-init g c = record {
  reached = rw c.none-refusals.ensures (starts (g.A.Area.frame c.args.session.now).limit (g.A.Area.image c.args.session.now) c.args.lines.now.given c.args.lines.now.ready _ c.args.replies.now c.requires.none_left);
  short = c.requires.short;
  idle = λ all. (all, stays_still g.A.Area.image g.A.Area.frame g.A.Area.faults g.A.Area.edited c.args.session.now);
  rest = refl;
  over = refl;
  frame = refl;
  counted = refl;
}

pub gather_reply-requires : goal.gather_reply-requires
gather_reply-requires g c =
    let next : GivesNext c.ready.lines c.next_to_answer.new.lines = c.next_to_answer.ensures.line c.ready-test.true in
    subst IsShort (sym c.line.ensures.text) (next_short c.ready.lines c.next_to_answer.new.lines next c.ready.invariant.short).0

pub ready-smaller : goal.ready-smaller
ready-smaller g c = next_fewer c.ready.lines c.next_to_answer.new.lines (c.next_to_answer.ensures.line c.ready-test.true)

pub ready-preserved : goal.ready-preserved
ready-preserved g c =
    let i = c.ready.invariant in
    let next : GivesNext c.ready.lines c.next_to_answer.new.lines = c.next_to_answer.ensures.line c.ready-test.true in
    let same = next_same c.ready.lines c.next_to_answer.new.lines next in
    record {
      reached = next_answered (g.A.Area.frame c.args.session.now).limit (g.A.Area.image c.args.session.now) c.args.lines.now.given c.args.lines.now.ready _
          (g.A.Area.image c.ready.session) (was_refused c.ready.refusals) _ c.ready.replies c.ready.lines i.reached
          c.next_to_answer.new.lines c.line.result (g.A.Area.frame c.ready.session).limit next c.line.ensures.text c.line.ensures.number (ap (λ f. f.limit) i.frame)
          (g.A.Area.image c.gather_reply.new.session) (is_some c.in-Ok.refused) (was_refused c.count.new.self) _ c.gather_reply.new.replies c.count.ensures c.in-Ok.ensures.ok;
      short = (next_short c.ready.lines c.next_to_answer.new.lines next i.short).1;
      idle = λ all.
          let so_far = i.idle all in
          let these = next_pass (line_idles (g.A.Area.frame c.args.session.now).limit (g.A.Area.image c.args.session.now)) c.ready.lines c.next_to_answer.new.lines next so_far.0 in (
            these.1,
            stays_on g.A.Area.image g.A.Area.frame g.A.Area.faults g.A.Area.edited c.args.session.now c.ready.session c.gather_reply.new.session so_far.1
                (c.in-Ok.ensures.idle ((λ i. line_idles (so_far.1.frame i).limit (so_far.1.image i) (c.line.ensures.text i)) ∙ these.0)),
          );
      rest = same.0 ∙ i.rest;
      over = same.1 ∙ i.over;
      frame = c.gather_reply.ensures.frame ∙ i.frame;
      counted = c.in-Ok.ensures.counted 0 ∙ i.counted;
    }

pub returns-in-Err : goal.returns-in-Err
returns-in-Err g c =
    let i = c.ready.invariant in
    let next : GivesNext c.ready.lines c.next_to_answer.new.lines = c.next_to_answer.ensures.line c.ready-test.true in
    record {
      ok = tt;
      drained = tt;
      none_left = tt;
      stops = next_stops (g.A.Area.frame c.args.session.now).limit (g.A.Area.image c.args.session.now) c.args.lines.now.given c.args.lines.now.ready _
          (g.A.Area.image c.ready.session) (was_refused c.ready.refusals) _ c.ready.replies c.ready.lines i.reached
          c.next_to_answer.new.lines c.line.result (g.A.Area.frame c.ready.session).limit next c.line.ensures.text c.line.ensures.number (ap (λ f. f.limit) i.frame)
          _ c.in-Err.status c.in-Err.ensures.stops;
      idle = λ all. tt;
      frame = c.gather_reply.ensures.frame ∙ i.frame;
      counted = λ source. counted_on _ _ _ c.in-Err.status (with_source _ _ _ _ _ _ source i.counted) (c.in-Err.ensures.counted source);
    }

pub returns-in-Ok-write : goal.returns-in-Ok-write
returns-in-Ok-write g c =
    let i = c.ready.invariant in
    let all = c.next_to_answer.ensures.none c.ready-test.false in
    record {
      ok = all_replies (g.A.Area.frame c.args.session.now).limit (g.A.Area.image c.args.session.now) c.args.lines.now.given c.args.lines.now.ready _
          (g.A.Area.image c.ready.session) (was_refused c.ready.refusals) _ c.ready.replies c.ready.lines i.reached c.next_to_answer.new.lines all (g.O.Sink.written c.write.new.out) c.in-Ok-write.ensures.all;
      drained = all_drained (g.A.Area.frame c.args.session.now).limit (g.A.Area.image c.args.session.now) c.args.lines.now.given c.args.lines.now.ready _
          (g.A.Area.image c.ready.session) (was_refused c.ready.refusals) _ c.ready.replies c.ready.lines i.reached c.next_to_answer.new.lines all c.args.lines.now i.rest i.over refl refl;
      none_left = c.in-Ok-write.ensures.none_left;
      stops = tt;
      idle = λ all. (i.idle all).1;
      frame = i.frame;
      counted = λ source. counts_stay _ _ _ _ _ _ _ _ refl refl c.in-Ok-write.ensures.cause.done refl ∙ with_source _ _ _ _ _ _ source i.counted;
    }

pub returns-in-Err-write : goal.returns-in-Err-write
returns-in-Err-write g c =
    let i = c.ready.invariant in
    record {
      ok = tt;
      drained = tt;
      none_left = tt;
      stops = stopped_cut (g.A.Area.frame c.args.session.now).limit (g.A.Area.image c.args.session.now) c.args.lines.now.given c.args.lines.now.ready _
          (g.A.Area.image c.ready.session) (was_refused c.ready.refusals) _ c.ready.replies c.ready.lines i.reached (g.O.Sink.written c.write.new.out) c.in-Err-write.ensures.part;
      idle = λ all. tt;
      frame = i.frame;
      counted = λ source. counted_on (counts (g.A.Area.faults c.args.session.now) 0 (g.O.Sink.faults c.args.out.now) source) (counts (g.A.Area.faults c.ready.session) 0 (g.O.Sink.faults c.ready.out) source) (counts (g.A.Area.faults c.ready.session) 0 (g.O.Sink.faults c.write.new.out) source) statuses.OutputFault
          (with_source _ _ _ _ _ _ source i.counted) (sink_counted _ _ _ source _ c.in-Err-write.ensures.cause.failed);
    }
