use Rattle.cdf_tool.proofs.Common.{content, dump_text, ap, refl, ◌∙◌}
use Rattle.cdf_tool.proofs.CountLemmas.{counted_on, counts_stay}
use Rattle.cdf_tool.proofs.Shown.{all_written, begun_part, counted_in_on, last_part, text_part, walk_counted}
use Rattle.cdf_tool.proofs.showing.dump.Goals as goal

pub returns-in-Err-clause-part : goal.returns-in-Err-clause-part
returns-in-Err-clause-part g c = begun_part _ _ c.args.replies.now (dump_text (content (g.A.Area.image c.args.session.now))) c.args.number c.in-Err.status c.in-Err.ensures.part

pub returns-in-Err-clause-counted : goal.returns-in-Err-clause-counted
returns-in-Err-clause-counted g c = λ source. c.in-Err.ensures.counted (g.A.Area.faults c.args.session.now) source

pub returns-in-Ok-dump-clause-wrote : goal.returns-in-Ok-dump-clause-wrote
returns-in-Ok-dump-clause-wrote g c =
    all_written _ _ _ c.args.replies.now (dump_text (content (g.A.Area.image c.args.session.now))) c.args.number c.in-Ok.ensures.wrote _ c.deref.result.now (c.deref.ensures ∙ c.in-Ok.ensures.last) c.in-Ok-dump.ensures.all c.end.result c.end.ensures.wrote

pub returns-in-Ok-dump-clause-part : goal.returns-in-Ok-dump-clause-part
returns-in-Ok-dump-clause-part g c =
    last_part _ _ _ c.args.replies.now (dump_text (content (g.A.Area.image c.args.session.now))) c.args.number c.in-Ok.ensures.wrote _ c.deref.result.now (c.deref.ensures ∙ c.in-Ok.ensures.last) c.in-Ok-dump.ensures.all c.end.result c.end.ensures.part c.end.ensures.status

pub returns-in-Ok-dump-clause-counted : goal.returns-in-Ok-dump-clause-counted
returns-in-Ok-dump-clause-counted g c = λ source.
    let area = c.in-Ok-dump.ensures.area in
    counted_in_on _ _ _ c.end.result
    (counts_stay (g.A.Area.faults c.args.session.now) 0 (g.O.Sink.faults c.args.out.now) source (g.A.Area.faults c.dump.new.self) 0 (g.O.Sink.faults c.dump.new.out) source area.cause.done refl (area.sink.done ∙ ap (λ k. k.output) (c.in-Ok.ensures.counted 0 0)) refl)
    (c.end.ensures.counted (g.A.Area.faults c.dump.new.self) source)

pub returns-clause-part : goal.returns-clause-part
returns-clause-part g c =
    text_part _ _ _ c.args.replies.now (dump_text (content (g.A.Area.image c.args.session.now))) c.args.number c.in-Ok.ensures.wrote c.in-Err-dump.error c.walk_status.result c.walk_status.ensures c.in-Err-dump.ensures.part

pub returns-clause-counted : goal.returns-clause-counted
returns-clause-counted g c = λ source.
    let area = c.in-Err-dump.ensures.area in
    counted_on _ _ _ c.walk_status.result (c.in-Ok.ensures.counted (g.A.Area.faults c.args.session.now) source)
    (walk_counted c.in-Err-dump.error c.walk_status.result (g.A.Area.faults c.args.session.now) (g.O.Sink.faults c.begin.new.out) source (g.A.Area.faults c.dump.new.self) (g.O.Sink.faults c.dump.new.out) c.walk_status.ensures area.cause area.sink)
