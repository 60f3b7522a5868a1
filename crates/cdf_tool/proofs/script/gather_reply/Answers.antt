use Rattle.cdf_tool.proofs.Common.{counts, refl, ◌∙◌}
use Rattle.cdf_tool.proofs.Answered.{dump_gathers, dump_stops, report_stops}
use Rattle.cdf_tool.proofs.CountLemmas.{counted_on}
use Rattle.cdf_tool.proofs.Lines.{stops_before, stops_cut}
use Rattle.cdf_tool.proofs.script.gather_reply.Goals as goal

-- ---- a dump

pub returns-in-Ok-dump-clause-ok : goal.returns-in-Ok-dump-clause-ok
returns-in-Ok-dump-clause-ok g c =
    let done = c.in-Ok-dump.ensures in
    dump_gathers _ _ c.args.line.now _ c.args.replies.now _ (g.A.Area.image c.answer_line.new.session) c.in-Ok-Dump.field-0 c.in-Ok-Dump.ensures.answers c.in-Ok-Dump.field-0-is (g.A.Area.image c.dump.new.session) c.dump.new.replies done.stays.image refl done.none_left done.wrote

pub returns-in-Ok-dump-clause-counted : goal.returns-in-Ok-dump-clause-counted
returns-in-Ok-dump-clause-counted g c = λ source. c.in-Ok-dump.ensures.counted source ∙ (λ i. counts (c.in-Ok-Dump.ensures.area.cause.done i) 0 (g.O.Sink.faults c.args.out.now) source)

pub returns-in-Ok-Dump-clause-stops : goal.returns-in-Ok-Dump-clause-stops
returns-in-Ok-Dump-clause-stops g c =
    dump_stops _ _ c.args.line.now _ c.args.replies.now _ (g.A.Area.image c.answer_line.new.session) c.in-Ok-Dump.field-0 c.in-Ok-Dump.ensures.answers c.in-Ok-Dump.field-0-is c.in-Err-dump.status refl c.in-Err-dump.ensures.part

pub returns-in-Ok-Dump-clause-counted : goal.returns-in-Ok-Dump-clause-counted
returns-in-Ok-Dump-clause-counted g c = λ source.
    counted_on _ _ _ c.in-Err-dump.status (λ i. counts (c.in-Ok-Dump.ensures.area.cause.done i) 0 (g.O.Sink.faults c.args.out.now) source) (c.in-Err-dump.ensures.counted source)

-- ---- a report

pub returns-in-Ok-report-clause-counted : goal.returns-in-Ok-report-clause-counted
returns-in-Ok-report-clause-counted g c = λ source. c.in-Ok-report.ensures.counted source ∙ (λ i. counts (c.in-Ok-Report.ensures.area.cause.done i) 0 (g.O.Sink.faults c.args.out.now) source)

pub returns-in-Ok-Report-clause-stops : goal.returns-in-Ok-Report-clause-stops
returns-in-Ok-Report-clause-stops g c =
    report_stops _ _ c.args.line.now _ c.args.replies.now _ (g.A.Area.image c.answer_line.new.session) c.in-Ok-Report.field-0 c.in-Ok-Report.ensures.answers c.in-Ok-Report.name c.as_slice.result.now c.in-Ok-Report.field-0-is c.as_slice.ensures
    c.in-Err-report.status c.in-Err-report.ensures.part

pub returns-in-Ok-Report-clause-counted : goal.returns-in-Ok-Report-clause-counted
returns-in-Ok-Report-clause-counted g c = λ source.
    counted_on _ _ _ c.in-Err-report.status (λ i. counts (c.in-Ok-Report.ensures.area.cause.done i) 0 (g.O.Sink.faults c.args.out.now) source) (c.in-Err-report.ensures.counted source)

-- ---- no reply

pub returns-in-Ok-write-clause-stops : goal.returns-in-Ok-write-clause-stops
returns-in-Ok-write-clause-stops g c =
    stops_before _ _ c.args.line.now _ c.args.replies.now _ refl c.in-Err.error c.area_status.result c.area_status.ensures c.in-Ok-write.ensures.all

pub returns-clause-stops : goal.returns-clause-stops
returns-clause-stops g c = stops_cut _ _ c.args.line.now _ c.args.replies.now _ refl c.in-Err-write.ensures.part
