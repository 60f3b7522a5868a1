use Rattle.cdf_tool.proofs.Common.{sym, ◌∙◌}
use Rattle.cdf_tool.proofs.AreaLemmas.{refused_ends, failed_ends}
use Rattle.cdf_tool.proofs.CountLemmas.{rejected_counted, refused_counted}
use Rattle.cdf_tool.proofs.Told.{never_of_area, refused_tells}
use Rattle.cdf_tool.proofs.opened.refuse.Goals as goal

pub returns-in-Rejected-clause-ends : goal.returns-in-Rejected-clause-ends
returns-in-Rejected-clause-ends g c = λ new file why. refused_ends new file c.in-Rejected.broken _ _ c.say_rejected-status.result c.args.why c.in-Rejected.is why c.say_rejected-status.ensures.text

pub returns-in-Rejected-clause-told : goal.returns-in-Rejected-clause-told
returns-in-Rejected-clause-told g c = λ new file why.
    refused_tells (g.O.Sink.written c.args.out.now) (g.O.Sink.written c.say_rejected-status.new.out) new file c.in-Rejected.broken c.say_rejected-status.result c.if_rejected.result c.args.why c.in-Rejected.is why c.say_rejected-status.ensures.text
    c.if_rejected.ensures.told c.if_rejected.ensures.untold

pub returns-in-Rejected-clause-counted : goal.returns-in-Rejected-clause-counted
returns-in-Rejected-clause-counted g c = λ before now source why. rejected_counted c.in-Rejected.broken c.args.why c.say_rejected-status.result before (g.O.Sink.faults c.args.out.now) source now (g.O.Sink.faults c.say_rejected-status.new.out) c.in-Rejected.is why (c.say_rejected-status.ensures.counted before 0 source)

pub returns-in-Failed-clause-ends : goal.returns-in-Failed-clause-ends
returns-in-Failed-clause-ends g c = λ new file why. failed_ends new file (g.O.Sink.written c.args.out.now) c.in-Failed.error c.area_status.result c.area_status.ensures

pub returns-in-Failed-clause-told : goal.returns-in-Failed-clause-told
returns-in-Failed-clause-told g c = λ new file why is. never_of_area c.in-Failed.error (sym c.area_status.ensures ∙ is)

pub returns-in-Failed-clause-counted : goal.returns-in-Failed-clause-counted
returns-in-Failed-clause-counted g c = λ before now source why. refused_counted c.in-Failed.error c.args.why c.area_status.result before (g.O.Sink.faults c.args.out.now) source now c.in-Failed.is c.area_status.ensures why
