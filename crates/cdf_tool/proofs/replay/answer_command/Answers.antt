use Rattle.cdf_tool.proofs.replay.answer_command.Goals as goal

pub returns-in_ok-answer_report-in-Report-clause-answers : goal.returns-in_ok-answer_report-in-Report-clause-answers
returns-in_ok-answer_report-in-Report-clause-answers g c =
    rw c.in-Report.is (c.in_ok-answer_report-in-Report.ensures (g.A.Area.frame c.args.session.now).limit (g.A.Area.image c.args.session.now))
