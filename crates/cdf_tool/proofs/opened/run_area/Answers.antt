use Rattle.cdf_tool.proofs.opened.run_area.Goals as goal

pub returns-in-Err-clause-counted : goal.returns-in-Err-clause-counted
returns-in-Err-clause-counted g c = c.refuse-status.ensures.counted _ _ _ c.in-Err.ensures.area.cause
