use Rattle.cdf_vars.proofs.PutTargets.{has_form}
use Rattle.cdf_vars.proofs.VariableFound.{is_vdr, missing, placed}
use Rattle.cdf_vars.proofs.vars.Vars.find_form.Goals as goal

pub returns-in_default-clause-form : goal.returns-in_default-clause-form
returns-in_default-clause-form g c = missing c.args.name.now c.requires.known c.find.ensures.found c.in_default.is

pub place_of-vdr-requires : goal.place_of-vdr-requires
place_of-vdr-requires g c = placed c.args.name.now c.requires.known c.find.ensures.found c.requires.good c.in-Some.is

pub read_form-requires-clause-vdr : goal.read_form-requires-clause-vdr
read_form-requires-clause-vdr g c = is_vdr c.args.name.now c.requires.known c.find.ensures.found c.requires.good c.in-Some.is c.place_of-vdr.ensures

pub returns-clause-form : goal.returns-clause-form
returns-clause-form g c = has_form c.args.name.now c.requires.known c.find.ensures.found c.requires.good c.in-Some.is c.place_of-vdr.ensures c.in_ok-form.form c.in_ok-form.ensures.form c.in_ok-form.ensures.vdr
