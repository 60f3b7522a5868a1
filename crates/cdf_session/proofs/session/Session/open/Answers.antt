use Rattle.cdf_session.proofs.AdoptLemmas.{adopted, adopted_open}
use Rattle.cdf_session.proofs.Explained.{explained}
use Rattle.cdf_session.proofs.session.Session.open.Goals as goal

pub invariant_of-result : goal.invariant_of-result
invariant_of-result g c = (
  adopted_open (g.A.Area.image c.args.area) (g.A.Area.image c.take_up.new.area) (g.A.Area.frame c.args.area) (g.A.Area.frame c.take_up.new.area) c.in-Ok.loaded.attrs c.in-Ok.loaded.vars
      c.requires.well_formed c.in-Ok.ensures.image c.take_up.ensures.area.frame c.requires.limit c.requires.unmarked c.in-Ok.ensures.known.attributes c.in-Ok.ensures.known.variables,
  c.new.ensures _,
)

pub returns-in-Ok-clause-adopted : goal.returns-in-Ok-clause-adopted
returns-in-Ok-clause-adopted g c = adopted (g.A.Area.image c.args.area) (g.A.Area.image c.take_up.new.area) c.requires.well_formed c.in-Ok.ensures.image

pub returns-in-Err-clause-area : goal.returns-in-Err-clause-area
returns-in-Err-clause-area g c =
    record { frame = tt; counted = tt; image = c.in-Err.ensures.stays; frame_back = c.take_up.ensures.area.frame; cause = explained c.in-Err.error _ _ c.in-Err.ensures.area.cause }
