use Rattle.cdf_session.proofs.Common.{arith}
use Rattle.cdf_session.proofs.OpenLemmas.{starts_stay, stays_open}
use Rattle.cdf_session.proofs.ChecksumLemmas.{checksum_answers, checksum_open, checksum_starts}
use Rattle.cdf_session.proofs.session.Session.checksum.Goals as goal

pub invariant_of-self : goal.invariant_of-self
invariant_of-self g c = (
  stays_open (g.A.Area.image c.self.inside.area) (g.A.Area.image c.set_checksum.new.area) (g.A.Area.frame c.self.inside.area) (g.A.Area.frame c.set_checksum.new.area) c.self.inside.attrs c.self.inside.vars c.self.invariant.0 c.in_err-set_checksum.ensures.area.stays c.set_checksum.ensures.area.frame,
  record {
    starts = starts_stay (g.A.Area.image c.self.inside.area) (g.A.Area.image c.set_checksum.new.area) _ _ c.self.invariant.1.starts c.forget_view.ensures.starts c.in_err-set_checksum.ensures.area.stays;
    view = c.forget_view.ensures.view _;
  },
)

pub invariant_of-self-2 : goal.invariant_of-self-2
invariant_of-self-2 g c = (
  checksum_open (g.A.Area.image c.self.inside.area) (g.A.Area.image c.set_checksum.new.area) c.args.md5 c.self.invariant.0.good c.in_ok-set_checksum.ensures.flags c.in_ok-set_checksum.ensures.changed c.set_checksum.ensures.area.size
      (g.A.Area.frame c.self.inside.area) (g.A.Area.frame c.set_checksum.new.area) c.self.inside.attrs c.self.inside.vars c.self.invariant.0 c.set_checksum.ensures.area.frame,
  record {
    starts = checksum_starts (g.A.Area.image c.self.inside.area) (g.A.Area.image c.set_checksum.new.area) c.args.md5 c.self.invariant.0.good c.in_ok-set_checksum.ensures.flags c.in_ok-set_checksum.ensures.changed c.set_checksum.ensures.area.size
        _ _ c.self.invariant.1.starts c.forget_view.ensures.starts (omega (arith, c.self.invariant.0.fits, c.self.invariant.0.limited));
    view = c.forget_view.ensures.view _;
  },
)

pub returns-clause-answers : goal.returns-clause-answers
returns-clause-answers g c =
    rw c.self.view_is at (checksum_answers (g.A.Area.image c.self.inside.area) (g.A.Area.image c.set_checksum.new.area) c.args.md5 c.self.invariant.0.good c.in_ok-set_checksum.ensures.flags c.in_ok-set_checksum.ensures.changed c.set_checksum.ensures.area.size
    (g.A.Area.frame c.self.inside.area).limit c.self.invariant.0.fits c.self.invariant.0.limited)
