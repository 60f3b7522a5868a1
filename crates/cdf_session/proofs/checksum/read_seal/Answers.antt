use Rattle.cdf_session.proofs.Common.{arith, cdr_fits}
use Rattle.cdf_session.proofs.checksum.read_seal.Goals as goal

pub read_cdr-requires : goal.read_cdr-requires
read_cdr-requires g c = omega (arith, cdr_fits (g.A.Area.image c.args.area.now) c.requires)
