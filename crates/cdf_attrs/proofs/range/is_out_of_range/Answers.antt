use Rattle.cdf_attrs.proofs.Common.{arith}
use Rattle.cdf_attrs.proofs.RangeCounts.{cdr_there, gdr_there, r_range, z_range}
use Rattle.cdf_attrs.proofs.range.is_out_of_range.Goals as goal

pub read_count-requires : goal.read_count-requires
read_count-requires g c = record { cdr = cdr_there (g.A.Area.image c.args.area.now) c.requires; gdr = gdr_there (g.A.Area.image c.args.area.now) c.requires 44 (omega arith) }

pub read_count-requires-in-Z : goal.read_count-requires-in-Z
read_count-requires-in-Z g c = record { cdr = cdr_there (g.A.Area.image c.args.area.now) c.requires; gdr = gdr_there (g.A.Area.image c.args.area.now) c.requires 60 (omega arith) }

pub returns-in_ok-read_count-in-R-clause-range : goal.returns-in_ok-read_count-in-R-clause-range
returns-in_ok-read_count-in-R-clause-range g c = rw c.in-R.is (r_range (g.A.Area.image c.args.area.now) c.requires c.in_ok-read_count-in-R.field-0 c.args.num c.in_ok-read_count-in-R.ensures.count)

pub returns-in_ok-read_count-in-Z-clause-range : goal.returns-in_ok-read_count-in-Z-clause-range
returns-in_ok-read_count-in-Z-clause-range g c = rw c.in-Z.is (z_range (g.A.Area.image c.args.area.now) c.requires c.in_ok-read_count-in-Z.field-0 c.args.num c.in_ok-read_count-in-Z.ensures.count)
