use Rattle.cdf_space.proofs.Common.{on_ok_weaker}
use Rattle.cdf_space.proofs.Writing.{listed_by}
use Rattle.cdf_space.proofs.placing.list.Goals as goal

pub returns-clause-listed : goal.returns-clause-listed
returns-clause-listed g c =
    on_ok_weaker _ (λ w. listed_by (g.A.Area.image c.args.area.now) (g.A.Area.image c.set_record_size.new.area) (g.A.Area.image c.set_record_type.new.area) (g.A.Area.image c.set_uir_next_uir.new.area) (g.A.Area.image c.set_uir_prev_uir.new.area)
    c.args.place c.args.size c.args.next c.args.before c.requires c.ranges.size.fits c.ranges.next.fits c.ranges.before.fits
    c.in_ok-set_record_size.ensures.ok c.in_ok-set_record_type.ensures.ok c.in_ok-set_uir_next_uir.ensures.ok w) c.set_uir_prev_uir.ensures.ok
