use Rattle.cdf_session.proofs.Common.{arith, cdr_fits, ◌∙◌}
use Rattle.cdf_session.proofs.HeadLemmas.{gdr_fits_at, few_dimensions_at, sizes_fit_at, head_is}
use Rattle.cdf_session.proofs.reading.read_head.Goals as goal

pub read_cdr-requires : goal.read_cdr-requires
read_cdr-requires g c = omega (arith, cdr_fits (g.A.Area.image c.args.area.now) c.requires)

pub read_gdr-requires : goal.read_gdr-requires
read_gdr-requires g c = gdr_fits_at (g.A.Area.image c.args.area.now) (g.A.Area.image c.read_cdr.new.area) c.in_ok-cdr.cdr c.requires c.read_cdr.ensures.area.image c.in_ok-cdr.ensures.value

pub read_sizes-requires-clause-few : goal.read_sizes-requires-clause-few
read_sizes-requires-clause-few g c =
    few_dimensions_at (g.A.Area.image c.args.area.now) (g.A.Area.image c.read_gdr.new.area) c.in_ok-cdr.cdr c.requires (c.read_gdr.ensures.area.image ∙ c.read_cdr.ensures.area.image) c.in_ok-cdr.ensures.value

pub read_sizes-requires-clause-fits : goal.read_sizes-requires-clause-fits
read_sizes-requires-clause-fits g c =
    sizes_fit_at (g.A.Area.image c.args.area.now) (g.A.Area.image c.read_gdr.new.area) c.in_ok-cdr.cdr c.requires (c.read_gdr.ensures.area.image ∙ c.read_cdr.ensures.area.image) c.in_ok-cdr.ensures.value

pub returns-clause-head : goal.returns-clause-head
returns-clause-head g c =
    let same = c.read_gdr.ensures.area.image ∙ c.read_cdr.ensures.area.image in
    c.head_from.ensures
    ∙ head_is (g.A.Area.image c.args.area.now) (g.A.Area.image c.read_cdr.new.area) (g.A.Area.image c.read_gdr.new.area) c.in_ok-cdr.cdr c.in_ok-gdr.gdr c.in_ok-rdims.rdims c.requires c.read_cdr.ensures.area.image same
    c.in_ok-cdr.ensures.value c.in_ok-gdr.ensures.value c.in_ok-cdr.ensures.bytes c.in_ok-gdr.ensures.bytes c.in_ok-rdims.ensures.sizes
