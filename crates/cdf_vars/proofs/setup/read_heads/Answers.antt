use Rattle.cdf_vars.proofs.Common.{Cdr, ap, arith, cdr_fits, gdr_fits, length, sym, ◌∙◌}
use Rattle.cdf_vars.proofs.SetUpAnswers.{size_read, counts_read}
use Rattle.cdf_vars.proofs.setup.read_heads.Goals as goal

pub read_cdr-requires : goal.read_cdr-requires
read_cdr-requires g c = omega (arith, cdr_fits (g.A.Area.image c.args.area.now) c.requires)

pub read_gdr-requires : goal.read_gdr-requires
read_gdr-requires g c = omega (arith, gdr_fits (g.A.Area.image c.args.area.now) c.requires, ap length c.in_ok-cdr.ensures.area.image, ap (λ (r : Cdr). r.gdr_offset) c.in_ok-cdr.ensures.value)

pub returns-clause-size : goal.returns-clause-size
returns-clause-size g c = size_read c.requires c.in_ok-cdr.ensures.area.image c.in_ok-cdr.ensures.value c.in_ok-gdr.ensures.value

pub returns-clause-in_use : goal.returns-clause-in_use
returns-clause-in_use g c = sym (counts_read c.requires c.in_ok-cdr.ensures.area.image c.in_ok-cdr.ensures.value c.in_ok-gdr.ensures.value c.in_ok-gdr.ensures.bytes) ∙ c.is_in_use.ensures
