use Rattle.cdf_var_records.proofs.Common.{IsVdr, Kind, subst}
use Rattle.cdf_var_records.proofs.RecordForms.{r_sizes_are}
use Rattle.cdf_var_records.proofs.form.read_dims_of.Goals as goal

pub returns-in-R-clause-dims : goal.returns-in-R-clause-dims
returns-in-R-clause-dims g c = rw (r_sizes_are c.requires.good (subst (λ (k : Kind). IsVdr (g.A.Area.image c.args.area.now) k c.args.vdr) c.in-R.is c.requires.vdr)) at c.read_dims.ensures.dims
