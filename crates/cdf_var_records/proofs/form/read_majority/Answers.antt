use Rattle.cdf_var_records.proofs.Common.{◌∙◌}
use Rattle.cdf_var_records.proofs.RecordForms.{majority_is}
use Rattle.cdf_var_records.proofs.form.read_majority.Goals as goal

pub returns-clause-majority : goal.returns-clause-majority
returns-clause-majority g c = c.majority_in.ensures ∙ majority_is (g.A.Area.image c.args.area.now) c.requires c.in_ok-flags.flags c.in_ok-flags.ensures.value
