use Rattle.cdf_var_records.proofs.Common.{words, ◌+◌, ◌∙◌}
use Rattle.cdf_var_records.proofs.RecordForms.{z_sizes_are}
use Rattle.cdf_var_records.proofs.form.read_z_dims.Goals as goal

pub returns-clause-dims : goal.returns-clause-dims
returns-clause-dims g c =
    let same = c.read_z_dimensions.ensures.area.image in
    let n = c.in_ok-dimensions.ensures.dimensions in
    rw ((λ i. words (same i) (c.args.vdr + 344) (n i)) ∙ z_sizes_are c.requires.good c.requires.vdr) at c.read_nums.ensures.value
