use Rattle.cdf_var_records.proofs.Common.{arith, refl, ◌∙◌}
use Rattle.cdf_var_records.proofs.PadSites.{count_lies, dims_are, sizes_lie}
use Rattle.cdf_var_records.proofs.form.read_dims.Goals as goal

pub read_unsigned4-requires : goal.read_unsigned4-requires
read_unsigned4-requires g c = count_lies (g.A.Area.image c.args.area.now) (g.A.Area.image c.read_unsigned8.new.area) c.requires c.read_unsigned8.ensures.area.image c.in_ok-gdr.gdr c.in_ok-gdr.ensures.value

pub overflow_add-gdr-2 : goal.overflow_add-gdr-2
overflow_add-gdr-2 g c =
    let l = sizes_lie (g.A.Area.image c.args.area.now) (g.A.Area.image c.read_unsigned8.new.area) c.requires c.read_unsigned8.ensures.area.image c.in_ok-gdr.gdr c.in_ok-gdr.ensures.value
    c.in_ok-dimensions.dimensions c.in_ok-dimensions.ensures.value (g.A.Area.image c.args.area.now) refl in
    omega (arith, l, c.size-size.ensures)

pub read_nums-requires : goal.read_nums-requires
read_nums-requires g c =
    sizes_lie (g.A.Area.image c.args.area.now) (g.A.Area.image c.read_unsigned8.new.area) c.requires c.read_unsigned8.ensures.area.image c.in_ok-gdr.gdr c.in_ok-gdr.ensures.value
    c.in_ok-dimensions.dimensions c.in_ok-dimensions.ensures.value (g.A.Area.image c.read_unsigned4.new.area) (c.read_unsigned4.ensures.area.image ∙ c.read_unsigned8.ensures.area.image)

pub returns-clause-dims : goal.returns-clause-dims
returns-clause-dims g c =
    rw (dims_are (g.A.Area.image c.args.area.now) (g.A.Area.image c.read_unsigned8.new.area) c.requires c.read_unsigned8.ensures.area.image c.in_ok-gdr.gdr c.in_ok-gdr.ensures.value
    c.in_ok-dimensions.dimensions c.in_ok-dimensions.ensures.value (g.A.Area.image c.read_unsigned4.new.area) (c.read_unsigned4.ensures.area.image ∙ c.read_unsigned8.ensures.area.image)) at c.read_nums.ensures.value
