use Rattle.cdf_var_records.proofs.Common.{arith}
use Rattle.cdf_var_records.proofs.PadSites.{z_count, z_lies}
use Rattle.cdf_var_records.proofs.pad_place.read_z_dimensions.Goals as goal

pub overflow_add-vdr : goal.overflow_add-vdr
overflow_add-vdr g c = let l = z_lies c.requires.good c.requires.vdr in omega (arith, l, c.size-size.ensures)

pub read_unsigned4-requires : goal.read_unsigned4-requires
read_unsigned4-requires g c = let l = z_lies c.requires.good c.requires.vdr in omega (arith, l)

pub returns-clause-dimensions : goal.returns-clause-dimensions
returns-clause-dimensions g c = z_count c.requires.good c.requires.vdr c.in_ok-dimensions.dimensions c.in_ok-dimensions.ensures.value
