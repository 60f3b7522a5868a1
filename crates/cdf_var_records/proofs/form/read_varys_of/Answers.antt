use Rattle.cdf_var_records.proofs.Common.{arith}
use Rattle.cdf_var_records.proofs.RecordForms.{count_few, varys_before, varys_inside, varys_read}
use Rattle.cdf_var_records.proofs.form.read_varys_of.Goals as goal

pub overflow_mul-at : goal.overflow_mul-at
overflow_mul-at g c = let few = count_few c.requires.good c.requires.vdr c.requires.place c.requires.count in omega arith

pub overflow_sub-at : goal.overflow_sub-at
overflow_sub-at g c = varys_before c.requires.good c.requires.vdr c.requires.place c.requires.count

pub overflow_add-place : goal.overflow_add-place
overflow_add-place g c = let l = varys_inside c.requires.good c.requires.vdr c.requires.place c.requires.count in omega (arith, l, c.size-size.ensures)

pub overflow_cast-count : goal.overflow_cast-count
overflow_cast-count g c = let few = count_few c.requires.good c.requires.vdr c.requires.place c.requires.count in omega arith

pub read_varys-requires : goal.read_varys-requires
read_varys-requires g c = varys_inside c.requires.good c.requires.vdr c.requires.place c.requires.count

pub returns-clause-varys : goal.returns-clause-varys
returns-clause-varys g c = rw (varys_read c.requires.good c.requires.vdr c.requires.place c.requires.count) at c.read_varys.ensures.value
