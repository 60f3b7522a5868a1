use Rattle.std.proofs.Common.{nat_lt, flat_map}
use Rattle.std.proofs.lemmas.List.Elements.{filter_passes}
use Rattle.cdf_model.specs.DataSet.{extent}
use Rattle.cdf_format.specs.Content.{leaf_records}
use Rattle.cdf_format.specs.Index.{leaves_of}
use Rattle.cdf_format.specs.VariableFields.{max_rec_at}
use Rattle.cdf_format.proofs.laws.records_end_at_max_rec.Goals as goal

pub returns : goal.returns
returns c = λ b v. filter_passes (λ pair. nat_lt pair.0 (extent (max_rec_at b v.vdr))) (flat_map (leaf_records b v.vdr) (leaves_of v.index))
