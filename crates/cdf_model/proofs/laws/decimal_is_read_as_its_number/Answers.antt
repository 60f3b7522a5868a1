use Rattle.cdf_model.proofs.Decimals.{number_in-decimal}
use Rattle.cdf_model.proofs.laws.decimal_is_read_as_its_number.Goals as goal

pub returns : goal.returns
returns c = number_in-decimal
