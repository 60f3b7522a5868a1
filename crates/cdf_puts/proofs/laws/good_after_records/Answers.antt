use Rattle.cdf_puts.proofs.Common.{good_now}
use Rattle.cdf_puts.proofs.IndexWritten.{writes}
use Rattle.cdf_puts.proofs.laws.good_after_records.Goals as goal

pub returns : goal.returns
returns c = λ b now kind before own after l k bytes good at w short loose. good_now good at (writes good at w loose) short
