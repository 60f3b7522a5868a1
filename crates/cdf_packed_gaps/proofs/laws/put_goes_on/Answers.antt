use Rattle.cdf_packed_gaps.proofs.CutPacking as packing
use Rattle.cdf_packed_gaps.proofs.laws.put_goes_on.Goals as goal

pub returns-clause-packs : goal.returns-clause-packs
returns-clause-packs c b mid kind before own after first limit put p cut = packing.packs p cut

pub returns-clause-begins : goal.returns-clause-begins
returns-clause-begins c b mid kind before own after first limit put p cut = packing.begins p cut
