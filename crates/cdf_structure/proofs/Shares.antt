-- How many bytes each of several records may take.
use Rattle.cdf_structure.proofs.Common.{arith, ℕ, ◌*◌, ◌/◌, ◌<◌, ◌≤◌}
use Rattle.std.proofs.Math.Nat.{mul-div-le, mul-le-mul_left}
use Rattle.std.proofs.lemmas.Nat.{le-div}

pub share_fits : (bytes count share : ℕ) → share ≤ bytes / count → count * share ≤ bytes
share_fits bytes count share le = omega (arith, mul-le-mul_left count le, mul-div-le bytes count)

pub share_most : (bytes count share : ℕ) → 0 < count → count * share ≤ bytes → share ≤ bytes / count
share_most bytes count share some le = le-div share bytes count some (omega (arith, le))
