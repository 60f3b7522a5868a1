-- Fields in which numbers are written.
use Rattle.cdf_attrs.proofs.Common.{AllLie, List, Write, [], arith, length, ℕ, ◌∷◌, ◌≡◌}

-- they lie in an image that is as long
pub lie_still : (b now : List ℕ) (ws : List Write) → length now ≡ length b → AllLie b ws → AllLie now ws
lie_still b now [] long lie = tt
lie_still b now (w ∷ ws) long lie = (let l = lie.0 in omega arith, lie_still b now ws long lie.1)
