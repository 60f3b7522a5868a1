-- The first and the last entry of a node.
use Rattle.std.proofs.Common.{List, [], arith, get_or, length, refl, suc, zero, ℕ, ◌-◌, ◌∷◌, ◌≡◌, ◌≤◌}
use Rattle.cdf_writer.specs.Laying.{first_in, last_in}
use Rattle.cdf_writer.specs.declared.bodies.NodeEntry.{NodeEntry}

pub first_at : (entries : List NodeEntry) (d : NodeEntry) → 1 ≤ length entries → (get_or entries 0 d).first ≡ first_in entries
first_at [] d some = absurd (omega (arith, some))
first_at (e ∷ more) d some = refl

last_from : (entries : List NodeEntry) (k : ℕ) (d : NodeEntry) → suc k ≡ length entries → (get_or entries k d).last ≡ last_in entries
last_from [] k d e = absurd (omega (arith, e))
last_from (x ∷ []) zero d e = refl
last_from (x ∷ []) (suc k) d e = absurd (omega (arith, e))
last_from (x ∷ y ∷ more) zero d e = absurd (omega (arith, e))
last_from (x ∷ y ∷ more) (suc k) d e = last_from (y ∷ more) k d (omega (arith, e))

pub last_at : (entries : List NodeEntry) (d : NodeEntry) → 1 ≤ length entries → (get_or entries (length entries - 1) d).last ≡ last_in entries
last_at entries d some = last_from entries (length entries - 1) d (omega (arith, some))
