-- The bytes of a file in pieces of 65,536 bytes.
use Rattle.std.specs.Prelude.{◌≡◌, ℕ, ◌<◌, ◌≤◌, List, [], ◌∷◌, ◌++◌, length, vec_capacity}
use Rattle.std.specs.declared.alloc.Global.{Global}
use Rattle.std.specs.declared.vec.Vec.{Vec}

-- the bytes of a file, and up to which end there is room for them
pub record Roomed : Type 0 where
  pub bytes : List ℕ
  pub room : ℕ

-- the bytes of all pieces, one piece behind the other
unfoldable pub joined : List (Vec ℕ Global) → List ℕ
joined [] = []
joined (piece ∷ more) = piece.items ++ joined more

-- each piece has room for 65,536 bytes and no more bytes than these, and there are none behind one that is not full
unfoldable pub ArePieces : List (Vec ℕ Global) → Type 0
ArePieces [] = Unit {0}
ArePieces (piece ∷ more) = (65536 ≤ vec_capacity piece) × (length piece.items ≤ 65536) × (length piece.items < 65536 → joined more ≡ []) × ArePieces more
