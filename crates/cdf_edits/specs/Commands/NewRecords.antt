-- What new records, moved ones and changed fields hold (CDF Internal Format Description, "Internal Records"; own: the numbers in fields that no command sets, a record moves only where it has no room, and it keeps what it held).
use Rattle.std.specs.Prelude.{◌≡◌, ◌≤◌, ℕ, ◌+◌, ◌-◌, ◌*◌, ◌^◌, ◌/◌, ◌%◌, List, [], ◌∷◌, ◌++◌, length, replicate, nat_le, if◌then◌else◌}
use Rattle.cdf_edits.specs.Space.Acts.{Act, Took, Gave}
use Rattle.cdf_format.specs.Bytes.{Same}
use Rattle.cdf_format.specs.Fields.{number, size_at}
use Rattle.cdf_format.specs.Records.{Field}
use Rattle.cdf_format.specs.Shape.{Each}
use Rattle.cdf_format.specs.Stored.{field_bytes}

-- these fields of a record hold these numbers
abbrev pub Says : List ℕ → ℕ → List (Field × ℕ) → Type 0
Says b place [] = Unit {0}
Says b place ((f, n) ∷ more) = (number b place f ≡ n) × Says b place more

-- a Name, filled with bytes 0
abbrev pub IsFilled : List ℕ → ℕ → Field → List ℕ → Type 0
IsFilled now place f name = field_bytes now place f ≡ name ++ replicate (f.width - length name) 0

-- a number of which so many bits, from a lowest one on, are those of another
abbrev pub with_bits : ℕ → ℕ → ℕ → ℕ → ℕ
with_bits n low count bits = n % 2 ^ low + 2 ^ low * bits + 2 ^ (low + count) * (n / 2 ^ (low + count))

-- these fields of two records are the same
abbrev pub AreSameFields : List ℕ → ℕ → List ℕ → ℕ → List Field → Type 0
AreSameFields b place now place' fields = Each (λ f. number now place' f ≡ number b place f) fields

-- ---- records that may move

-- a record whose fields end there now stays in its place, with its size and with what stands behind them
pub record HasRoom (b now : List ℕ) (place place' end : ℕ) : Type 0 where
  pub place_stays : place' ≡ place
  pub size_stays : size_at now place ≡ size_at b place
  pub rest_stays : Same b now (place + end) (place + size_at b place)

-- it moves only where it has no room for them
abbrev pub MovesForRoom : List ℕ → List ℕ → ℕ → ℕ → ℕ → Type 0
MovesForRoom b now place place' end = end ≤ size_at b place → HasRoom b now place place' end

-- then it is placed anew, and the old one is freed after that
abbrev pub moved_for_room : List ℕ → ℕ → ℕ → ℕ → List Act
moved_for_room b place place' end = if nat_le end (size_at b place) then [] else Took place' end ∷ Gave place (size_at b place) ∷ []
