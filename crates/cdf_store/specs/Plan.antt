-- Which calls of a device in memory fail, by their number from 1.
use Rattle.std.specs.Prelude.{◌≡◌, ℕ, ◌+◌, ◌-◌, ◌^◌, ◌↔◌, min, List, Bool, IsTrue, Contains}

-- a call was counted, and it failed exactly where its number was planned
pub record PlannedCall (calls calls' : ℕ) (failing failing' : List ℕ) (failed : Bool) : Type 0 where
  pub counted : calls' ≡ min (calls + 1) (2 ^ 64 - 1)
  pub kept : failing' ≡ failing
  pub planned : IsTrue failed ↔ Contains failing calls'
