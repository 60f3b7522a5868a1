-- Numbers in the order in which they were met, which are looked up in their list as long as it ascends, and else in a set.
use Rattle.std.specs.Prelude.{◌≡◌, ◌≤◌, ◌<◌, ℕ, List, length, get_or, true, false}
use Rattle.std.specs.Ordering.{nat_cmp}
use Rattle.std.specs.BTreeSet.{contains}
use Rattle.cdf_format.specs.Chains.{is_in}
use Rattle.cdf_structure.specs.declared.met.Met.{Met}

-- none is less than one before it
abbrev pub Ascends : List ℕ → Type 0
Ascends xs = (i j : ℕ) → i ≤ j → j < length xs → get_or xs i 0 ≤ get_or xs j 0

pub record Agrees (m : Met) : Type 0 where
  pub sorted : m.is_sorted ≡ true → Ascends m.list.items
  pub same : m.is_sorted ≡ false → (n : ℕ) → contains nat_cmp m.set n ≡ is_in n m.list.items
