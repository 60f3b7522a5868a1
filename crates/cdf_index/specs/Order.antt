-- The order of an index, and the leaf that has a record.
use Rattle.std.specs.Prelude.{◌≤◌, ℕ, suc, List, Some, None, nat_lt, find, if◌then◌else◌}
use Rattle.std.specs.declared.option.Option.{Option}
use Rattle.cdf_edits.specs.Index.Blocks.{range, covers}
use Rattle.cdf_format.specs.Index.{Nodes, no_node, node, Entries, no_entry, block, lower, Leaf, leaf}

-- one past Last of the last entry, or this number where there is none
abbrev pub past_entries : ℕ → Entries → ℕ
past_entries low no_entry = low
past_entries low (block first last place packed entries) = past_entries (suc last) entries
past_entries low (lower first last nodes entries) = past_entries (suc last) entries

unfoldable mutual
  -- the entries name records from `low` to `high`, in ascending order, along a chain too, and those of a lower chain lie within the entry that names it
  pub InOrder : ℕ → ℕ → Nodes → Type 0
  InOrder low high no_node = Unit {0}
  InOrder low high (node place room entries more) = AreInOrder low high entries × InOrder (past_entries low entries) high more

  pub AreInOrder : ℕ → ℕ → Entries → Type 0
  AreInOrder low high no_entry = Unit {0}
  AreInOrder low high (block first last place packed entries) = (low ≤ first) × (first ≤ last) × (last ≤ high) × AreInOrder (suc last) high entries
  AreInOrder low high (lower first last nodes entries) = (low ≤ first) × (first ≤ last) × (last ≤ high) × InOrder first last nodes × AreInOrder (suc last) high entries

-- the first leaf that has a record
abbrev pub leaf_of : ℕ → List Leaf → Option Leaf
leaf_of rec leaves = find (λ (l : Leaf). covers rec (range l.first l.last)) leaves

unfoldable mutual
  -- the same on the way down: the first entry that ends at the record or later decides
  pub find_in : ℕ → Nodes → Option Leaf
  find_in rec no_node = None
  find_in rec (node place room entries more) = find_entry rec entries (find_in rec more)

  pub find_entry : ℕ → Entries → Option Leaf → Option Leaf
  find_entry rec no_entry other = other
  find_entry rec (block first last place packed entries) other = if nat_lt last rec then find_entry rec entries other else (if nat_lt rec first then None else Some (leaf first last place packed))
  find_entry rec (lower first last nodes entries) other = if nat_lt last rec then find_entry rec entries other else (if nat_lt rec first then None else find_in rec nodes)

unfoldable mutual
  -- how many nodes are passed on that way: on each level those of the chain up to the one that has the entry which decides
  pub nodes_passed : ℕ → Nodes → ℕ
  nodes_passed rec no_node = 0
  nodes_passed rec (node place room entries more) = suc (passed_from rec entries (nodes_passed rec more))

  pub passed_from : ℕ → Entries → ℕ → ℕ
  passed_from rec no_entry other = other
  passed_from rec (block first last place packed entries) other = if nat_lt last rec then passed_from rec entries other else 0
  passed_from rec (lower first last nodes entries) other = if nat_lt last rec then passed_from rec entries other else (if nat_lt rec first then 0 else nodes_passed rec nodes)

unfoldable mutual
  -- no node has one behind it
  pub NextsAreZero : Nodes → Type 0
  NextsAreZero no_node = Unit {0}
  NextsAreZero (node place room entries no_node) = LowerAreZero entries
  NextsAreZero (node place room entries (node place' room' entries' more)) = ⊥

  pub LowerAreZero : Entries → Type 0
  LowerAreZero no_entry = Unit {0}
  LowerAreZero (block first last place packed entries) = LowerAreZero entries
  LowerAreZero (lower first last nodes entries) = NextsAreZero nodes × LowerAreZero entries
