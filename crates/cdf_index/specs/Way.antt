-- The way that an index leads down to the place of a new entry, as code takes it: down along the links, and up again with a write in each node (own).
use Rattle.std.specs.Prelude.{ℕ, zero, suc, max, List, [], ◌∷◌, false, if◌then◌else◌}
use Rattle.cdf_edits.specs.Index.Grown.{reaches, chain_reaches, leads_down, with_entry}
use Rattle.cdf_edits.specs.Index.Redone.{redo}
use Rattle.cdf_format.specs.Index.{Nodes, no_node, node, Entries, no_entry, block, lower, Leaf}

-- the number of the entry on the way
abbrev pub down_at : ℕ → Entries → ℕ
down_at f no_entry = 0
down_at f (block first last place packed entries) = suc (down_at f entries)
down_at f (lower first last nodes entries) = if reaches f entries then suc (down_at f entries) else 0

unfoldable mutual
  -- each node on the way whose entry leads on, with the number of that entry, from the top
  pub way : ℕ → Nodes → List (ℕ × ℕ)
  way f no_node = []
  way f (node place room entries more) = if chain_reaches f more then way f more else (if leads_down f false entries then (place, down_at f entries) ∷ way_below f entries else [])

  pub way_below : ℕ → Entries → List (ℕ × ℕ)
  way_below f no_entry = []
  way_below f (block first last place packed entries) = way_below f entries
  way_below f (lower first last nodes entries) = if reaches f entries then way_below f entries else way f nodes

unfoldable mutual
  -- the node at the end of the way
  pub spot : ℕ → Nodes → ℕ
  spot f no_node = 0
  spot f (node place room entries more) = if chain_reaches f more then spot f more else (if leads_down f false entries then spot_below f entries else place)

  pub spot_below : ℕ → Entries → ℕ
  spot_below f no_entry = 0
  spot_below f (block first last place packed entries) = spot_below f entries
  spot_below f (lower first last nodes entries) = if reaches f entries then spot_below f entries else spot f nodes

-- the entry with a number ends at a record or later
abbrev pub widened : ℕ → ℕ → Entries → Entries
widened last i no_entry = no_entry
widened last zero (block first end place packed entries) = block first (max end last) place packed entries
widened last zero (lower first end nodes entries) = lower first (max end last) nodes entries
widened last (suc i) (block first end place packed entries) = block first end place packed (widened last i entries)
widened last (suc i) (lower first end nodes entries) = lower first end nodes (widened last i entries)

-- what becomes of a node on the way, and of the one at its end
abbrev pub wider : ℕ → ℕ → ℕ → ℕ → Entries → Nodes → Nodes
wider last place i room entries more = node place room (widened last i entries) more

abbrev pub placed : Leaf → ℕ → ℕ → ℕ → Entries → Nodes → Nodes
placed new at place room entries more = with_entry new at place room entries more

-- the nodes on the way are widened, the last one first
abbrev pub widen_all : ℕ → List (ℕ × ℕ) → Nodes → Nodes
widen_all last [] nodes = nodes
widen_all last (step ∷ more) nodes = redo step.0 (wider last step.0 step.1) (widen_all last more nodes)
