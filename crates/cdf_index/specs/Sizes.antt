-- How large an index is.
use Rattle.std.specs.Prelude.{◌≡◌, ℕ, ◌+◌, ◌-◌, ◌^◌, min, max, List, [], ◌∷◌, length}
use Rattle.std.specs.List.{flat_map}
use Rattle.cdf_edits.specs.Commands.Room.{entries_in, widest}
use Rattle.cdf_edits.specs.Index.Grown.{new_entries}
use Rattle.cdf_format.specs.Index.{Nodes, leaves_of}
use Rattle.cdf_index.specs.Whole.{Met, met_node, met_block, entry_met}
use Rattle.cdf_index.specs.declared.measuring.IndexSize.{IndexSize}

-- its leaves, the used entries of all nodes, and Nentries of the widest node, or of a new one
abbrev pub size_of : Nodes → IndexSize
size_of nodes = record { leaves = length (leaves_of nodes); entries = entries_in nodes; widest = widest nodes }

-- ---- on the way

abbrev pub used_met : List Met → ℕ
used_met [] = 0
used_met (met_node place room used ∷ more) = used + used_met more
used_met (met_block first last place ∷ more) = used_met more

abbrev pub widest_met : List Met → ℕ
widest_met [] = 0
widest_met (met_node place room used ∷ more) = max room (widest_met more)
widest_met (met_block first last place ∷ more) = widest_met more

-- a count that stops at the greatest number of 64 bits
abbrev pub stopped : ℕ → ℕ
stopped count = min count (2 ^ 64 - 1)

pub record Counts (size : IndexSize) (met : List Met) : Type 0 where
  pub leaves : size.leaves ≡ stopped (length (flat_map entry_met met))
  pub entries : size.entries ≡ stopped (used_met met)
  pub widest : size.widest ≡ max new_entries (widest_met met)
