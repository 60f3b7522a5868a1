-- What `reindex` does (CDF Internal Format Description, "Variable Index Record"; own: nodes of so many entries each, filled from the left, level by level, and placed from the leaves up).
use Rattle.std.specs.Prelude.{◌≡◌, ◌⊎◌, ℕ, zero, suc, ◌-◌, List, [], ◌∷◌, ◌++◌, length, map, Some, None}
use Rattle.std.specs.List.{last_or, slice_get, sum}
use Rattle.std.specs.Option.{option_map}
use Rattle.cdf_model.specs.Limits.{level_limit}
use Rattle.cdf_model.specs.Names.{Found}
use Rattle.cdf_edits.specs.Commands.Allowances.{FreedStay, no_fields, Allowances, Anything, Only, stays_all, stays_own, space_fields, of_variable}
use Rattle.cdf_edits.specs.Commands.Room.{node_entries, node_size, nodes_above}
use Rattle.cdf_edits.specs.Index.Written.{NodesFollow, TailFollows}
use Rattle.cdf_edits.specs.Space.Acts.{Act, Took, gave}
use Rattle.cdf_format.specs.Chains.{next_of}
use Rattle.cdf_format.specs.Index.{Nodes, no_node, node, Entries, no_entry, block, lower, Leaf, leaves_of, nodes_of, entry_count, room_at}
use Rattle.cdf_format.specs.Records.{vdr_vxr_head, vdr_vxr_tail}
use Rattle.cdf_format.specs.Shape.{Shape, VariableShape, Each}

abbrev pub reindex_changes : List ℕ → Shape → Found → Allowances
reindex_changes b s found = record stays_all {
  gdr = Only space_fields;
  variables = of_variable b s found (record stays_own { vdr = Only (vdr_vxr_head ∷ vdr_vxr_tail ∷ []); nodes = Anything }) [];
}

unfoldable mutual
  -- the nodes that stand so many levels down, each with how many entries it has
  pub nodes_at : ℕ → Nodes → List (ℕ × ℕ)
  nodes_at levels no_node = []
  nodes_at zero (node place room entries more) = (place, entry_count entries) ∷ nodes_at zero more
  nodes_at (suc levels) (node place room entries more) = nodes_below levels entries ++ nodes_at (suc levels) more

  pub nodes_below : ℕ → Entries → List (ℕ × ℕ)
  nodes_below levels no_entry = []
  nodes_below levels (block first last place packed entries) = nodes_below levels entries
  nodes_below levels (lower first last nodes entries) = nodes_at levels nodes ++ nodes_below levels entries

-- each but the last has as many as there is room for
abbrev pub FullFromLeft : List (ℕ × ℕ) → Type 0
FullFromLeft [] = Unit {0}
FullFromLeft (n ∷ []) = Unit {0}
FullFromLeft (n ∷ m ∷ more) = (n.1 ≡ node_entries) × FullFromLeft (m ∷ more)

-- the records from the first to the last of these leaves
abbrev pub Spans : ℕ → ℕ → List Leaf → Type 0
Spans first last leaves = (option_map (λ leaf. leaf.first) (slice_get leaves 0) ≡ Some first) × (option_map (λ leaf. leaf.last) (last_or None leaves) ≡ Some last)

unfoldable mutual
  -- each entry that names a lower chain has the records from the first to the last below it
  pub AreTight : Nodes → Type 0
  AreTight no_node = Unit {0}
  AreTight (node place room entries more) = EntriesTight entries × AreTight more

  pub EntriesTight : Entries → Type 0
  EntriesTight no_entry = Unit {0}
  EntriesTight (block first last place packed entries) = EntriesTight entries
  EntriesTight (lower first last nodes entries) = Spans first last (leaves_of nodes) × AreTight nodes × EntriesTight entries

-- all levels but the lowest name nodes alone
pub record IsPyramid (nodes : Nodes) : Type 0 where
  pub full : (levels : ℕ) → FullFromLeft (nodes_at levels nodes)
  pub even : (levels : ℕ) → (nodes_at (suc levels) nodes ≡ []) ⊎ (length (nodes_at (suc levels) nodes) ≡ sum (map (λ pair. pair.1) (nodes_at levels nodes)))
  pub tight : AreTight nodes

-- the nodes of so many levels, from the lowest one up
abbrev pub levels_up : ℕ → Nodes → List ℕ
levels_up zero nodes = map (λ pair. pair.0) (nodes_at 0 nodes)
levels_up (suc levels) nodes = map (λ pair. pair.0) (nodes_at (suc levels) nodes) ++ levels_up levels nodes

-- the nodes are taken, and then the old ones are freed
abbrev pub made_acts : List ℕ → Nodes → Nodes → List Act
made_acts b before after = map (λ vxr. Took vxr node_size) (levels_up (level_limit - 1) after) ++ gave b (nodes_of before)

pub record MakesIndex (b now : List ℕ) (before after : VariableShape) (acts : List Act) : Type 0 where
  pub acts_are : acts ≡ made_acts b before.index after.index
  pub leaves_stay : leaves_of after.index ≡ leaves_of before.index
  pub fewest : length (nodes_of after.index) ≡ nodes_above level_limit (length (leaves_of after.index))
  pub filled : IsPyramid after.index
  pub wide : Each (λ vxr. room_at now vxr ≡ node_entries) (nodes_of after.index)
  pub alone : Each (λ vxr. next_of now vxr ≡ 0) (nodes_of after.index)
  pub nodes : NodesFollow b now [] [] (nodes_of after.index) acts
  pub tail : TailFollows b now acts before.index before after
  pub freed : FreedStay b now no_fields acts
