-- Indexes in order keep their rules. cdf_index says the same order of an index that grows, and stands on much that no image needs.
use Rattle.std.proofs.Common.{List, arith, negsuc, pos, refl, suc, true, ℕ, ◌≡◌, ◌≤◌}
use Rattle.std.proofs.lemmas.Bool.Decides.{nat_tests}
use Rattle.std.specs.List.{flat_map}
use Rattle.cdf_model.specs.Limits.{record_number_limit}
use Rattle.cdf_format.proofs.RowLemmas.{Hold-append}
use Rattle.cdf_format.proofs.ShapeLemmas.{Each-split}
unfoldable use Rattle.cdf_format.specs.Index.{leaves_of, entry_leaves, nodes_of, lower_nodes}
use Rattle.cdf_format.specs.Index.{Nodes, no_node, node, Entries, no_entry, block, lower, Leaf}
unfoldable use Rattle.cdf_format.specs.IndexRules.{nodes_rows, used_rows}
use Rattle.cdf_format.specs.IndexRules.{end_of, has_room, index_rows, is_between, is_block, leaf_rows}
use Rattle.cdf_format.specs.Rules.{Hold}
use Rattle.cdf_format.specs.Shape.{Each}
use Rattle.cdf_edits.proofs.Edits.LeafRecords.{signed}
use Rattle.cdf_edits.proofs.Edits.LeavesOrder.{before_is, before_number}
use Rattle.cdf_edits.proofs.Edits.VariableFrame.{hold_all}

abbrev pub past_entries : ℕ → Entries → ℕ
past_entries low no_entry = low
past_entries low (block first last place packed entries) = past_entries (suc last) entries
past_entries low (lower first last nodes entries) = past_entries (suc last) entries

unfoldable mutual
  pub InOrder : ℕ → ℕ → Nodes → Type 0
  InOrder low high no_node = Unit {0}
  InOrder low high (node place room entries more) = AreInOrder low high entries × InOrder (past_entries low entries) high more

  pub AreInOrder : ℕ → ℕ → Entries → Type 0
  AreInOrder low high no_entry = Unit {0}
  AreInOrder low high (block first last place packed entries) = (low ≤ first) × (first ≤ last) × (last ≤ high) × AreInOrder (suc last) high entries
  AreInOrder low high (lower first last nodes entries) = (low ≤ first) × (first ≤ last) × (last ≤ high) × InOrder first last nodes × AreInOrder (suc last) high entries

between_by : (low high first last : ℕ) → high ≤ record_number_limit → low ≤ first → first ≤ last → last ≤ high → is_between (before_number low) (pos high) first last ≡ true
between_by low high first last m l k h = rw (signed first (omega arith), signed last (omega arith)) (grind (arith, nat_tests))

module _ (b records : List ℕ) where
  abbrev HasRoom : ℕ → Type 0
  HasRoom m = has_room b m ≡ true

  abbrev HasBlock : Leaf → Type 0
  HasBlock l = is_block b records l.place ≡ true

  mutual
    unfolding nodes_rows used_rows InOrder AreInOrder nodes_of lower_nodes leaves_of entry_leaves

    rules_from : (low high : ℕ) (nodes : Nodes) → high ≤ record_number_limit → InOrder low high nodes → Each HasRoom (nodes_of nodes) → Each HasBlock (leaves_of nodes) → Hold (nodes_rows b records (before_number low) (pos high) nodes)
    rules_from low high no_node m o room is = tt
    rules_from low high (node place wide entries more) m o room is =
        let rooms = Each-split HasRoom (lower_nodes entries) (nodes_of more) room.1 in
        let blocks = Each-split HasBlock (entry_leaves entries) (leaves_of more) is in
        grind (arith, Hold-append, entries_rules_from place low high entries m o.0 rooms.0 blocks.0, rules_from (past_entries low entries) high more m o.1 rooms.1 blocks.1)

    entries_rules_from : (vxr low high : ℕ) (entries : Entries) → high ≤ record_number_limit → AreInOrder low high entries → Each HasRoom (lower_nodes entries) → Each HasBlock (entry_leaves entries)
        → Hold (used_rows b records vxr (before_number low) (pos high) entries) × (end_of (before_number low) entries ≡ before_number (past_entries low entries))
    entries_rules_from vxr low high no_entry m o room is = (tt, refl)
    entries_rules_from vxr low high (block first last place packed entries) m o room is =
        grind (arith, signed last, between_by low high first last m o.0 o.1 o.2, entries_rules_from vxr (suc last) high entries m o.3 room is.1)
    entries_rules_from vxr low high (lower first last nodes entries) m o room is =
        let rooms = Each-split HasRoom (nodes_of nodes) (lower_nodes entries) room in
        let blocks = Each-split HasBlock (leaves_of nodes) (entry_leaves entries) is in
        let below = rules_from first last nodes (omega (arith, o.2)) o.3 rooms.0 blocks.0 in
        grind (arith, Hold-append, signed, before_is, below, between_by low high first last m o.0 o.1 o.2, entries_rules_from vxr (suc last) high entries m o.4 rooms.1 blocks.1)

  pub index_rules : (vdr : ℕ) (index : Nodes) → InOrder 0 record_number_limit index → Each HasRoom (nodes_of index) → Each HasBlock (leaves_of index) → Each (λ l. Hold (leaf_rows b records vdr l)) (leaves_of index) → Hold (index_rows b records vdr index)
  index_rules vdr index o room is each =
      Hold-append (nodes_rows b records (negsuc 0) (pos record_number_limit) index) (flat_map (leaf_rows b records vdr) (leaves_of index)) (rules_from 0 record_number_limit index (omega arith) o room is) (hold_all (leaf_rows b records vdr) (leaves_of index) each)
