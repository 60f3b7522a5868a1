-- Entries of a node, from a number on, as they stand in the image with what is below them.
use Rattle.cdf_index.proofs.Common.{Bool, Each, Each-split, Entries, HasNodes, IsBlock, IsOrderly, List, Names, Nodes, SayEntries, SaysNode, Stands, block, entry_leaves, leaves_of, lower, lower_nodes, node, nodes_of, rules, suc, tiles, ℕ}

pub record EntriesLeft (b : List ℕ) (levels at i : ℕ) (es : Entries) : Type 0 where
  pub say : SayEntries b at i es
  pub names : Names b (tiles b) levels es
  pub orderly : Each (IsOrderly b) (lower_nodes es)
  pub blocks : Each (IsBlock b) (entry_leaves es)

pub past_first : {b : List ℕ} {levels at i first last place : ℕ} {packed : Bool} {es : Entries} → EntriesLeft b levels at i (block first last place packed es) → EntriesLeft b levels at (suc i) es
unfolding Names lower_nodes entry_leaves
past_first r = record { say = r.say.1; names = r.names.2; orderly = r.orderly; blocks = r.blocks.1 }

-- the chain that the first one names, and the others
pub past_lower_one : {b : List ℕ} {levels at i first last : ℕ} {nodes : Nodes} {es : Entries} → EntriesLeft b levels at i (lower first last nodes es) → Stands b levels nodes × EntriesLeft b levels at (suc i) es
unfolding Names lower_nodes entry_leaves
past_lower_one {b = b} {nodes = nodes} {es = es} r =
    search (
      rules,
      r.say,
      r.names,
      Each-split (IsOrderly b) (nodes_of nodes) (lower_nodes es) r.orderly,
      Each-split (IsBlock b) (leaves_of nodes) (entry_leaves es) r.blocks,
    )

-- a node, its entries, and the chain behind it
pub record NodeParts (b : List ℕ) (levels place room : ℕ) (es : Entries) (more : Nodes) : Type 0 where
  pub says : SaysNode b (tiles b) place room es more
  pub left : EntriesLeft b levels place 0 es
  pub more_stands : Stands b (suc levels) more

pub node_parts : {b : List ℕ} {levels place room : ℕ} {es : Entries} {more : Nodes} → Stands b (suc levels) (node place room es more) → NodeParts b levels place room es more
unfolding HasNodes nodes_of leaves_of
node_parts {b = b} {es = es} {more = more} st =
    search (
      rules,
      st.has,
      st.has.0.say_entries,
      Each-split (IsOrderly b) (lower_nodes es) (nodes_of more) st.orderly.1,
      Each-split (IsBlock b) (entry_leaves es) (leaves_of more) st.blocks,
    )
