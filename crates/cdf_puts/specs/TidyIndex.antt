-- An index of which no node is empty (own: a cut leaves no such node, and only a file of another writer has one).
use Rattle.cdf_format.specs.Index.{Nodes, no_node, node, Entries, no_entry, block, lower}
use Rattle.cdf_format.specs.IndexOf.{IsNode}

abbrev pub HasEntry : Entries → Type 0
HasEntry no_entry = ⊥
HasEntry (block first last place packed entries) = Unit {0}
HasEntry (lower first last nodes entries) = Unit {0}

unfoldable mutual
  -- each node has an entry, and each entry that names no block names a node
  pub IsTidy : Nodes → Type 0
  IsTidy no_node = Unit {0}
  IsTidy (node place room entries more) = HasEntry entries × EntriesTidy entries × IsTidy more

  pub EntriesTidy : Entries → Type 0
  EntriesTidy no_entry = Unit {0}
  EntriesTidy (block first last place packed entries) = EntriesTidy entries
  EntriesTidy (lower first last nodes entries) = IsNode nodes × IsTidy nodes × EntriesTidy entries
