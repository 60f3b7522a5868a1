-- Induction over an index: what holds of a chain and of entries where it holds of their parts.
use Rattle.cdf_index.proofs.Common.{Bool, Entries, Nodes, block, lower, no_entry, no_node, node, ℕ}

pub record ByParts (P : Nodes → Type 0) (Q : Entries → Type 0) : Type 0 where
  pub no_nodes : P no_node
  pub nodes : (place room : ℕ) (es : Entries) (more : Nodes) → Q es → P more → P (node place room es more)
  pub none : Q no_entry
  pub block : (first last place : ℕ) (packed : Bool) (es : Entries) → Q es → Q (block first last place packed es)
  pub lower : (first last : ℕ) (nodes : Nodes) (es : Entries) → P nodes → Q es → Q (lower first last nodes es)

module _ {P : Nodes → Type 0} {Q : Entries → Type 0} (p : ByParts P Q) where
  mutual
    pub of_nodes : (ns : Nodes) → P ns
    of_nodes no_node = p.no_nodes
    of_nodes (node place room es more) = p.nodes place room es more (of_entries es) (of_nodes more)

    pub of_entries : (es : Entries) → Q es
    of_entries no_entry = p.none
    of_entries (block first last place packed es) = p.block first last place packed es (of_entries es)
    of_entries (lower first last nodes es) = p.lower first last nodes es (of_nodes nodes) (of_entries es)

-- of chains, by what holds of entries, also from a number to another one
pub nodes_by : {P : Nodes → Type 0} (Q : Entries → Type 0) → ByParts P Q → (ns : Nodes) → P ns
nodes_by Q p ns = of_nodes p ns

pub nodes_within : {P : ℕ → ℕ → Nodes → Type 0} (Q : ℕ → ℕ → Entries → Type 0) → ByParts (λ ns. (low high : ℕ) → P low high ns) (λ es. (low high : ℕ) → Q low high es) → (low high : ℕ) (ns : Nodes) → P low high ns
nodes_within Q p low high ns = of_nodes p ns low high

pub nodes_from : {P : ℕ → Nodes → Type 0} (Q : ℕ → Entries → Type 0) → ByParts (λ ns. (n : ℕ) → P n ns) (λ es. (n : ℕ) → Q n es) → (n : ℕ) (ns : Nodes) → P n ns
nodes_from Q p n ns = of_nodes p ns n

-- of entries, with nothing to say of the chains below them, also from a number on, or to another one
pub entries_by : {Q : Entries → Type 0} → ByParts (λ ns. Unit {0}) Q → (es : Entries) → Q es
entries_by p es = of_entries p es

pub entries_from : {Q : ℕ → Entries → Type 0} → ByParts (λ ns. Unit {0}) (λ es. (n : ℕ) → Q n es) → (n : ℕ) (es : Entries) → Q n es
entries_from p n es = of_entries p es n

pub entries_within : {Q : ℕ → ℕ → Entries → Type 0} → ByParts (λ ns. Unit {0}) (λ es. (low high : ℕ) → Q low high es) → (low high : ℕ) (es : Entries) → Q low high es
entries_within p low high es = of_entries p es low high
