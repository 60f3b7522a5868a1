-- The entries of a node, and what it says of them, taken apart and put together.
use Rattle.cdf_index.proofs.Common.{Entries, Leaf, List, Names, SayEntries, SaysEntry, append_assoc, arith, block, entry_count, if◌then◌else◌, link_to, lower, lower_nodes, nat_le, no_entry, nodes_of, past, suc, sym, upto, with_block, with_both, ℕ, ◌++◌, ◌+◌, ◌<◌, ◌∙◌, ◌≡◌, ◌≤◌}
use Rattle.cdf_index.proofs.ByParts.{entries_by, entries_from}

-- the entries that begin at a record or before it
abbrev pub front : ℕ → Entries → Entries
front f no_entry = no_entry
front f (block first last place packed entries) = if nat_le first f then block first last place packed (front f entries) else no_entry
front f (lower first last nodes entries) = if nat_le first f then lower first last nodes (front f entries) else no_entry

pub front_past : (f : ℕ) (es : Entries) → with_both (front f es) (past f es) ≡ es
front_past f = entries_by (grind arith)

pub upto_both : (l : Leaf) (es fs : Entries) → with_both (upto l es) fs ≡ with_both (front l.first es) (with_block l fs)
upto_both l = entries_by (grind arith)

pub both_none : (es : Entries) → with_both es no_entry ≡ es
both_none = entries_by (grind arith)

pub upto_is : (l : Leaf) (es : Entries) → upto l es ≡ with_both (front l.first es) (with_block l no_entry)
upto_is l es = sym (both_none (upto l es)) ∙ upto_both l es no_entry

pub count_both : (es fs : Entries) → entry_count (with_both es fs) ≡ entry_count es + entry_count fs
count_both = entries_by (grind arith)

pub lower_both : (es fs : Entries) → lower_nodes (with_both es fs) ≡ lower_nodes es ++ lower_nodes fs
unfolding nodes_of lower_nodes
lower_both = entries_by (grind (arith, append_assoc))

pub no_entries : (es : Entries) → entry_count es ≡ 0 → es ≡ no_entry
no_entries = entries_by (grind arith)

pub say_both : (b : List ℕ) (at i : ℕ) (es fs : Entries) → SayEntries b at i es → SayEntries b at (i + entry_count es) fs → SayEntries b at i (with_both es fs)
say_both b at = entries_from (grind arith)

pub say_parts : (b : List ℕ) (at i : ℕ) (es fs : Entries) → SayEntries b at i (with_both es fs) → SayEntries b at i es × SayEntries b at (i + entry_count es) fs
say_parts b at = entries_from (grind arith)

pub names_both : (b ts : List ℕ) (levels : ℕ) (es fs : Entries) → Names b ts levels es → Names b ts levels fs → Names b ts levels (with_both es fs)
unfolding Names
names_both b ts levels = entries_by (grind arith)

pub names_parts : (b ts : List ℕ) (levels : ℕ) (es fs : Entries) → Names b ts levels (with_both es fs) → Names b ts levels es × Names b ts levels fs
unfolding Names
names_parts b ts levels = entries_by (grind arith)

-- entries that move to other numbers of a node, which may be another one
pub say_moved : (b now : List ℕ) (at to i k : ℕ) (es : Entries) → SayEntries b at i es → ((n m first last offset : ℕ) → n + k ≡ m + i → i ≤ n → n < i + entry_count es → SaysEntry b at n first last offset → SaysEntry now to m first last offset) → SayEntries now to k es
say_moved b now at to i k no_entry s m = tt
say_moved b now at to i k (block first last place packed es) s m = (m i k first last place (omega arith) (omega arith) (omega arith) s.0, say_moved b now at to (suc i) (suc k) es s.1 (λ n j f l o e le lt. m n j f l o (omega arith) (omega arith) (omega arith)))
say_moved b now at to i k (lower first last nodes es) s m = (m i k first last (link_to nodes) (omega arith) (omega arith) (omega arith) s.0, say_moved b now at to (suc i) (suc k) es s.1 (λ n j f l o e le lt. m n j f l o (omega arith) (omega arith) (omega arith)))
