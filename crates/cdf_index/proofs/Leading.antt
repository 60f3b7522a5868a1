-- The entries of a node that begin at a record or before it: how many they are, and where the last of them leads to.
use Rattle.cdf_index.proofs.Common.{AreInOrder, Begins, Begun, Bool, Entries, IsNode, List, Names, Nodes, SayEntries, arith, block, cases_lt, down_at, entry_count, false, first_at, if◌then◌else◌, leads_down, leb, lower, ltb, nat_tests, no_entry, no_node, node, past, past_entries, reaches, spot, spot_below, suc, true, used_count, way, way_below, ℕ, ◌+◌, ◌<◌, ◌≡◌, ◌≤◌}
use Rattle.cdf_index.proofs.Coming.{not_reached}
use Rattle.cdf_index.proofs.OrderLemmas.{end_after}
use Rattle.cdf_index.proofs.ByParts.{entries_by, entries_from, entries_within}

-- the lower chain that the last of them names, none where it names a block; this one where there are none
abbrev pub lead : ℕ → Nodes → Entries → Nodes
lead f low no_entry = low
lead f low (block first last place packed es) = if leb first f then lead f no_node es else low
lead f low (lower first last nodes es) = if leb first f then lead f nodes es else low

abbrev pub is_some : Nodes → Bool
is_some no_node = false
is_some (node place room es more) = true

pub some_node : (nodes : Nodes) → IsNode nodes → is_some nodes ≡ true
some_node nodes is = grind arith

-- how many they are
abbrev pub begun_in : ℕ → Entries → ℕ
begun_in f no_entry = 0
begun_in f (block first last place packed es) = if leb first f then suc (begun_in f es) else 0
begun_in f (lower first last nodes es) = if leb first f then suc (begun_in f es) else 0

pub reached_is : (f low high : ℕ) (es : Entries) → AreInOrder low high es → reaches f es ≡ ltb 0 (begun_in f es)
unfolding AreInOrder
reached_is f = entries_within (grind (arith, nat_tests, not_reached))

-- where others stand behind them, the record is before the end
pub ends_past : (f low high : ℕ) (es : Entries) → AreInOrder low high es → begun_in f es < entry_count es → f < past_entries low es
unfolding AreInOrder
ends_past f = entries_within (grind (arith, nat_tests, end_after))

pub lead_none : (f : ℕ) (nodes : Nodes) (es : Entries) → begun_in f es ≡ 0 → lead f nodes es ≡ nodes
lead_none f nodes = entries_by (grind (arith, nat_tests))

-- the last of them leads down where it names a chain
pub leads : (b ts : List ℕ) (levels f : ℕ) (low : Nodes) (es : Entries) → Names b ts levels es → leads_down f (is_some low) es ≡ is_some (lead f low es)
unfolding Names
leads b ts levels f low es = entries_by {Q = λ es. (low : Nodes) → Names b ts levels es → leads_down f (is_some low) es ≡ is_some (lead f low es)} (grind (arith, nat_tests, some_node)) es low

-- the way on below them
pub record LedBy (f : ℕ) (es : Entries) (low : Nodes) : Type 0 where
  pub way_is : way_below f es ≡ way f low
  pub spot_is : spot_below f es ≡ spot f low
  pub entry_is : suc (down_at f es) ≡ begun_in f es

pub led : (f low high : ℕ) (nodes : Nodes) (es : Entries) → AreInOrder low high es → 0 < begun_in f es → is_some (lead f nodes es) ≡ true → LedBy f es (lead f nodes es)
unfolding AreInOrder way_below spot_below
led f low high nodes no_entry o lt t = absurd (omega arith)
led f low high nodes (block first last place packed es) o lt t = grind (arith, nat_tests, led f (suc last) high no_node es o.3, lead_none f no_node es, t)
led f low high nodes (lower first last ns es) o lt t = grind (arith, nat_tests, led f (suc last) high ns es o.4, reached_is f (suc last) high es o.4, lead_none f ns es, t)

-- ---- as the bytes say them

pub begun_past : (f : ℕ) (es : Entries) → begun_in f es + entry_count (past f es) ≡ entry_count es
begun_past f = entries_by (grind arith)

-- each of them begins at the record or before it, and the one behind them past it
begun_first : (b : List ℕ) (at f k : ℕ) (es : Entries) → SayEntries b at k es → (i : ℕ) → k ≤ i → (i < k + begun_in f es → first_at b at i ≤ f) × (i ≡ k + begun_in f es → i < k + entry_count es → f < first_at b at i)
begun_first b at f = entries_from (grind (arith, nat_tests, cases_lt))

-- so many of them were counted
pub counted_begun : (b : List ℕ) (at f n : ℕ) (es : Entries) → Begun b at f n → used_count b at ≡ entry_count es → SayEntries b at 0 es → n ≡ begun_in f es
counted_begun b at f n es g u s =
    let all = begun_past f es in
    grind (arith, begun_first b at f 0 es s n, begun_first b at f 0 es s (begun_in f es), g.before (begun_in f es), g.stop, g.most)

pub begins_by : (b : List ℕ) (at f p : ℕ) → Begun b at f p → Begins b at f p
begins_by b at f p g es u s = omega (arith, counted_begun b at f p es g u s, begun_past f es)
