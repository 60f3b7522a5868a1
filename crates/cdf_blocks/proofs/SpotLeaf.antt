-- The leaf that has a record, told by the node where the way down to the record ends: by the last of its entries that begins at the record or before it.
use Rattle.cdf_blocks.proofs.Common.{Bool, Entries, In, In-append, IsNode, Leaf, List, Nodes, SayEntries, SaysEntry, [], ap, arith, block, cases_eq, entries_by, entries_within, eqb, false, inl, inr, length, lower, nat_tests, no_entry, no_node, node, nodes_by, nodes_within, past_entries, record_number_limit, subst, suc, sym, true, used_count, zero, ℕ, ◌+◌, ◌-◌, ◌<◌, ◌∙◌, ◌≡◌, ◌≢◌, ◌≤◌}
unfoldable use Rattle.cdf_blocks.proofs.Common.{AreInOrder, HasNodes, InOrder, Names, leaves_of, lower_nodes, nodes_of}
use Rattle.cdf_index.proofs.Common.{AreTiles, Begun, HasIndex, None, Option, Some, SomeNode, Stands, chain_reaches, either, first_at, index_at, last_at, leads_down, leaf, leaf_of, leb, offset_at, reaches, spot, tiles, true≢false, type_at, with_both}
unfoldable use Rattle.cdf_index.proofs.Common.{find_entry, find_in}
use Rattle.cdf_format.specs.IndexOf.{SaysNode}
use Rattle.cdf_index.proofs.Ascending.{index_stands}
use Rattle.cdf_index.proofs.Coming.{Comes, chain_reaches_from, comes, comes_along, comes_below, comes_first, comes_here, leads_none, reaches_from}
use Rattle.cdf_index.proofs.EntriesLeft.{EntriesLeft, node_parts, past_first, past_lower_one}
use Rattle.cdf_index.proofs.FromReached.{StartsAt}
use Rattle.cdf_index.proofs.Leading.{begun_in, counted_begun, reached_is}
use Rattle.cdf_index.proofs.LeafMore.{parts_in_order}
use Rattle.cdf_index.proofs.Looking.{names_in, none_there}
use Rattle.cdf_index.proofs.OrderLemmas.{end_after, find_is}
use Rattle.cdf_index.proofs.Saying.{names_parts}
use Rattle.cdf_index.proofs.WayDown.{chain_there, node_there_by}
use Rattle.cdf_blocks.specs.Sites.{IsFound}
use Rattle.cdf_blocks.specs.declared.sites.SitedLeaf.{SitedLeaf}

-- ---- what a search passes

-- entries that all end before a record
entries_passed : (f : ℕ) (other : Option Leaf) (low high : ℕ) (es : Entries) → AreInOrder low high es → past_entries low es ≤ f → find_entry f es other ≡ other
unfolding AreInOrder find_entry
entries_passed f other = entries_within (grind (arith, nat_tests, end_after))

-- a chain that ends before it
chain_passed : (f low high : ℕ) (ns : Nodes) → InOrder low high ns → high < f → find_in f ns ≡ None
unfolding InOrder AreInOrder find_in find_entry
chain_passed f = nodes_within (λ low high es. (other : Option Leaf) → AreInOrder low high es → high < f → find_entry f es other ≡ other) (grind (arith, nat_tests))

-- entries and a chain that begin past it
none_reached : (f : ℕ) (es : Entries) → reaches f es ≡ false → find_entry f es None ≡ None
unfolding find_entry
none_reached f = entries_by (grind (arith, nat_tests))

not_found : (f : ℕ) (ns : Nodes) → chain_reaches f ns ≡ false → find_in f ns ≡ None
unfolding find_in
not_found f = nodes_by (λ es. Unit {0}) (grind (arith, nat_tests, none_reached))

find_both : (f : ℕ) (other : Option Leaf) (es fs : Entries) → find_entry f (with_both es fs) other ≡ find_entry f es (find_entry f fs other)
unfolding find_entry
find_both f other es fs = entries_by {Q = λ es. find_entry f (with_both es fs) other ≡ find_entry f es (find_entry f fs other)} (grind (arith, nat_tests)) es

-- the last entry that begins at the record or before it names a chain, in which it is looked for
below_found : (f first last : ℕ) (nodes : Nodes) (es : Entries) → first ≤ f → reaches f es ≡ false → InOrder first last nodes → find_entry f (lower first last nodes es) None ≡ find_in f nodes
unfolding find_entry
below_found f first last nodes es le r o = grind (arith, nat_tests, none_reached f es r, chain_passed f first last nodes o)

-- ---- the node where the way ends

record EndsAt (b ts : List ℕ) (f at : ℕ) (found : Option Leaf) : Type 0 where
  room : ℕ
  entries : Entries
  more : Nodes
  levels : ℕ
  low : ℕ
  high : ℕ
  says : SaysNode b ts at room entries more
  names : Names b ts levels entries
  order : AreInOrder low high entries
  last : leads_down f false entries ≡ false
  same : find_entry f entries None ≡ found

ends_at : {l : Leaf} {at : ℕ} {w : List (ℕ × ℕ)} {x n : ℕ} {ns ns' : Nodes} → Comes l at w x n ns ns' → (b ts : List ℕ) (levels low high : ℕ) → IsNode ns → HasNodes b ts levels ns → InOrder low high ns → EndsAt b ts l.first x (find_in l.first ns)
unfolding HasNodes Names InOrder AreInOrder find_in
ends_at comes_first b ts levels low high is h o = absurd is
ends_at (comes_along t c) b ts zero low high is h o = absurd h
ends_at {l = l} {x = x} (comes_along {es = es} {more = more} t c) b ts (suc levels) low high is h o =
    let passed = entries_passed l.first (find_in l.first more) low high es o.0 (chain_reaches_from l.first (past_entries low es) high more o.1 t) in
    subst (λ (found : Option Leaf). EndsAt b ts l.first x found) (sym passed) (ends_at c b ts (suc levels) (past_entries low es) high (chain_there l.first more t) h.2 o.1)
ends_at (comes_below fs first last nodes nodes' es t le r c) b ts zero low high is h o = absurd h
ends_at {l = l} {x = x} (comes_below {more = more} fs first last nodes nodes' es t le r c) b ts (suc levels) low high is h o =
    let n = (names_parts b ts levels fs (lower first last nodes es) h.1).1 in
    let q = parts_in_order low high fs (lower first last nodes es) o.0 in
    let none = ap (find_entry l.first (with_both fs (lower first last nodes es))) (not_found l.first more t) in
    let passed = entries_passed l.first (find_entry l.first (lower first last nodes es) None) low high fs q.0 (omega (arith, q.1.0)) in
    let found = none ∙ find_both l.first None fs (lower first last nodes es) ∙ passed ∙ below_found l.first first last nodes es le r q.1.3 in
    subst (λ (found : Option Leaf). EndsAt b ts l.first x found) (sym found) (ends_at c b ts levels first last n.0 n.1 q.1.3)
ends_at (comes_here t d) b ts zero low high is h o = absurd h
ends_at {l = l} (comes_here {room = room} {es = es} {more = more} t d) b ts (suc levels) low high is h o = record {
  room = room;
  entries = es;
  more = more;
  levels = levels;
  low = low;
  high = high;
  says = h.0;
  names = h.1;
  order = o.0;
  last = d;
  same = ap (find_entry l.first es) (sym (not_found l.first more t));
}

-- ---- its last entry that begins at the record or before it

record TellsAt (b : List ℕ) (f at i : ℕ) (found : Option Leaf) : Type 0 where
  past : last_at b at i < f → found ≡ None
  there : f ≤ last_at b at i → found ≡ Some (leaf (first_at b at i) (last_at b at i) (offset_at b at i) (eqb (type_at b (offset_at b at i)) 13))

none_begun : (f low high : ℕ) (es : Entries) → AreInOrder low high es → begun_in f es ≡ 0 → reaches f es ≡ false
none_begun f low high es o e = reached_is f low high es o ∙ ap (λ (n : ℕ). leb 1 n) e

some_begun : (f low high : ℕ) (es : Entries) → AreInOrder low high es → 0 < begun_in f es → low ≤ f
some_begun f low high es o lt = reaches_from f low high es o (reached_is f low high es o ∙ grind (arith, nat_tests, lt))

-- where another one is behind it, what is said of the entry before them counts no more
leads_by_last : (f : ℕ) (g g' : Bool) (es : Entries) → 0 < begun_in f es → leads_down f g es ≡ leads_down f g' es
leads_by_last f g g' no_entry lt = absurd (omega arith)
leads_by_last f g g' (block first last place packed es) lt = grind (arith, nat_tests, lt)
leads_by_last f g g' (lower first last nodes es) lt = grind (arith, nat_tests, lt)

module _ (b ts : List ℕ) (levels f at : ℕ) where
  tells : (low high k i : ℕ) (es : Entries) → SayEntries b at k es → Names b ts levels es → AreInOrder low high es → leads_down f false es ≡ false → 0 < begun_in f es → i + 1 ≡ k + begun_in f es → TellsAt b f at i (find_entry f es None)
  unfolding Names AreInOrder find_entry
  tells low high k i no_entry s n o d lt e = absurd (omega arith)
  tells low high k i (block first last place packed es) s n o d lt e = elim (either (leb first f)) [
    | inr t ↦ absurd (omega (arith, rw t at lt))
    | inl t ↦ elim (cases_eq (begun_in f es) 0) [
      | inl z ↦ (let at_k : i ≡ k = omega (arith, rw t at e) in let none = none_reached f es (none_begun f (suc last) high es o.3 z) in rw at_k (record { past = grind (arith, nat_tests, none, s.0, o.1, t); there = grind (arith, nat_tests, none, s.0, n.1, t) }))
      | inr ne ↦ (let some : 0 < begun_in f es = omega (arith, ne) in let far = some_begun f (suc last) high es o.3 some in let r = tells (suc last) high (suc k) i es s.1 n.2 o.3 (rw t at d) some (omega (arith, rw t at e)) in record { past = grind (arith, nat_tests, far, r.past); there = grind (arith, nat_tests, far, r.there) })
    ]
  ]
  tells low high k i (lower first last nodes es) s n o d lt e = elim (either (leb first f)) [
    | inr t ↦ absurd (omega (arith, rw t at lt))
    | inl t ↦ elim (cases_eq (begun_in f es) 0) [
      | inl z ↦ absurd (true≢false (sym (leads_none f true es (none_begun f (suc last) high es o.4 z)) ∙ rw t at d))
      | inr ne ↦ (let some : 0 < begun_in f es = omega (arith, ne) in let far = some_begun f (suc last) high es o.4 some in let r = tells (suc last) high (suc k) i es s.1 n.2 o.4 (leads_by_last f false true es some ∙ rw t at d) some (omega (arith, rw t at e)) in record { past = grind (arith, nat_tests, far, r.past); there = grind (arith, nat_tests, far, r.there) })
    ]
  ]

-- ---- each node of an index stands

mutual
  unfolding HasNodes nodes_of lower_nodes

  node_at : {b : List ℕ} → AreTiles b 8 (length b) (tiles b) → (levels : ℕ) (ns : Nodes) → Stands b levels ns → (m : ℕ) → In m (nodes_of ns) → SomeNode b m
  node_at tiled levels no_node st m i = absurd i
  node_at tiled zero (node place room es more) st m i = absurd st.has
  node_at tiled (suc levels) (node place room es more) st m (inl e) = record { levels = suc levels; nodes = node place room es more; tiled = tiled; stands = st; is_node = tt; link = e }
  node_at tiled (suc levels) (node place room es more) st m (inr i) =
      let p = node_parts st in
      elim (In-append m (lower_nodes es) (nodes_of more) i) [ inl j ↦ node_below tiled levels place 0 es p.left m j | inr j ↦ node_at tiled (suc levels) more p.more_stands m j ]

  node_below : {b : List ℕ} → AreTiles b 8 (length b) (tiles b) → (levels at k : ℕ) (es : Entries) → EntriesLeft b levels at k es → (m : ℕ) → In m (lower_nodes es) → SomeNode b m
  node_below tiled levels at k no_entry l m i = absurd i
  node_below tiled levels at k (block first last place packed es) l m i = node_below tiled levels at (suc k) es (past_first l) m i
  node_below tiled levels at k (lower first last nodes es) l m i =
      let p = past_lower_one l in
      elim (In-append m (nodes_of nodes) (lower_nodes es) i) [ inl j ↦ node_at tiled levels nodes p.0 m j | inr j ↦ node_below tiled levels at (suc k) es p.1 m j ]

-- ---- together

pub some_node : {b : List ℕ} {start m : ℕ} → HasIndex b start → In m (nodes_of (index_at b start)) → SomeNode b m
some_node {b = b} {start = start} {m = m} has i = node_at has.tiled 8 (index_at b start) (index_stands b start has) m i

-- what the entries of the node tell, of which so many begin at the record or before it
pub record Told (b : List ℕ) (f at n : ℕ) (found : Option Leaf) : Type 0 where
  pub none : n ≡ 0 → found ≡ None
  pub past : (i : ℕ) → i + 1 ≡ n → last_at b at i < f → found ≡ None
  pub there : (i first last place : ℕ) → i + 1 ≡ n → SaysEntry b at i first last place → f ≤ last → found ≡ Some (leaf first last place (eqb (type_at b place) 13))

pub told : {b : List ℕ} {start rec at n : ℕ} → HasIndex b start → start ≢ 0 → at ≡ spot rec (index_at b start) → Begun b at rec n → Told b rec at n (leaf_of rec (leaves_of (index_at b start)))
told {b = b} {start = start} {rec = rec} {at = at} {n = n} has some is begun =
    let index = index_at b start in
    let e = ends_at (comes (leaf rec 0 0 false) 0 0 record_number_limit index has.order) b (tiles b) 8 0 record_number_limit (node_there_by start index has.index.link_is some) has.index.has_nodes has.order in
    let count = counted_begun b at rec n e.entries begun (rw is e.says.used_is) (rw is e.says.say_entries) in
    let found = e.same ∙ find_is rec 0 record_number_limit index has.order in
    let last : (i : ℕ) → i + 1 ≡ n → TellsAt b rec at i (leaf_of rec (leaves_of index)) =
    λ i z. rw is (subst (λ (o : Option Leaf). TellsAt b rec (spot rec index) i o) found (tells b (tiles b) e.levels rec (spot rec index) e.low e.high 0 i e.entries e.says.say_entries e.names e.order e.last (omega (arith, z, count)) (omega (arith, z, count)))) in
    record {
      none = λ z. sym found ∙ none_reached rec e.entries (none_begun rec e.low e.high e.entries e.order (sym count ∙ z));
      past = λ i z. (last i z).past;
      there = λ i first last_rec place z says le. rw (← says.first_is, ← says.last_is, ← says.offset_is) ((last i z).there (rw says.last_is le));
    }

-- ---- what the search asks for, and what it comes to

-- what an entry of the node names lies in the image
pub named_inside : {b : List ℕ} {start at i n first last place : ℕ} → HasIndex b start → In at (nodes_of (index_at b start)) → i + 1 ≡ n → n ≤ used_count b at → SaysEntry b at i first last place → place + 12 ≤ length b
named_inside {b = b} {at = at} {i = i} has among e le says = let inside = names_in b at (some_node has among) i (omega (arith, e, le)) in rw says.offset_is at inside

-- an index that has no node has no leaf
pub no_leaf : {b : List ℕ} {start : ℕ} (rec : ℕ) → HasIndex b start → start ≡ 0 → leaf_of rec (leaves_of (index_at b start)) ≡ None
unfolding leaves_of
no_leaf {b = b} {start = start} rec has z = ap (λ (index : Nodes). leaf_of rec (leaves_of index)) (none_there b 8 (index_at b start) has.tiled has.index.has_nodes (sym has.index.link_is ∙ z))

-- what is found from the start of a search on is found in the index
pub found_whole : {b : List ℕ} {head rec start : ℕ} → StartsAt b head rec start → (found : Option SitedLeaf) → IsFound b (index_at b start) rec found → IsFound b (index_at b head) rec found
found_whole s None e = sym s.leaf_is ∙ e
found_whole s (Some found) (e, site) = (e ∙ s.leaf_is, record { there = s.among found.site.node site.there; room_is = site.room_is; used = site.used; says = site.says })
