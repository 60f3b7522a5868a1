-- A chain that stands, taken apart at its first node, and the entries of a node at the first of them.
use Rattle.cdf_index.proofs.Common.{ChainFrom, Entries, HasNodes, In, IsNode, IsOrderly, Leaf, List, Met, Names, NodeInside, Nodes, None, Option, Some, Stands, [], ap, arith, block, block_in, chain_at, cvvr_type, entry_count, entry_leaves, eqb, find_entry, find_in, first_at, if◌then◌else◌, inl, inr, is_a, is_a-type, is_block, is_linkable, last_at, leaf, length, length-append, link_to, linkable-in, linkable-type, lower, lower_nodes, ltb, met_below, met_block, met_in, nat_tests, no_entry, no_node, node, nodes_of, nodes_passed, offset_at, or_cases, passed_from, refl, subst, suc, sym, tiles, true, type_at, vvr_type, vxr_type, zero, ℕ, ◌++◌, ◌+◌, ◌<◌, ◌∷◌, ◌≡◌, ◌≢◌}
use Rattle.cdf_index.proofs.EntriesLeft.{EntriesLeft, NodeParts, past_first, past_lower_one, node_parts}

-- ---- a node

pub node_there : (ns : Nodes) → link_to ns ≢ 0 → IsNode ns
node_there ns ne = grind arith

pub record Opened (b : List ℕ) (levels at : ℕ) (ns : Nodes) : Type 0 where
  pub down : ℕ
  pub room : ℕ
  pub entries : Entries
  pub more : Nodes
  pub deep : levels ≡ suc down
  pub is : ns ≡ node at room entries more
  pub parts : NodeParts b down at room entries more
  pub more_stands : Stands b levels more
  pub here : IsOrderly b at

pub opened : (b : List ℕ) (levels at : ℕ) (ns : Nodes) → Stands b levels ns → IsNode ns → at ≡ link_to ns → Opened b levels at ns
unfolding HasNodes nodes_of
opened b levels at no_node st is e = absurd is
opened b zero at (node place room entries more) st is e = absurd st.has
opened b (suc down) at (node place room entries more) st is e =
    let p = node_parts st in
    subst (λ (x : ℕ). Opened b (suc down) x (node place room entries more)) (sym e) (record { down = down; room = room; entries = entries; more = more; deep = refl; is = refl; parts = p; more_stands = p.more_stands; here = st.orderly.0 })

pub opened_inside : {b : List ℕ} {at : ℕ} → (c : ChainFrom b at) → NodeInside b at → Opened b c.levels at c.nodes
opened_inside {b = b} {at = at} c inside = opened b c.levels at c.nodes c.stands (node_there c.nodes (λ z. (let low = inside.low in let is = c.link_is in absurd (omega arith)))) c.link_is

-- it has these nodes
pub opened_nodes : {b : List ℕ} {levels at : ℕ} {ns : Nodes} → (o : Opened b levels at ns) → length (nodes_of ns) ≡ 1 + length (lower_nodes o.entries) + length (nodes_of o.more)
unfolding nodes_of
opened_nodes o = omega (arith, ap (λ (x : Nodes). length (nodes_of x)) o.is, length-append (lower_nodes o.entries) (nodes_of o.more))

-- ---- what an entry names

-- a block is a VVR or a CVVR, and no node
pub block_no_node : (b : List ℕ) (m : ℕ) → is_block b (tiles b) m ≡ true → type_at b m ≢ 6
block_no_node b m e t = elim (or_cases (is_a b (tiles b) vvr_type m) (is_a b (tiles b) cvvr_type m) e) [ inl p ↦ absurd (omega (arith, is_a-type b (tiles b) vvr_type m p)) | inr p ↦ absurd (omega (arith, is_a-type b (tiles b) cvvr_type m p)) ]

pub node_linkable : (b : List ℕ) (levels : ℕ) (nodes : Nodes) → IsNode nodes → HasNodes b (tiles b) levels nodes → is_linkable b (tiles b) vxr_type (link_to nodes) ≡ true
unfolding HasNodes
node_linkable b levels nodes is h = grind arith

pub no_chain : (b : List ℕ) (at k : ℕ) → type_at b (offset_at b at k) ≢ 6 → chain_at b at k ≡ 0
no_chain b at k e = grind (arith, nat_tests)

-- what is met at an entry, with the lower chain that it names, or the block
abbrev pub met_at : List ℕ → ℕ → ℕ → Nodes → List Met
met_at b at i low = if eqb (type_at b (offset_at b at i)) 6 then met_in low else met_block (first_at b at i) (last_at b at i) (offset_at b at i) ∷ []

-- what the first of some entries adds to the others
pub record Adds (b : List ℕ) (at i : ℕ) (entries rest : Entries) (low : Nodes) : Type 0 where
  pub many : entry_count entries ≡ suc (entry_count rest)
  pub nodes : lower_nodes entries ≡ nodes_of low ++ lower_nodes rest
  pub mets : met_below entries ≡ met_at b at i low ++ met_below rest
  pub find : (rec : ℕ) (other : Option Leaf) → find_entry rec entries other
      ≡ (if ltb (last_at b at i) rec then find_entry rec rest other else (if ltb rec (first_at b at i) then None else (if eqb (type_at b (offset_at b at i)) 6 then find_in rec low else Some (leaf (first_at b at i) (last_at b at i) (offset_at b at i) (eqb (type_at b (offset_at b at i)) 13)))))
  pub passed : (rec other : ℕ) → passed_from rec entries other ≡ (if ltb (last_at b at i) rec then passed_from rec rest other else (if ltb rec (first_at b at i) then 0 else nodes_passed rec low))

-- The first entry of some, and the others. It names this lower chain, or none where it names a block.
pub record FirstEntry (b : List ℕ) (down at i : ℕ) (entries : Entries) : Type 0 where
  pub rest : Entries
  pub low : Nodes
  pub left : EntriesLeft b down at (i + 1) rest
  pub stands : Stands b down low
  pub named : In (offset_at b at i) (tiles b)
  pub adds : Adds b at i entries rest low
  pub link : type_at b (offset_at b at i) ≡ 6 → offset_at b at i ≡ link_to low

pub first_entry : {b : List ℕ} {down at i : ℕ} (entries : Entries) → EntriesLeft b down at i entries → 0 < entry_count entries → FirstEntry b down at i entries
unfolding HasNodes Names nodes_of lower_nodes entry_leaves met_in met_below find_in find_entry nodes_passed passed_from
first_entry no_entry l some = absurd (omega arith)
first_entry {b = b} {at = at} {i = i} (block first last place packed entries) l some =
    let z : suc i ≡ i + 1 = omega arith in
    let e = l.say.0 in
    let no : type_at b (offset_at b at i) ≢ 6 = λ t. block_no_node b place l.blocks.0 (rw e.offset_is at t) in
    record {
      rest = entries;
      low = no_node;
      left = rw z at (past_first l);
      stands = record { has = tt; orderly = tt; blocks = tt };
      named = rw e.offset_is (block_in b (tiles b) place l.blocks.0);
      adds = rw (← e.first_is, ← e.last_is, ← e.offset_is) (grind (arith, nat_tests, no, rw (← e.offset_is) at l.names.1));
      link = λ t. absurd (no t);
    }
first_entry {b = b} {down = down} {at = at} {i = i} (lower first last nodes entries) l some =
    let z : suc i ≡ i + 1 = omega arith in
    let e = l.say.0 in
    let link = node_linkable b down nodes l.names.0 l.names.1 in
    let six : type_at b (offset_at b at i) ≡ 6 = rw e.offset_is (linkable-type b (tiles b) vxr_type (link_to nodes) link) in
    record {
      rest = entries;
      low = nodes;
      left = rw z at (past_lower_one l).1;
      stands = (past_lower_one l).0;
      named = rw e.offset_is (linkable-in b (tiles b) vxr_type (link_to nodes) link);
      adds = rw (← e.first_is, ← e.last_is) (grind (arith, nat_tests, six));
      link = λ t. e.offset_is;
    }
