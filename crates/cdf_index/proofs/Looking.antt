-- What is read at one node leads the search on.
use Rattle.cdf_index.proofs.Common.{AreTiles, Ascends, At, ChainFrom, Entries, HasNodes, IsNode, List, LowerAreZero, NamesIn, NextsAreZero, NodeInside, Nodes, None, SaysEntry, Scanned, Some, SomeNode, arith, entry_count, eqb, find_entry, find_in, last_at, le-ltb, leaf, length, link_to, linkable-in, lt-ltb, next_of, no_node, nodes_of, nodes_passed, offset_at, passed_from, refl, room_at, subst, suc, sym, tile_lies, tiles, type_at, used_count, vxr_type, zero, ℕ, ◌*◌, ◌+◌, ◌<◌, ◌∙◌, ◌≡◌, ◌≢◌, ◌≤◌, Leaf, Option, Names, lower_nodes, nat_tests, length-append, eq-eqb, ne_eqb}
use Rattle.cdf_format.proofs.ChainsLemmas.{some_place}
use Rattle.cdf_index.proofs.EntriesLeft.{EntriesLeft}
pub use Rattle.cdf_index.proofs.FirstEntry.{node_there}
use Rattle.cdf_index.proofs.FirstEntry.{Opened, first_entry, opened, opened_inside}
use Rattle.cdf_index.proofs.ByParts.{nodes_from}
use Rattle.cdf_index.proofs.Saying.{no_entries}

-- ---- the first node of a chain

pub none_there : (b : List ℕ) (levels : ℕ) (ns : Nodes) → AreTiles b 8 (length b) (tiles b) → HasNodes b (tiles b) levels ns → link_to ns ≡ 0 → ns ≡ no_node
unfolding HasNodes
none_there b levels ns t h e = grind (arith, some_place b (tiles b) (length b), linkable-in b (tiles b) vxr_type)

pub node_of : {b : List ℕ} {at : ℕ} → AreTiles b 8 (length b) (tiles b) → ChainFrom b at → at ≢ 0 → SomeNode b at
node_of tiled c some = record { levels = c.levels; nodes = c.nodes; tiled = tiled; stands = c.stands; is_node = node_there c.nodes (λ z. some (c.link_is ∙ z)); link = c.link_is }

node_opened : {b : List ℕ} {at : ℕ} → (n : SomeNode b at) → Opened b n.levels at n.nodes
node_opened {b = b} {at = at} n = opened b n.levels at n.nodes n.stands n.is_node n.link

-- ---- the entries of a node, from number i on

record From (b : List ℕ) (down at i : ℕ) (es : Entries) : Type 0 where
  rest : Entries
  left : EntriesLeft b down at i rest
  many : i + entry_count rest ≡ used_count b at
  passed : (rec : ℕ) → ((j : ℕ) → j < i → last_at b at j < rec) → ((other : Option Leaf) → find_entry rec es other ≡ find_entry rec rest other) × ((other : ℕ) → passed_from rec es other ≡ passed_from rec rest other)

module _ {b : List ℕ} {down at : ℕ} where
  from : (n k i : ℕ) → k + n ≡ i → (es : Entries) → EntriesLeft b down at k es → k + entry_count es ≡ used_count b at → i ≤ used_count b at → From b down at i es
  from zero k i e es l many most = let z : k ≡ i = omega arith in record { rest = es; left = subst (λ (x : ℕ). EntriesLeft b down at x es) z l; many = omega arith; passed = λ rec before. (λ other. refl, λ other. refl) }
  from (suc n) k i e es l many most =
      let f = first_entry es l (omega arith) in
      let r = from n (k + 1) i (omega arith) f.rest f.left (omega (arith, f.adds.many)) most in
      record {
        rest = r.rest;
        left = r.left;
        many = r.many;
        passed = λ rec before. (let t = lt-ltb (last_at b at k) rec (before k (omega arith)) in let p = r.passed rec before in (λ other. rw t at (f.adds.find rec other) ∙ p.0 other, λ other. rw t at (f.adds.passed rec other) ∙ p.1 other));
      }

node_from : {b : List ℕ} {levels at : ℕ} {ns : Nodes} → (o : Opened b levels at ns) → (i : ℕ) → i ≤ used_count b at → From b o.down at i o.entries
node_from o i most = from i 0 i (omega arith) o.entries o.parts.left (omega (arith, o.parts.says.used_is)) most

-- what an entry names is a tile
pub names_in : (b : List ℕ) (at : ℕ) → SomeNode b at → NamesIn b at
names_in b at n j lt = let r = node_from (node_opened n) j (omega arith) in omega (arith, tile_lies b 8 (length b) (tiles b) (offset_at b at j) n.tiled (first_entry r.rest r.left (omega (arith, r.many))).named)

-- ---- where it is safe to read

-- its Firsts ascend, and its Lasts
pub node_firsts : (b : List ℕ) (at used : ℕ) → SomeNode b at → used ≡ used_count b at → Ascends b at 28 used
node_firsts b at used n u = rw u (node_opened n).here.firsts

pub node_lasts : (b : List ℕ) (at room used : ℕ) → SomeNode b at → room ≡ room_at b at → used ≡ used_count b at → Ascends b at (28 + 4 * room) used
node_lasts b at room used n r u = rw (r, u) (node_opened n).here.lasts

pub node_inside : (b : List ℕ) (at : ℕ) → SomeNode b at → NodeInside b at
node_inside b at n =
    let o = node_opened n in
    grind (arith, tile_lies b 8 (length b) (tiles b) at n.tiled (linkable-in b (tiles b) vxr_type at o.parts.says.linkable), o.here.fits)

-- ---- from the node at which a search is

module _ {b : List ℕ} {rec turn at : ℕ} {nodes : Nodes} (a : At b rec turn nodes at) (inside : NodeInside b at) where
  here : Opened b a.left.levels at a.left.nodes
  here = opened_inside a.left inside

  module _ {i : ℕ} (s : Scanned b rec at i) where
    over : From b here.down at i here.entries
    over = node_from here i s.most

    same : find_entry rec over.rest (find_in rec here.more) ≡ find_in rec nodes
    unfolding find_in
    same = sym ((over.passed rec s.before).0 (find_in rec here.more)) ∙ rw here.is at a.same

    steps : suc (passed_from rec over.rest (nodes_passed rec here.more)) + turn ≡ nodes_passed rec nodes
    unfolding nodes_passed
    steps = omega (arith, (over.passed rec s.before).1 (nodes_passed rec here.more), rw here.is at a.passed)

    -- the whole node was passed
    pub look_next : (link : ℕ) → i ≡ used_count b at → link ≡ next_of b at → At b rec (turn + 1) nodes link
    unfolding find_entry passed_from
    look_next link e x =
        let none = no_entries over.rest (omega (arith, over.many)) in
        record {
          left = record { levels = a.left.levels; nodes = here.more; stands = here.more_stands; link_is = x ∙ here.parts.says.next_is };
          same = rw none at same;
          passed = omega (arith, rw none at steps);
        }

    -- an entry tells: no leaf has the record, or the search goes on below it, or it names the leaf
    pub record Tells (first last place : ℕ) : Type 0 where
      pub nothing : rec < first → find_in rec nodes ≡ None
      pub below : first ≤ rec → type_at b place ≡ 6 → At b rec (turn + 1) nodes place
      pub found : first ≤ rec → type_at b place ≢ 6 → find_in rec nodes ≡ Some (leaf first last place (eqb (type_at b place) 13))

    pub look_tells : (first last place : ℕ) → i ≢ used_count b at → SaysEntry b at i first last place → Tells first last place
    look_tells first last place ne q =
        let f = first_entry over.rest over.left (omega (arith, over.many, s.most)) in
        let t = le-ltb (last_at b at i) rec (s.stop (omega (arith, s.most))) in
        rw (sym q.first_is, sym q.last_is, sym q.offset_is) (record {
          nothing = λ h. sym same ∙ rw (t, lt-ltb rec _ h) at (f.adds.find rec (find_in rec here.more));
          below = λ h six.
              (let u = le-ltb _ _ h in
              record {
                left = record { levels = here.down; nodes = f.low; stands = f.stands; link_is = f.link six };
                same = sym (sym same ∙ rw (t, u, eq-eqb _ 6 six) at (f.adds.find rec (find_in rec here.more)));
                passed = omega (arith, steps, rw (t, u) at (f.adds.passed rec (nodes_passed rec here.more)));
              });
          found = λ h no. sym same ∙ rw (t, le-ltb _ _ h, ne_eqb _ 6 no) at (f.adds.find rec (find_in rec here.more));
        })

-- ---- how many nodes are passed

pub one_passed : (rec : ℕ) (ns : Nodes) → IsNode ns → 1 ≤ nodes_passed rec ns
unfolding nodes_passed
one_passed rec ns is = grind arith

-- no more than there are, and where no node has one behind it, no more than there are levels
pub few_passed : (b ts : List ℕ) (rec levels : ℕ) (ns : Nodes) → HasNodes b ts levels ns → (nodes_passed rec ns ≤ length (nodes_of ns)) × (NextsAreZero ns → nodes_passed rec ns ≤ levels)
unfolding nodes_passed passed_from nodes_of lower_nodes HasNodes Names NextsAreZero LowerAreZero
few_passed b ts rec = nodes_from (λ levels es. (other : ℕ) → Names b ts levels es → (passed_from rec es other ≤ length (lower_nodes es) + other) × (LowerAreZero es → other ≤ levels → passed_from rec es other ≤ levels)) (grind (arith, nat_tests, length-append {A = ℕ}))
