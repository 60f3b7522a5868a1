-- The way to the entry that names the last block of an index of which no node is empty: of lists, of the parts of an index, and of what the bytes of a node say.
use Rattle.cdf_index.proofs.Common.{AreInOrder, Distinct, Distinct-back, Distinct-front, Entries, HasIndex, HasNodes, In, In-append_left, In-append_right, InOrder, IsNode, Leaf, List, Names, Nodes, None, Option, Some, SomeNode, Stands, [], ap, arith, append-nil, block, cases_eq, chain_at, entry_count, entry_leaves, eq-eqb, eqb, first_at, index_at, inl, inr, last_at, leaf, leaves_of, length, length-append, link_to, linkable-type, lower, lower_nodes, ne_eqb, next_of, no_entry, no_node, node, nodes_of, offset_at, record_number_limit, refl, seen, subst, suc, sym, tiles, top_chain, type_at, used_count, vxr_type, ℕ, ◌++◌, ◌+◌, ◌-◌, ◌<◌, ◌∙◌, ◌∷◌, ◌≡◌, ◌≢◌, ◌≤◌, ◌⊎◌}
use Rattle.cdf_index.proofs.ByParts.{nodes_from}
use Rattle.cdf_index.proofs.EntriesLeft.{EntriesLeft, NodeParts, node_parts, past_first, past_lower_one}
use Rattle.cdf_index.proofs.FirstEntry.{block_no_node, node_linkable}
use Rattle.cdf_index.proofs.FromReached.{Rest, Standing, behind, index_node, index_standing, link_there, rest_among, rest_index, rest_stands, whole}
use Rattle.cdf_index.proofs.LeafRules.{widened}
use Rattle.cdf_index.proofs.Looking.{none_there}
use Rattle.cdf_index.proofs.WayDown.{node_there_by}
use Rattle.cdf_puts.specs.Starts.{InTopChain}
use Rattle.cdf_puts.specs.TidyIndex.{HasEntry}
unfoldable use Rattle.cdf_puts.specs.TidyIndex.{EntriesTidy, IsTidy}
use Rattle.cdf_trim.specs.LastEntry.{NamesLast, last_leaf}
use Rattle.cdf_trim.specs.WayToLast.{EndsAt, LeadsToLast, ReadsLast, link_on}
use Rattle.cdf_trim.specs.declared.last_entry.LastEntry.{LastEntry}
use Rattle.std.specs.List.{last_or}
use Rattle.std.specs.Option.{unwrap_or}

-- ---- lists

abbrev HasLeaf : List Leaf → Type 0
HasLeaf [] = ⊥
HasLeaf (x ∷ xs) = Unit {0}

-- the last of the later ones is the last of all
last_any : (o p : Option Leaf) (ys : List Leaf) → HasLeaf ys → last_or o ys ≡ last_or p ys
last_any o p [] h = absurd h
last_any o p (y ∷ ys) h = refl

last_behind : (o : Option Leaf) (xs ys : List Leaf) → HasLeaf ys → last_or o (xs ++ ys) ≡ last_leaf ys
last_behind o [] ys h = last_any o None ys h
last_behind o (x ∷ xs) ys h = last_behind (Some x) xs ys h

leaf_before : (xs ys : List Leaf) → HasLeaf xs → HasLeaf (xs ++ ys)
leaf_before [] ys h = absurd h
leaf_before (x ∷ xs) ys h = tt

-- ---- each chain has a leaf, and so have the entries of each node

mutual
  unfolding leaves_of entry_leaves IsTidy EntriesTidy

  nodes_leaf : (ns : Nodes) → IsNode ns → IsTidy ns → HasLeaf (leaves_of ns)
  nodes_leaf no_node is t = absurd is
  nodes_leaf (node place room es more) is t = leaf_before (entry_leaves es) (leaves_of more) (entries_leaf es t.0 t.1)

  entries_leaf : (es : Entries) → HasEntry es → EntriesTidy es → HasLeaf (entry_leaves es)
  entries_leaf no_entry h t = absurd h
  entries_leaf (block first last place packed es) h t = tt
  entries_leaf (lower first last ns es) h t = leaf_before (leaves_of ns) (entry_leaves es) (nodes_leaf ns t.0 t.1)

-- ---- from a node of a chain on

rest_tidy : {s ns : Nodes} → Rest s ns → IsTidy ns → IsTidy s
unfolding IsTidy
rest_tidy whole t = t
rest_tidy (behind r) t = rest_tidy r t.2

rest_last : {s ns : Nodes} → Rest s ns → IsNode s → IsTidy ns → last_leaf (leaves_of s) ≡ last_leaf (leaves_of ns)
unfolding IsTidy leaves_of
rest_last whole is t = refl
rest_last {s = s} (behind {es = es} {more = more} r) is t =
    rest_last r is t.2 ∙ sym (last_behind None (entry_leaves es) (leaves_of more) (nodes_leaf more (rest_node_too r is) t.2))
  where
    rest_node_too : {s ns : Nodes} → Rest s ns → IsNode s → IsNode ns
    rest_node_too whole is = is
    rest_node_too (behind r) is = tt

in_top : (m : ℕ) (ns : Nodes) → In m (top_chain ns) → (s : Nodes) × (Rest s ns × IsNode s × (m ≡ link_to s))
in_top m no_node i = absurd i
in_top m (node place room es more) (inl e) = (node place room es more, (whole, tt, e))
in_top m (node place room es more) (inr i) = let r = in_top m more i in (r.0, (behind r.1.0, r.1.1, r.1.2))

-- a node of the top chain leads to the last block
module _ {b : List ℕ} {head : ℕ} (has : HasIndex b head) (tidy : IsTidy (index_at b head)) where
  rest_leads : {at : ℕ} {s : Nodes} → Rest s (index_at b head) → IsNode s → at ≡ link_to s → LeadsToLast b (index_at b head) at
  rest_leads {at = at} {s = s} r is e =
      let st = rest_stands r (index_standing has) in
      let x = rest_index has.tiled st e in
      record {
        has = x.0;
        some = λ z. link_there has.tiled st is (sym e ∙ z);
        tidy = rw x.1 (rest_tidy r tidy);
        last_is = rw x.1 (rest_last r is tidy);
        among = rw x.1 (rest_among r);
      }

  pub known_leads : (known : Option ℕ) → InTopChain (index_at b head) known → head ≢ 0 → LeadsToLast b (index_at b head) (unwrap_or known head)
  known_leads None i some = rest_leads whole (node_there_by head (index_at b head) has.index.link_is some) has.index.link_is
  known_leads (Some m) i some = let r = in_top m (index_at b head) i in rest_leads r.1.0 r.1.1 r.1.2

  pub no_leaf : head ≡ 0 → leaves_of (index_at b head) ≡ []
  unfolding leaves_of
  no_leaf z = rw (none_there b 8 (index_at b head) has.tiled has.index.has_nodes (sym has.index.link_is ∙ z)) refl

-- ---- the last entry of a node, as the bytes say it

-- a lower chain that has the last of these leaves
record LowerTold (b : List ℕ) (link : ℕ) (leaves : List Leaf) (below : List ℕ) : Type 0 where
  nodes : Nodes
  standing : Standing b nodes
  is_node : IsNode nodes
  link_is : link ≡ link_to nodes
  tidy : IsTidy nodes
  last_is : last_leaf (leaves_of nodes) ≡ last_leaf leaves
  among : (m : ℕ) → In m (nodes_of nodes) → In m below
  few : length (nodes_of nodes) ≤ length below

-- an entry names a block, the last of these leaves, or such a chain
record LastTold (b : List ℕ) (at j : ℕ) (leaves : List Leaf) (below : List ℕ) : Type 0 where
  block : type_at b (offset_at b at j) ≢ 6 → last_leaf leaves ≡ Some (leaf (first_at b at j) (last_at b at j) (offset_at b at j) (eqb (type_at b (offset_at b at j)) 13))
  lower : type_at b (offset_at b at j) ≡ 6 → LowerTold b (offset_at b at j) leaves below

some_entry : (es : Entries) → (es ≡ no_entry) ⊎ HasEntry es
some_entry no_entry = inl refl
some_entry (block first last place packed es) = inr tt
some_entry (lower first last ns es) = inr tt

module _ {b : List ℕ} {at j : ℕ} where
  behind_told : (xs leaves : List Leaf) (ms below : List ℕ) → HasLeaf leaves → LastTold b at j leaves below → LastTold b at j (xs ++ leaves) (ms ++ below)
  behind_told xs leaves ms below h t =
      let same = last_behind None xs leaves h in
      record {
        block = λ no. same ∙ t.block no;
        lower = λ six.
            (let l = t.lower six in
            record { nodes = l.nodes; standing = l.standing; is_node = l.is_node; link_is = l.link_is; tidy = l.tidy; last_is = l.last_is ∙ sym same; among = λ m i. In-append_right m ms below (l.among m i); few = omega (arith, l.few, length-append ms below) });
      }

module _ (b ts : List ℕ) where
  more_levels : (levels : ℕ) (nodes : Nodes) → HasNodes b ts levels nodes → HasNodes b ts (suc levels) nodes
  unfolding HasNodes Names
  more_levels = nodes_from (λ levels es. Names b ts levels es → Names b ts (suc levels) es) (grind arith)

module _ (b : List ℕ) (at j : ℕ) where
  last_told : (k low high : ℕ) (es : Entries) → EntriesLeft b 7 at k es → Distinct (lower_nodes es) → AreInOrder low high es → high ≤ record_number_limit → HasEntry es → EntriesTidy es → suc j ≡ k + entry_count es → LastTold b at j (entry_leaves es) (lower_nodes es)
  unfolding Names lower_nodes entry_leaves AreInOrder EntriesTidy
  last_told k low high no_entry q d o le h t is = absurd h
  last_told k low high (block first last place packed es) q d o le h t is =
      elim (some_entry es) [
        | inl none ↦
            let z : k ≡ j = omega (arith, rw none at is) in
            let e = rw z at q.say.0 in
            rw none (record { block = λ no. rw (e.first_is, e.last_is, e.offset_is, q.names.1) refl; lower = λ six. absurd (block_no_node b place q.blocks.0 (rw e.offset_is at six)) })
        | inr some ↦ behind_told (leaf first last place packed ∷ []) (entry_leaves es) [] (lower_nodes es) (entries_leaf es some t) (last_told (suc k) (suc last) high es (past_first q) d o.3 le some t (omega (arith, is)))
      ]
  last_told k low high (lower first last nodes es) q d o le h t is =
      let p = past_lower_one q in
      elim (some_entry es) [
        | inl none ↦
            let z : k ≡ j = omega (arith, rw none at is) in
            let e = rw z at q.say.0 in
            let st : Stands b 8 nodes = record { has = more_levels b (tiles b) 7 nodes p.0.has; orderly = p.0.orderly; blocks = p.0.blocks } in
            let here : Standing b nodes = record { stands = st; once = Distinct-front (nodes_of nodes) (lower_nodes es) d; order = widened first 0 last record_number_limit nodes (omega arith) (omega (arith, o.2)) o.3 } in
            let six : type_at b (offset_at b at j) ≡ 6 = rw e.offset_is (linkable-type b (tiles b) vxr_type (link_to nodes) (node_linkable b 7 nodes q.names.0 q.names.1)) in
            rw none (record {
              block = λ no. absurd (no six);
              lower = λ s. record {
                nodes = nodes;
                standing = here;
                is_node = t.0;
                link_is = e.offset_is;
                tidy = t.1;
                last_is = ap last_leaf (sym (append-nil (leaves_of nodes)));
                among = λ m i. In-append_left m (nodes_of nodes) [] i;
                few = omega (arith, length-append (nodes_of nodes) []);
              };
            })
        | inr some ↦ behind_told (leaves_of nodes) (entry_leaves es) (nodes_of nodes) (lower_nodes es) (entries_leaf es some t.2) (last_told (suc k) (suc last) high es p.1 (Distinct-back (nodes_of nodes) (lower_nodes es) d) o.4 le some t.2 (omega (arith, is)))
      ]

-- ---- an index that a link leads to, taken apart at its first node

record AtNode (b : List ℕ) (at : ℕ) : Type 0 where
  room : ℕ
  es : Entries
  more : Nodes
  is : index_at b at ≡ node at room es more
  parts : NodeParts b 7 at room es more
  once : Distinct (nodes_of (node at room es more))
  order : InOrder 0 record_number_limit (node at room es more)
  tidy : IsTidy (node at room es more)

-- the way goes on from a node
pub record Onward (b : List ℕ) (at next : ℕ) : Type 0 where
  pub leads : LeadsToLast b (index_at b at) next
  pub fewer : length (nodes_of (index_at b next)) < length (nodes_of (index_at b at))

counts_one : (es : Entries) → HasEntry es → 0 < entry_count es
counts_one no_entry h = absurd h
counts_one (block first last place packed es) h = omega arith
counts_one (lower first last ns es) h = omega arith

module _ {b : List ℕ} {at : ℕ} (has : HasIndex b at) (some : at ≢ 0) (tidy : IsTidy (index_at b at)) where
  at_node : AtNode b at
  at_node = by (index_at b at) refl
    where
      by : (s : Nodes) → index_at b at ≡ s → AtNode b at
      by no_node e = absurd (subst IsNode e (node_there_by at (index_at b at) has.index.link_is some))
      by (node place room es more) e =
          let link : at ≡ place = has.index.link_is ∙ ap link_to e in
          let is : index_at b at ≡ node at room es more = e ∙ ap (λ (x : ℕ). node x room es more) (sym link) in
          let st = rw is at (index_standing has) in
          record { room = room; es = es; more = more; is = is; parts = node_parts st.stands; once = st.once; order = st.order; tidy = rw is at tidy }

  pub some_used : 0 < used_count b at
  unfolding IsTidy
  some_used = let n = at_node in omega (arith, n.parts.says.used_is, counts_one n.es n.tidy.0)

  told : (j : ℕ) → suc j ≡ used_count b at → LastTold b at j (entry_leaves at_node.es) (lower_nodes at_node.es)
  unfolding nodes_of InOrder IsTidy
  told j is =
      let n = at_node in
      last_told b at j 0 0 record_number_limit n.es n.parts.left (Distinct-front (lower_nodes n.es) (nodes_of n.more) n.once.1) n.order.0 (omega arith) n.tidy.0 n.tidy.1 (omega (arith, is, n.parts.says.used_is))

  -- the last node of the chain: its leaves are the last ones
  last_here : next_of b at ≡ 0 → last_leaf (leaves_of (index_at b at)) ≡ last_leaf (entry_leaves at_node.es)
  unfolding leaves_of
  last_here z =
      let n = at_node in
      let none : n.more ≡ no_node = none_there b 8 n.more has.tiled n.parts.more_stands.has (sym n.parts.says.next_is ∙ z) in
      rw (n.is, none, append-nil (entry_leaves n.es)) refl

  chain_from : next_of b at ≢ 0 → Onward b at (next_of b at)
  unfolding nodes_of
  chain_from some_next =
      let n = at_node in
      let rest : Rest n.more (index_at b at) = rw n.is (behind whole) in
      let leads = rest_leads has tidy rest (node_there_by (next_of b at) n.more n.parts.says.next_is some_next) n.parts.says.next_is in
      let x = rest_index has.tiled (rest_stands rest (index_standing has)) n.parts.says.next_is in
      record { leads = leads; fewer = rw (n.is, x.1) (omega (arith, length-append (lower_nodes n.es) (nodes_of n.more))) }

  lower_from : (j : ℕ) → next_of b at ≡ 0 → LowerTold b (offset_at b at j) (entry_leaves at_node.es) (lower_nodes at_node.es) → Onward b at (offset_at b at j)
  unfolding nodes_of
  lower_from j z l =
      let n = at_node in
      let x = rest_index has.tiled l.standing l.link_is in
      record {
        leads = record {
          has = x.0;
          some = λ none. link_there has.tiled l.standing l.is_node (sym l.link_is ∙ none);
          tidy = rw x.1 l.tidy;
          last_is = rw x.1 (l.last_is ∙ sym (last_here z));
          among = rw (x.1, n.is) (λ m i. inr (In-append_left m (lower_nodes n.es) (nodes_of n.more) (l.among m i)));
        };
        fewer = rw (x.1, n.is) (omega (arith, l.few, length-append (lower_nodes n.es) (nodes_of n.more)));
      }

  pub goes_on : (next : ℕ) → next ≡ link_on b at → next ≢ 0 → Onward b at next
  goes_on next is some_next =
      elim (cases_eq (next_of b at) 0) [
        | inl z ↦
            let j = used_count b at - 1 in
            let here : next ≡ chain_at b at j = is ∙ rw (eq-eqb (next_of b at) 0 z) refl in
            elim (cases_eq (type_at b (offset_at b at j)) 6) [
              | inl six ↦ subst (Onward b at) (sym (here ∙ rw (eq-eqb (type_at b (offset_at b at j)) 6 six) refl)) (lower_from j z ((told j (omega (arith, some_used))).lower six))
              | inr other ↦ absurd (some_next (here ∙ rw (ne_eqb (type_at b (offset_at b at j)) 6 other) refl))
            ]
        | inr other ↦ subst (Onward b at) (sym (is ∙ rw (ne_eqb (next_of b at) 0 other) refl)) (chain_from other)
      ]

  -- it names a block, the last one
  module _ (e : LastEntry) (ends : link_on b at ≡ 0) (r : ReadsLast b at e) where
    last_node : next_of b at ≡ 0
    last_node =
        elim (cases_eq (next_of b at) 0) [
          | inl z ↦ z
          | inr other ↦ absurd (other (sym (rw (ne_eqb (next_of b at) 0 other) refl) ∙ ends))
        ]

    no_chain : chain_at b at e.number ≡ 0
    no_chain =
        let j : used_count b at - 1 ≡ e.number = omega (arith, r.is_last) in
        rw (eq-eqb (next_of b at) 0 last_node, j) at ends

    told_last : LastTold b at e.number (entry_leaves at_node.es) (lower_nodes at_node.es)
    told_last = told e.number (omega (arith, r.is_last))

    no_lower : type_at b (offset_at b at e.number) ≢ 6
    no_lower six =
        let l = told_last.lower six in
        absurd (link_there has.tiled l.standing l.is_node (sym l.link_is ∙ rw (eq-eqb (type_at b (offset_at b at e.number)) 6 six) at no_chain))

    seen_is : leaf (first_at b at e.number) (last_at b at e.number) (offset_at b at e.number) (eqb (type_at b (offset_at b at e.number)) 13) ≡ seen e.leaf
    seen_is = rw (r.says.first_is, r.says.last_is, r.says.offset_is, r.packed_is) refl

    pub end_names : last_leaf (leaves_of (index_at b at)) ≡ Some (seen e.leaf)
    end_names = last_here last_node ∙ told_last.block no_lower ∙ ap (λ (l : Leaf). Some l) seen_is

pub leads_node : {b : List ℕ} {index : Nodes} {at : ℕ} → LeadsToLast b index at → SomeNode b at
leads_node l = index_node l.has l.some

pub leads_used : {b : List ℕ} {index : Nodes} {at : ℕ} → LeadsToLast b index at → 0 < used_count b at
leads_used l = some_used l.has l.some l.tidy

pub leads_here : {b : List ℕ} {at : ℕ} → HasIndex b at → at ≢ 0 → IsTidy (index_at b at) → LeadsToLast b (index_at b at) at
leads_here has some tidy = record { has = has; some = some; tidy = tidy; last_is = refl; among = λ m i. i }

pub leads_on : {b : List ℕ} {index : Nodes} {at next : ℕ} → LeadsToLast b index at → LeadsToLast b (index_at b at) next → LeadsToLast b index next
leads_on l n = record { has = n.has; some = n.some; tidy = n.tidy; last_is = n.last_is ∙ l.last_is; among = λ m i. l.among m (n.among m i) }

pub leads_next : {b : List ℕ} {index : Nodes} {at : ℕ} → LeadsToLast b index at → (next : ℕ) → next ≡ link_on b at → next ≢ 0 → Onward b at next
leads_next l = goes_on l.has l.some l.tidy

pub sees_last : {b : List ℕ} {index : Nodes} {start end : ℕ} → LeadsToLast b index start → EndsAt b (index_at b start) end → (e : LastEntry) → ReadsLast b end e → NamesLast b index e
unfolding nodes_of
sees_last {b = b} {index = index} {end = end} s f e r =
    let l = leads_on s f.leads in
    let n = at_node l.has l.some l.tidy in
    record {
      is_node = rw r.node_is (l.among end (rw n.is (inl refl)));
      room_is = rw r.node_is r.room_is;
      is_last = rw r.node_is r.is_last;
      says = rw r.node_is r.says;
      leaf_is = sym l.last_is ∙ end_names l.has l.some l.tidy e f.ends r;
    }
