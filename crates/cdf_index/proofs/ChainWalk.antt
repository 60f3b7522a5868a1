-- The walk over a whole chain, with what is below it.
use Rattle.cdf_index.proofs.Common.{AreTiles, Grew, HasIndex, List, Met, Nodes, SomeChain, SomeNode, Stands, [], ap, append-nil, append_assoc, arith, cases_eq, eq-eqb, eqb, first_at, index_at, inl, inr, last_at, length, link_to, met_below, met_block, met_in, met_node, ne_eqb, next_of, nodes_of, offset_at, room_at, subst, sym, tiles, true, type_at, used_count, ℕ, ◌++◌, ◌+◌, ◌-◌, ◌<◌, ◌∙◌, ◌∷◌, ◌≡◌, ◌≢◌, ◌≤◌, Entries, entry_count, lower_nodes, length-append}
use Rattle.cdf_index.proofs.Ascending.{index_stands}
use Rattle.cdf_index.proofs.EntriesLeft.{EntriesLeft}
use Rattle.cdf_index.proofs.FirstEntry.{FirstEntry, first_entry, met_at, opened, opened_nodes, node_there, Opened}
use Rattle.cdf_index.proofs.Looking.{node_of, none_there}
use Rattle.cdf_index.proofs.Saying.{no_entries}
use Rattle.cdf_index.proofs.Searching.{few_nodes}

-- ---- what is left of a chain at a link, or at the entry with number i of a node

module _ {G : Type 0} (has : G → List Met → Type 0) where
  pub record ChainLeft (b : List ℕ) (levels at turn : ℕ) (was now : G) (ns : Nodes) : Type 0 where
    pub left : Nodes
    pub stands : Stands b levels left
    pub link_is : at ≡ link_to left
    pub all : (end : G) → Grew has now end (met_in left) → Grew has was end (met_in ns)
    pub fewer : length (nodes_of left) + turn ≤ length (nodes_of ns)

  pub record NodeLeft (b : List ℕ) (levels at i turn : ℕ) (was now : G) (ns : Nodes) : Type 0 where
    pub nodes : Nodes
    pub node : Opened b levels at nodes
    pub rest : Entries
    pub left : EntriesLeft b node.down at i rest
    pub many : i + entry_count rest ≡ used_count b at
    pub all : (end : G) → Grew has now end (met_below rest ++ met_in node.more) → Grew has was end (met_in ns)
    pub fewer : length (lower_nodes rest) + length (nodes_of node.more) + (turn + 1) ≤ length (nodes_of ns)

  -- of whichever nodes begin at a link
  pub record Walked (b : List ℕ) (levels link at turn : ℕ) (was now : G) : Type 0 where
    pub left : (ns : Nodes) → Stands b levels ns → link ≡ link_to ns → ChainLeft b levels at turn was now ns

  abbrev pub Gone : List ℕ → ℕ → ℕ → ℕ → ℕ → ℕ → G → G → Type 0
  Gone b levels link at i turn was now = (ns : Nodes) → Stands b levels ns → link ≡ link_to ns → NodeLeft b levels at i turn was now ns

module _ {G : Type 0} {has : G → List Met → Type 0} where
  grew_none : (g : G) → Grew has g g []
  grew_none g = record { also = λ met h. rw append-nil h }

  grew_both : {a b c : G} {xs ys : List Met} → Grew has a b xs → Grew has b c ys → Grew has a c (xs ++ ys)
  grew_both {xs = xs} {ys = ys} p q = record { also = λ met h. rw append_assoc at (q.also (met ++ xs) (p.also met h)) }

  module _ {b : List ℕ} {levels at turn : ℕ} {was now : G} {ns : Nodes} (l : ChainLeft has b levels at turn was now ns) where
    pub walk_end : AreTiles b 8 (length b) (tiles b) → at ≡ 0 → Grew has was now (met_in ns)
    unfolding met_in
    walk_end tiled z = l.all now (rw (none_there b levels l.left tiled l.stands.has (sym l.link_is ∙ z)) (grew_none now))

    pub walk_over : length (nodes_of ns) ≤ turn → at ≡ 0
    walk_over le = elim (cases_eq at 0) [
      | inl e ↦ e
      | inr ne ↦ absurd (omega (arith, opened_nodes (opened b levels at l.left l.stands (node_there l.left (λ z. ne (l.link_is ∙ z))) l.link_is), l.fewer))
    ]

    pub walk_in : {next : G} → at ≢ 0 → Grew has now next (met_node at (room_at b at) (used_count b at) ∷ []) → NodeLeft has b levels at 0 turn was next ns
    unfolding met_in nodes_of
    walk_in ne g =
        let o = opened b levels at l.left l.stands (node_there l.left (λ z. ne (l.link_is ∙ z))) l.link_is in
        record {
          nodes = l.left;
          node = o;
          rest = o.entries;
          left = o.parts.left;
          many = omega (arith, o.parts.says.used_is);
          fewer = omega (arith, opened_nodes o, l.fewer);
          all = λ end h. l.all end (rw o.is (rw (o.parts.says.used_is, o.parts.says.room_is) at (grew_both g h)));
        }

  module _ {b : List ℕ} {levels at i turn : ℕ} {was now : G} {ns : Nodes} (l : NodeLeft has b levels at i turn was now ns) where
    pub walk_out : {next : ℕ} → used_count b at ≤ i → next ≡ next_of b at → ChainLeft has b levels next (turn + 1) was now ns
    unfolding met_below
    walk_out le nx =
        let none = no_entries l.rest (omega (arith, l.many)) in
        record { left = l.node.more; stands = l.node.more_stands; link_is = nx ∙ l.node.parts.says.next_is; all = λ end h. l.all end (rw none h); fewer = omega (arith, l.fewer) }

    few_below : (f : FirstEntry b l.node.down at i l.rest) → length (lower_nodes l.rest) ≡ length (nodes_of f.low) + length (lower_nodes f.rest)
    few_below f = ap length f.adds.nodes ∙ length-append (nodes_of f.low) (lower_nodes f.rest)

    past_entry : {next : G} → (f : FirstEntry b l.node.down at i l.rest) → Grew has now next (met_at b at i f.low) → NodeLeft has b levels at (i + 1) turn was next ns
    past_entry f g = record { nodes = l.nodes; node = l.node; rest = f.rest; left = f.left; many = omega (arith, l.many, f.adds.many); fewer = omega (arith, l.fewer, few_below f); all = λ end h. l.all end (rw f.adds.mets (rw append_assoc (grew_both g h))) }

    -- at an entry that names a place
    module _ {place kind : ℕ} (lt : i < used_count b at) (p : place ≡ offset_at b at i) (k : kind ≡ type_at b place) where
      first : FirstEntry b l.node.down at i l.rest
      first = first_entry l.rest l.left (omega (arith, l.many))

      pub past_block : {next : G} → kind ≢ 6 → Grew has now next (met_block (first_at b at i) (last_at b at i) place ∷ []) → NodeLeft has b levels at (i + 1) turn was next ns
      past_block ne g = past_entry first (rw (ne_eqb (type_at b (offset_at b at i)) 6 (λ t. ne (k ∙ ap (type_at b) p ∙ t))) (rw p at g))

      module _ (is : kind ≡ 6) where
        lower_here : (place ≡ link_to first.low) × (eqb (type_at b (offset_at b at i)) 6 ≡ true) × Stands b (levels - 1) first.low
        lower_here =
            let six : type_at b (offset_at b at i) ≡ 6 = ap (type_at b) (sym p) ∙ sym k ∙ is in
            (p ∙ first.link six, eq-eqb (type_at b (offset_at b at i)) 6 six, subst (λ (x : ℕ). Stands b x first.low) (omega (arith, l.node.deep)) first.stands)

        pub past_lower : {next : G} → ((low : Nodes) → Stands b (levels - 1) low → place ≡ link_to low → Grew has now next (met_in low)) → NodeLeft has b levels at (i + 1) turn was next ns
        past_lower told = past_entry first (rw lower_here.1 (told first.low lower_here.2 lower_here.0))

        pub lower_chain : AreTiles b 8 (length b) (tiles b) → length (nodes_of ns) ≤ length b → SomeChain b (levels - 1) place
        lower_chain tiled few = record { nodes = first.low; tiled = tiled; stands = lower_here.2; link_is = lower_here.0; few = omega (arith, few_below first, l.fewer) }

-- a node of the chain
pub walk_node : {G : Type 0} {has : G → List Met → Type 0} {b : List ℕ} {levels link at turn : ℕ} {was now : G} → SomeChain b levels link → Walked has b levels link at turn was now → at ≢ 0 → SomeNode b at
walk_node {levels = levels} some w ne = let l = w.left some.nodes some.stands some.link_is in node_of some.tiled (record { levels = levels; nodes = l.left; stands = l.stands; link_is = l.link_is }) ne

-- ---- from the head of an index

pub whole_chain : (b : List ℕ) (head : ℕ) → HasIndex b head → SomeChain b 8 head
whole_chain b head has = record { nodes = index_at b head; tiled = has.tiled; stands = index_stands b head has; link_is = has.index.link_is; few = omega (arith, few_nodes has) }

-- what was begun with nothing has all of it
pub whole_met : {G : Type 0} {has : G → List Met → Type 0} {b : List ℕ} {head : ℕ} {was now : G} → HasIndex b head → ((chain : Nodes) → Stands b 8 chain → head ≡ link_to chain → Grew has was now (met_in chain)) → has was [] → has now (met_in (index_at b head))
whole_met {b = b} {head = head} index told none = (told (index_at b head) (index_stands b head index) index.index.link_is).also [] none
