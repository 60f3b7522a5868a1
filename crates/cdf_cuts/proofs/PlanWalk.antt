-- The walk of a plan over a chain, with what is below it.
use Rattle.cdf_cuts.proofs.Common.{AreTiles, Does, Doing, Entries, Entry, HasNodes, Left, List, Names, Nodes, None, Option, Plan, SaysEntry, SomeChain, SomeNode, Span, Stands, [], ap, append-nil, append_assoc, arith, block, block_words, cases_eq, cut_words, dropped, ended, entry_count, entry_leaves, first_at, flat_map, flat_map-append, found_after, found_in, inl, inr, kept_by, last_at, length, length-append, link_to, linkable-type, lower, lower_nodes, lower_words, next_of, no_entry, no_node, nodes_of, offset_at, plan_below, plan_of, range, refl, released, discarded, relinked, stands_in, true, whole_after, whole_in, rewritten, room_at, stands_after, step, subst, suc, sym, tiles, type_at, used_count, vxr_type, ℕ, ◌++◌, ◌+◌, ◌-◌, ◌<◌, ◌∙◌, ◌≡◌, ◌≢◌, ◌≤◌}
use Rattle.cdf_index.proofs.EntriesLeft.{EntriesLeft, past_first, past_lower_one}
use Rattle.cdf_index.proofs.FirstEntry.{Opened, block_no_node, node_linkable, node_there, opened, opened_nodes}
use Rattle.cdf_index.proofs.Looking.{node_of, none_there}
use Rattle.cdf_index.proofs.Saying.{no_entries}

-- ---- plans grow

pub does_none : (p : Plan) → Does p p []
does_none p = record { nodes_are = sym (append-nil _); links_are = sym (append-nil _); blocks_are = sym (append-nil _); emptied_are = sym (append-nil _) }

pub grown : {A : Type 0} (a b c : List A) (f : Doing → List A) (xs ys : List Doing) → b ≡ a ++ flat_map f xs → c ≡ b ++ flat_map f ys → c ≡ a ++ flat_map f (xs ++ ys)
grown a b c f xs ys p q = q ∙ ap (λ zs. zs ++ flat_map f ys) p ∙ append_assoc a (flat_map f xs) (flat_map f ys) ∙ ap (λ zs. a ++ zs) (sym (flat_map-append f xs ys))

pub does_both : {a b c : Plan} {xs ys : List Doing} → Does a b xs → Does b c ys → Does a c (xs ++ ys)
does_both {xs = xs} {ys = ys} p q = record { nodes_are = grown _ _ _ rewritten xs ys p.nodes_are q.nodes_are; links_are = grown _ _ _ relinked xs ys p.links_are q.links_are; blocks_are = grown _ _ _ released xs ys p.blocks_are q.blocks_are; emptied_are = grown _ _ _ discarded xs ys p.emptied_are q.emptied_are }

-- ---- the first of some entries

pub record FirstIs (b : List ℕ) (down at i : ℕ) (entries : Entries) : Type 0 where
  pub rest : Entries
  pub low : Nodes
  pub left : EntriesLeft b down at (i + 1) rest
  pub stands : Stands b down low
  pub many : entry_count entries ≡ suc (entry_count rest)
  pub nodes : length (lower_nodes entries) ≡ length (nodes_of low) + length (lower_nodes rest)
  pub of_block : type_at b (offset_at b at i) ≢ 6 → (span : Span) → (cut_words span entries ≡ block_words (kept_by span (range (first_at b at i) (last_at b at i))) (offset_at b at i) ++ cut_words span rest) × (plan_below span entries ≡ dropped (kept_by span (range (first_at b at i) (last_at b at i))) (offset_at b at i) ++ plan_below span rest)
  pub of_lower : type_at b (offset_at b at i) ≡ 6 → (offset_at b at i ≡ link_to low) × ((span : Span) → (cut_words span entries ≡ lower_words span.close (first_at b at i) (last_at b at i) (found_in span None low) ++ cut_words span rest) × (plan_below span entries ≡ plan_of span 0 low ++ plan_below span rest))

pub first_is : {b : List ℕ} {down at i : ℕ} (entries : Entries) → EntriesLeft b down at i entries → 0 < entry_count entries → FirstIs b down at i entries
unfolding HasNodes Names nodes_of lower_nodes entry_leaves cut_words plan_below plan_of found_in
first_is no_entry l some = absurd (omega arith)
first_is {b = b} {at = at} {i = i} (block first last place packed entries) l some =
    let z : suc i ≡ i + 1 = omega arith in
    let e = l.say.0 in
    let no : type_at b (offset_at b at i) ≢ 6 = λ t. block_no_node b place l.blocks.0 (rw e.offset_is at t) in
    record {
      rest = entries;
      low = no_node;
      left = rw z at (past_first l);
      stands = record { has = tt; orderly = tt; blocks = tt };
      many = refl;
      nodes = omega arith;
      of_block = λ t span. rw (e.first_is, e.last_is, e.offset_is) (refl, refl);
      of_lower = λ t. absurd (no t);
    }
first_is {b = b} {down = down} {at = at} {i = i} (lower first last nodes entries) l some =
    let z : suc i ≡ i + 1 = omega arith in
    let e = l.say.0 in
    let link = node_linkable b down nodes l.names.0 l.names.1 in
    let six : type_at b (offset_at b at i) ≡ 6 = rw e.offset_is (linkable-type b (tiles b) vxr_type (link_to nodes) link) in
    record {
      rest = entries;
      low = nodes;
      left = rw z at (past_lower_one l).1;
      stands = (past_lower_one l).0;
      many = refl;
      nodes = length-append (nodes_of nodes) (lower_nodes entries);
      of_block = λ t. absurd (t six);
      of_lower = λ t. (e.offset_is, λ span. rw (e.first_is, e.last_is) (refl, refl));
    }

-- ---- what is left of a chain at a link, or at the entry with number i of a node

pub record ChainLeft (b : List ℕ) (levels at turn : ℕ) (span : Span) (was now : Plan) (left : Left) (ns : Nodes) : Type 0 where
  pub rest : Nodes
  pub stands : Stands b levels rest
  pub link_is : at ≡ link_to rest
  pub all : (end : Plan) → Does now end (plan_of span left.prev rest) → Does was end (plan_of span 0 ns)
  pub same : found_in span left.found rest ≡ found_in span None ns
  pub last : stands_in span left.prev rest ≡ stands_in span 0 ns
  pub whole : whole_in span left.whole rest ≡ whole_in span true ns
  pub fewer : length (nodes_of rest) + turn ≤ length (nodes_of ns)

pub record NodeLeft (b : List ℕ) (levels at i turn : ℕ) (span : Span) (was now : Plan) (left : Left) (kept : List Entry) (ns : Nodes) : Type 0 where
  pub nodes : Nodes
  pub node : Opened b levels at nodes
  pub rest : Entries
  pub entries : EntriesLeft b node.down at i rest
  pub many : i + entry_count rest ≡ used_count b at
  pub words : kept ++ cut_words span rest ≡ cut_words span node.entries
  pub all : (end : Plan) → Does now end (plan_below span rest ++ (step left.prev at (room_at b at) (used_count b at) (cut_words span node.entries) ++ plan_of span (stands_after left.prev at (cut_words span node.entries)) node.more)) → Does was end (plan_of span 0 ns)
  pub same : found_in span (found_after left.found at (cut_words span node.entries)) node.more ≡ found_in span None ns
  pub last : stands_in span (stands_after left.prev at (cut_words span node.entries)) node.more ≡ stands_in span 0 ns
  pub whole : whole_in span (whole_after left.whole (cut_words span node.entries)) node.more ≡ whole_in span true ns
  pub fewer : length (lower_nodes rest) + length (nodes_of node.more) + (turn + 1) ≤ length (nodes_of ns)

-- of whichever nodes begin at a link
pub record Planning (b : List ℕ) (levels link at turn : ℕ) (span : Span) (was now : Plan) (left : Left) : Type 0 where
  pub left_is : (ns : Nodes) → Stands b levels ns → link ≡ link_to ns → ChainLeft b levels at turn span was now left ns

abbrev pub PlanningNode : List ℕ → ℕ → ℕ → ℕ → ℕ → ℕ → Span → Plan → Plan → Left → List Entry → Type 0
PlanningNode b levels link at i turn span was now left kept = (ns : Nodes) → Stands b levels ns → link ≡ link_to ns → NodeLeft b levels at i turn span was now left kept ns

pub plan_start : {b : List ℕ} {levels link : ℕ} {span : Span} {was : Plan} → Planning b levels link link 0 span was was (record { found = None; prev = 0; whole = true })
plan_start = record { left_is = λ ns st e. record { rest = ns; stands = st; link_is = e; all = λ end h. h; same = refl; last = refl; whole = refl; fewer = omega arith } }

module _ {b : List ℕ} {levels at turn : ℕ} {span : Span} {was now : Plan} {left : Left} {ns : Nodes} (l : ChainLeft b levels at turn span was now left ns) where
  pub plan_end : AreTiles b 8 (length b) (tiles b) → at ≡ 0 → {end : Plan} → Does now end (ended left.prev) → Does was end (plan_of span 0 ns) × (left.found ≡ found_in span None ns) × (left.prev ≡ stands_in span 0 ns) × (left.whole ≡ whole_in span true ns)
  unfolding plan_of found_in stands_in whole_in
  plan_end tiled z {end = end} h =
      let none = none_there b levels l.rest tiled l.stands.has (sym l.link_is ∙ z) in
      (l.all end (rw none h), rw none at l.same, rw none at l.last, rw none at l.whole)

  pub plan_over : length (nodes_of ns) ≤ turn → at ≡ 0
  plan_over le = elim (cases_eq at 0) [
    | inl e ↦ e
    | inr ne ↦ absurd (omega (arith, opened_nodes (opened b levels at l.rest l.stands (node_there l.rest (λ z. ne (l.link_is ∙ z))) l.link_is), l.fewer))
  ]

  pub plan_in : at ≢ 0 → NodeLeft b levels at 0 turn span was now left [] ns
  unfolding plan_of found_in stands_in whole_in nodes_of
  plan_in ne =
      let o = opened b levels at l.rest l.stands (node_there l.rest (λ z. ne (l.link_is ∙ z))) l.link_is in
      record {
        nodes = l.rest;
        node = o;
        rest = o.entries;
        entries = o.parts.left;
        many = omega (arith, o.parts.says.used_is);
        words = refl;
        all = λ end h. l.all end (rw o.is (rw (o.parts.says.used_is, o.parts.says.room_is) at h));
        same = rw o.is at l.same;
        last = rw o.is at l.last;
        whole = rw o.is at l.whole;
        fewer = omega (arith, opened_nodes o, l.fewer);
      }

module _ {b : List ℕ} {levels at i turn : ℕ} {span : Span} {was now : Plan} {left : Left} {kept : List Entry} {ns : Nodes} (l : NodeLeft b levels at i turn span was now left kept ns) where
  -- the whole node was gone through
  pub plan_out : {then : Plan} {goes : Left} {next : ℕ} → used_count b at ≤ i → next ≡ next_of b at → Does now then (step left.prev at (room_at b at) (used_count b at) kept) → goes.found ≡ found_after left.found at kept → goes.prev ≡ stands_after left.prev at kept → goes.whole ≡ whole_after left.whole kept → ChainLeft b levels next (turn + 1) span was then goes ns
  unfolding plan_below cut_words
  plan_out le nx h f p w =
      let none = no_entries l.rest (omega (arith, l.many)) in
      let whole : kept ≡ cut_words span l.node.entries = sym (append-nil kept) ∙ rw none at l.words in
      record {
        rest = l.node.more;
        stands = l.node.more_stands;
        link_is = nx ∙ l.node.parts.says.next_is;
        all = λ end g. l.all end (rw none (rw whole at (does_both h (rw p at g))));
        same = rw f (rw whole l.same);
        last = rw p (rw whole l.last);
        whole = rw w (rw whole l.whole);
        fewer = omega (arith, l.fewer);
      }

  pub first : i < used_count b at → FirstIs b l.node.down at i l.rest
  first lt = first_is l.rest l.entries (omega (arith, l.many))

  -- an entry that names a block
  pub plan_block : {then : Plan} {e : Entry} {more : List Entry} → i < used_count b at → SaysEntry b at i e.first e.last e.place → type_at b (offset_at b at i) ≢ 6
      → Does now then (dropped (kept_by span (range e.first e.last)) e.place) → more ≡ kept ++ block_words (kept_by span (range e.first e.last)) e.place → NodeLeft b levels at (i + 1) turn span was then left more ns
  plan_block {e = e} lt s ne h w =
      let f = first lt in
      let is = rw (s.first_is, s.last_is, s.offset_is) at (f.of_block ne span) in
      record {
        nodes = l.nodes;
        node = l.node;
        rest = f.rest;
        entries = f.left;
        many = omega (arith, l.many, f.many);
        words = rw (w, append_assoc) (ap (λ (ws : List Entry). kept ++ ws) (sym is.0) ∙ l.words);
        all = λ end g. l.all end (rw (is.1, append_assoc) (does_both h g));
        same = l.same;
        last = l.last;
        whole = l.whole;
        fewer = omega (arith, l.fewer, f.many, f.nodes);
      }

  -- one that names a lower chain
  module _ (lt : i < used_count b at) (six : type_at b (offset_at b at i) ≡ 6) where
    pub lower_here : Stands b (levels - 1) (first lt).low
    lower_here = let f = first lt in subst (λ (x : ℕ). Stands b x f.low) (omega (arith, l.node.deep)) f.stands

    pub lower_chain : {place : ℕ} → place ≡ offset_at b at i → AreTiles b 8 (length b) (tiles b) → length (nodes_of ns) ≤ length b → SomeChain b (levels - 1) place
    lower_chain p tiled few = let f = first lt in record { nodes = f.low; tiled = tiled; stands = lower_here; link_is = p ∙ (f.of_lower six).0; few = omega (arith, f.nodes, l.fewer) }

    pub plan_lower : {then : Plan} {e : Entry} {place : ℕ} {below : Option Entry} {more : List Entry} → SaysEntry b at i e.first e.last e.place → place ≡ offset_at b at i
        → ((low : Nodes) → Stands b (levels - 1) low → place ≡ link_to low → Does now then (plan_of span 0 low)) → ((low : Nodes) → Stands b (levels - 1) low → place ≡ link_to low → below ≡ found_in span None low)
        → more ≡ kept ++ lower_words span.close e.first e.last below → NodeLeft b levels at (i + 1) turn span was then left more ns
    plan_lower {below = below} s p told found w =
        let f = first lt in
        let is = rw (s.first_is, s.last_is) at ((f.of_lower six).1 span) in
        let link = p ∙ (f.of_lower six).0 in
        let here : below ≡ found_in span None f.low = found f.low lower_here link in
        record {
          nodes = l.nodes;
          node = l.node;
          rest = f.rest;
          entries = f.left;
          many = omega (arith, l.many, f.many);
          words = rw (w, append_assoc, here) (ap (λ (ws : List Entry). kept ++ ws) (sym is.0) ∙ l.words);
          all = λ end g. l.all end (rw (is.1, append_assoc) (does_both (told f.low lower_here link) g));
          same = l.same;
          last = l.last;
          whole = l.whole;
          fewer = omega (arith, l.fewer, f.many, f.nodes);
        }

-- the chain that an entry names
pub chain_below : {b : List ℕ} {levels at i turn : ℕ} {span : Span} {was now : Plan} {left : Left} {kept : List Entry} {ns : Nodes} {place kind : ℕ} → NodeLeft b levels at i turn span was now left kept ns → i < used_count b at → place ≡ offset_at b at i → kind ≡ type_at b place → kind ≡ 6 → AreTiles b 8 (length b) (tiles b) → length (nodes_of ns) ≤ length b → SomeChain b (levels - 1) place
chain_below {b = b} l lt p k is tiled few = lower_chain l lt (ap (type_at b) (sym p) ∙ sym k ∙ is) p tiled few

-- a node of the chain
pub plan_node : {b : List ℕ} {levels link at turn : ℕ} {span : Span} {was now : Plan} {left : Left} → SomeChain b levels link → Planning b levels link at turn span was now left → at ≢ 0 → SomeNode b at
plan_node {levels = levels} some w ne = let l = w.left_is some.nodes some.stands some.link_is in node_of some.tiled (record { levels = levels; nodes = l.rest; stands = l.stands; link_is = l.link_is }) ne
