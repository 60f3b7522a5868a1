-- What a walk over an index has met, entry by entry and node by node.
use Rattle.cdf_structure.proofs.Common.{Agrees, Block, EndsAt, Enters, Entries, Err, Finds, FindsMore, Index, IsEntryAt, Leaf, List, Met, Nodes, None, Ok, Row, WalksEntries, WalksIndex, WalksNodes, [], ap, append-nil, append_assoc, arith, block, block_in, block_of, cvvr_type, end_of, entries_on, entry_leaves, eq-eqb, eqb, false, first_at, has_room, index_of, is_between, is_block, is_in, is_linkable, last_at, leaves_of, length, levels_on, lost, lower, map, met, ne_eqb, negsuc, no_entry, no_node, node, nodes_on, nodes_rows, not, number, number_before, offset_at, pos, record_number_limit, refl, room_at, row, subst, suc, sym, true, type_at, used_count, used_rows, vdr_vxr_head, vxr_type, with_sign, zero, ℕ, ℤ, ◌&&◌, ◌++◌, ◌+◌, ◌-◌, ◌<◌, ◌∙◌, ◌∷◌, ◌≡◌, ◌≢◌}
use Rattle.std.specs.declared.result.Result.{Result}
use Rattle.cdf_structure.specs.declared.index_walk.Between.{Between}
use Rattle.cdf_structure.specs.declared.index_walk.Chain.{Chain}
use Rattle.cdf_structure.specs.declared.met.Met.{Met as MetNodes}
use Rattle.cdf_structure.specs.declared.nodes.Entry.{Entry}
use Rattle.cdf_structure.specs.declared.nodes.Node.{Node}
use Rattle.cdf_structure.proofs.IndexFindings.{more_found, none_asked, from_none}
use Rattle.cdf_structure.proofs.IndexJoins.{join, leaves-join, end-join, rows-join, link_chains, chain_end, leaves-chains, end-chains, rows-chains}
use Rattle.cdf_structure.proofs.IndexWalks.{one_block, one_lower, one_lost, no_entries, more_met, more_lost, lost_on, chain_ends, chain_spent, chain_stops, node_lost, node_met, from_any, behind_nodes, behind_one}

-- blocks behind others
blocks_more : {X : Type 0} (old mid new xs ys : List X) → mid ≡ old ++ xs → new ≡ mid ++ ys → new ≡ old ++ (xs ++ ys)
blocks_more old mid new xs ys p q = q ∙ ap (λ zs. zs ++ ys) p ∙ append_assoc old xs ys

map-append : {X Y : Type 0} (f : X → Y) (xs ys : List X) → map f (xs ++ ys) ≡ map f xs ++ map f ys
map-append f [] ys = refl
map-append f (x ∷ xs) ys = ap (λ zs. f x ∷ zs) (map-append f xs ys)

-- ---- an entry

module _ (b ts : List ℕ) (levels place i : ℕ) (between : Between) (old new : Index) (entry : Entry) (last : ℤ) (says : IsEntryAt b place i entry) (last_is : last ≡ with_sign entry.last) where
  here : last ≡ with_sign (last_at b place i)
  here = last_is ∙ ap with_sign says.last_is

  ordered : is_between between.low between.high entry.first entry.last ≡ is_between between.low between.high (first_at b place i) (last_at b place i)
  ordered = λ j. is_between between.low between.high (says.first_is j) (says.last_is j)

  pub entry_block : is_linkable b ts vxr_type entry.offset ≡ false → new.nodes ≡ old.nodes → new.blocks.items ≡ old.blocks.items ++ block_in entry ∷ []
      → FindsMore old.broken new.broken (row 3 place (is_block b ts entry.offset) ∷ row 4 place (is_between between.low between.high entry.first entry.last) ∷ []) → Agrees old.nodes → WalksEntries b ts levels place i 1 between old new (Ok last)
  unfolding entry_leaves used_rows
  entry_block plain nodes blocks found agrees = let one = block (first_at b place i) (last_at b place i) (offset_at b place i) (eqb (type_at b (offset_at b place i)) cvvr_type) no_entry in (
    one,
    record {
      walk_is = one_block (levels_on levels b ts) b ts place i old.nodes.list.items (sym (ap (is_linkable b ts vxr_type) says.offset_is) ∙ plain) ∙ ap (λ (m : MetNodes). met m.list.items one) (sym nodes);
      blocks_are = blocks ∙ ap (λ (x : Block). old.blocks.items ++ x ∷ []) (λ j. record { first = says.first_is j; last = says.last_is j; place = says.offset_is j });
      found = subst (λ (rows : List Row). FindsMore old.broken new.broken rows) (λ j. row 3 place (is_block b ts (says.offset_is j)) ∷ row 4 place (ordered j) ∷ []) found;
      last_is = here;
      agrees = subst Agrees (sym nodes) agrees;
    },
  )

  module _ (leads : is_linkable b ts vxr_type entry.offset ≡ true) (mid : Index) (nodes_are : mid.nodes ≡ old.nodes) (blocks_are : mid.blocks ≡ old.blocks) where
    leads_on : is_linkable b ts vxr_type (offset_at b place i) ≡ true
    leads_on = sym (ap (is_linkable b ts vxr_type) says.offset_is) ∙ leads

    from : (x : Met Nodes) → levels_on levels b ts mid.nodes.list.items place entry.offset ≡ x → levels_on levels b ts old.nodes.list.items place (offset_at b place i) ≡ x
    from x e = (λ j. levels_on levels b ts (sym nodes_are j).list.items place (sym says.offset_is j)) ∙ e

    pub entry_lower : FindsMore old.broken mid.broken (row 4 place (is_between between.low between.high entry.first entry.last) ∷ [])
        → (within : Between) → WalksNodes b ts levels (record { holder = place; link = entry.offset }) within mid new (Ok tt) → within.low ≡ number_before entry.first → within.high ≡ last → WalksEntries b ts levels place i 1 between old new (Ok last)
    unfolding entry_leaves used_rows
    entry_lower found within walked low_is high_is =
        let nodes = walked.0 in
        let m = walked.1 in (
          lower (first_at b place i) (last_at b place i) nodes no_entry,
          record {
            walk_is = one_lower (levels_on levels b ts) b ts place i old.nodes.list.items new.nodes.list.items nodes leads_on (from (met new.nodes.list.items nodes) m.walk_is);
            blocks_are = m.blocks_are ∙ ap (λ bs. bs.items ++ map block_of (leaves_of nodes)) blocks_are ∙ ap (λ (xs : List Leaf). old.blocks.items ++ map block_of xs) (sym (append-nil (leaves_of nodes)));
            found = subst (λ (rows : List Row). FindsMore old.broken new.broken rows) (λ j. row 4 place (ordered j) ∷ sym (append-nil (nodes_rows b ts (number_before (says.first_is j)) (here j) nodes)) j)
                (more_found old.broken mid.broken new.broken (row 4 place (is_between between.low between.high entry.first entry.last) ∷ []) (nodes_rows b ts (number_before entry.first) last nodes) found
                (subst (λ (rows : List Row). FindsMore mid.broken new.broken rows) (λ j. nodes_rows b ts (low_is j) (high_is j) nodes) m.found));
            last_is = here;
            agrees = m.agrees;
          },
        )

    pub entry_lost : (at : ℕ) (within : Between) → WalksNodes b ts levels (record { holder = place; link = entry.offset }) within mid new (Err at) → WalksEntries b ts levels place i 1 between old new (Err at)
    entry_lost at within walked = one_lost (levels_on levels b ts) b ts place i old.nodes.list.items at leads_on (from (lost at) walked)

-- ---- the entries of a node

module _ (b ts : List ℕ) (levels place : ℕ) (between : Between) (old : Index) where
  pub entries_start : Agrees old.nodes → WalksEntries b ts levels place 0 0 between old old (Ok between.low)
  unfolding entry_leaves used_rows
  entries_start agrees = (
    no_entry,
    record {
      walk_is = no_entries (levels_on levels b ts) b ts place 0 old.nodes.list.items;
      blocks_are = sym (append-nil old.blocks.items);
      found = none_asked old.broken;
      last_is = refl;
      agrees = agrees;
    },
  )

  module _ (n : ℕ) (mid new : Index) (low : ℤ) (before : WalksEntries b ts levels place 0 n between old mid (Ok low)) where
    pub entries_more : (last : ℤ) (rest : Between) → WalksEntries b ts levels place n 1 rest mid new (Ok last) → rest.low ≡ low → rest.high ≡ between.high → WalksEntries b ts levels place 0 (n + 1) between old new (Ok last)
    entries_more last rest walked low_is high_is =
        let done = before.0 in
        let one = walked.0 in
        let p = before.1 in
        let q = walked.1 in (
          join done one,
          record {
            walk_is = more_met (levels_on levels b ts) b ts place n 1 old.nodes.list.items mid.nodes.list.items done p.walk_is new.nodes.list.items one q.walk_is;
            blocks_are = blocks_more old.blocks.items mid.blocks.items new.blocks.items (map block_of (entry_leaves done)) (map block_of (entry_leaves one)) p.blocks_are q.blocks_are
                ∙ ap (λ xs. old.blocks.items ++ xs) (sym (ap (map block_of) (leaves-join done one) ∙ map-append block_of (entry_leaves done) (entry_leaves one)));
            found = subst (λ (rows : List Row). FindsMore old.broken new.broken rows) (sym (rows-join b ts place between.low between.high done one))
                (more_found old.broken mid.broken new.broken (used_rows b ts place between.low between.high done) (used_rows b ts place (end_of between.low done) between.high one) p.found
                (subst (λ (rows : List Row). FindsMore mid.broken new.broken rows) (λ j. used_rows b ts place ((low_is ∙ p.last_is) j) (high_is j) one) q.found));
            last_is = q.last_is ∙ ap (λ (l : ℤ). end_of l one) (low_is ∙ p.last_is) ∙ sym (end-join between.low done one);
            agrees = q.agrees;
          },
        )

    pub entries_lost : (at count : ℕ) (rest : Between) → n < count → WalksEntries b ts levels place n 1 rest mid new (Err at) → WalksEntries b ts levels place 0 count between old new (Err at)
    entries_lost at count rest lt walked =
        let all : (n + 1) + (count - (n + 1)) ≡ count = omega arith in
        subst (λ (k : ℕ). entries_on (levels_on levels b ts) b ts place 0 k old.nodes.list.items ≡ lost at) all
        (lost_on (levels_on levels b ts) b ts place (n + 1) (count - (n + 1)) old.nodes.list.items at
        (more_lost (levels_on levels b ts) b ts place n 1 old.nodes.list.items mid.nodes.list.items before.0 before.1.walk_is at walked))

-- ---- a chain of nodes

last_chain : (done : Nodes) → link_chains done no_node ≡ done
last_chain no_node = refl
last_chain (node place room entries more) = ap (node place room entries) (last_chain more)

first_chain : (x : Met Nodes) → x ≡ behind_nodes no_node x
first_chain (met seen nodes) = refl
first_chain (lost place) = refl

-- the nodes of a chain that were met, and what is left of it, of at most so many nodes
pub record ChainMet (b ts : List ℕ) (levels : ℕ) (chain : Chain) (between : Between) (old now : Index) (rest : Chain) (low : ℤ) (most : ℕ) : Type 0 where
  pub done : Nodes
  pub walk_is : levels_on levels b ts old.nodes.list.items chain.holder chain.link ≡ behind_nodes done (nodes_on (levels_on (levels - 1) b ts) most b ts now.nodes.list.items rest.holder rest.link)
  pub blocks_are : now.blocks.items ≡ old.blocks.items ++ map block_of (leaves_of done)
  pub found : FindsMore old.broken now.broken (nodes_rows b ts between.low between.high done)
  pub low_is : low ≡ chain_end between.low done
  pub agrees : Agrees now.nodes

module _ (b ts : List ℕ) (levels : ℕ) (chain : Chain) (between : Between) (old : Index) where
  pub chain_start : levels ≢ 0 → Agrees old.nodes → ChainMet b ts levels chain between old old chain between.low (length ts)
  unfolding levels_on leaves_of nodes_rows
  chain_start some agrees =
      let deep : levels ≡ suc (levels - 1) = one_less levels some in
      record {
        done = no_node;
        walk_is = ap (λ (k : ℕ). levels_on k b ts old.nodes.list.items chain.holder chain.link) deep ∙ first_chain _;
        blocks_are = sym (append-nil old.blocks.items);
        found = none_asked old.broken;
        low_is = refl;
        agrees = agrees;
      }
    where
      one_less : (n : ℕ) → n ≢ 0 → n ≡ suc (n - 1)
      one_less zero some = absurd (some refl)
      one_less (suc n) some = omega arith

  -- no levels are left
  pub no_levels : levels ≡ 0 → Agrees old.nodes → (end : Result (Unit {0}) ℕ) → EndsAt chain end → WalksNodes b ts levels chain between old old end
  unfolding levels_on leaves_of nodes_rows
  no_levels none agrees (Ok u) ends = (
    no_node,
    record {
      walk_is = rw (none, eq-eqb chain.link 0 ends) refl;
      blocks_are = sym (append-nil old.blocks.items);
      found = none_asked old.broken;
      agrees = agrees;
    },
  )
  no_levels none agrees (Err place) ends = rw (none, ne_eqb chain.link 0 ends.0, ends.1) refl

  module _ (now : Index) (rest : Chain) (low : ℤ) (most : ℕ) (before : ChainMet b ts levels chain between old now rest low most) where
    below : List ℕ → ℕ → ℕ → Met Nodes
    below = levels_on (levels - 1) b ts

    pub chain_ended : rest.link ≡ 0 → WalksNodes b ts levels chain between old now (Ok tt)
    chain_ended none = (
      before.done,
      record {
        walk_is = before.walk_is ∙ ap (behind_nodes before.done) (chain_ends (levels_on (levels - 1) b ts) b ts most now.nodes.list.items rest.holder rest.link none) ∙ ap (met now.nodes.list.items) (last_chain before.done);
        blocks_are = before.blocks_are;
        found = before.found;
        agrees = before.agrees;
      },
    )

    pub chain_stopped : rest.link ≢ 0 → (is_linkable b ts vxr_type rest.link && not (is_in rest.link now.nodes.list.items)) ≡ false → WalksNodes b ts levels chain between old now (Err rest.holder)
    chain_stopped some stale = before.walk_is ∙ ap (behind_nodes before.done) (chain_stops (levels_on (levels - 1) b ts) b ts most now.nodes.list.items rest.holder rest.link some stale)

    -- There are not so many nodes.
    pub chain_over : most ≡ 0 → (end : Result (Unit {0}) ℕ) → EndsAt rest end → WalksNodes b ts levels chain between old now end
    chain_over none (Ok u) ends = chain_ended ends
    chain_over none (Err place) ends = before.walk_is ∙ ap (behind_nodes before.done) (chain_spent (levels_on (levels - 1) b ts) b ts most now.nodes.list.items rest.holder rest.link none ends.0) ∙ ap lost (sym ends.1)

    module _ (less : ℕ) (is : most ≡ suc less) (some : rest.link ≢ 0) (fresh : (is_linkable b ts vxr_type rest.link && not (is_in rest.link now.nodes.list.items)) ≡ true)
        (mid new : Index) (node_at : Node) (entered : Enters b now mid rest.link node_at) where
      entries_is : (x : Met Entries) → entries_on (levels_on (levels - 1) b ts) b ts rest.link 0 node_at.used mid.nodes.list.items ≡ x
          → entries_on (levels_on (levels - 1) b ts) b ts rest.link 0 (used_count b rest.link) (now.nodes.list.items ++ rest.link ∷ []) ≡ x
      entries_is x e = (λ j. entries_on (levels_on (levels - 1) b ts) b ts rest.link 0 (sym entered.node_is.used_is j) (sym entered.nodes_are j)) ∙ e

      pub chain_lost : (at : ℕ) (within : Between) → WalksEntries b ts (levels - 1) rest.link 0 node_at.used within mid new (Err at) → WalksNodes b ts levels chain between old new (Err at)
      chain_lost at within walked = before.walk_is ∙ ap (behind_nodes before.done) (node_lost (levels_on (levels - 1) b ts) b ts most less is now.nodes.list.items rest.holder rest.link some fresh at (entries_is (lost at) walked))

      pub chain_more : (last : ℤ) (within : Between) → WalksEntries b ts (levels - 1) rest.link 0 node_at.used within mid new (Ok last) → within.low ≡ low → within.high ≡ between.high
          → ChainMet b ts levels chain between old new (record { holder = rest.link; link = node_at.next }) last less
      unfolding leaves_of nodes_rows
      chain_more last within walked low_is high_is =
          let entries = walked.0 in
          let q = walked.1 in
          let one = node rest.link (room_at b rest.link) entries no_node in
          record {
            done = link_chains before.done one;
            walk_is = before.walk_is ∙ ap (behind_nodes before.done) (node_met (levels_on (levels - 1) b ts) b ts most less is now.nodes.list.items rest.holder rest.link some fresh new.nodes.list.items entries (entries_is (met new.nodes.list.items entries) q.walk_is))
                ∙ behind_one before.done rest.link (room_at b rest.link) entries _
                ∙ ap (λ (k : ℕ). behind_nodes (link_chains before.done one) (nodes_on (levels_on (levels - 1) b ts) less b ts new.nodes.list.items rest.link k)) (sym entered.node_is.next_is);
            blocks_are = blocks_more old.blocks.items now.blocks.items new.blocks.items (map block_of (leaves_of before.done)) (map block_of (entry_leaves entries)) before.blocks_are (q.blocks_are ∙ ap (λ bs. bs.items ++ map block_of (entry_leaves entries)) entered.blocks_are)
                ∙ ap (λ xs. old.blocks.items ++ xs) (sym (ap (map block_of) (leaves-chains before.done one ∙ ap (λ (xs : List Leaf). leaves_of before.done ++ xs) (append-nil (entry_leaves entries))) ∙ map-append block_of (leaves_of before.done) (entry_leaves entries)));
            found = subst (λ (rows : List Row). FindsMore old.broken new.broken rows) (sym (rows-chains b ts between.low between.high before.done one))
                (more_found old.broken now.broken new.broken (nodes_rows b ts between.low between.high before.done) (nodes_rows b ts (chain_end between.low before.done) between.high one) before.found
                (subst (λ (rows : List Row). FindsMore now.broken new.broken (row 2 rest.link (has_room b rest.link) ∷ rows)) (sym (append-nil (used_rows b ts rest.link (chain_end between.low before.done) between.high entries)))
                (subst (λ (l : ℤ). FindsMore now.broken new.broken (row 2 rest.link (has_room b rest.link) ∷ used_rows b ts rest.link l between.high entries)) before.low_is
                (more_found now.broken mid.broken new.broken (row 2 rest.link (has_room b rest.link) ∷ []) (used_rows b ts rest.link low between.high entries) entered.found
                (subst (λ (rows : List Row). FindsMore mid.broken new.broken rows) (λ j. used_rows b ts rest.link (low_is j) (high_is j) entries) q.found)))));
            low_is = q.last_is ∙ ap (λ (l : ℤ). end_of l entries) (low_is ∙ before.low_is) ∙ sym (end-chains between.low before.done one);
            agrees = q.agrees;
          }

-- ---- the whole index of a variable

module _ (b ts : List ℕ) (vdr head : ℕ) (between : Between) (old new : Index) (head_is : head ≡ number b vdr vdr_vxr_head) (none_met : old.nodes.list.items ≡ []) where
  from_none_met : levels_on 8 b ts old.nodes.list.items vdr head ≡ index_of b ts vdr
  from_none_met = λ i. levels_on 8 b ts (none_met i) vdr (head_is i)

  pub index_met : old.blocks.items ≡ [] → old.broken ≡ None → WalksNodes b ts 8 (record { holder = vdr; link = head }) between old new (Ok tt) → between.low ≡ negsuc 0 → between.high ≡ pos record_number_limit → WalksIndex b ts vdr (Ok new)
  index_met no_blocks none walked low high =
      let m = walked.1 in (
        walked.0,
        record {
          walk_is = sym from_none_met ∙ m.walk_is;
          blocks_are = m.blocks_are ∙ ap (λ xs. xs ++ map block_of (leaves_of walked.0)) no_blocks;
          found = subst (λ (rows : List Row). Finds rows new.broken) (λ i. nodes_rows b ts (low i) (high i) walked.0) (from_none old.broken new.broken (nodes_rows b ts between.low between.high walked.0) none m.found);
        },
      )

  pub index_is_lost : (place : ℕ) → WalksNodes b ts 8 (record { holder = vdr; link = head }) between old new (Err place) → WalksIndex b ts vdr (Err place)
  index_is_lost place walked = sym from_none_met ∙ walked

-- the index of one variable is that of each other one with its link
pub index_again : (b ts : List ℕ) (one other : ℕ) (now : List ℕ) (nodes : Nodes) → number b other vdr_vxr_head ≡ number b one vdr_vxr_head → index_of b ts one ≡ met now nodes → index_of b ts other ≡ met now nodes
unfolding levels_on
index_again b ts one other now nodes same e =
    (λ i. nodes_on (levels_on 7 b ts) (length ts) b ts [] other (same i))
    ∙ from_any (levels_on 7 b ts) b ts (length ts) [] one other (number b one vdr_vxr_head) now nodes e
