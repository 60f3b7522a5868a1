use Rattle.cdf_index.proofs.Common.{arith, entry_leaves, index_at, read_more, read_once, seen, sym, ◌∙◌}
use Rattle.cdf_index.proofs.FromReached.{index_node}
use Rattle.cdf_index.proofs.Looking.{node_inside}
use Rattle.cdf_var_records.proofs.LastBegun.{a_level, begun_told, entry_told, found_at_start, found_here, found_so_far, next_node, none_to_search, not_at_start, not_here, one_begun, some_node, start_among, start_index}
use Rattle.cdf_var_records.specs.Previous.{entries_of, leaves_until}
use Rattle.cdf_var_records.proofs.previous.+last_leaf.Goals as goal

-- ---- of an entry

pub last_in_entry-read_named-requires-clause-node : goal.last_in_entry-read_named-requires-clause-node
last_in_entry-read_named-requires-clause-node g t c = index_node c.requires.index.index c.requires.some

pub last_in_entry-overflow_sub-levels : goal.last_in_entry-overflow_sub-levels
last_in_entry-overflow_sub-levels g t c = a_level c.requires.index c.requires.some

pub last_in_entry-last_in_chain-requires : goal.last_in_entry-last_in_chain-requires
last_in_entry-last_in_chain-requires g t c κs within =
    let h = c.requires.index in
    let told = entry_told h c.requires.some c.args.i c.requires.used in
    let place = c.in_ok-named.ensures.place in
    let below = rw (← place) at (told.lower (rw place at (sym c.in_ok-named.ensures.kind ∙ c.if-named-eq-VXR_TYPE.true))).0 in
    rw c.read_named.ensures.area.image ((let d = c.decreases in let one = a_level h c.requires.some in omega arith), (within, (below, (tt, c.requires.short))))

pub last_in_entry-returns-then-named-eq-VXR_TYPE-clause-leaf : goal.last_in_entry-returns-then-named-eq-VXR_TYPE-clause-leaf
last_in_entry-returns-then-named-eq-VXR_TYPE-clause-leaf g t c =
    let h = c.requires.index in
    let told = entry_told h c.requires.some c.args.i c.requires.used in
    let place = c.in_ok-named.ensures.place in
    let is = (told.lower (rw place at (sym c.in_ok-named.ensures.kind ∙ c.if-named-eq-VXR_TYPE.true))).1 in
    rw (is, ← place) (rw c.read_named.ensures.area.image at c.last_in_chain.ensures.leaf)

pub last_in_entry-read_entry-requires-clause-inside : goal.last_in_entry-read_entry-requires-clause-inside
last_in_entry-read_entry-requires-clause-inside g t c = rw c.read_named.ensures.area.image (node_inside _ c.args.at (index_node c.requires.index.index c.requires.some))

pub last_in_entry-returns-clause-leaf : goal.last_in_entry-returns-clause-leaf
last_in_entry-returns-clause-leaf g t c =
    let b = g.A.Area.image c.args.area.now in
    let says = rw c.read_named.ensures.area.image at c.in_ok-entry.ensures.value in
    let kind = c.in_ok-named.ensures.kind in
    let place = c.in_ok-named.ensures.place in
    let told = entry_told c.requires.index c.requires.some c.args.i c.requires.used in
    let is = told.block (λ six. c.if-named-eq-VXR_TYPE.false (kind ∙ (rw place six))) in
    rw (is, kind, place, says.first_is, says.last_is) (sym (one_begun c.args.rec _ (rw says.first_is at c.requires.begun)))

-- ---- of a node

pub last_in_node-read_head-requires-clause-inside : goal.last_in_node-read_head-requires-clause-inside
last_in_node-read_head-requires-clause-inside g t c = node_inside _ c.args.at (index_node c.requires.index.index c.requires.some)

pub last_in_node-entries_begun-requires-clause-node : goal.last_in_node-entries_begun-requires-clause-node
last_in_node-entries_begun-requires-clause-node g t c = rw c.read_head.ensures.area.image (index_node c.requires.index.index c.requires.some)

pub last_in_node-loop-i-init : goal.last_in_node-loop-i-init
last_in_node-loop-i-init g t c =
    let begun = rw c.read_head.ensures.area.image at c.in_ok-i.ensures.begun in
    record { most = begun.most; begun = begun.before; rest = begun_told c.requires.index c.requires.some c.args.rec c.in_ok-i.i begun; area = read_more (read_once c.in_ok-head.ensures.area) c.in_ok-i.ensures.area }

pub last_in_node-returns-then-is_some-clause-leaf : goal.last_in_node-returns-then-is_some-clause-leaf
last_in_node-returns-then-is_some-clause-leaf g t c =
    let i = c.loop-i.invariant in
    let es = entries_of (index_at (g.A.Area.image c.args.area.now) c.args.at) in
    found_here seen c.args.rec c.loop-i.i es (entry_leaves es) c.in_ok-found.found c.loop-i-test.true i.rest (rw i.area.image at c.in_ok-found.ensures.leaf) (sym c.is_some.ensures ∙ c.if-is_some.true)

pub last_in_node-loop-i-preserved : goal.last_in_node-loop-i-preserved
last_in_node-loop-i-preserved g t c =
    let i = c.loop-i.invariant in
    let es = entries_of (index_at (g.A.Area.image c.args.area.now) c.args.at) in
    record {
      most = omega (arith, i.most);
      begun = λ j lt. i.begun j (omega arith);
      rest = not_here seen c.args.rec c.loop-i.i es (entry_leaves es) c.in_ok-found.found c.loop-i-test.true i.rest (rw i.area.image at c.in_ok-found.ensures.leaf) (sym c.is_some.ensures ∙ c.if-is_some.false);
      area = read_more i.area c.in_ok-found.ensures.area;
    }

-- ---- of the nodes before the end

pub last_until-last_in_node-requires : goal.last_until-last_in_node-requires
last_until-last_in_node-requires g t c κs within =
    let i = c.loop-at.invariant in
    rw i.area.image ((let d = c.decreases in omega arith), (within, (i.index, (some_node i.index c.args.end i.ends, c.requires.short))))

pub last_until-read_head-requires-clause-inside : goal.last_until-read_head-requires-clause-inside
last_until-read_head-requires-clause-inside g t c =
    let i = c.loop-at.invariant in
    rw (c.last_in_node.ensures.area.image, i.area.image) (node_inside _ c.loop-at.at (index_node i.index.index (some_node i.index c.args.end i.ends)))

pub last_until-loop-at-smaller : goal.last_until-loop-at-smaller
last_until-loop-at-smaller g t c =
    let i = c.loop-at.invariant in
    let head = rw (c.last_in_node.ensures.area.image, i.area.image) at c.in_ok-at.ensures.head in
    (next_node i.index c.args.end i.ends c.in_ok-at.field-0.next head.next_is c.loop-at-test.true).fewer

pub last_until-loop-at-preserved : goal.last_until-loop-at-preserved
last_until-loop-at-preserved g t c =
    let b = g.A.Area.image c.args.area.now in
    let i = c.loop-at.invariant in
    let head = rw (c.last_in_node.ensures.area.image, i.area.image) at c.in_ok-at.ensures.head in
    let on = next_node i.index c.args.end i.ends c.in_ok-at.field-0.next head.next_is c.loop-at-test.true in
    let here = rw i.area.image at c.in_ok-here.ensures.leaf in
    record {
      index = on.index;
      ends = on.ends;
      rest = rw c.or-found.ensures (found_so_far seen c.args.rec c.in_ok-here.here c.loop-at.found (entry_leaves (entries_of (index_at b c.loop-at.at))) (leaves_until c.args.end (index_at b c.in_ok-at.field-0.next)) _ here (rw on.leaves at i.rest));
      area = read_more (read_more i.area c.in_ok-here.ensures.area) c.in_ok-at.ensures.area;
    }

-- ---- of a chain

pub last_in_chain-returns-then-start-eq0-clause-leaf : goal.last_in_chain-returns-then-start-eq0-clause-leaf
last_in_chain-returns-then-start-eq0-clause-leaf g t c = sym (none_to_search c.args.rec c.requires.index c.in_ok-start.ensures.start c.if-start-eq0.true)

pub last_in_chain-last_in_node-requires : goal.last_in_chain-last_in_node-requires
last_in_chain-last_in_node-requires g t c κs within =
    let index = start_index c.args.rec c.requires.index c.in_ok-start.ensures.start in
    rw c.start_of.ensures.area.image ((let d = c.decreases in omega arith), (within, (index, (c.if-start-eq0.false, c.requires.short))))

pub last_in_chain-returns-then-is_some-clause-leaf : goal.last_in_chain-returns-then-is_some-clause-leaf
last_in_chain-returns-then-is_some-clause-leaf g t c =
    found_at_start seen c.args.rec c.requires.index c.in_ok-start.ensures.start c.in_ok-found.found (rw c.start_of.ensures.area.image at c.in_ok-found.ensures.leaf) (sym c.is_some.ensures ∙ c.if-is_some.true)

pub last_in_chain-last_until-requires : goal.last_in_chain-last_until-requires
last_in_chain-last_until-requires g t c κs within =
    let among = start_among c.args.rec c.requires.index c.in_ok-start.ensures.start c.if-start-eq0.false in
    rw (c.last_in_node.ensures.area.image, c.start_of.ensures.area.image) ((let d = c.decreases in omega arith), (within, (c.requires.index, (among, c.requires.short))))

pub last_in_chain-returns-clause-leaf : goal.last_in_chain-returns-clause-leaf
last_in_chain-returns-clause-leaf g t c =
    let found = rw c.start_of.ensures.area.image at c.in_ok-found.ensures.leaf in
    rw (not_at_start seen c.args.rec c.requires.index c.in_ok-start.ensures.start c.in_ok-found.found found (sym c.is_some.ensures ∙ c.if-is_some.false))
    (rw (c.last_in_node.ensures.area.image, c.start_of.ensures.area.image) at c.last_until.ensures.leaf)
