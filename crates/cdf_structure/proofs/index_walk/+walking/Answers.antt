use Rattle.cdf_structure.proofs.Common.{Enters, Err, FitsSigned, Ok, WalksEntries, arith, false, ints, is_in, is_linkable, length, not, read_done, read_failed, read_more, read_once, refl, rules, subst, suc, sym, to_z-of_z, true, w64, with_sign, ℕ, ℤ, ◌&&◌, ◌+◌, ◌-◌, ◌∙◌, ◌≡◌}
use Rattle.std.specs.Int.{cast_signed, cast_unsigned}
use Rattle.cdf_structure.proofs.IndexMet.{ChainMet, entry_block, entry_lower, entry_lost, entries_start, entries_more, entries_lost, chain_start, no_levels, chain_ended, chain_stopped, chain_over, chain_lost, chain_more}
use Rattle.cdf_structure.proofs.index_walk.+walking.Goals as goal

-- ---- an entry

pub walk_entry-returns-then-not-branch-clause-walk : goal.walk_entry-returns-then-not-branch-clause-walk
walk_entry-returns-then-not-branch-clause-walk g t c =
    let b = g.A.Area.image c.args.area.now in
    let ts = c.args.tiles.now in
    let place = c.args.node.now.place in
    let fit : FitsSigned w64 c.with_sign-last.result = search rules in
    let back = to_z-of_z w64 c.with_sign-last.result fit in
    let plain : is_linkable b ts 6 c.in_ok-entry.entry.offset ≡ false = rw c.read_entry.ensures.area.image at (sym c.in_ok-is_linkable.ensures.value ∙ c.if-not-branch.true) in
    entry_block b ts c.args.levels place c.args.i c.args.between c.args.index.now c.add_block.new.index c.in_ok-entry.entry (cast_signed w64 (cast_unsigned w64 c.with_sign-last.result)) c.in_ok-entry.ensures.entry (back ∙ c.with_sign-last.ensures) plain c.add_block.ensures.nodes c.in_ok-add_block.ensures.blocks
    (rw (c.is_between-is_ordered.ensures, c.is_linkable.ensures.area.image, c.read_entry.ensures.area.image) at c.in_ok-add_block.ensures.found) c.requires.agrees

pub walk_entry-returns-then-not-branch-clause-area : goal.walk_entry-returns-then-not-branch-clause-area
walk_entry-returns-then-not-branch-clause-area g t c = read_done (read_more (read_more (read_once c.in_ok-entry.ensures.area) c.in_ok-is_linkable.ensures.area) c.in_ok-add_block.ensures.area)

pub walk_entry-returns-in-Ok-clause-walk : goal.walk_entry-returns-in-Ok-clause-walk
walk_entry-returns-in-Ok-clause-walk g t c =
    let b = g.A.Area.image c.args.area.now in
    let ts = c.args.tiles.now in
    let place = c.args.node.now.place in
    let fit : FitsSigned w64 c.with_sign-last.result = search rules in
    let back = to_z-of_z w64 c.with_sign-last.result fit in
    let leads : is_linkable b ts 6 c.in_ok-entry.entry.offset ≡ true = rw c.read_entry.ensures.area.image at (sym c.in_ok-is_linkable.ensures.value ∙ c.if-not-branch.false) in
    entry_lower b ts c.args.levels place c.args.i c.args.between c.args.index.now c.walk_nodes.new.index c.in_ok-entry.entry (cast_signed w64 (cast_unsigned w64 c.with_sign-last.result)) c.in_ok-entry.ensures.entry (back ∙ c.with_sign-last.ensures) leads c.ask.new.self c.ask.ensures.nodes c.ask.ensures.blocks
    (rw c.is_between-is_ordered.ensures at c.ask.ensures.found) _ (rw (c.in-Ok.is, c.is_linkable.ensures.area.image, c.read_entry.ensures.area.image) at c.in_ok-walk_nodes.ensures.walk)
    (let few : FitsSigned w64 c.with_sign.result = search rules in let first : c.with_sign.result ≡ with_sign c.in_ok-entry.entry.first = c.with_sign.ensures in omega (arith, ints, first)) refl

pub walk_entry-returns-in-Ok-clause-area : goal.walk_entry-returns-in-Ok-clause-area
walk_entry-returns-in-Ok-clause-area g t c = read_done (read_more (read_more (read_once c.in_ok-entry.ensures.area) c.in_ok-is_linkable.ensures.area) c.in_ok-walk_nodes.ensures.area)

pub walk_entry-returns-in-Err-clause-walk : goal.walk_entry-returns-in-Err-clause-walk
walk_entry-returns-in-Err-clause-walk g t c =
    let b = g.A.Area.image c.args.area.now in
    let ts = c.args.tiles.now in
    let place = c.args.node.now.place in
    let fit : FitsSigned w64 c.with_sign-last.result = search rules in
    let back = to_z-of_z w64 c.with_sign-last.result fit in
    let leads : is_linkable b ts 6 c.in_ok-entry.entry.offset ≡ true = rw c.read_entry.ensures.area.image at (sym c.in_ok-is_linkable.ensures.value ∙ c.if-not-branch.false) in
    entry_lost b ts c.args.levels place c.args.i c.args.between c.args.index.now c.walk_nodes.new.index c.in_ok-entry.entry (cast_signed w64 (cast_unsigned w64 c.with_sign-last.result)) c.in_ok-entry.ensures.entry (back ∙ c.with_sign-last.ensures) leads c.ask.new.self c.ask.ensures.nodes c.ask.ensures.blocks
    c.in-Err.place c.args.between (rw (c.in-Err.is, c.is_linkable.ensures.area.image, c.read_entry.ensures.area.image) at c.in_ok-walk_nodes.ensures.walk)

pub walk_entry-returns-in-Err-clause-area : goal.walk_entry-returns-in-Err-clause-area
walk_entry-returns-in-Err-clause-area g t c = read_done (read_more (read_more (read_once c.in_ok-entry.ensures.area) c.in_ok-is_linkable.ensures.area) c.in_ok-walk_nodes.ensures.area)

-- ---- the entries of a node

pub walk_entries-loop-i-init : goal.walk_entries-loop-i-init
walk_entries-loop-i-init g t c = record {
  area = record { image = refl; edited = refl; frame = refl; faults = refl };
  walk =
      let fit : FitsSigned w64 c.args.between.low = search rules in
      subst (λ (z : ℤ). WalksEntries (g.A.Area.image c.args.area.now) c.args.tiles.now c.args.levels c.args.node.now.place 0 0 c.args.between c.args.index.now c.args.index.now (Ok z)) (sym (to_z-of_z w64 c.args.between.low fit))
      (entries_start (g.A.Area.image c.args.area.now) c.args.tiles.now c.args.levels c.args.node.now.place c.args.between c.args.index.now c.requires.agrees);
}

pub walk_entries-walk_entry-requires : goal.walk_entries-walk_entry-requires
walk_entries-walk_entry-requires g t c =
    let image = c.loop-i.invariant.area.image in
    λ κs w. (
      let d = c.decreases in omega arith,
      (w, (rw image c.requires.tiled, (rw image c.requires.small, (c.requires.few, (rw image c.requires.node, (rw image c.requires.fits, (c.loop-i-test.true, c.loop-i.invariant.walk.1.agrees))))))),
    )

pub walk_entries-returns-in_err-last-clause-area : goal.walk_entries-returns-in_err-last-clause-area
walk_entries-returns-in_err-last-clause-area g t c = read_failed c.loop-i.invariant.area c.in_err-last.ensures.area c.from_residual.ensures.1

pub walk_entries-returns-in-Err-clause-walk : goal.walk_entries-returns-in-Err-clause-walk
walk_entries-returns-in-Err-clause-walk g t c =
    let l = c.loop-i in
    let b = g.A.Area.image c.args.area.now in
    entries_lost b c.args.tiles.now c.args.levels c.args.node.now.place c.args.between c.args.index.now l.i l.index c.walk_entry.new.index _ l.invariant.walk c.in-Err.place c.args.node.now.used c.args.between c.loop-i-test.true
    (rw (c.in-Err.is, l.invariant.area.image) at c.in_ok-last.ensures.walk)

pub walk_entries-returns-in-Err-clause-area : goal.walk_entries-returns-in-Err-clause-area
walk_entries-returns-in-Err-clause-area g t c = read_done (read_more c.loop-i.invariant.area c.in_ok-last.ensures.area)

pub walk_entries-loop-i-preserved : goal.walk_entries-loop-i-preserved
walk_entries-loop-i-preserved g t c =
    let l = c.loop-i in
    let b = g.A.Area.image c.args.area.now in
    record {
      area = read_more l.invariant.area c.in_ok-last.ensures.area;
      walk =
          let fit : FitsSigned w64 c.in-Ok.last = search rules in
          let high : FitsSigned w64 c.args.between.high = search rules in
          subst (λ (z : ℤ). WalksEntries b c.args.tiles.now c.args.levels c.args.node.now.place 0 (l.i + 1) c.args.between c.args.index.now c.walk_entry.new.index (Ok z)) (sym (to_z-of_z w64 c.in-Ok.last fit))
          (entries_more b c.args.tiles.now c.args.levels c.args.node.now.place c.args.between c.args.index.now l.i l.index c.walk_entry.new.index _ l.invariant.walk c.in-Ok.last _ (rw (c.in-Ok.is, l.invariant.area.image) at c.in_ok-last.ensures.walk) refl (to_z-of_z w64 c.args.between.high high));
    }

pub walk_entries-returns-clause-walk : goal.walk_entries-returns-clause-walk
walk_entries-returns-clause-walk g t c =
    let l = c.loop-i in
    let all : l.i ≡ c.args.node.now.used = omega (arith, c.loop-i-test.false, l.auto.i-end) in
    subst (λ (n : ℕ). WalksEntries (g.A.Area.image c.args.area.now) c.args.tiles.now c.args.levels c.args.node.now.place 0 n c.args.between c.args.index.now l.index (Ok (cast_signed w64 l.low-bits))) all l.invariant.walk

pub walk_entries-returns-clause-area : goal.walk_entries-returns-clause-area
walk_entries-returns-clause-area g t c = read_done c.loop-i.invariant.area

-- ---- a chain

pub walk_nodes-returns-then-levels-eq0-clause-walk : goal.walk_nodes-returns-then-levels-eq0-clause-walk
walk_nodes-returns-then-levels-eq0-clause-walk g t c =
    no_levels (g.A.Area.image c.args.area.now) c.args.tiles.now c.args.levels c.args.chain c.args.between c.args.index.now c.if-levels-eq0.true c.requires.agrees c.end_of.result c.end_of.ensures

pub walk_nodes-loop-turn-init : goal.walk_nodes-loop-turn-init
walk_nodes-loop-turn-init g t c = record {
  area = record { image = refl; edited = refl; frame = refl; faults = refl };
  met =
      let b = g.A.Area.image c.args.area.now in
      let fit : FitsSigned w64 c.args.between.low = search rules in
      let all : length c.args.tiles.now ≡ length c.args.tiles.now - 0 = omega arith in
      subst (λ (n : ℕ). ChainMet b c.args.tiles.now c.args.levels c.args.chain c.args.between c.args.index.now c.args.index.now c.args.chain (cast_signed w64 (cast_unsigned w64 c.args.between.low)) n) all
      (subst (λ (z : ℤ). ChainMet b c.args.tiles.now c.args.levels c.args.chain c.args.between c.args.index.now c.args.index.now c.args.chain z (length c.args.tiles.now)) (sym (to_z-of_z w64 c.args.between.low fit))
      (chain_start b c.args.tiles.now c.args.levels c.args.chain c.args.between c.args.index.now (λ z. absurd (omega (arith, z, c.if-levels-eq0.false))) c.requires.agrees));
}

pub walk_nodes-returns-then-rest-eq0-clause-walk : goal.walk_nodes-returns-then-rest-eq0-clause-walk
walk_nodes-returns-then-rest-eq0-clause-walk g t c =
    let l = c.loop-turn in
    chain_ended (g.A.Area.image c.args.area.now) c.args.tiles.now c.args.levels c.args.chain c.args.between c.args.index.now l.index l.rest _ (length c.args.tiles.now - l.turn) l.invariant.met c.if-rest-eq0.true

pub walk_nodes-returns-then-rest-eq0-clause-area : goal.walk_nodes-returns-then-rest-eq0-clause-area
walk_nodes-returns-then-rest-eq0-clause-area g t c = read_done c.loop-turn.invariant.area

pub walk_nodes-goes_on-requires-clause-tiled : goal.walk_nodes-goes_on-requires-clause-tiled
walk_nodes-goes_on-requires-clause-tiled g t c = rw c.loop-turn.invariant.area.image c.requires.tiled

pub walk_nodes-goes_on-requires-clause-agrees : goal.walk_nodes-goes_on-requires-clause-agrees
walk_nodes-goes_on-requires-clause-agrees g t c = c.loop-turn.invariant.met.agrees

pub walk_nodes-returns-in_err-goes_on-clause-area : goal.walk_nodes-returns-in_err-goes_on-clause-area
walk_nodes-returns-in_err-goes_on-clause-area g t c = read_failed c.loop-turn.invariant.area c.in_err-goes_on.ensures.area c.from_residual.ensures.1

pub walk_nodes-returns-then-not-branch-clause-walk : goal.walk_nodes-returns-then-not-branch-clause-walk
walk_nodes-returns-then-not-branch-clause-walk g t c =
    let l = c.loop-turn in
    let b = g.A.Area.image c.args.area.now in
    let stale : (is_linkable b c.args.tiles.now 6 l.rest.link && not (is_in l.rest.link l.index.nodes.list.items)) ≡ false = rw l.invariant.area.image at (sym c.in_ok-goes_on.ensures.value ∙ c.if-not-branch.true) in
    chain_stopped b c.args.tiles.now c.args.levels c.args.chain c.args.between c.args.index.now l.index l.rest _ (length c.args.tiles.now - l.turn) l.invariant.met (λ z. absurd (omega (arith, z, c.if-rest-eq0.false))) stale

pub walk_nodes-returns-then-not-branch-clause-area : goal.walk_nodes-returns-then-not-branch-clause-area
walk_nodes-returns-then-not-branch-clause-area g t c = read_done (read_more c.loop-turn.invariant.area c.in_ok-goes_on.ensures.area)

pub walk_nodes-enter-requires-clause-tiled : goal.walk_nodes-enter-requires-clause-tiled
walk_nodes-enter-requires-clause-tiled g t c = rw (c.goes_on.ensures.area.image, c.loop-turn.invariant.area.image) c.requires.tiled

pub walk_nodes-enter-requires-clause-agrees : goal.walk_nodes-enter-requires-clause-agrees
walk_nodes-enter-requires-clause-agrees g t c = c.loop-turn.invariant.met.agrees

pub walk_nodes-returns-in_err-node-clause-area : goal.walk_nodes-returns-in_err-node-clause-area
walk_nodes-returns-in_err-node-clause-area g t c = read_failed (read_more c.loop-turn.invariant.area c.in_ok-goes_on.ensures.area) c.in_err-node.ensures.area c.from_residual-in_err-node.ensures.1

pub walk_nodes-walk_entries-requires : goal.walk_nodes-walk_entries-requires
walk_nodes-walk_entries-requires g t c =
    let image = c.enter.ensures.area.image ∙ c.goes_on.ensures.area.image ∙ c.loop-turn.invariant.area.image in
    let entered = c.in_ok-node.ensures.node in
    let here = entered.node_is.place_is in
    let node_is = rw (sym here, sym c.enter.ensures.area.image) at entered.node_is in
    λ κs w. (
      let d = c.decreases in let some = c.if-levels-eq0.false in omega arith,
      (w, (rw image c.requires.tiled, (rw image c.requires.small, (let few = c.requires.few in omega arith, (node_is, (node_is.fits, entered.agrees)))))),
    )

pub walk_nodes-returns-in_err-last-clause-area : goal.walk_nodes-returns-in_err-last-clause-area
walk_nodes-returns-in_err-last-clause-area g t c = read_failed (read_more (read_more c.loop-turn.invariant.area c.in_ok-goes_on.ensures.area) c.in_ok-node.ensures.area) c.in_err-last.ensures.area c.from_residual-in_err-last.ensures.1

pub walk_nodes-returns-in-Err-clause-walk : goal.walk_nodes-returns-in-Err-clause-walk
walk_nodes-returns-in-Err-clause-walk g t c =
    let l = c.loop-turn in
    let b = g.A.Area.image c.args.area.now in
    let fresh : (is_linkable b c.args.tiles.now 6 l.rest.link && not (is_in l.rest.link l.index.nodes.list.items)) ≡ true = rw l.invariant.area.image at (sym c.in_ok-goes_on.ensures.value ∙ c.if-not-branch.false) in
    let left : length c.args.tiles.now - l.turn ≡ suc (length c.args.tiles.now - (l.turn + 1)) = omega (arith, c.loop-turn-test.true) in
    let entered : Enters b l.index c.enter.new.index l.rest.link c.in_ok-node.node = rw (c.goes_on.ensures.area.image, l.invariant.area.image) at c.in_ok-node.ensures.node in
    let lost_is : WalksEntries b c.args.tiles.now (c.args.levels - 1) l.rest.link 0 c.in_ok-node.node.used c.args.between c.enter.new.index c.walk_entries.new.index (Err c.in-Err.lost) = rw (c.in-Err.is, entered.node_is.place_is, c.enter.ensures.area.image, c.goes_on.ensures.area.image, l.invariant.area.image) at c.in_ok-last.ensures.walk in
    chain_lost b c.args.tiles.now c.args.levels c.args.chain c.args.between c.args.index.now l.index l.rest _ (length c.args.tiles.now - l.turn) l.invariant.met (length c.args.tiles.now - (l.turn + 1)) left (λ z. absurd (omega (arith, z, c.if-rest-eq0.false))) fresh c.enter.new.index c.walk_entries.new.index c.in_ok-node.node entered c.in-Err.lost c.args.between lost_is

pub walk_nodes-returns-in-Err-clause-area : goal.walk_nodes-returns-in-Err-clause-area
walk_nodes-returns-in-Err-clause-area g t c = read_done (read_more (read_more (read_more c.loop-turn.invariant.area c.in_ok-goes_on.ensures.area) c.in_ok-node.ensures.area) c.in_ok-last.ensures.area)

pub walk_nodes-loop-turn-preserved : goal.walk_nodes-loop-turn-preserved
walk_nodes-loop-turn-preserved g t c =
    let l = c.loop-turn in
    let b = g.A.Area.image c.args.area.now in
    let fresh : (is_linkable b c.args.tiles.now 6 l.rest.link && not (is_in l.rest.link l.index.nodes.list.items)) ≡ true = rw l.invariant.area.image at (sym c.in_ok-goes_on.ensures.value ∙ c.if-not-branch.false) in
    let left : length c.args.tiles.now - l.turn ≡ suc (length c.args.tiles.now - (l.turn + 1)) = omega (arith, c.loop-turn-test.true) in
    let entered : Enters b l.index c.enter.new.index l.rest.link c.in_ok-node.node = rw (c.goes_on.ensures.area.image, l.invariant.area.image) at c.in_ok-node.ensures.node in
    let fit : FitsSigned w64 c.in-Ok.last = search rules in
    let high : FitsSigned w64 c.args.between.high = search rules in
    let walked : WalksEntries b c.args.tiles.now (c.args.levels - 1) l.rest.link 0 c.in_ok-node.node.used (record { low = cast_signed w64 l.low-bits; high = cast_signed w64 (cast_unsigned w64 c.args.between.high) }) c.enter.new.index c.walk_entries.new.index (Ok c.in-Ok.last) = rw (c.in-Ok.is, entered.node_is.place_is, c.enter.ensures.area.image, c.goes_on.ensures.area.image, l.invariant.area.image) at c.in_ok-last.ensures.walk in
    record {
      area = read_more (read_more (read_more l.invariant.area c.in_ok-goes_on.ensures.area) c.in_ok-node.ensures.area) c.in_ok-last.ensures.area;
      met =
          subst (λ (z : ℤ). ChainMet b c.args.tiles.now c.args.levels c.args.chain c.args.between c.args.index.now c.walk_entries.new.index (record { holder = l.rest.link; link = c.in_ok-node.node.next }) z (length c.args.tiles.now - (l.turn + 1))) (sym (to_z-of_z w64 c.in-Ok.last fit))
          (chain_more b c.args.tiles.now c.args.levels c.args.chain c.args.between c.args.index.now l.index l.rest _ (length c.args.tiles.now - l.turn) l.invariant.met (length c.args.tiles.now - (l.turn + 1)) left (λ z. absurd (omega (arith, z, c.if-rest-eq0.false))) fresh c.enter.new.index c.walk_entries.new.index c.in_ok-node.node entered c.in-Ok.last _ walked refl (to_z-of_z w64 c.args.between.high high));
    }

pub walk_nodes-returns-clause-walk : goal.walk_nodes-returns-clause-walk
walk_nodes-returns-clause-walk g t c =
    let l = c.loop-turn in
    let none : length c.args.tiles.now - l.turn ≡ 0 = omega (arith, c.loop-turn-test.false) in
    chain_over (g.A.Area.image c.args.area.now) c.args.tiles.now c.args.levels c.args.chain c.args.between c.args.index.now l.index l.rest _ (length c.args.tiles.now - l.turn) l.invariant.met none c.end_of-2.result c.end_of-2.ensures

pub walk_nodes-returns-clause-area : goal.walk_nodes-returns-clause-area
walk_nodes-returns-clause-area g t c = read_done c.loop-turn.invariant.area
