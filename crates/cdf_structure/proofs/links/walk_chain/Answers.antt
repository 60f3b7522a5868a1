use Rattle.cdf_structure.proofs.Common.{Meets, None, Some, arith, chain, field, length, read_more, suc, ◌+◌, ◌-◌, ◌≡◌}
use Rattle.cdf_structure.proofs.ChainSteps.{chain_ends, chain_stops, chain_spent, chain_more}
use Rattle.cdf_structure.proofs.links.walk_chain.Goals as goal

pub returns-then-link-eq0-clause-walk : goal.returns-then-link-eq0-clause-walk
returns-then-link-eq0-clause-walk g c =
    let b = g.A.Area.image c.args.area.now in
    let l = c.loop-turn in
    chain_ends b c.args.tiles.now c.args.record_type l.met.list.items l.last l.link (length c.args.tiles.now - l.turn) (chain b c.args.tiles.now c.args.record_type c.args.holder (field c.args.head 8)) l.invariant.goes c.if-link-eq0.true

pub returns-in-None-clause-walk : goal.returns-in-None-clause-walk
returns-in-None-clause-walk g c =
    let b = g.A.Area.image c.args.area.now in
    let l = c.loop-turn in
    let wrong : Meets b c.args.tiles.now c.args.record_type l.met c.meet.new.met l.link None = rw (c.in-None.is, l.invariant.area.image) at c.in_ok-next.ensures.meets in
    chain_stops b c.args.tiles.now c.args.record_type l.met.list.items l.last l.link (length c.args.tiles.now - l.turn) (chain b c.args.tiles.now c.args.record_type c.args.holder (field c.args.head 8)) l.invariant.goes (omega (arith, c.if-link-eq0.false)) wrong

pub loop-turn-preserved : goal.loop-turn-preserved
loop-turn-preserved g c =
    let b = g.A.Area.image c.args.area.now in
    let l = c.loop-turn in
    let on : Meets b c.args.tiles.now c.args.record_type l.met c.meet.new.met l.link (Some c.in-Some.next) = rw (c.in-Some.is, l.invariant.area.image) at c.in_ok-next.ensures.meets in
    let left : length c.args.tiles.now - l.turn ≡ suc (length c.args.tiles.now - (l.turn + 1)) = omega (arith, c.loop-turn-test.true) in
    record {
      area = read_more l.invariant.area c.in_ok-next.ensures.area;
      agrees = on.3;
      goes = rw (on.2, on.1)
          (chain_more b c.args.tiles.now c.args.record_type l.met.list.items l.last l.link (length c.args.tiles.now - l.turn) (chain b c.args.tiles.now c.args.record_type c.args.holder (field c.args.head 8)) l.invariant.goes (omega (arith, c.if-link-eq0.false)) (length c.args.tiles.now - (l.turn + 1)) left on.0);
    }

pub returns-then-link-eq0-2-clause-walk : goal.returns-then-link-eq0-2-clause-walk
returns-then-link-eq0-2-clause-walk g c =
    let b = g.A.Area.image c.args.area.now in
    let l = c.loop-turn in
    chain_ends b c.args.tiles.now c.args.record_type l.met.list.items l.last l.link (length c.args.tiles.now - l.turn) (chain b c.args.tiles.now c.args.record_type c.args.holder (field c.args.head 8)) l.invariant.goes c.if-link-eq0-2.true

pub returns-else-link-eq0-2-clause-walk : goal.returns-else-link-eq0-2-clause-walk
returns-else-link-eq0-2-clause-walk g c =
    let b = g.A.Area.image c.args.area.now in
    let l = c.loop-turn in
    chain_spent b c.args.tiles.now c.args.record_type l.met.list.items l.last l.link (length c.args.tiles.now - l.turn) (chain b c.args.tiles.now c.args.record_type c.args.holder (field c.args.head 8)) l.invariant.goes (omega (arith, c.if-link-eq0-2.false)) (omega (arith, c.loop-turn-test.false))
