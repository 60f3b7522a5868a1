use Rattle.cdf_check.proofs.Common.{AreChains, IsBroken, Ok, Yields, phase5, refl, tiling_sound}
use Rattle.cdf_check.proofs.ImageSteps.{all_long, linked_break}
use Rattle.cdf_check.proofs.image_rules.check_linked.Goals as goal

pub check_chains-requires-clause-tiled : goal.check_chains-requires-clause-tiled
check_chains-requires-clause-tiled g c = tiling_sound (g.A.Area.image c.args.area.now) c.args.tiles.now c.requires.tiling

pub check_chains-requires-clause-long : goal.check_chains-requires-clause-long
check_chains-requires-clause-long g c = all_long (g.A.Area.image c.args.area.now) c.args.tiles.now c.requires.tiling c.requires.records

pub returns-in-Err-clause-verdict : goal.returns-in-Err-clause-verdict
returns-in-Err-clause-verdict g c =
    let b = g.A.Area.image c.args.area.now in
    let broken : IsBroken (phase5 b c.args.tiles.now) c.in-Err.finding.rule c.in-Err.finding.place = rw c.in-Err.is at c.in_ok-chains.ensures.found in
    rw c.in_phase.ensures (1, refl, linked_break b c.args.tiles.now c.requires.tiling c.requires.records c.in-Err.finding.rule c.in-Err.finding.place broken)

pub check_members-requires-clause-chains : goal.check_members-requires-clause-chains
check_members-requires-clause-chains g c =
    let b = g.A.Area.image c.args.area.now in
    let chains : Yields (phase5 b c.args.tiles.now) (AreChains b c.args.tiles.now) (Ok c.in-Ok.chains) = rw c.in-Ok.is at c.in_ok-chains.ensures.found in
    rw c.check_chains.ensures.area.image chains.1

pub check_members-requires-clause-linked : goal.check_members-requires-clause-linked
check_members-requires-clause-linked g c =
    let b = g.A.Area.image c.args.area.now in
    let chains : Yields (phase5 b c.args.tiles.now) (AreChains b c.args.tiles.now) (Ok c.in-Ok.chains) = rw c.in-Ok.is at c.in_ok-chains.ensures.found in
    rw c.check_chains.ensures.area.image chains.0
