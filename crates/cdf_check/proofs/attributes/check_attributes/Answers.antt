use Rattle.cdf_check.proofs.Common.{arith}
use Rattle.cdf_check.proofs.AttributeSteps.{chain_attributes, chain_few}
use Rattle.cdf_check.proofs.attributes.check_attributes.Goals as goal

pub check_each-requires-clause-attributes : goal.check_each-requires-clause-attributes
check_each-requires-clause-attributes g c =
    let b = g.A.Area.image c.args.area.now in
    chain_attributes b c.args.tiles.now c.args.adrs.now c.requires.tiled c.requires.long c.requires.chain

pub check_each-requires-clause-few : goal.check_each-requires-clause-few
check_each-requires-clause-few g c =
    let b = g.A.Area.image c.args.area.now in
    omega (arith, chain_few b c.args.tiles.now c.args.adrs.now c.requires.tiled c.requires.chain, c.requires.small)
