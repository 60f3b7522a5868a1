use Rattle.cdf_structure.proofs.Common.{IsRightOf, IsToldOf, List, Ok, Yields, index_of, length, met_rows, subst, ℕ}
use Rattle.cdf_structure.proofs.Searches.{tiles_climb}
use Rattle.cdf_structure.proofs.indexes.check_indexed.Goals as goal

pub own-requires-clause-climbs : goal.own-requires-clause-climbs
own-requires-clause-climbs g c =
    let b = g.A.Area.image c.args.area.now in
    tiles_climb b 8 (length b) c.args.tiles.now c.requires.tiled

pub returns-in-Ok-clause-told : goal.returns-in-Ok-clause-told
returns-in-Ok-clause-told g c = λ none.
    let b = g.A.Area.image c.args.area.now in
    let ts = c.args.tiles.now in
    let vdr = c.args.variable.vdr in
    let right : Yields (met_rows b ts vdr (index_of b ts vdr)) (IsRightOf b ts c.args.variable) (Ok c.in-Ok.right) = rw c.in-Ok.is at c.in_ok-right.ensures.found in
    subst (λ (xs : List ℕ). IsToldOf ts xs c.args.owners.now c.own.new.owners) right.1.records_are c.own.ensures.told
