use Rattle.cdf_vars.proofs.Common.{map, name_at, ◌∙◌}
use Rattle.cdf_vars.proofs.NamesRead.{kind_known, named_at}
use Rattle.cdf_vars.proofs.vars.VarTable.load.Goals as goal

pub read_names-requires : goal.read_names-requires
read_names-requires g c =
    let b = g.A.Area.image c.args.area.now in
    named_at b c.requires c.args.kind _ c.in_ok-places.ensures.area.image c.deref.result.now (c.deref.ensures.value ∙ c.in_ok-places.ensures.places)

pub returns-clause-known : goal.returns-clause-known
returns-clause-known g c =
    let b = g.A.Area.image c.args.area.now in
    kind_known b c.requires c.args.kind c.in_ok-names.names c.in_ok-places.places.items c.in_ok-places.ensures.places
    (c.in_ok-names.ensures.names ∙ (λ i. map (name_at (c.in_ok-places.ensures.area.image i)) (c.deref.ensures.value i)))
