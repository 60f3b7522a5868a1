use Rattle.cdf_vars.proofs.Common.{on_ok_weaker, ◌∙◌}
use Rattle.cdf_vars.proofs.NamesRead.{items_listed, named_at}
use Rattle.cdf_vars.proofs.vars.push_kind.Goals as goal

pub push_items_at-requires : goal.push_items_at-requires
push_items_at-requires g c =
    let b = g.A.Area.image c.args.area.now in
    named_at b c.requires c.args.kind _ c.in_ok-places.ensures.area.image c.deref.result.now (c.deref.ensures.value ∙ c.in_ok-places.ensures.places)

pub returns-clause-items : goal.returns-clause-items
returns-clause-items g c =
    let b = g.A.Area.image c.args.area.now in
    on_ok_weaker c.push_items_at.result
    (items_listed b c.requires c.args.kind _ c.in_ok-places.ensures.area.image c.args.items.now.items c.push_items_at.new.items.items c.deref.result.now (c.deref.ensures.value ∙ c.in_ok-places.ensures.places))
    c.push_items_at.ensures.items
