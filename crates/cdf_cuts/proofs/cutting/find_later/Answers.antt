use Rattle.cdf_cuts.proofs.Common.{ap, arith, leaves_of, option_map, sym, ◌∙◌}
use Rattle.cdf_cuts.proofs.LaterFound.{later_ends, later_none, later_some}
use Rattle.cdf_index.specs.Finding.{index_at}
use Rattle.cdf_index.specs.Sight.{seen}
use Rattle.cdf_cuts.proofs.cutting.find_later.Goals as goal

pub returns-in_default-clause-later : goal.returns-in_default-clause-later
returns-in_default-clause-later g c =
    later_none (leaves_of (index_at (g.A.Area.image c.args.area.now) c.args.head)) c.requires.order (sym c.in_ok-leaf.ensures.value ∙ ap (option_map seen) c.in_default.is)

pub returns-then-last-leaf-clause-later : goal.returns-then-last-leaf-clause-later
returns-then-last-leaf-clause-later g c =
    later_some (leaves_of (index_at (g.A.Area.image c.args.area.now) c.args.head)) c.in-Some.leaf (sym c.in_ok-leaf.ensures.value ∙ ap (option_map seen) c.in-Some.is) (omega (arith, c.if-last-leaf.true))

pub returns-else-last-leaf-clause-later : goal.returns-else-last-leaf-clause-later
returns-else-last-leaf-clause-later g c =
    later_ends (leaves_of (index_at (g.A.Area.image c.args.area.now) c.args.head)) c.in-Some.leaf c.requires.order (sym c.in_ok-leaf.ensures.value ∙ ap (option_map seen) c.in-Some.is) (omega (arith, c.if-last-leaf.false))
