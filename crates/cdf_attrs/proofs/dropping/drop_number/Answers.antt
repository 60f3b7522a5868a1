use Rattle.cdf_attrs.proofs.Common.{KnowsEntries, on_ok_weaker, sym, without_at}
use Rattle.cdf_attrs.proofs.DroppedChains.{entry_there, if_given, taken_now, within}
use Rattle.cdf_attrs.proofs.dropping.drop_number.Goals as goal

pub remove_at-requires-clause-within : goal.remove_at-requires-clause-within
remove_at-requires-clause-within g c = within c.requires.good c.requires.attribute c.args.entries c.requires.chain c.requires.known c.args.num c.in-Some.i (sym c.in-Some.ensures)

pub remove_at-requires-clause-entry : goal.remove_at-requires-clause-entry
remove_at-requires-clause-entry g c = entry_there c.requires.good c.requires.attribute c.args.entries c.requires.chain c.requires.known c.args.num c.in-Some.i (sym c.in-Some.ensures)

pub returns-clause-good : goal.returns-clause-good
returns-clause-good g c = on_ok_weaker _ (λ taken. (taken_now c.requires.good c.requires.attribute c.args.entries c.requires.chain c.requires.known c.args.num c.in-Some.i (sym c.in-Some.ensures) c.requires.short taken).0) c.remove_at.ensures.removed

pub returns-clause-left : goal.returns-clause-left
returns-clause-left g c = if_given c.remove_at.result (KnowsEntries (g.A.Area.image c.remove_at.new.area)) (without_at c.args.entries c.in-Some.i) _ (λ taken. (taken_now c.requires.good c.requires.attribute c.args.entries c.requires.chain c.requires.known c.args.num c.in-Some.i (sym c.in-Some.ensures) c.requires.short taken).1) c.remove_at.ensures.left c.remove_at.ensures.removed
