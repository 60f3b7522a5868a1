use Rattle.cdf_vars.proofs.Common.{Some, ap, read_done, read_once, sym, variable_at, ℕ, ◌∙◌}
use Rattle.cdf_vars.proofs.NextEvents.{without_reader}
use Rattle.cdf_vars.proofs.VariableNumbered.{none_numbered, numbered_vdr, variable_numbered}
use Rattle.cdf_vars.proofs.vars.Vars.reader_of.Goals as goal

pub returns-in-Some-clause-reader : goal.returns-in-Some-clause-reader
returns-in-Some-clause-reader g c = let kept = c.take.ensures.reader (g.A.Area.image c.args.area.now) c.requires.view in rw c.in-Some.is at kept

pub returns-in_default-find_place-clause-reader : goal.returns-in_default-find_place-clause-reader
returns-in_default-find_place-clause-reader g c = none_numbered c.requires.good c.requires.known c.args.id.kind c.args.id.num (sym c.in_default-find_place.is ∙ c.find_place.ensures)

pub new-requires-clause-vdr : goal.new-requires-clause-vdr
new-requires-clause-vdr g c = numbered_vdr c.requires.good c.requires.known c.args.id.kind c.args.id.num (sym c.in-Some-find_place.is ∙ c.find_place.ensures)

pub returns-clause-reader : goal.returns-clause-reader
returns-clause-reader g c = record {
  reads = c.in_ok-reader.ensures.reader;
  of = variable_numbered c.requires.good c.requires.known c.args.id.kind c.args.id.num (sym c.in-Some-find_place.is ∙ c.find_place.ensures) ∙ ap (λ (k : ℕ). Some (variable_at (g.A.Area.image c.args.area.now) k)) (sym c.in_ok-reader.ensures.vdr);
}

pub returns-clause-area : goal.returns-clause-area
returns-clause-area g c = read_done (read_once c.in_ok-reader.ensures.area)

pub returns-in-Some-clause-view : goal.returns-in-Some-clause-view
returns-in-Some-clause-view g c = without_reader (g.A.Area.image c.args.area.now) c.args.view.now c.take.new.self c.requires.view c.take.ensures.left c.take.ensures.unpacked

pub returns-in_default-find_place-clause-view : goal.returns-in_default-find_place-clause-view
returns-in_default-find_place-clause-view g c = without_reader (g.A.Area.image c.args.area.now) c.args.view.now c.take.new.self c.requires.view c.take.ensures.left c.take.ensures.unpacked

pub returns-clause-view : goal.returns-clause-view
returns-clause-view g c = without_reader (g.A.Area.image c.args.area.now) c.args.view.now c.take.new.self c.requires.view c.take.ensures.left c.take.ensures.unpacked

pub returns-in_err-reader-clause-view : goal.returns-in_err-reader-clause-view
returns-in_err-reader-clause-view g c = without_reader (g.A.Area.image c.args.area.now) c.args.view.now c.take.new.self c.requires.view c.take.ensures.left c.take.ensures.unpacked
