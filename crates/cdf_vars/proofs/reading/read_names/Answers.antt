use Rattle.cdf_vars.proofs.Common.{List, ap, arith, get_or, name_at, read_more, read_without_memory, ℕ, ◌∙◌}
use Rattle.cdf_vars.proofs.NamesRead.{few_names, all_named, name_lies, next_is_new, next_named}
use Rattle.cdf_vars.proofs.reading.read_names.Goals as goal

pub read_name-requires : goal.read_name-requires
read_name-requires g c = name_lies (g.A.Area.image c.args.area.now) c.args.places.now c.requires c.loop-place.place-index c.loop-place-test.true _ c.loop-place.invariant.area.image

pub add-requires-clause-absent : goal.add-requires-clause-absent
add-requires-clause-absent g c =
    let i = c.loop-place.invariant in
    let read = c.in_ok-name.ensures.value ∙ ap (λ (x : List ℕ). name_at x (get_or c.args.places.now c.loop-place.place-index 0)) i.area.image in
    next_is_new (g.A.Area.image c.args.area.now) c.args.places.now c.requires c.loop-place.place-index c.loop-place-test.true c.loop-place.names c.in_ok-name.name i.named read

pub add-requires-clause-few : goal.add-requires-clause-few
add-requires-clause-few g c = few_names (g.A.Area.image c.args.area.now) c.args.places.now c.requires c.loop-place.place-index c.loop-place-test.true c.loop-place.names c.loop-place.invariant.named

pub returns-in_err-add-clause-area : goal.returns-in_err-add-clause-area
returns-in_err-add-clause-area g c = read_without_memory (read_more c.loop-place.invariant.area c.in_ok-name.ensures.area) c.from_residual-in_err-add.ensures.1

pub loop-place-preserved : goal.loop-place-preserved
loop-place-preserved g c =
    let i = c.loop-place.invariant in
    let read = c.in_ok-name.ensures.value ∙ ap (λ (x : List ℕ). name_at x (get_or c.args.places.now c.loop-place.place-index 0)) i.area.image in
    record {
      named = next_named (g.A.Area.image c.args.area.now) c.args.places.now c.requires c.loop-place.place-index c.loop-place-test.true c.loop-place.names c.add.new.self c.in_ok-name.name i.named read c.in_ok-add.ensures.added;
      area = read_more i.area c.in_ok-name.ensures.area;
    }

pub returns-clause-names : goal.returns-clause-names
returns-clause-names g c = all_named (g.A.Area.image c.args.area.now) c.args.places.now c.requires c.loop-place.names c.loop-place.place-index c.loop-place.invariant.named (omega arith)
