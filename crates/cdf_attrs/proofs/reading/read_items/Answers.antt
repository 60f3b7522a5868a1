use Rattle.cdf_attrs.proofs.Common.{List, adr_scope, ap, arith, get_or, name_at, number, read_more, rules, scope_of, ℕ, ◌∙◌}
use Rattle.cdf_attrs.proofs.AttributesRead.{few_places, items_start, all_listed, name_read, scope_read, next_item}
use Rattle.cdf_attrs.proofs.reading.read_items.Goals as goal

pub loop-number-init : goal.loop-number-init
loop-number-init g c = record {
  listed = items_start (g.A.Area.image c.args.area.now) c.requires.good c.args.places.now c.requires.places c.new-items.result.items c.new-items.ensures.items;
  area = search rules;
}

pub overflow_cast-num : goal.overflow_cast-num
overflow_cast-num g c = let few = few_places (g.A.Area.image c.args.area.now) c.requires.good c.args.places.now c.requires.places in omega arith

pub read_name-requires : goal.read_name-requires
read_name-requires g c = name_read (g.A.Area.image c.args.area.now) c.requires.good c.args.places.now c.requires.places c.loop-number.number c.loop-number-test.true _ c.loop-number.invariant.area.image

pub read_scope-requires : goal.read_scope-requires
read_scope-requires g c = scope_read (g.A.Area.image c.args.area.now) c.requires.good c.args.places.now c.requires.places c.loop-number.number c.loop-number-test.true _ (c.in_ok-name.ensures.area.image ∙ c.loop-number.invariant.area.image)

pub loop-number-preserved : goal.loop-number-preserved
loop-number-preserved g c =
    let i = c.loop-number.invariant in
    let place = get_or c.args.places.now c.loop-number.number 0 in
    let read = c.in_ok-name.ensures.value ∙ ap (λ (x : List ℕ). name_at x place) i.area.image in
    let scoped = c.in_ok-scope.ensures.scope ∙ ap (λ (x : List ℕ). scope_of (number x place adr_scope)) (c.in_ok-name.ensures.area.image ∙ i.area.image) in
    record {
      listed = next_item (g.A.Area.image c.args.area.now) c.requires.good c.args.places.now c.requires.places c.loop-number.number c.loop-number-test.true c.loop-number.items.items c.push.new.self.items c.in_ok-name.name c.in_ok-scope.scope i.listed read scoped c.in_ok-push.ensures.items;
      area = read_more (read_more i.area c.in_ok-name.ensures.area) c.in_ok-scope.ensures.area;
    }

pub returns-clause-items : goal.returns-clause-items
returns-clause-items g c = all_listed (g.A.Area.image c.args.area.now) c.requires.good c.args.places.now c.requires.places c.loop-number.items.items c.loop-number.number c.loop-number.invariant.listed (omega arith)
