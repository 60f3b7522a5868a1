use Rattle.cdf_vars.proofs.Common.{List, ap, arith, get_or, name_at, read_more, ℕ, ◌∙◌}
use Rattle.cdf_vars.proofs.NamesRead.{all_listed, name_lies, next_listed}
use Rattle.cdf_vars.proofs.reading.push_items_at.Goals as goal

pub overflow_cast-num : goal.overflow_cast-num
overflow_cast-num g c = let few = c.requires.few in omega arith

pub read_name-requires : goal.read_name-requires
read_name-requires g c = name_lies (g.A.Area.image c.args.area.now) c.args.places.now c.requires c.loop-number.number c.loop-number-test.true _ c.loop-number.invariant.area.image

pub loop-number-preserved : goal.loop-number-preserved
loop-number-preserved g c =
    let i = c.loop-number.invariant in
    let read = c.in_ok-name.ensures.value ∙ ap (λ (x : List ℕ). name_at x (get_or c.args.places.now c.loop-number.number 0)) i.area.image in
    record {
      listed = next_listed (g.A.Area.image c.args.area.now) c.args.kind c.args.places.now _ c.loop-number.items.items c.push.new.self.items c.loop-number.number c.in_ok-name.name c.loop-number-test.true i.listed read c.in_ok-push.ensures.items;
      area = read_more i.area c.in_ok-name.ensures.area;
    }

pub returns-clause-items : goal.returns-clause-items
returns-clause-items g c = all_listed (g.A.Area.image c.args.area.now) c.args.kind c.args.places.now _ c.loop-number.items.items c.loop-number.number c.loop-number.invariant.listed (omega arith)
