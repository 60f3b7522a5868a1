use Rattle.cdf_attrs.proofs.Common.{AttributeShape, ap, append-nil, arith, at_drop_all, length, length-map, map, numbers_from, numbers_more, own, read_more, shape, write_of, ◌-◌, ◌∙◌}
use Rattle.cdf_attrs.proofs.AttributesRead.{few_places}
use Rattle.cdf_attrs.proofs.deleting.read_numbers.Goals as goal

pub overflow_cast-i : goal.overflow_cast-i
overflow_cast-i g c = omega (arith, few_places _ c.requires.good c.args.places.now c.requires.places, c.loop-i-test.true)

pub read_entries-requires-clause-good : goal.read_entries-requires-clause-good
read_entries-requires-clause-good g c = rw c.loop-i.invariant.area.image c.requires.good

pub read_entries-requires-clause-adr : goal.read_entries-requires-clause-adr
read_entries-requires-clause-adr g c = rw c.loop-i.invariant.area.image (own _ c.requires.good c.args.places.now c.requires.places c.loop-i.i c.loop-i-test.true).place_in

pub loop-i-preserved : goal.loop-i-preserved
loop-i-preserved g c =
    let l = c.loop-i in
    record {
      read = numbers_more _ c.requires.good c.args.places.now c.requires.places l.i c.loop-i-test.true (omega arith) c.deref.result.now (c.deref.ensures.value ∙ rw l.invariant.area.image at c.in_ok-entries.ensures.entries) (map write_of l.numbers.items) _ _ c.in_ok-push_numbers.ensures l.invariant.read;
      area = read_more l.invariant.area c.in_ok-entries.ensures.area;
    }

pub returns-clause-numbers : goal.returns-clause-numbers
returns-clause-numbers g c =
    let as_ = (shape (g.A.Area.image c.args.area.now)).attributes in
    let l = c.loop-i in
    let e = ap length c.requires.places ∙ length-map as_ (λ (a : AttributeShape). a.adr) in
    rw (at_drop_all (numbers_from (l.i - 1)) as_ l.i (let t = c.loop-i-test.false in omega arith), append-nil) at l.invariant.read
