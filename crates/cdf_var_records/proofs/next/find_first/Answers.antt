use Rattle.cdf_var_records.proofs.Common.{ap, arith, index_at, option_map, read_more, seen, sym, ◌∙◌}
use Rattle.cdf_puts.specs.Searching.{IsSearch}
use Rattle.cdf_var_records.proofs.NextRecord.{goes_on, more, no_more}
use Rattle.cdf_var_records.proofs.next.find_first.Given.{Over}
use Rattle.cdf_var_records.proofs.next.find_first.Goals.{In_ok-search}
use Rattle.cdf_var_records.proofs.next.find_first.Goals as goal

-- the search is one in the image before the call
searched : (g : Over) (c : In_ok-search g) → IsSearch (g.A.Area.image c.args.area.now) c.in_ok-search.search
searched g c = rw (c.loop-num.invariant.area.image) at c.in_ok-search.ensures.search

pub leaf-requires-clause-search : goal.leaf-requires-clause-search
leaf-requires-clause-search g c = rw (c.begin.ensures.area.image) c.in_ok-search.ensures.search

pub next_first-requires-clause-search : goal.next_first-requires-clause-search
next_first-requires-clause-search g c = rw (c.leaf.ensures.area.image, c.begin.ensures.area.image) c.in_ok-search.ensures.search

pub returns-in-Some-clause-found : goal.returns-in-Some-clause-found
returns-in-Some-clause-found g c =
    let has = rw (c.begin.ensures.area.image, c.loop-num.invariant.area.image, c.in_ok-search.ensures.head, c.in_ok-search.ensures.rec) at c.in_ok-found.ensures.value in
    record { least = c.loop-num.invariant.least; inside = c.loop-num-test.true; none = c.loop-num.invariant.none; has = sym has ∙ ap (option_map seen) c.in-Some.is }

pub returns-in_default-2-clause-found : goal.returns-in_default-2-clause-found
returns-in_default-2-clause-found g c =
    let i = c.loop-num.invariant in
    let has = rw (c.begin.ensures.area.image, i.area.image, c.in_ok-search.ensures.head, c.in_ok-search.ensures.rec) at c.in_ok-found.ensures.value in
    let told = rw (c.leaf.ensures.area.image, c.begin.ensures.area.image, i.area.image, c.in_ok-search.ensures.head, c.in_ok-search.ensures.rec) at c.in_ok-next.ensures.value in
    no_more c.requires.index c.args.from c.loop-num.num c.args.end i.none (sym has ∙ ap (option_map seen) c.in_default.is) (sym c.in_default-2.is ∙ told)

pub loop-num-smaller : goal.loop-num-smaller
loop-num-smaller g c =
    let i = c.loop-num.invariant in
    let told = rw (c.leaf.ensures.area.image, c.begin.ensures.area.image, i.area.image, c.in_ok-search.ensures.head, c.in_ok-search.ensures.rec) at c.in_ok-next.ensures.value in
    let past = goes_on c.loop-num.num c.in-Some-2.next (index_at (g.A.Area.image c.args.area.now) c.args.head) (sym c.in-Some-2.is ∙ told) in
    omega (arith, past, c.loop-num-test.true)

pub loop-num-preserved : goal.loop-num-preserved
loop-num-preserved g c =
    let i = c.loop-num.invariant in
    let b = g.A.Area.image c.args.area.now in
    let tree = index_at b c.args.head in
    let has = rw (c.begin.ensures.area.image, i.area.image, c.in_ok-search.ensures.head, c.in_ok-search.ensures.rec) at c.in_ok-found.ensures.value in
    let told = rw (c.leaf.ensures.area.image, c.begin.ensures.area.image, i.area.image, c.in_ok-search.ensures.head, c.in_ok-search.ensures.rec) at c.in_ok-next.ensures.value in
    let next = sym c.in-Some-2.is ∙ told in
    let past = goes_on c.loop-num.num c.in-Some-2.next tree next in
    record {
      least = omega (arith, past, i.least);
      none = more tree c.args.from c.loop-num.num c.in-Some-2.next i.none (sym has ∙ ap (option_map seen) c.in_default.is) next;
      known = rw (c.in_ok-search.ensures.head) at (c.node-node.ensures b (searched g (goal.at.loop-num-preserved g c).In_ok-search));
      area = read_more (read_more (read_more i.area c.in_ok-search.ensures.area) c.in_ok-found.ensures.area) c.in_ok-next.ensures.area;
    }
