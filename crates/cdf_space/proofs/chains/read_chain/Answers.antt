use Rattle.cdf_space.proofs.Common.{Chain, List, ap, arith, cdr_room, count_field, count_of, counted_in, head_lies, holder_of, length, number, read_more, read_once, subst, sym, word, ℕ, ◌+◌, ◌∙◌, ◌≡◌, ◌≤◌}
use Rattle.cdf_space.proofs.ChainRead.{count_inside, link_fits, at_head, further, at_end}
use Rattle.cdf_space.proofs.chains.read_chain.Goals as goal

pub holder-requires : goal.holder-requires
holder-requires g c = record { cdr = let l = cdr_room (g.A.Area.image c.args.area.now) c.requires.sound in omega arith }

pub overflow_add-at : goal.overflow_add-at
overflow_add-at g c =
    let inside = count_inside (g.A.Area.image c.args.area.now) c.args.chain c.requires.sound c.requires.holder c.requires.chain in
    omega (arith, inside, c.in_ok-at.ensures.holder, c.count_place.ensures, c.size-size.ensures)

pub read_unsigned4-requires : goal.read_unsigned4-requires
read_unsigned4-requires g c =
    let inside = count_inside (g.A.Area.image c.args.area.now) c.args.chain c.requires.sound c.requires.holder c.requires.chain in
    let long = ap (λ (x : List ℕ). length x) c.in_ok-at.ensures.area.image in
    omega (arith, inside, c.in_ok-at.ensures.holder, c.count_place.ensures, long)

pub overflow_add-link : goal.overflow_add-link
overflow_add-link g c =
    let inside = head_lies (g.A.Area.image c.args.area.now) c.requires.sound c.args.chain c.requires.holder in
    omega (arith, inside, c.in_ok-at.ensures.holder, c.head_place.ensures, c.size-size.ensures)

pub loop-init : goal.loop-init
loop-init g c = record {
  way = at_head (g.A.Area.image c.args.area.now) c.args.chain c.requires.sound c.requires.holder c.requires.chain _ _ (λ i. c.in_ok-at.ensures.holder i + c.head_place.ensures i) c.new-places.ensures.items;
  area = read_more (read_once c.in_ok-at.ensures.area) c.in_ok-count.ensures.area;
}

pub read_unsigned8-requires : goal.read_unsigned8-requires
read_unsigned8-requires g c =
    let b = g.A.Area.image c.args.area.now in
    let fits = link_fits b c.args.chain c.requires.sound c.requires.holder c.requires.chain c.loop.link c.loop.counter c.loop.places.items c.loop.invariant.way in
    subst (λ (x : List ℕ). c.loop.link + 8 ≤ length x) (sym c.loop.invariant.area.image) fits

count_read : (b : List ℕ) (chain : Chain) (mid : List ℕ) (at place count : ℕ) → at ≡ holder_of b chain → place ≡ (count_of chain).place → mid ≡ b → count ≡ word mid (at + place) 4 → count ≡ counted_in b chain
count_read b chain mid at place count is placed same read = read ∙ (λ i. word (same i) (is i + placed i) 4) ∙ ap (number b (holder_of b chain)) (count_field chain)

pub overflow_add-link-in-loop : goal.overflow_add-link-in-loop
overflow_add-link-in-loop g c =
    let b = g.A.Area.image c.args.area.now in
    let all = count_read b c.args.chain _ _ _ _ c.in_ok-at.ensures.holder c.count_place.ensures c.in_ok-at.ensures.area.image c.in_ok-count.ensures.value in
    let read : c.in_ok-place.place ≡ word b c.loop.link 8 = c.in_ok-place.ensures.value ∙ ap (λ (x : List ℕ). word x c.loop.link 8) c.loop.invariant.area.image in
    let on = further b c.args.chain c.requires.sound c.requires.holder c.requires.chain c.loop.link c.loop.counter c.loop.places.items c.loop.invariant.way (omega (arith, c.loop-test.true, all, c.requires.counted)) c.in_ok-place.place read c.push.new.self.items c.in_ok-push.ensures.items in
    let fits = link_fits b c.args.chain c.requires.sound c.requires.holder c.requires.chain _ _ _ on in
    omega (arith, fits, c.size-size.ensures)

pub loop-preserved : goal.loop-preserved
loop-preserved g c =
    let b = g.A.Area.image c.args.area.now in
    let all = count_read b c.args.chain _ _ _ _ c.in_ok-at.ensures.holder c.count_place.ensures c.in_ok-at.ensures.area.image c.in_ok-count.ensures.value in
    let read : c.in_ok-place.place ≡ word b c.loop.link 8 = c.in_ok-place.ensures.value ∙ ap (λ (x : List ℕ). word x c.loop.link 8) c.loop.invariant.area.image in
    record {
      way = further b c.args.chain c.requires.sound c.requires.holder c.requires.chain c.loop.link c.loop.counter c.loop.places.items c.loop.invariant.way (omega (arith, c.loop-test.true, all, c.requires.counted)) c.in_ok-place.place read c.push.new.self.items c.in_ok-push.ensures.items;
      area = read_more c.loop.invariant.area c.in_ok-place.ensures.area;
    }

pub returns-clause-members : goal.returns-clause-members
returns-clause-members g c =
    let b = g.A.Area.image c.args.area.now in
    let all = count_read b c.args.chain _ _ _ _ c.in_ok-at.ensures.holder c.count_place.ensures c.in_ok-at.ensures.area.image c.in_ok-count.ensures.value in
    at_end b c.args.chain c.requires.sound c.requires.holder c.requires.chain c.loop.link c.loop.counter c.loop.places.items c.loop.invariant.way (omega (arith, c.loop-test.false, c.loop.auto.counter-end, all, c.requires.counted))
