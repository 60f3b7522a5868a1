use Rattle.cdf_space.proofs.Common.{LiesIn, List, None, ap, arith, cdr_room, last_or, length, link_place, members_of, on_ok_weaker, subst, sym, uir_next_uir, with_field, ℕ, ◌+◌, ◌∙◌, ◌≡◌, ◌≤◌}
use Rattle.cdf_space.proofs.Linking.{link_inside, by_lies, appended_by}
use Rattle.cdf_space.proofs.chains.chain_append.Goals as goal

pub link_behind-requires-clause-cdr : goal.link_behind-requires-clause-cdr
link_behind-requires-clause-cdr g c = let r = cdr_room (g.A.Area.image c.args.area.now) c.requires.sound in omega arith

pub link_behind-requires-clause-inside : goal.link_behind-requires-clause-inside
link_behind-requires-clause-inside g c =
    let b = g.A.Area.image c.args.area.now in
    rw c.requires.last (link_inside b c.args.chain c.requires.sound c.requires.holder c.requires.chain (members_of b c.args.chain) (λ m i. i))

pub set_unsigned8-requires : goal.set_unsigned8-requires
set_unsigned8-requires g c =
    let b = g.A.Area.image c.args.area.now in
    let inside : link_place b c.args.chain (last_or None (members_of b c.args.chain)) + 8 ≤ length b = link_inside b c.args.chain c.requires.sound c.requires.holder c.requires.chain (members_of b c.args.chain) (λ m i. i) in
    let at : c.in_ok-link.link ≡ link_place b c.args.chain (last_or None (members_of b c.args.chain)) = c.in_ok-link.ensures.place ∙ ap (link_place b c.args.chain) c.requires.last in
    let same = ap length c.in_ok-link.ensures.area.image in
    let long = c.in_ok-set_uir_next_uir.ensures.area.size in
    omega arith

pub set_uir_next_uir-requires : goal.set_uir_next_uir-requires
set_uir_next_uir-requires g c =
    let b = g.A.Area.image c.args.area.now in
    subst (λ (x : List ℕ). LiesIn x c.args.place uir_next_uir) (sym c.in_ok-link.ensures.area.image) (by_lies b c.args.chain c.requires.sound c.requires.holder c.requires.chain c.args.place c.requires.joins)

pub returns-clause-appended : goal.returns-clause-appended
returns-clause-appended g c =
    let b = g.A.Area.image c.args.area.now in
    let now = g.A.Area.image c.set_unsigned8.new.area in
    let b1 = g.A.Area.image c.set_uir_next_uir.new.area in
    let first : b1 ≡ with_field b c.args.place uir_next_uir 0 = c.in_ok-set_uir_next_uir.ensures.ok ∙ ap (λ (x : List ℕ). with_field x c.args.place uir_next_uir 0) c.in_ok-link.ensures.area.image in
    on_ok_weaker _ (λ w. appended_by b c.args.chain c.requires.sound c.requires.holder c.requires.chain c.args.place c.requires.joins now b1 c.in_ok-link.link (c.in_ok-link.ensures.place ∙ ap (link_place b c.args.chain) c.requires.last) c.ranges.place.fits first w) c.set_unsigned8.ensures.ok
