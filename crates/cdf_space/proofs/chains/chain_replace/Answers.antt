use Rattle.cdf_space.proofs.Common.{LiesIn, List, None, ap, arith, before, cdr_room, last_or, length, link_place, members_of, next_of, on_ok_weaker, subst, sym, uir_next_uir, with_field, word, ℕ, ◌+◌, ◌∙◌, ◌≡◌, ◌≤◌}
use Rattle.cdf_space.proofs.Linking.{place_lies, front_inside, by_lies, replaced_by}
use Rattle.cdf_space.proofs.chains.chain_replace.Goals as goal

pub link_behind-requires-clause-cdr : goal.link_behind-requires-clause-cdr
link_behind-requires-clause-cdr g c = let r = cdr_room (g.A.Area.image c.args.area.now) c.requires.sound in omega arith

pub link_behind-requires-clause-inside : goal.link_behind-requires-clause-inside
link_behind-requires-clause-inside g c = rw c.requires.behind (front_inside (g.A.Area.image c.args.area.now) c.args.chain c.args.place c.requires.sound c.requires.holder c.requires.chain c.requires.member)

pub overflow_add-place : goal.overflow_add-place
overflow_add-place g c =
    let lies = place_lies (g.A.Area.image c.args.area.now) c.args.chain c.args.place c.requires.sound c.requires.holder c.requires.chain c.requires.member in
    let short = c.requires.short in
    omega arith

pub read_unsigned8-requires : goal.read_unsigned8-requires
read_unsigned8-requires g c =
    let lies = place_lies (g.A.Area.image c.args.area.now) c.args.chain c.args.place c.requires.sound c.requires.holder c.requires.chain c.requires.member in
    let same = ap length c.in_ok-link.ensures.area.image in
    omega arith

pub set_uir_next_uir-requires : goal.set_uir_next_uir-requires
set_uir_next_uir-requires g c =
    let b = g.A.Area.image c.args.area.now in
    subst (λ (x : List ℕ). LiesIn x c.args.by uir_next_uir) (sym (c.in_ok-next.ensures.area.image ∙ c.in_ok-link.ensures.area.image)) (by_lies b c.args.chain c.requires.sound c.requires.holder c.requires.chain c.args.by c.requires.joins)

pub set_unsigned8-requires : goal.set_unsigned8-requires
set_unsigned8-requires g c =
    let b = g.A.Area.image c.args.area.now in
    let inside : link_place b c.args.chain (last_or None (before c.args.place (members_of b c.args.chain))) + 8 ≤ length b = front_inside b c.args.chain c.args.place c.requires.sound c.requires.holder c.requires.chain c.requires.member in
    let at : c.in_ok-link.link ≡ link_place b c.args.chain (last_or None (before c.args.place (members_of b c.args.chain))) = c.in_ok-link.ensures.place ∙ ap (link_place b c.args.chain) c.requires.behind in
    let same = ap length (c.in_ok-next.ensures.area.image ∙ c.in_ok-link.ensures.area.image) in
    let long = c.in_ok-set_uir_next_uir.ensures.area.size in
    omega arith

pub returns-clause-replaced : goal.returns-clause-replaced
returns-clause-replaced g c =
    let b = g.A.Area.image c.args.area.now in
    let now = g.A.Area.image c.set_unsigned8.new.area in
    let b1 = g.A.Area.image c.set_uir_next_uir.new.area in
    let same = c.in_ok-next.ensures.area.image ∙ c.in_ok-link.ensures.area.image in
    let next : c.in_ok-next.next ≡ next_of b c.args.place = c.in_ok-next.ensures.value ∙ ap (λ (x : List ℕ). word x (c.args.place + 12) 8) c.in_ok-link.ensures.area.image in
    let at : c.in_ok-link.link ≡ link_place b c.args.chain (last_or None (before c.args.place (members_of b c.args.chain))) = c.in_ok-link.ensures.place ∙ ap (link_place b c.args.chain) c.requires.behind in
    let first : b1 ≡ with_field b c.args.by uir_next_uir c.in_ok-next.next = c.in_ok-set_uir_next_uir.ensures.ok ∙ ap (λ (x : List ℕ). with_field x c.args.by uir_next_uir c.in_ok-next.next) same in
    let short = c.requires.short in
    on_ok_weaker _ (λ w. replaced_by b c.args.chain c.args.place c.requires.sound c.requires.holder c.requires.chain c.requires.member now b1 c.args.by c.requires.joins c.in_ok-link.link c.in_ok-next.next at (omega arith) c.ranges.by.fits next first w) c.set_unsigned8.ensures.ok
