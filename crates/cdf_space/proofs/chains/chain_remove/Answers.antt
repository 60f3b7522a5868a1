use Rattle.cdf_space.proofs.Common.{List, None, ap, arith, before, cdr_room, field, last_or, length, link_place, members_of, next_of, on_ok_weaker, with_field, word, ℕ, ◌+◌, ◌∙◌, ◌≡◌, ◌≤◌}
use Rattle.cdf_space.proofs.Linking.{place_lies, front_inside, removed_by}
use Rattle.cdf_space.proofs.chains.chain_remove.Goals as goal

pub link_behind-requires-clause-cdr : goal.link_behind-requires-clause-cdr
link_behind-requires-clause-cdr g c = let r = cdr_room (g.A.Area.image c.args.area.now) c.requires.sound in omega arith

pub link_behind-requires-clause-inside : goal.link_behind-requires-clause-inside
link_behind-requires-clause-inside g c = rw c.requires.behind (front_inside (g.A.Area.image c.args.area.now) c.args.chain c.args.place c.requires.sound c.requires.holder c.requires.chain c.requires.member)

pub overflow_add-place : goal.overflow_add-place
overflow_add-place g c =
    let lies = place_lies (g.A.Area.image c.args.area.now) c.args.chain c.args.place c.requires.sound c.requires.holder c.requires.chain c.requires.member in
    let short = c.requires.short in
    omega arith

pub read_unsigned8-requires : goal.read_unsigned8-requires
read_unsigned8-requires g c =
    let lies = place_lies (g.A.Area.image c.args.area.now) c.args.chain c.args.place c.requires.sound c.requires.holder c.requires.chain c.requires.member in
    let same = ap length c.in_ok-link.ensures.area.image in
    omega arith

pub set_unsigned8-requires : goal.set_unsigned8-requires
set_unsigned8-requires g c =
    let b = g.A.Area.image c.args.area.now in
    let inside : link_place b c.args.chain (last_or None (before c.args.place (members_of b c.args.chain))) + 8 ≤ length b = front_inside b c.args.chain c.args.place c.requires.sound c.requires.holder c.requires.chain c.requires.member in
    let at : c.in_ok-link.link ≡ link_place b c.args.chain (last_or None (before c.args.place (members_of b c.args.chain))) = c.in_ok-link.ensures.place ∙ ap (link_place b c.args.chain) c.requires.behind in
    let same = ap length (c.in_ok-next.ensures.area.image ∙ c.in_ok-link.ensures.area.image) in
    omega arith

pub returns-clause-removed : goal.returns-clause-removed
returns-clause-removed g c =
    let b = g.A.Area.image c.args.area.now in
    let now = g.A.Area.image c.set_unsigned8.new.area in
    let same = c.in_ok-next.ensures.area.image ∙ c.in_ok-link.ensures.area.image in
    let next : c.in_ok-next.next ≡ next_of b c.args.place = c.in_ok-next.ensures.value ∙ ap (λ (x : List ℕ). word x (c.args.place + 12) 8) c.in_ok-link.ensures.area.image in
    let at : c.in_ok-link.link ≡ link_place b c.args.chain (last_or None (before c.args.place (members_of b c.args.chain))) = c.in_ok-link.ensures.place ∙ ap (link_place b c.args.chain) c.requires.behind in
    let short = c.requires.short in
    on_ok_weaker _ (λ w. removed_by b c.args.chain c.args.place c.requires.sound c.requires.holder c.requires.chain c.requires.member now c.in_ok-link.link c.in_ok-next.next at (omega arith) next (w ∙ ap (λ (x : List ℕ). with_field x c.in_ok-link.link (field 0 8) c.in_ok-next.next) same)) c.set_unsigned8.ensures.ok
