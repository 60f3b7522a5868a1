use Rattle.cdf_attrs.proofs.Common.{List, ap, arith, cdr_room, entry_bytes, good_is_sound, length, members_of, read_done, read_more, read_once, subst, sym, ℕ, ◌+◌, ◌≤◌}
use Rattle.cdf_attrs.proofs.EntryChains.{entry_inside}
use Rattle.cdf_attrs.proofs.ShownAttributes.{found_member}
use Rattle.cdf_attrs.proofs.attrs.Attrs.entry_event.Goals as goal

pub read_event-requires-clause-cdr : goal.read_event-requires-clause-cdr
read_event-requires-clause-cdr g c =
    let b = g.A.Area.image c.args.area.now in
    let room = cdr_room b (good_is_sound b c.requires.good) in
    let long = ap (λ (x : List ℕ). length x) c.find_in_order.ensures.area.image in
    omega arith

pub read_event-requires-clause-entry : goal.read_event-requires-clause-entry
read_event-requires-clause-entry g c =
    let b = g.A.Area.image c.args.area.now in
    let place = c.in-Some.place in
    let member = found_member (members_of b c.args.chain) c.in_ok-num.field-0 (c.in-Some.num, place) c.in-Some.is c.in_ok-num.ensures.member in
    let fits = entry_inside b c.requires.good c.args.chain c.requires.attribute place member in
    subst (λ (x : List ℕ). place + (56 + entry_bytes x place) ≤ length x) (sym c.find_in_order.ensures.area.image) fits

pub returns-clause-area : goal.returns-clause-area
returns-clause-area g c = read_done (read_more (read_once c.in_ok-num.ensures.area) c.in_ok-event.ensures.area)
