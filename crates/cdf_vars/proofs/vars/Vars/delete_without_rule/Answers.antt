use Rattle.cdf_vars.proofs.Common.{Frame, List, ap, arith, length, sym, Variable, ℕ, ◌∙◌, ◌≡◌}
use Rattle.cdf_edits.specs.Commands.Room.{cut_room}
use Rattle.cdf_format.specs.Content.{variable_of}
use Rattle.cdf_vars.proofs.PutRead.{is_vdr}
use Rattle.cdf_vars.proofs.RecordsDeleted.{has_none, has_room, room_left}
use Rattle.cdf_vars.proofs.ReindexAnswers.{vdr_in}
use Rattle.cdf_vars.proofs.vars.Vars.delete_without_rule.Given.{Over}
use Rattle.cdf_vars.proofs.vars.Vars.delete_without_rule.Goals.{After-size, In_ok-room}
use Rattle.cdf_vars.proofs.vars.Vars.delete_without_rule.Goals as goal

pub read_closing_room-requires-clause-vdr : goal.read_closing_room-requires-clause-vdr
read_closing_room-requires-clause-vdr g c = vdr_in (is_vdr c.requires.good c.requires.target)

-- what is needed, and the room that there is
need_is : (g : Over) (c : In_ok-room g) → c.in_ok-room.room ≡ cut_room (variable_of (g.A.Area.image c.args.area.now) c.requires.target.own) c.requires.target.own.index c.args.first c.args.last
need_is g c = let is = c.requires.target in c.in_ok-room.ensures.room c.args.target.now.id.kind is.before is.own is.after is.among is.vdr_is (ap (λ (x : Variable). x.sparse) (sym is.variable_is) ∙ c.requires.free)

sizes : (g : Over) (c : After-size g) → (c.size.result ≡ length (g.A.Area.image c.args.area.now)) × (c.limit.result ≡ (g.A.Area.frame c.args.area.now).limit)
sizes g c = (c.size.ensures ∙ ap (λ (x : List ℕ). length x) c.read_closing_room.ensures.area.image, c.limit.ensures ∙ ap (λ (f : Frame _). f.limit) c.read_closing_room.ensures.area.frame)

pub returns-then-limit-size-clause-answers : goal.returns-then-limit-size-clause-answers
returns-then-limit-size-clause-answers g c name named =
    let q = c.requires in
    let is = sizes g (goal.at.returns-then-limit-size-clause-answers g c).After-size in
    rw (c.read_closing_room.ensures.area.image)
    (has_none q.good q.target name named c.args.first c.args.last q.count (g.A.Area.frame c.args.area.now).limit q.order q.has (need_is g (goal.at.returns-then-limit-size-clause-answers g c).In_ok-room) (omega (arith, is.0, is.1, c.if-limit-size.true, q.fits)))

pub returns-clause-answers : goal.returns-clause-answers
returns-clause-answers g c name named =
    let q = c.requires in
    let is = sizes g (goal.at.returns-clause-answers g c).After-size in
    let follows = rw c.read_closing_room.ensures.area.image at c.in_ok-close_up.ensures.follows in
    has_room q.good q.target name named c.args.first c.args.last q.count (g.A.Area.frame c.args.area.now).limit q.order q.has (need_is g (goal.at.returns-clause-answers g c).In_ok-room) (room_left is.0 is.1 c.if-limit-size.false q.fits) (follows name named)

pub close_up-requires-clause-good : goal.close_up-requires-clause-good
close_up-requires-clause-good g c = rw (c.read_closing_room.ensures.area.image) c.requires.good

pub close_up-requires-clause-unpacked : goal.close_up-requires-clause-unpacked
close_up-requires-clause-unpacked g c = rw (c.read_closing_room.ensures.area.image) c.requires.unpacked
