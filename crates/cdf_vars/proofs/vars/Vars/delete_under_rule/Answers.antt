use Rattle.cdf_vars.proofs.Common.{Frame, List, Variable, ap, arith, index_at, length, number, sym, variable_at, vdr_vxr_head, ℕ, ◌∙◌, ◌≡◌}
use Rattle.cdf_edits.specs.Commands.Room.{cut_room}
use Rattle.cdf_edits.specs.Index.Blocks.{extent_after, is_sparse}
use Rattle.cdf_format.specs.Content.{variable_of}
use Rattle.cdf_vars.proofs.PutRead.{index_there, is_vdr}
use Rattle.cdf_vars.proofs.RecordsDeleted.{has_none, has_room, room_left}
use Rattle.cdf_vars.proofs.ReindexAnswers.{vdr_in}
use Rattle.cdf_vars.proofs.vars.Vars.delete_under_rule.Given.{Over}
use Rattle.cdf_vars.proofs.vars.Vars.delete_under_rule.Goals.{After-size, In_ok-end, In_ok-room}
use Rattle.cdf_vars.proofs.vars.Vars.delete_under_rule.Goals as goal

pub read_extent_after-requires-clause-vdr : goal.read_extent_after-requires-clause-vdr
read_extent_after-requires-clause-vdr g c = vdr_in (is_vdr c.requires.good c.requires.target)

pub read_opening_room-requires-clause-vdr : goal.read_opening_room-requires-clause-vdr
read_opening_room-requires-clause-vdr g c = rw (c.read_extent_after.ensures.area.image) (vdr_in (is_vdr c.requires.good c.requires.target))

pub read_opening_room-requires-clause-good : goal.read_opening_room-requires-clause-good
read_opening_room-requires-clause-good g c = rw (c.read_extent_after.ensures.area.image) c.requires.good

-- how many records are left, what is needed, and the room that there is
end_own : (g : Over) (c : In_ok-end g) → c.in_ok-end.end ≡ extent_after (variable_of (g.A.Area.image c.args.area.now) c.requires.target.own) c.args.first c.args.last
end_own g c = let is = c.requires.target in c.in_ok-end.ensures.left c.args.target.now.id.kind is.before is.own is.after is.among is.vdr_is (ap (λ (x : Variable). is_sparse x.sparse) (sym is.variable_is) ∙ c.requires.rule)

end_is : (g : Over) (c : In_ok-end g) → c.in_ok-end.end ≡ extent_after (variable_at (g.A.Area.image c.args.area.now) c.args.target.now.form.place.vdr) c.args.first c.args.last
end_is g c = end_own g c ∙ ap (λ (x : Variable). extent_after x c.args.first c.args.last) (sym c.requires.target.variable_is)

need_is : (g : Over) (c : In_ok-room g) → c.in_ok-room.room ≡ cut_room (variable_of (g.A.Area.image c.args.area.now) c.requires.target.own) c.requires.target.own.index c.args.first c.args.last
need_is g c =
    let is = c.requires.target in
    let end = end_own g (goal.at.In_ok-room g c).In_ok-end in
    (rw c.read_extent_after.ensures.area.image at c.in_ok-room.ensures.room) c.args.target.now.id.kind is.before is.own is.after is.among is.vdr_is (ap (λ (x : Variable). is_sparse x.sparse) (sym is.variable_is) ∙ c.requires.rule) end

need_at : (g : Over) (c : In_ok-room g) → c.in_ok-room.room ≡ cut_room (variable_at (g.A.Area.image c.args.area.now) c.args.target.now.form.place.vdr) (index_at (g.A.Area.image c.args.area.now) (number (g.A.Area.image c.args.area.now) c.args.target.now.form.place.vdr vdr_vxr_head)) c.args.first c.args.last
need_at g c =
    let is = c.requires.target in
    let one = is.variable_is in
    let there = index_there c.requires.good is in
    need_is g c ∙ (λ i. cut_room (sym one i) (sym there i) c.args.first c.args.last)

sizes : (g : Over) (c : After-size g) → (c.size.result ≡ length (g.A.Area.image c.args.area.now)) × (c.limit.result ≡ (g.A.Area.frame c.args.area.now).limit)
sizes g c = (
  c.size.ensures ∙ ap (λ (x : List ℕ). length x) (c.read_opening_room.ensures.area.image ∙ c.read_extent_after.ensures.area.image),
  c.limit.ensures ∙ ap (λ (f : Frame _). f.limit) (c.read_opening_room.ensures.area.frame ∙ c.read_extent_after.ensures.area.frame),
)

pub returns-then-limit-size-clause-answers : goal.returns-then-limit-size-clause-answers
returns-then-limit-size-clause-answers g c name named =
    let q = c.requires in
    let is = sizes g (goal.at.returns-then-limit-size-clause-answers g c).After-size in
    rw (c.read_opening_room.ensures.area.image, c.read_extent_after.ensures.area.image)
    (has_none q.good q.target name named c.args.first c.args.last q.count (g.A.Area.frame c.args.area.now).limit q.order q.has (need_is g (goal.at.returns-then-limit-size-clause-answers g c).In_ok-room) (omega (arith, is.0, is.1, c.if-limit-size.true, q.fits)))

pub leave_gap-requires-clause-good : goal.leave_gap-requires-clause-good
leave_gap-requires-clause-good g c = rw (c.read_opening_room.ensures.area.image, c.read_extent_after.ensures.area.image) c.requires.good

pub leave_gap-requires-clause-unpacked : goal.leave_gap-requires-clause-unpacked
leave_gap-requires-clause-unpacked g c = rw (c.read_opening_room.ensures.area.image, c.read_extent_after.ensures.area.image) c.requires.unpacked

pub leave_gap-requires-clause-end : goal.leave_gap-requires-clause-end
leave_gap-requires-clause-end g c = rw (c.read_opening_room.ensures.area.image, c.read_extent_after.ensures.area.image) (end_is g (goal.at.leave_gap-requires-clause-end g c).In_ok-end)

pub leave_gap-requires-clause-room : goal.leave_gap-requires-clause-room
leave_gap-requires-clause-room g c =
    let q = c.requires in
    let is = sizes g (goal.at.leave_gap-requires-clause-room g c).After-size in
    rw (c.read_opening_room.ensures.area.image, c.read_extent_after.ensures.area.image, c.read_opening_room.ensures.area.frame, c.read_extent_after.ensures.area.frame, ← need_at g (goal.at.leave_gap-requires-clause-room g c).In_ok-room) (room_left is.0 is.1 c.if-limit-size.false q.fits)

pub returns-clause-answers : goal.returns-clause-answers
returns-clause-answers g c name named =
    let q = c.requires in
    let is = sizes g (goal.at.returns-clause-answers g c).After-size in
    let follows = rw (c.read_opening_room.ensures.area.image, c.read_extent_after.ensures.area.image) at c.in_ok-leave_gap.ensures.follows in
    has_room q.good q.target name named c.args.first c.args.last q.count (g.A.Area.frame c.args.area.now).limit q.order q.has (need_is g (goal.at.returns-clause-answers g c).In_ok-room) (room_left is.0 is.1 c.if-limit-size.false q.fits) (follows name named)
