use Rattle.cdf_vars.proofs.Common.{Frame, Good, Knows, List, ap, arith, edit_done, edit_more, keeps_by_read, length, read_once, refl, subst, sym, ℕ, ◌+◌, ◌-◌, ◌∙◌, ◌≡◌, ◌≤◌}
use Rattle.cdf_vars.proofs.PadSet.{at_inside, moved_done, need_inside, over, put_asked, put_done, within_known}
use Rattle.cdf_vars.proofs.vars.Vars.set_pad.Goals.{then-need-place+in_ok-write_pad, else-need-place+in-R+in_ok-move_vdr-in-R, else-need-place+in-Z+in_ok-move_vdr-in-Z}
use Rattle.cdf_vars.proofs.vars.Vars.set_pad.Goals as goal

pub overflow_add-need : goal.overflow_add-need
overflow_add-need g c =
    let l = at_inside c.args.name.now c.args.words.now c.requires.good c.requires.known (put_asked c.in_ok-id.ensures.request c.in-Put.is refl) in
    omega (arith, l, c.len.ensures, c.in-Put.bytes.small, c.requires.fits, c.requires.limit)

pub returns-then-limit-size-clause-answers : goal.returns-then-limit-size-clause-answers
returns-then-limit-size-clause-answers g c =
    let same = c.read_request.ensures.area.image in
    let size : c.size.result ≡ length (g.A.Area.image c.args.area.now) = c.size.ensures ∙ ap (λ (x : List ℕ). length x) same in
    let limit : c.limit.result ≡ (g.A.Area.frame c.args.area.now).limit = c.limit.ensures ∙ ap (λ (f : Frame _). f.limit) c.read_request.ensures.area.frame in
    rw same (over c.args.name.now c.args.words.now c.requires.good c.requires.known (put_asked c.in_ok-id.ensures.request c.in-Put.is refl) _ (omega (arith, size, limit, c.if-limit-size.true, c.len.ensures, c.in-Put.bytes.ok)) c.requires.fits)

pub write_pad-requires-clause-inside : goal.write_pad-requires-clause-inside
write_pad-requires-clause-inside g c =
    let l = need_inside c.args.name.now c.args.words.now c.requires.good c.requires.known (put_asked c.in_ok-id.ensures.request c.in-Put.is refl) (omega (arith, c.len.ensures, c.in-Put.bytes.ok, c.if-need-place.true)) in
    let same = ap (λ (x : List ℕ). length x) c.read_request.ensures.area.image in
    let bytes = ap (λ (x : List ℕ). length x) c.deref.ensures.value in
    omega (arith, l, same, bytes)

pub move_vdr-requires-clause-good : goal.move_vdr-requires-clause-good
move_vdr-requires-clause-good g c = subst Good (sym c.read_request.ensures.area.image) c.requires.good

pub move_vdr-requires-in-Z-clause-good : goal.move_vdr-requires-in-Z-clause-good
move_vdr-requires-in-Z-clause-good g c = subst Good (sym c.read_request.ensures.area.image) c.requires.good

pub move_vdr-requires-clause-within : goal.move_vdr-requires-clause-within
move_vdr-requires-clause-within g c =
    let views = sym c.self.view_is ∙ (λ i. record { r = (sym c.self-inside.view_is i).r; z = (sym c.self-inside.view_is i).z }) in
    within_known c.args.name.now c.args.words.now c.requires.good (subst (Knows (g.A.Area.image c.args.area.now)) views c.requires.known) (put_asked c.in_ok-id.ensures.request c.in-Put.is views) c.in-R.is

pub move_vdr-requires-in-Z-clause-within : goal.move_vdr-requires-in-Z-clause-within
move_vdr-requires-in-Z-clause-within g c =
    let views = sym c.self.view_is ∙ (λ i. record { r = (sym c.self-inside.view_is i).r; z = (sym c.self-inside.view_is i).z }) in
    within_known c.args.name.now c.args.words.now c.requires.good (subst (Knows (g.A.Area.image c.args.area.now)) views c.requires.known) (put_asked c.in_ok-id.ensures.request c.in-Put.is views) c.in-Z.is

pub returns : goal.returns
returns g c =
    let b = g.A.Area.image c.args.area.now in
    let same = c.read_request.ensures.area.image in
    let long : c.len.result ≡ length c.in-Put.bytes.items = omega (arith, c.len.ensures, c.in-Put.bytes.ok) in
    let size : c.size.result ≡ length b = c.size.ensures ∙ ap (λ (x : List ℕ). length x) same in
    let limit : c.limit.result ≡ (g.A.Area.frame c.args.area.now).limit = c.limit.ensures ∙ ap (λ (f : Frame _). f.limit) c.read_request.ensures.area.frame in
    let under : c.in-Put.place.at + length c.in-Put.bytes.items ≤ (g.A.Area.frame c.args.area.now).limit - length b = omega (arith, size, limit, long, c.if-limit-size.false) in
    let views = sym c.self.view_is ∙ (λ i. record { r = (sym c.self-inside.view_is i).r; z = (sym c.self-inside.view_is i).z }) in
    let may = put_asked c.in_ok-id.ensures.request c.in-Put.is refl in
    let may_move = put_asked c.in_ok-id.ensures.request c.in-Put.is views in
    let knows = subst (Knows b) views c.requires.known in
    let read = keeps_by_read (read_once c.in_ok-id.ensures.area) in
    elim c.if-need-place.branch [
      | then-need-place+in_ok-write_pad w ↦
          let done = put_done c.args.name.now c.args.words.now c.requires.good c.requires.known may (rw (same, w.deref.ensures.value) at w.in_ok-write_pad.ensures.written) (omega (arith, long, w.if-need-place.true)) in
          rw (w.area-is, w.self-is) (record { answers = done.0 _ under c.requires.fits c.requires.limit; known = done.1; stays = tt; refused = λ is. absurd cc; area = edit_done (edit_more read w.in_ok-write_pad.ensures.area) })
      | else-need-place+in-R+in_ok-move_vdr-in-R w ↦
          let done = moved_done c.args.name.now c.args.words.now c.requires.good knows may_move (rw (same, w.deref-in-R.ensures.value) at w.in_ok-move_vdr-in-R.ensures.moves) (omega (arith, long, w.if-need-place.false)) in
          rw (w.area-is, w.self-is) (record { answers = done.0 _ under c.requires.fits c.requires.limit; known = done.1 _ w.in-R.is refl refl; stays = tt; refused = λ is. absurd cc; area = edit_done (edit_more read w.in_ok-move_vdr-in-R.ensures.area) })
      | else-need-place+in-Z+in_ok-move_vdr-in-Z w ↦
          let done = moved_done c.args.name.now c.args.words.now c.requires.good knows may_move (rw (same, w.deref-in-Z.ensures.value) at w.in_ok-move_vdr-in-Z.ensures.moves) (omega (arith, long, w.if-need-place.false)) in
          rw (w.area-is, w.self-is) (record { answers = done.0 _ under c.requires.fits c.requires.limit; known = done.1 _ w.in-Z.is refl refl; stays = tt; refused = λ is. absurd cc; area = edit_done (edit_more read w.in_ok-move_vdr-in-Z.ensures.area) })
    ]
