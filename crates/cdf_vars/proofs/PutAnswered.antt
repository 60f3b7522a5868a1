-- What a put answers, by the room that it asks for.
use Rattle.cdf_vars.proofs.Common.{Answers, CanPut, Command, Done, Follows, Good, List, PutsAs, PutsSo, Refused, Some, Target, TooLarge, VariableShape, ap, arith, content, gone, got-middle, index_at, length, number, put_room, room, room_of_variable, shape, shapes_of, slice_get, sym, target_found, too_large, variable_at, variable_named, vdr_vxr_head, with_record, with_variable, ℕ, ◌+◌, ◌<◌, ◌∙◌, ◌≡◌, ◌≤◌}
use Rattle.cdf_model.specs.declared.answer.Reply.TheVariants as replies
use Rattle.cdf_model.specs.declared.command.Command.TheVariants as commands
use Rattle.cdf_vars.proofs.PutRead.{index_there}

-- where so many bytes are left under a limit
pub fits_left : (left size limit needed : ℕ) → left + size ≡ limit → needed ≤ left → size + needed ≤ limit
fits_left left size limit needed is le = omega (arith, is, le)

pub over_left : (left size limit needed : ℕ) → left + size ≡ limit → left < needed → limit < size + needed
over_left left size limit needed is lt = omega (arith, is, lt)

module _ {b : List ℕ} {t : Target} {r : ℕ} {bytes : List ℕ} (good : Good b) (can : CanPut b r t bytes) where
  abbrev vdr : ℕ
  vdr = t.form.place.vdr

  abbrev pub wanted : ℕ
  wanted = put_room (variable_at b vdr) (index_at b (number b vdr vdr_vxr_head)) r

  there : slice_get (shapes_of (shape b) t.id.kind) t.id.num ≡ Some can.is.own
  there = ap (slice_get (shapes_of (shape b) t.id.kind)) (sym can.is.number_is) ∙ ap (λ (vs : List VariableShape). slice_get vs (length can.is.before)) can.is.among.was ∙ got-middle can.is.before can.is.own can.is.after

  room_named : (name : List ℕ) (rec : ℕ) → variable_named (content b) name ≡ Some (target_found b t) → rec ≡ r → room_of_variable (content b) (shape b) name (λ found nodes. put_room found.variable nodes rec) ≡ wanted
  room_named name rec named rec_is = let nodes = index_there good can.is in rw (room_of_variable, named, there) (λ i. put_room (variable_at b vdr) (sym nodes i) (rec_is i))

  room_as : (c : Command) (name : List ℕ) → variable_named (content b) name ≡ Some (target_found b t) → PutsAs name r c → room b c ≡ wanted
  room_as (commands.PutRec var rec words) name named p = let e = p.0 in room_named var rec (rw e named) p.1
  room_as (commands.PutVal var rec index words) name named p = let e = p.0 in room_named var rec (rw e named) p.1
  room_as _ name named p = absurd p

  module _ (limit : ℕ) (c : Command) (name : List ℕ) (so : PutsSo b c name r t bytes) where
    pub put_answers : (last : List ℕ) → length b + wanted ≤ limit → Follows b c last → Answers limit b c (Done replies.Plain) last
    put_answers last fits follows =
        gone limit b c (with_variable (content b) (target_found b t) (with_record (variable_at b vdr) r bytes)) replies.Plain last so.goes (rw (room_as c name so.named so.puts) fits) follows

    pub put_refused : limit < length b + wanted → Answers limit b c (Refused TooLarge) b
    put_refused over = too_large limit b c (with_variable (content b) (target_found b t) (with_record (variable_at b vdr) r bytes)) replies.Plain so.goes (rw (room_as c name so.named so.puts) over)
