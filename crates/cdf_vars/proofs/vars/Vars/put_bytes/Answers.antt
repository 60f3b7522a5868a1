use Rattle.cdf_vars.proofs.Common.{AreaError, Err, Frame, HasRoom, List, Ok, Result, ap, arith, edit_done, edit_failed, edit_more, extent, first_written, keeps_by_read, length, max_rec_at, read_more, read_once, subst, sym, variable_at, ℕ, ◌+◌, ◌-◌, ◌<◌, ◌∙◌, ◌≡◌, ◌≤◌}
use Rattle.cdf_vars.proofs.PutAnswered.{fits_left, over_left, put_answers, put_refused}
use Rattle.cdf_var_records.specs.Room.{put_room_at}
use Rattle.std.proofs.Math.Path.{transport}
use Rattle.std.specs.Prelude.{OnErr}
use Rattle.cdf_puts.specs.Starts.{KnowsStarts}
use Rattle.cdf_vars.proofs.PutRead.{cuts_by, form_vdr, uncut_by, within}
use Rattle.cdf_var_records.proofs.PutRoomNeeded.{head_lies}
use Rattle.cdf_vars.proofs.vars.Vars.put_bytes.Given.{Over}
use Rattle.cdf_vars.proofs.vars.Vars.put_bytes.Goals.{After-size, In_ok-fits, In_ok-from}
use Rattle.cdf_vars.proofs.vars.Vars.put_bytes.Goals as goal

pub read_extent-requires : goal.read_extent-requires
read_extent-requires g c = let l = head_lies c.requires.good c.requires.can.is.is_form c.args.rec in rw (c.find_start.ensures.area.image) (omega arith)

pub has_put_room-requires-clause-good : goal.has_put_room-requires-clause-good
has_put_room-requires-clause-good g c = rw (c.read_first_written.ensures.area.image, c.read_extent.ensures.area.image, c.find_start.ensures.area.image) c.requires.good

pub has_put_room-requires-clause-within : goal.has_put_room-requires-clause-within
has_put_room-requires-clause-within g c = within (variable_at (g.A.Area.image c.args.area.now) c.args.target.now.form.place.vdr) c.args.rec c.requires.can.can

pub read_first_written-requires : goal.read_first_written-requires
read_first_written-requires g c =
    let l = head_lies c.requires.good c.requires.can.is.is_form c.args.rec in
    rw (c.read_extent.ensures.area.image, c.find_start.ensures.area.image) (record { lies = omega arith; count = rw (c.find_start.ensures.area.image) at c.in_ok-count.ensures.extent })

pub has_put_room-requires-clause-from : goal.has_put_room-requires-clause-from
has_put_room-requires-clause-from g c = rw (c.read_first_written.ensures.area.image) c.in_ok-from.ensures.first

-- the room that there is
left_is : (g : Over) (c : After-size g) → (c.limit.result - c.size.result) + length (g.A.Area.image c.args.area.now) ≡ (g.A.Area.frame c.args.area.now).limit
left_is g c =
    let read = read_more (read_more (read_once c.in_ok-known.ensures.area) c.in_ok-count.ensures.area) c.in_ok-from.ensures.area in
    let size = c.size.ensures ∙ ap (λ (x : List ℕ). length x) read.image in
    let limit = c.limit.ensures ∙ ap (λ (f : Frame _). f.limit) read.frame in
    omega (arith, size, limit, c.requires.fits)

pub has_put_room-requires-clause-starts : goal.has_put_room-requires-clause-starts
has_put_room-requires-clause-starts g c = rw (c.read_first_written.ensures.area.image, c.read_extent.ensures.area.image, c.find_start.ensures.area.image) c.find_start.ensures.known

pub returns-then-not-fits-clause-answers : goal.returns-then-not-fits-clause-answers
returns-then-not-fits-clause-answers g c d name so =
    let read = read_more (read_more (read_once c.in_ok-known.ensures.area) c.in_ok-count.ensures.area) c.in_ok-from.ensures.area in
    let vdr = c.args.target.now.form.place.vdr in
    let left = left_is g (goal.at.returns-then-not-fits-clause-answers g c).After-size in
    let large = subst (λ (x : List ℕ). c.limit.result - c.size.result < put_room_at x vdr c.args.rec) read.image (c.in_ok-fits.ensures.large c.if-not-fits.true) in
    rw (c.has_put_room.ensures.area.image, c.read_first_written.ensures.area.image, c.read_extent.ensures.area.image, c.find_start.ensures.area.image)
    (put_refused c.requires.good c.requires.can (g.A.Area.frame c.args.area.now).limit d name so (over_left _ _ _ _ left large))

pub write_record-requires-clause-good : goal.write_record-requires-clause-good
write_record-requires-clause-good g c = rw (c.has_put_room.ensures.area.image, c.read_first_written.ensures.area.image, c.read_extent.ensures.area.image, c.find_start.ensures.area.image) c.requires.good

pub write_record-requires-clause-room : goal.write_record-requires-clause-room
write_record-requires-clause-room g c =
    let read = read_more (read_more (read_once c.in_ok-known.ensures.area) c.in_ok-count.ensures.area) c.in_ok-from.ensures.area in
    let stays = read_more read c.in_ok-fits.ensures.area in
    let vdr = c.args.target.now.form.place.vdr in
    let left = left_is g (goal.at.write_record-requires-clause-room g c).After-size in
    let room = subst (λ (x : List ℕ). put_room_at x vdr c.args.rec ≤ c.limit.result - c.size.result) read.image (c.in_ok-fits.ensures.fits c.if-not-fits.false) in
    let limit = ap (λ (f : Frame _). f.limit) stays.frame in
    transport (λ i. HasRoom (sym stays.image i) c.args.target.now c.args.rec (sym limit i)) (fits_left _ _ _ _ left room)

pub returns-clause-answers : goal.returns-clause-answers
returns-clause-answers g c d name so =
    let read = read_more (read_more (read_once c.in_ok-known.ensures.area) c.in_ok-count.ensures.area) c.in_ok-from.ensures.area in
    let vdr = c.args.target.now.form.place.vdr in
    let left = left_is g (goal.at.returns-clause-answers g c).After-size in
    let room = subst (λ (x : List ℕ). put_room_at x vdr c.args.rec ≤ c.limit.result - c.size.result) read.image (c.in_ok-fits.ensures.fits c.if-not-fits.false) in
    let follows = rw (c.has_put_room.ensures.area.image, c.read_first_written.ensures.area.image, c.read_extent.ensures.area.image, c.find_start.ensures.area.image) at c.in_ok-write_record.ensures.follows in
    put_answers c.requires.good c.requires.can (g.A.Area.frame c.args.area.now).limit d name so (g.A.Area.image c.write_record.new.area)
    (fits_left _ _ _ _ left room) (follows d name so)

pub returns-in_err-write_record-clause-area : goal.returns-in_err-write_record-clause-area
returns-in_err-write_record-clause-area g c =
    let stays = read_more (read_more (read_more (read_once c.in_ok-known.ensures.area) c.in_ok-count.ensures.area) c.in_ok-from.ensures.area) c.in_ok-fits.ensures.area in
    edit_failed (keeps_by_read stays) c.in_err-write_record.ensures.area c.from_residual-in_err-write_record.ensures.1

pub find_start-requires-clause-short : goal.find_start-requires-clause-short
find_start-requires-clause-short g c = omega (arith, c.requires.fits, c.requires.limit)

pub find_start-requires-clause-vdr : goal.find_start-requires-clause-vdr
find_start-requires-clause-vdr g c = form_vdr c.requires.good c.requires.can.is.is_form

pub has_put_room-requires-clause-known : goal.has_put_room-requires-clause-known
has_put_room-requires-clause-known g c = rw (c.read_first_written.ensures.area.image, c.read_extent.ensures.area.image, c.find_start.ensures.area.image) c.in_ok-known.ensures.start

pub write_record-requires-clause-start : goal.write_record-requires-clause-start
write_record-requires-clause-start g c = rw (c.has_put_room.ensures.area.image, c.read_first_written.ensures.area.image, c.read_extent.ensures.area.image, c.find_start.ensures.area.image) c.in_ok-known.ensures.start

pub returns-clause-starts : goal.returns-clause-starts
returns-clause-starts g c =
    let knows = rw (c.read_first_written.ensures.area.image, c.read_extent.ensures.area.image, c.find_start.ensures.area.image) at c.has_put_room.ensures.starts in
    let expects = rw (c.read_first_written.ensures.area.image, c.read_extent.ensures.area.image, c.find_start.ensures.area.image) at (c.in_ok-fits.ensures.expects c.if-not-fits.false) in
    (rw (c.has_put_room.ensures.area.image, c.read_first_written.ensures.area.image, c.read_extent.ensures.area.image, c.find_start.ensures.area.image) at c.in_ok-write_record.ensures.starts) _ knows expects

-- ---- whether something is cut before

first_is : (g : Over) (c : In_ok-from g) → c.in_ok-from.from ≡ first_written (variable_at (g.A.Area.image c.args.area.now) c.args.target.now.form.place.vdr) c.args.rec
first_is g c = rw (c.read_extent.ensures.area.image, c.find_start.ensures.area.image) at c.in_ok-from.ensures.first

extent_is : (g : Over) (c : In_ok-from g) → c.in_ok-count.count ≡ extent (max_rec_at (g.A.Area.image c.args.area.now) c.args.target.now.form.place.vdr)
extent_is g c = rw (c.find_start.ensures.area.image) at c.in_ok-count.ensures.extent

pub write_record-requires-clause-uncut : goal.write_record-requires-clause-uncut
write_record-requires-clause-uncut g c =
    let x = (goal.at.write_record-requires-clause-uncut g c).In_ok-from in
    let count = extent_is g x in
    rw (c.has_put_room.ensures.area.image, c.read_first_written.ensures.area.image, c.read_extent.ensures.area.image, c.find_start.ensures.area.image)
    (uncut_by (variable_at (g.A.Area.image c.args.area.now) c.args.target.now.form.place.vdr) c.args.rec c.in_ok-from.from (first_is g x) (omega (arith, count, c.if-count-from.false)))

pub write_past-requires-clause-cuts : goal.write_past-requires-clause-cuts
write_past-requires-clause-cuts g c =
    let x = (goal.at.write_past-requires-clause-cuts g c).In_ok-from in
    let count = extent_is g x in
    rw (c.has_put_room.ensures.area.image, c.read_first_written.ensures.area.image, c.read_extent.ensures.area.image, c.find_start.ensures.area.image)
    (cuts_by (variable_at (g.A.Area.image c.args.area.now) c.args.target.now.form.place.vdr) c.args.rec c.in_ok-from.from (first_is g x) (omega (arith, count, c.if-count-from.true)))

pub write_past-requires-clause-good : goal.write_past-requires-clause-good
write_past-requires-clause-good g c = rw (c.has_put_room.ensures.area.image, c.read_first_written.ensures.area.image, c.read_extent.ensures.area.image, c.find_start.ensures.area.image) c.requires.good

pub write_past-requires-clause-room : goal.write_past-requires-clause-room
write_past-requires-clause-room g c =
    let read = read_more (read_more (read_once c.in_ok-known.ensures.area) c.in_ok-count.ensures.area) c.in_ok-from.ensures.area in
    let stays = read_more read c.in_ok-fits.ensures.area in
    let vdr = c.args.target.now.form.place.vdr in
    let left = left_is g (goal.at.write_past-requires-clause-room g c).After-size in
    let room = subst (λ (x : List ℕ). put_room_at x vdr c.args.rec ≤ c.limit.result - c.size.result) read.image (c.in_ok-fits.ensures.fits c.if-not-fits.false) in
    let limit = ap (λ (f : Frame _). f.limit) stays.frame in
    transport (λ i. HasRoom (sym stays.image i) c.args.target.now c.args.rec (sym limit i)) (fits_left _ _ _ _ left room)

pub returns-then-count-from-clause-answers : goal.returns-then-count-from-clause-answers
returns-then-count-from-clause-answers g c d name so =
    let read = read_more (read_more (read_once c.in_ok-known.ensures.area) c.in_ok-count.ensures.area) c.in_ok-from.ensures.area in
    let vdr = c.args.target.now.form.place.vdr in
    let left = left_is g (goal.at.returns-then-count-from-clause-answers g c).After-size in
    let room = subst (λ (x : List ℕ). put_room_at x vdr c.args.rec ≤ c.limit.result - c.size.result) read.image (c.in_ok-fits.ensures.fits c.if-not-fits.false) in
    let follows = rw (c.has_put_room.ensures.area.image, c.read_first_written.ensures.area.image, c.read_extent.ensures.area.image, c.find_start.ensures.area.image) at c.in_ok-write_past.ensures.follows in
    put_answers c.requires.good c.requires.can (g.A.Area.frame c.args.area.now).limit d name so (g.A.Area.image c.write_past.new.area)
    (fits_left _ _ _ _ left room) (follows d name so)

-- what was known before the put
knows : (g : Over) (c : In_ok-fits g) → KnowsStarts (g.A.Area.image c.args.area.now) c.has_put_room.new.starts
knows g c = rw (c.read_first_written.ensures.area.image, c.read_extent.ensures.area.image, c.find_start.ensures.area.image) at c.has_put_room.ensures.starts

pub write_past-requires-clause-start : goal.write_past-requires-clause-start
write_past-requires-clause-start g c = rw (c.has_put_room.ensures.area.image, c.read_first_written.ensures.area.image, c.read_extent.ensures.area.image, c.find_start.ensures.area.image) c.in_ok-known.ensures.start

pub write_past-requires-clause-starts : goal.write_past-requires-clause-starts
write_past-requires-clause-starts g c = rw (c.has_put_room.ensures.area.image, c.read_first_written.ensures.area.image, c.read_extent.ensures.area.image, c.find_start.ensures.area.image) (knows g (goal.at.write_past-requires-clause-starts g c).In_ok-fits)

pub write_past-requires-clause-expects : goal.write_past-requires-clause-expects
write_past-requires-clause-expects g c = rw (c.has_put_room.ensures.area.image) (c.in_ok-fits.ensures.expects c.if-not-fits.false)

-- where it failed, it is so whatever the error is
on_err : {T P : Type 0} (result : Result T AreaError) → P → OnErr result P
on_err (Ok x) p = tt
on_err (Err error) p = p

pub returns-in_err-write_past-clause-starts_stay : goal.returns-in_err-write_past-clause-starts_stay
returns-in_err-write_past-clause-starts_stay g c =
    on_err c.from_residual-in_err-write_past.result (rw (c.has_put_room.ensures.area.image, c.read_first_written.ensures.area.image, c.read_extent.ensures.area.image, c.find_start.ensures.area.image) at c.in_err-write_past.ensures.starts_stay)

pub returns-then-count-from-clause-area : goal.returns-then-count-from-clause-area
returns-then-count-from-clause-area g c =
    let stays = read_more (read_more (read_more (read_once c.in_ok-known.ensures.area) c.in_ok-count.ensures.area) c.in_ok-from.ensures.area) c.in_ok-fits.ensures.area in
    edit_done (edit_more (keeps_by_read stays) c.in_ok-write_past.ensures.area)

pub returns-in_err-write_past-clause-area : goal.returns-in_err-write_past-clause-area
returns-in_err-write_past-clause-area g c =
    let stays = read_more (read_more (read_more (read_once c.in_ok-known.ensures.area) c.in_ok-count.ensures.area) c.in_ok-from.ensures.area) c.in_ok-fits.ensures.area in
    edit_failed (keeps_by_read stays) c.in_err-write_past.ensures.area c.from_residual-in_err-write_past.ensures.1
