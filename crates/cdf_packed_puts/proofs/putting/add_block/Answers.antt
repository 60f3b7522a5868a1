use Rattle.std.proofs.Common.{ap, arith, refl, ◌∙◌}
use Rattle.cdf_area.proofs.Calls.{edit_done, edit_failed, edit_more, edit_without_memory, edits_by_read, keeps_by_read, read_once}
use Rattle.cdf_area.specs.Frame.{Frame}
use Rattle.cdf_packed_puts.proofs.PackedSpot.{added_on, has_vacancy, some_few, within}
use Rattle.cdf_packed_puts.proofs.putting.add_block.Goals as goal

pub last_of_new-requires-clause-short : goal.last_of_new-requires-clause-short
last_of_new-requires-clause-short g c = omega (arith, within c.requires.some.packing c.requires.some.so, c.requires.limit)

pub last_of_new-requires-clause-some : goal.last_of_new-requires-clause-some
last_of_new-requires-clause-some g c = (some_few c.requires.some.packing c.requires.some.so c.requires.more).0

pub last_of_new-requires-clause-few : goal.last_of_new-requires-clause-few
last_of_new-requires-clause-few g c = (some_few c.requires.some.packing c.requires.some.so c.requires.more).1

pub returns-in_err-last-clause-area : goal.returns-in_err-last-clause-area
returns-in_err-last-clause-area g c = edit_failed (record { frame = refl; faults = refl }) (edits_by_read c.in_err-last.ensures.area) c.from_residual.ensures.1

pub returns-in_err-plain-clause-area : goal.returns-in_err-plain-clause-area
returns-in_err-plain-clause-area g c = edit_without_memory (keeps_by_read (read_once c.in_ok-last.ensures.area)) c.from_residual-in_err-plain.ensures.1

pub add_packed-requires-clause-vacancy : goal.add_packed-requires-clause-vacancy
add_packed-requires-clause-vacancy g c =
    let s = c.requires.some in
    let read = c.in_ok-last.ensures.area in
    let plain_is = c.deref.ensures.value ∙ c.in_ok-plain.ensures.records in
    has_vacancy s.packing s.so c.requires.more c.requires.search.head_is c.requires.none c.in_ok-last.last c.in_ok-last.ensures.last c.deref.result.now plain_is c.args.search.now.start c.requires.search.is.start read.image (ap (λ (f : Frame g.A.Area.Under). f.limit) read.frame)

pub add_packed-requires-clause-limit : goal.add_packed-requires-clause-limit
add_packed-requires-clause-limit g c = rw c.in_ok-last.ensures.area.frame c.requires.limit

pub returns-in_err-add_packed-clause-area : goal.returns-in_err-add_packed-clause-area
returns-in_err-add_packed-clause-area g c = edit_failed (keeps_by_read (read_once c.in_ok-last.ensures.area)) c.in_err-add_packed.ensures.area c.from_residual-in_err-add_packed.ensures.1

pub returns-clause-put : goal.returns-clause-put
returns-clause-put g c = λ b kind before own after p so.
    (let read = c.in_ok-last.ensures.area in
    let plain_is = c.deref.ensures.value ∙ c.in_ok-plain.ensures.records in
    added_on p so c.requires.more c.requires.search.head_is c.requires.none c.in_ok-last.last c.in_ok-last.ensures.last c.deref.result.now plain_is c.args.search.now.start c.requires.search.is.start read.image (ap (λ (f : Frame g.A.Area.Under). f.limit) read.frame) c.in_ok-add_packed.ensures.added)

pub returns-clause-area : goal.returns-clause-area
returns-clause-area g c = edit_done (edit_more (keeps_by_read (read_once c.in_ok-last.ensures.area)) c.in_ok-add_packed.ensures.area)
