use Rattle.cdf_puts.proofs.Common.{Frame, ap, edit_done, edit_failed, edit_more, edit_without_memory, edits_by_read, inl, keeps_by_read, read_once, refl}
use Rattle.cdf_puts.proofs.LeafEdit.{plain_body}
use Rattle.cdf_puts.proofs.PutSpot.{added_on, room_after, some_few, vdr_in}
use Rattle.cdf_puts.proofs.putting.add_block.Goals as goal

pub last_of_new-requires-clause-some : goal.last_of_new-requires-clause-some
last_of_new-requires-clause-some g c = (some_few c.requires.some.putting c.requires.some.is c.requires.more).0

pub last_of_new-requires-clause-few : goal.last_of_new-requires-clause-few
last_of_new-requires-clause-few g c = let s = c.requires.some in (some_few s.putting s.is c.requires.more).1

pub returns-in_err-last-clause-area : goal.returns-in_err-last-clause-area
returns-in_err-last-clause-area g c = edit_failed (record { frame = refl; faults = refl }) (edits_by_read c.in_err-last.ensures.area) c.from_residual.ensures.1

pub returns-in_err-body-clause-area : goal.returns-in_err-body-clause-area
returns-in_err-body-clause-area g c = edit_without_memory (keeps_by_read (read_once c.in_ok-last.ensures.area)) c.from_residual-in_err-body.ensures.1

pub add_leaf-requires-clause-start : goal.add_leaf-requires-clause-start
add_leaf-requires-clause-start g c = rw (c.last_of_new.ensures.area.image) (rw (c.requires.search.head_is) at c.requires.search.is.start)

pub add_leaf-requires-clause-good : goal.add_leaf-requires-clause-good
add_leaf-requires-clause-good g c = rw (c.last_of_new.ensures.area.image) c.requires.some.is.so.goes.good

pub add_leaf-requires-clause-vdr : goal.add_leaf-requires-clause-vdr
add_leaf-requires-clause-vdr g c = rw (c.last_of_new.ensures.area.image) (vdr_in c.requires.some.putting c.requires.some.is)

pub add_leaf-requires-clause-block : goal.add_leaf-requires-clause-block
add_leaf-requires-clause-block g c = inl (plain_body _ _ (rw (← c.deref.ensures.value) at c.in_ok-body.ensures.body))

pub add_leaf-requires-clause-room : goal.add_leaf-requires-clause-room
add_leaf-requires-clause-room g c =
    let s = c.requires.some in
    let says = rw (← c.deref.ensures.value) at c.in_ok-body.ensures.body in
    room_after s.putting s.is c.requires.more c.requires.search.head_is c.requires.none c.in_ok-last.last c.in_ok-last.ensures.last c.deref.result.now says c.last_of_new.ensures.area.image (ap (λ (f : Frame g.A.Area.Under). f.limit) c.last_of_new.ensures.area.frame)

pub returns-in_err-add_leaf-clause-area : goal.returns-in_err-add_leaf-clause-area
returns-in_err-add_leaf-clause-area g c = edit_failed (keeps_by_read (read_once c.in_ok-last.ensures.area)) c.in_err-add_leaf.ensures.area c.from_residual-in_err-add_leaf.ensures.1

pub returns-clause-put : goal.returns-clause-put
returns-clause-put g c =
    let says = rw (← c.deref.ensures.value) at c.in_ok-body.ensures.body in
    let adds = rw (c.last_of_new.ensures.area.image) at c.in_ok-add_leaf.ensures.added in
    λ b kind before own after putting is. rw (c.min.ensures) (added_on putting is c.requires.more c.requires.search.head_is c.requires.none c.in_ok-last.last c.in_ok-last.ensures.last c.deref.result.now says adds c.requires.limit)

pub returns-clause-area : goal.returns-clause-area
returns-clause-area g c = edit_done (edit_more (keeps_by_read (read_once c.in_ok-last.ensures.area)) c.in_ok-add_leaf.ensures.area)
