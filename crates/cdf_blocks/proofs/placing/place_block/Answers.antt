use Rattle.std.proofs.Common.{refl, ◌∙◌}
use Rattle.cdf_area.proofs.Calls.{edit_done, edit_failed, edit_more, edit_once, edit_without_memory}
use Rattle.cdf_format.proofs.GoodSound.{good_eof}
use Rattle.cdf_blocks.proofs.PlacingCalls.{body_fits, filled_short, linked_sound, moved, node_there, number_there, old_in, old_unowned, room_there, sound_before}
use Rattle.cdf_blocks.proofs.placing.place_block.Goals as goal

pub returns-in_err-body-clause-area : goal.returns-in_err-body-clause-area
returns-in_err-body-clause-area g c = edit_without_memory (record { frame = refl; faults = refl }) c.from_residual.ensures.1

pub place_record-requires-clause-sound : goal.place_record-requires-clause-sound
place_record-requires-clause-sound g c = sound_before c.requires.leaf

pub place_record-requires-clause-eof : goal.place_record-requires-clause-eof
place_record-requires-clause-eof g c = good_eof (g.A.Area.image c.args.area.now) c.requires.leaf.leaf.good

pub place_record-requires-clause-body : goal.place_record-requires-clause-body
place_record-requires-clause-body g c = (body_fits c.requires.leaf c.deref.result.now (c.deref.ensures.value ∙ c.in_ok-body.ensures)).0

pub place_record-requires-clause-room : goal.place_record-requires-clause-room
place_record-requires-clause-room g c = (body_fits c.requires.leaf c.deref.result.now (c.deref.ensures.value ∙ c.in_ok-body.ensures)).1

pub set_entry-requires-clause-inside : goal.set_entry-requires-clause-inside
set_entry-requires-clause-inside g c = node_there c.requires.leaf c.requires.limit (c.deref.ensures.value ∙ c.in_ok-body.ensures) c.in_ok-at.ensures.placed

pub set_entry-requires-clause-room : goal.set_entry-requires-clause-room
set_entry-requires-clause-room g c = room_there c.requires.leaf c.requires.limit (c.deref.ensures.value ∙ c.in_ok-body.ensures) c.in_ok-at.ensures.placed

pub set_entry-requires-clause-below : goal.set_entry-requires-clause-below
set_entry-requires-clause-below g c = number_there c.requires.leaf c.requires.limit (c.deref.ensures.value ∙ c.in_ok-body.ensures) c.in_ok-at.ensures.placed

pub set_entry-requires-clause-short : goal.set_entry-requires-clause-short
set_entry-requires-clause-short g c = filled_short c.requires.leaf c.requires.limit (c.deref.ensures.value ∙ c.in_ok-body.ensures) c.in_ok-at.ensures.placed

pub free_record-requires-clause-sound : goal.free_record-requires-clause-sound
free_record-requires-clause-sound g c = linked_sound c.requires.leaf c.requires.limit (c.deref.ensures.value ∙ c.in_ok-body.ensures) c.in_ok-at.ensures.placed c.in_ok-set_entry.ensures.set

pub free_record-requires-clause-stands : goal.free_record-requires-clause-stands
free_record-requires-clause-stands g c = old_in c.requires.leaf c.requires.limit (c.deref.ensures.value ∙ c.in_ok-body.ensures) c.in_ok-at.ensures.placed c.in_ok-set_entry.ensures.set

pub free_record-requires-clause-free : goal.free_record-requires-clause-free
free_record-requires-clause-free g c = old_unowned c.requires.leaf c.requires.limit (c.deref.ensures.value ∙ c.in_ok-body.ensures) c.in_ok-at.ensures.placed c.in_ok-set_entry.ensures.set

pub returns-clause-moved : goal.returns-clause-moved
returns-clause-moved g c = moved c.requires.leaf c.requires.limit (c.deref.ensures.value ∙ c.in_ok-body.ensures) c.in_ok-at.ensures.placed c.in_ok-set_entry.ensures.set (c.in_ok-free_record.ensures.gives, c.in_ok-free_record.ensures.sound, c.in_ok-free_record.ensures.content)

pub returns-in_err-at-clause-area : goal.returns-in_err-at-clause-area
returns-in_err-at-clause-area g c = edit_failed (record { frame = refl; faults = refl }) c.in_err-at.ensures.area c.from_residual-in_err-at.ensures.1

pub returns-in_err-set_entry-clause-area : goal.returns-in_err-set_entry-clause-area
returns-in_err-set_entry-clause-area g c = edit_failed (edit_once c.in_ok-at.ensures.area) c.in_err-set_entry.ensures.area c.from_residual-in_err-set_entry.ensures.1

pub returns-in_err-free_record-clause-area : goal.returns-in_err-free_record-clause-area
returns-in_err-free_record-clause-area g c = edit_failed (edit_more (edit_once c.in_ok-at.ensures.area) c.in_ok-set_entry.ensures.area) c.in_err-free_record.ensures.area c.from_residual-in_err-free_record.ensures.1

pub returns-clause-area : goal.returns-clause-area
returns-clause-area g c = edit_done (edit_more (edit_more (edit_once c.in_ok-at.ensures.area) c.in_ok-set_entry.ensures.area) c.in_ok-free_record.ensures.area)
