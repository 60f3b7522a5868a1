use Rattle.std.proofs.Common.{◌∙◌}
use Rattle.std.proofs.lemmas.Result.{on_ok_weaker}
use Rattle.cdf_packed_puts.proofs.AddingCalls.{adds_block, block_there, body_there, good_before, room_there, start_there, vdr_there}
use Rattle.cdf_packed_puts.proofs.adding.add_stored.Goals as goal

pub add_leaf-requires-clause-good : goal.add_leaf-requires-clause-good
add_leaf-requires-clause-good g c = good_before c.requires.vacancy

pub add_leaf-requires-clause-vdr : goal.add_leaf-requires-clause-vdr
add_leaf-requires-clause-vdr g c = vdr_there c.requires.vacancy

pub add_leaf-requires-clause-start : goal.add_leaf-requires-clause-start
add_leaf-requires-clause-start g c = start_there c.requires.vacancy

pub add_leaf-requires-clause-body : goal.add_leaf-requires-clause-body
add_leaf-requires-clause-body g c = body_there c.requires.vacancy (c.deref.ensures.value ∙ c.in_ok-body.ensures)

pub add_leaf-requires-clause-block : goal.add_leaf-requires-clause-block
add_leaf-requires-clause-block g c = block_there c.requires.vacancy (c.deref.ensures.value ∙ c.in_ok-body.ensures)

pub add_leaf-requires-clause-room : goal.add_leaf-requires-clause-room
add_leaf-requires-clause-room g c = room_there c.requires.vacancy (c.deref.ensures.value ∙ c.in_ok-body.ensures)

pub returns-clause-added : goal.returns-clause-added
returns-clause-added g c = on_ok_weaker c.add_leaf.result (λ adds kind before own after plain v stored. adds_block stored v c.requires.limit (c.deref.ensures.value ∙ c.in_ok-body.ensures) (adds kind before own after v.among v.vdr_is)) c.add_leaf.ensures.added
