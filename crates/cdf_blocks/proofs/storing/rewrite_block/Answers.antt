use Rattle.std.proofs.Common.{arith}
use Rattle.cdf_blocks.proofs.StoringCalls.{node_there, number_there, room_there, same_room, says_there, short_before}
use Rattle.cdf_blocks.proofs.storing.rewrite_block.Goals as goal

pub overwrite_block-requires-clause-room : goal.overwrite_block-requires-clause-room
overwrite_block-requires-clause-room g c = same_room c.requires.leaf c.requires.room

pub overwrite_block-requires-clause-short : goal.overwrite_block-requires-clause-short
overwrite_block-requires-clause-short g c = short_before c.requires.leaf c.requires.limit

pub set_range-requires-clause-inside : goal.set_range-requires-clause-inside
set_range-requires-clause-inside g c = node_there c.requires.leaf c.requires.room c.in_ok-overwrite_block.ensures.written

pub set_range-requires-clause-room : goal.set_range-requires-clause-room
set_range-requires-clause-room g c = room_there c.requires.leaf c.requires.room c.in_ok-overwrite_block.ensures.written

pub set_range-requires-clause-below : goal.set_range-requires-clause-below
set_range-requires-clause-below g c = number_there c.requires.leaf c.requires.room c.in_ok-overwrite_block.ensures.written

pub set_range-requires-clause-short : goal.set_range-requires-clause-short
set_range-requires-clause-short g c = omega (arith, c.in_ok-overwrite_block.ensures.written.as_long, short_before c.requires.leaf c.requires.limit)

pub set_range-requires-clause-says : goal.set_range-requires-clause-says
set_range-requires-clause-says g c = says_there c.requires.leaf c.requires.room c.in_ok-overwrite_block.ensures.written
