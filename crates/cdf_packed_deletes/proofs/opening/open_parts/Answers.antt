use Rattle.std.proofs.Common.{ap, ◌∙◌}
use Rattle.cdf_area.proofs.Calls.{edit_done, edit_failed, edit_more, edit_without_memory, keeps_by_read, read_once}
use Rattle.cdf_area.specs.Frame.{Frame}
use Rattle.cdf_index.specs.Sight.{seen}
use Rattle.cdf_packed_deletes.proofs.OpenParts.{fits, has_part, left_so, lies_so, off_so, ordered, read_is, read_long, small_last, stands_so}
use Rattle.cdf_packed_deletes.proofs.opening.open_parts.Goals as goal

pub block_size-size-requires-clause-ordered : goal.block_size-size-requires-clause-ordered
block_size-size-requires-clause-ordered g c = ordered c.requires.kept.is

pub block_size-size-requires-clause-fits : goal.block_size-size-requires-clause-fits
block_size-size-requires-clause-fits g c = fits c.requires.kept.is c.requires.limit

pub block_size-size-requires-clause-small : goal.block_size-size-requires-clause-small
block_size-size-requires-clause-small g c = small_last c.requires.kept.is

pub read_plain-requires-clause-stands : goal.read_plain-requires-clause-stands
read_plain-requires-clause-stands g c = stands_so c.requires.kept.is c.block_size-size.result c.block_size-size.ensures c.requires.limit

pub later_part-requires-clause-long : goal.later_part-requires-clause-long
later_part-requires-clause-long g c =
    let x = c.requires.kept.is in
    read_long x c.deref.result.now (c.deref.ensures.value ∙ read_is x c.block_size-size.result c.in_ok-plain.plain.items c.block_size-size.ensures c.in_ok-plain.ensures.plain)

pub returns-in_err-later-clause-area : goal.returns-in_err-later-clause-area
returns-in_err-later-clause-area g c = edit_without_memory (keeps_by_read (read_once c.in_ok-plain.ensures.area)) c.from_residual-in_err-later.ensures.1

pub part_open-part-requires-clause-small : goal.part_open-part-requires-clause-small
part_open-part-requires-clause-small g c = small_last c.requires.kept.is

pub bytes_of_part-kept-requires-clause-lies : goal.bytes_of_part-kept-requires-clause-lies
bytes_of_part-kept-requires-clause-lies g c = lies_so c.requires.kept.is c.part_open-part.result c.part_open-part.ensures.first c.part_open-part.ensures.last

pub bytes_of_part-kept-requires-clause-long : goal.bytes_of_part-kept-requires-clause-long
bytes_of_part-kept-requires-clause-long g c =
    let x = c.requires.kept.is in
    read_long x c.deref-2.result.now (c.deref-2.ensures.value ∙ read_is x c.block_size-size.result c.in_ok-plain.plain.items c.block_size-size.ensures c.in_ok-plain.ensures.plain)

pub shorten_block-requires-clause-leaf : goal.shorten_block-requires-clause-leaf
shorten_block-requires-clause-leaf g c =
    let x = c.requires.kept.is in
    let read = c.deref-2.ensures.value ∙ read_is x c.block_size-size.result c.in_ok-plain.plain.items c.block_size-size.ensures c.in_ok-plain.ensures.plain in
    let same = c.in_ok-plain.ensures.area in
    has_part x c.deref-2.result.now read c.part_open-part.result c.part_open-part.ensures.first c.part_open-part.ensures.last c.bytes_of_part-kept.result.now c.bytes_of_part-kept.ensures same.image (ap (λ (f : Frame g.A.Area.Under). f.limit) same.frame)

pub returns-in_err-shorten_block-clause-area : goal.returns-in_err-shorten_block-clause-area
returns-in_err-shorten_block-clause-area g c = edit_failed (keeps_by_read (read_once c.in_ok-plain.ensures.area)) c.in_err-shorten_block.ensures.area c.from_residual-in_err-shorten_block.ensures.1

pub returns-clause-parts : goal.returns-clause-parts
returns-clause-parts g c = λ kind before own after x.
    (let was = read_is x c.block_size-size.result c.in_ok-plain.plain.items c.block_size-size.ensures c.in_ok-plain.ensures.plain in
    let same = c.in_ok-plain.ensures.area in
    record {
      part = left_so x c.deref-2.result.now (c.deref-2.ensures.value ∙ was) c.part_open-part.result c.part_open-part.ensures.first c.part_open-part.ensures.last c.bytes_of_part-kept.result.now c.bytes_of_part-kept.ensures same.image (ap (λ (f : Frame g.A.Area.Under). f.limit) same.frame) (seen c.in_ok-shorten_block.field-0) c.in_ok-shorten_block.ensures.first c.in_ok-shorten_block.ensures.last c.in_ok-shorten_block.ensures.shortened;
      split = off_so x c.deref.result.now (c.deref.ensures.value ∙ was) c.in_ok-later.later c.in_ok-later.ensures;
    })

pub returns-clause-area : goal.returns-clause-area
returns-clause-area g c = edit_done (edit_more (keeps_by_read (read_once c.in_ok-plain.ensures.area)) c.in_ok-shorten_block.ensures.area)
