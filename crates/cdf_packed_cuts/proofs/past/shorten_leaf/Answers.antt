use Rattle.std.proofs.Common.{ap, take, ℕ, ◌*◌, ◌∙◌}
use Rattle.cdf_area.proofs.Calls.{edit_done, edit_failed, edit_more, keeps_by_read, read_once}
use Rattle.cdf_area.specs.Frame.{Frame}
use Rattle.cdf_index.specs.Sight.{seen}
use Rattle.cdf_packed_cuts.proofs.SplitFound.{front_taken, has_part, left_so, read_is, small_last, stands_so}
use Rattle.cdf_packed_cuts.proofs.past.shorten_leaf.Goals as goal

pub block_size-size-requires-clause-small : goal.block_size-size-requires-clause-small
block_size-size-requires-clause-small g c = small_last c.requires.split.is

pub read_plain-requires-clause-stands : goal.read_plain-requires-clause-stands
read_plain-requires-clause-stands g c = stands_so c.requires.split.is c.block_size-size.result c.block_size-size.ensures c.requires.limit

pub slice_bounds-shorten_block-end : goal.slice_bounds-shorten_block-end
slice_bounds-shorten_block-end g c =
    let x = c.requires.split.is in
    let read = c.deref.ensures.value ∙ read_is x c.block_size-size.result c.in_ok-plain.plain.items c.block_size-size.ensures c.in_ok-plain.ensures.plain in
    front_taken x c.from.result c.deref.result.now c.from.ensures read

pub shorten_block-requires-clause-leaf : goal.shorten_block-requires-clause-leaf
shorten_block-requires-clause-leaf g c =
    let x = c.requires.split.is in
    let read = c.deref.ensures.value ∙ read_is x c.block_size-size.result c.in_ok-plain.plain.items c.block_size-size.ensures c.in_ok-plain.ensures.plain in
    let same = c.in_ok-plain.ensures.area in
    has_part x c.deref.result.now read (take (c.from.result * c.args.rec_bytes) c.deref.result.now) (ap (λ (n : ℕ). take (n * c.args.rec_bytes) c.deref.result.now) c.from.ensures) same.image (ap (λ (f : Frame g.A.Area.Under). f.limit) same.frame)

pub returns-in_err-shorten_block-clause-area : goal.returns-in_err-shorten_block-clause-area
returns-in_err-shorten_block-clause-area g c = edit_failed (keeps_by_read (read_once c.in_ok-plain.ensures.area)) c.in_err-shorten_block.ensures.area c.from_residual-in_err-shorten_block.ensures.1

pub returns-clause-front : goal.returns-clause-front
returns-clause-front g c = λ kind before own after x.
    (let read = c.deref.ensures.value ∙ read_is x c.block_size-size.result c.in_ok-plain.plain.items c.block_size-size.ensures c.in_ok-plain.ensures.plain in
    let same = c.in_ok-plain.ensures.area in
    left_so x c.deref.result.now read (take (c.from.result * c.args.rec_bytes) c.deref.result.now) (ap (λ (n : ℕ). take (n * c.args.rec_bytes) c.deref.result.now) c.from.ensures) same.image (ap (λ (f : Frame g.A.Area.Under). f.limit) same.frame) (seen c.in_ok-shorten_block.field-0) c.in_ok-shorten_block.ensures.first c.in_ok-shorten_block.ensures.last c.in_ok-shorten_block.ensures.shortened)

pub returns-clause-area : goal.returns-clause-area
returns-clause-area g c = edit_done (edit_more (keeps_by_read (read_once c.in_ok-plain.ensures.area)) c.in_ok-shorten_block.ensures.area)
