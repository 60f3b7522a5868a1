use Rattle.std.proofs.Common.{ap, arith, refl, ◌∙◌}
use Rattle.cdf_area.proofs.Calls.{edit_done, edit_failed, edit_more, edits_by_read, keeps_by_read, read_once}
use Rattle.cdf_area.specs.Frame.{Frame}
use Rattle.cdf_packed_puts.proofs.LeafRewritten.{has_plain, has_record, puts_so, small_last}
use Rattle.cdf_packed_puts.proofs.rewriting.rewrite_leaf.Goals as goal

pub read_rewritten-requires-clause-some : goal.read_rewritten-requires-clause-some
read_rewritten-requires-clause-some g c = c.requires.some

pub read_rewritten-requires-clause-more : goal.read_rewritten-requires-clause-more
read_rewritten-requires-clause-more g c = c.requires.more

pub read_rewritten-requires-clause-found : goal.read_rewritten-requires-clause-found
read_rewritten-requires-clause-found g c = c.requires.found

pub read_rewritten-requires-clause-short : goal.read_rewritten-requires-clause-short
read_rewritten-requires-clause-short g c = omega (arith, c.requires.room, c.requires.limit)

pub returns-in_err-plain-clause-area : goal.returns-in_err-plain-clause-area
returns-in_err-plain-clause-area g c = edit_failed (record { frame = refl; faults = refl }) (edits_by_read c.in_err-plain.ensures.area) c.from_residual.ensures.1

pub write_block-requires-clause-leaf : goal.write_block-requires-clause-leaf
write_block-requires-clause-leaf g c =
    let s = c.requires.some in
    let read = c.in_ok-plain.ensures in
    has_plain s.into c.args.k c.args.found.now c.requires.found c.deref.result.now read.area.image (ap (λ (f : Frame g.A.Area.Under). f.limit) read.area.frame) c.requires.more (c.deref.ensures.value ∙ read.plain s.p s.kind s.before s.own s.after s.into) c.requires.room

pub write_block-requires-clause-limit : goal.write_block-requires-clause-limit
write_block-requires-clause-limit g c = rw c.in_ok-plain.ensures.area.frame c.requires.limit

pub returns-in_err-write_block-clause-area : goal.returns-in_err-write_block-clause-area
returns-in_err-write_block-clause-area g c = edit_failed (keeps_by_read (read_once c.in_ok-plain.ensures.area)) c.in_err-write_block.ensures.area c.from_residual-in_err-write_block.ensures.1

pub overflow_add-result : goal.overflow_add-result
overflow_add-result g c = omega (arith, small_last c.requires.some.into c.args.k c.args.found.now c.requires.found)

pub returns-clause-put : goal.returns-clause-put
returns-clause-put g c = λ p kind before own after x.
    (let read = c.in_ok-plain.ensures in
    puts_so x c.args.k c.args.found.now c.requires.found c.deref.result.now read.area.image (ap (λ (f : Frame g.A.Area.Under). f.limit) read.area.frame) c.requires.more (c.deref.ensures.value ∙ read.plain p kind before own after x) c.requires.room c.in_ok-write_block.ensures.replaced)

pub returns-clause-further : goal.returns-clause-further
returns-clause-further g c = let h = has_record c.requires.some.into c.args.k c.args.found.now c.requires.found in omega (arith, h.1)

pub returns-clause-area : goal.returns-clause-area
returns-clause-area g c = edit_done (edit_more (keeps_by_read (read_once c.in_ok-plain.ensures.area)) c.in_ok-write_block.ensures.area)
