use Rattle.cdf_puts.proofs.Common.{Frame, ap, edit_done, edit_failed, edit_more, edits_by_read, index_at, keeps_by_read, leaf_of, leaves_of, option_map, read_once, refl, sym, ℕ, ◌∙◌}
use Rattle.cdf_index.proofs.Common.{seen}
use Rattle.cdf_leaves.proofs.LastCall.{edit_last}
use Rattle.cdf_puts.proofs.PutSpot.{on_after}
use Rattle.cdf_puts.proofs.putting.put_found.Goals as goal

pub returns-in_err-found-clause-area : goal.returns-in_err-found-clause-area
returns-in_err-found-clause-area g c = edit_failed (record { frame = refl; faults = refl }) (edits_by_read c.in_err-found.ensures.area) c.from_residual.ensures.1

pub write_one-requires-clause-found : goal.write_one-requires-clause-found
write_one-requires-clause-found g c =
    let b = g.A.Area.image c.args.area.now in
    rw (c.leaf.ensures.area.image) (sym (ap (option_map seen) c.in-Some.is) ∙ c.in_ok-found.ensures.value ∙ ap (λ (head : ℕ). leaf_of c.args.search.now.rec (leaves_of (index_at b head))) c.requires.search.head_is)

pub returns-in_err-write_one-in-Some-clause-area : goal.returns-in_err-write_one-in-Some-clause-area
returns-in_err-write_one-in-Some-clause-area g c = edit_failed (keeps_by_read (read_once c.in_ok-found.ensures.area)) c.in_err-write_one-in-Some.ensures.area c.from_residual-in_err-write_one-in-Some.ensures.1

pub returns-in_ok-write_one-in-Some-clause-put : goal.returns-in_ok-write_one-in-Some-clause-put
returns-in_ok-write_one-in-Some-clause-put g c =
    let read = c.in_ok-found.ensures.area in
    on_after read.image (ap (λ (f : Frame g.A.Area.Under). f.limit) read.frame) c.in_ok-write_one-in-Some.ensures.put

pub returns-in_ok-write_one-in-Some-clause-area : goal.returns-in_ok-write_one-in-Some-clause-area
returns-in_ok-write_one-in-Some-clause-area g c = edit_done (edit_more (keeps_by_read (read_once c.in_ok-found.ensures.area)) c.in_ok-write_one-in-Some.ensures.area)

pub returns-in-None-clause-area : goal.returns-in-None-clause-area
returns-in-None-clause-area g c = edit_last (keeps_by_read (read_once c.in_ok-found.ensures.area)) c.add_block.ensures.area
