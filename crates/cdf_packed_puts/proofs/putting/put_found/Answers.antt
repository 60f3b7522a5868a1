use Rattle.std.proofs.Common.{ap, arith, refl}
use Rattle.std.proofs.lemmas.Result.{IfOk-weaker}
use Rattle.cdf_area.proofs.Calls.{edit_failed, edits_by_read, keeps_by_read, read_once}
use Rattle.cdf_area.specs.Frame.{Frame}
use Rattle.cdf_leaves.proofs.LastCall.{edit_last}
use Rattle.cdf_packed_puts.proofs.PackedSpot.{found_so, none_so, on_after, rewrites, rewritten_on, some_into, within}
use Rattle.cdf_packed_puts.proofs.putting.put_found.Goals as goal

pub find_site-requires-clause-short : goal.find_site-requires-clause-short
find_site-requires-clause-short g c = omega (arith, within c.requires.some.packing c.requires.some.so, c.requires.limit)

pub returns-in_err-site-clause-area : goal.returns-in_err-site-clause-area
returns-in_err-site-clause-area g c = edit_failed (record { frame = refl; faults = refl }) (edits_by_read c.in_err-site.ensures.area) c.from_residual.ensures.1

pub rewrite_leaf-requires-clause-some : goal.rewrite_leaf-requires-clause-some
rewrite_leaf-requires-clause-some g c = rw (c.find_site.ensures.area.image) (some_into c.requires.some.packing c.requires.some.so)

pub rewrite_leaf-requires-clause-found : goal.rewrite_leaf-requires-clause-found
rewrite_leaf-requires-clause-found g c = found_so c.args.search.now.head c.args.put.now.vdr c.args.search.now.rec c.find_site.ensures.area.image c.requires.search.head_is c.in-Some.is c.in_ok-site.ensures.found

pub rewrite_leaf-requires-clause-room : goal.rewrite_leaf-requires-clause-room
rewrite_leaf-requires-clause-room g c =
    let s = c.requires.some in
    let read = c.find_site.ensures.area in
    rewrites s.packing s.so c.requires.more read.image (ap (λ (f : Frame g.A.Area.Under). f.limit) read.frame) c.requires.search.head_is c.in-Some.is c.in_ok-site.ensures.found

pub rewrite_leaf-requires-clause-limit : goal.rewrite_leaf-requires-clause-limit
rewrite_leaf-requires-clause-limit g c = rw c.find_site.ensures.area.frame c.requires.limit

pub returns-in-Some-clause-put : goal.returns-in-Some-clause-put
returns-in-Some-clause-put g c = IfOk-weaker c.rewrite_leaf.result _ _ (λ next puts b kind before own after p so. rewritten_on p so c.find_site.ensures.area.image puts) c.rewrite_leaf.ensures.put

pub returns-in-Some-clause-area : goal.returns-in-Some-clause-area
returns-in-Some-clause-area g c = edit_last (keeps_by_read (read_once c.in_ok-site.ensures.area)) c.rewrite_leaf.ensures.area

pub add_block-requires-clause-none : goal.add_block-requires-clause-none
add_block-requires-clause-none g c = none_so c.args.search.now.head c.args.search.now.rec c.find_site.ensures.area.image c.in-None.is c.in_ok-site.ensures.found

pub returns-in-None-clause-put : goal.returns-in-None-clause-put
returns-in-None-clause-put g c =
    let read = c.find_site.ensures.area in
    IfOk-weaker c.add_block.result _ _ (λ next on. on_after read.image (ap (λ (f : Frame g.A.Area.Under). f.limit) read.frame) on) c.add_block.ensures.put

pub returns-in-None-clause-area : goal.returns-in-None-clause-area
returns-in-None-clause-area g c = edit_last (keeps_by_read (read_once c.in_ok-site.ensures.area)) c.add_block.ensures.area
