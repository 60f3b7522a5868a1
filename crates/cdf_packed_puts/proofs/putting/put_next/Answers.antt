use Rattle.std.proofs.Common.{List, ap, arith, refl, sym, ℕ, ◌∙◌}
use Rattle.cdf_area.proofs.Calls.{edit_done, edit_failed, edit_more, edits_by_read, keeps_by_read, read_more, read_once}
use Rattle.cdf_area.specs.Frame.{Frame}
use Rattle.cdf_format.specs.Fields.{number}
use Rattle.cdf_format.specs.Records.{vdr_vxr_head}
use Rattle.cdf_packed_puts.specs.Putting.{PacksOn}
use Rattle.cdf_packed_puts.proofs.PackedSpot.{lies, node_on, on_after, searched, within}
use Rattle.cdf_packed_puts.proofs.putting.put_next.Given.{Over}
use Rattle.cdf_packed_puts.proofs.putting.put_next.Goals.{In_ok-next}
use Rattle.cdf_packed_puts.proofs.putting.put_next.Goals as goal

pub overflow_add-put : goal.overflow_add-put
overflow_add-put g c = let s = c.requires.some in omega (arith, lies s.packing s.so, within s.packing s.so, c.requires.limit)

pub read_unsigned8-requires : goal.read_unsigned8-requires
read_unsigned8-requires g c = omega (arith, lies c.requires.some.packing c.requires.some.so)

pub returns-in_err-head-clause-area : goal.returns-in_err-head-clause-area
returns-in_err-head-clause-area g c = edit_failed (record { frame = refl; faults = refl }) (edits_by_read c.in_err-head.ensures.area) c.from_residual.ensures.1

pub begin-requires-clause-index : goal.begin-requires-clause-index
begin-requires-clause-index g c = rw (c.read_unsigned8.ensures.area.image, c.in_ok-head.ensures.value) (searched c.requires.some.packing c.requires.some.so).0

pub begin-requires-clause-known : goal.begin-requires-clause-known
begin-requires-clause-known g c = rw (c.read_unsigned8.ensures.area.image, c.in_ok-head.ensures.value) c.requires.known

pub begin-requires-clause-short : goal.begin-requires-clause-short
begin-requires-clause-short g c = rw (c.read_unsigned8.ensures.area.image) (omega (arith, within c.requires.some.packing c.requires.some.so, c.requires.limit))

pub returns-in_err-search-clause-area : goal.returns-in_err-search-clause-area
returns-in_err-search-clause-area g c = edit_failed (keeps_by_read (read_once c.in_ok-head.ensures.area)) (edits_by_read c.in_err-search.ensures.area) c.from_residual-in_err-search.ensures.1

pub put_found-requires-clause-some : goal.put_found-requires-clause-some
put_found-requires-clause-some g c =
    rw (c.begin.ensures.area.image, c.read_unsigned8.ensures.area.image, c.begin.ensures.area.frame, c.read_unsigned8.ensures.area.frame, c.in_ok-search.ensures.rec) c.requires.some

pub put_found-requires-clause-more : goal.put_found-requires-clause-more
put_found-requires-clause-more g c = rw (c.in_ok-search.ensures.rec) c.requires.more

pub put_found-requires-clause-search : goal.put_found-requires-clause-search
put_found-requires-clause-search g c =
    rw (c.begin.ensures.area.image) (record {
      is = c.in_ok-search.ensures.search;
      head_is = c.in_ok-search.ensures.head ∙ c.in_ok-head.ensures.value ∙ ap (λ (x : List ℕ). number x c.args.put.now.vdr vdr_vxr_head) (sym c.read_unsigned8.ensures.area.image);
    })

pub returns-in_err-next-clause-area : goal.returns-in_err-next-clause-area
returns-in_err-next-clause-area g c = edit_failed (keeps_by_read (read_more (read_once c.in_ok-head.ensures.area) c.in_ok-search.ensures.area)) c.in_err-next.ensures.area c.from_residual-in_err-next.ensures.1

-- from the image before the call on
puts : (g : Over) (c : In_ok-next g) → PacksOn (g.A.Area.image c.args.area.now) (g.A.Area.image c.put_found.new.area) (g.A.Area.frame c.args.area.now).limit c.args.put.now c.args.from.next c.in_ok-next.next
puts g c =
    let read = read_more (read_once c.in_ok-head.ensures.area) c.in_ok-search.ensures.area in
    on_after read.image (ap (λ (f : Frame g.A.Area.Under). f.limit) read.frame) (rw (c.in_ok-search.ensures.rec) at c.in_ok-next.ensures.put)

pub returns-clause-put : goal.returns-clause-put
returns-clause-put g c = puts g (goal.at.returns-clause-put g c).In_ok-next

pub returns-clause-known : goal.returns-clause-known
returns-clause-known g c =
    let search = rw (c.read_unsigned8.ensures.area.image) at c.in_ok-search.ensures.search in
    node_on c.node.result c.requires.some (puts g (goal.at.returns-clause-known g c).In_ok-next) (rw (c.in_ok-search.ensures.head, c.in_ok-head.ensures.value) at (c.node.ensures (g.A.Area.image c.args.area.now) search))

pub returns-clause-further : goal.returns-clause-further
returns-clause-further g c = rw (c.in_ok-search.ensures.rec) at c.in_ok-next.ensures.further

pub returns-clause-area : goal.returns-clause-area
returns-clause-area g c = edit_done (edit_more (keeps_by_read (read_more (read_once c.in_ok-head.ensures.area) c.in_ok-search.ensures.area)) c.in_ok-next.ensures.area)
