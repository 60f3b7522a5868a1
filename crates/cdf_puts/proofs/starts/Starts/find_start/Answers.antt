use Rattle.cdf_puts.proofs.Common.{IsRightOf, arith, index_at, number, vdr_vxr_head}
use Rattle.cdf_puts.proofs.KnownStarts.{has_index, kept_is, known_kept, known_there, vdr_lies}
use Rattle.cdf_puts.proofs.starts.Starts.find_start.Goals as goal

pub overflow_add-vdr : goal.overflow_add-vdr
overflow_add-vdr g c = let short = c.requires.short in omega (arith, vdr_lies _ c.requires.good c.args.vdr c.requires.vdr)

pub read_unsigned8-requires : goal.read_unsigned8-requires
read_unsigned8-requires g c = omega (arith, vdr_lies _ c.requires.good c.args.vdr c.requires.vdr)

pub find_start-requires-clause-index : goal.find_start-requires-clause-index
find_start-requires-clause-index g c = rw (c.read_unsigned8.ensures.area.image, c.in_ok-head.ensures.value) (has_index _ c.requires.good c.args.vdr c.requires.vdr)

pub find_start-requires-clause-known : goal.find_start-requires-clause-known
find_start-requires-clause-known g c =
    let b = g.A.Area.image c.args.area.now in
    rw (c.read_unsigned8.ensures.area.image, c.in_ok-head.ensures.value) (c.take-known.ensures.taken (index_at b (number b c.args.vdr vdr_vxr_head)) (known_there c.requires.known c.args.vdr c.requires.good c.requires.vdr))

pub returns-clause-start : goal.returns-clause-start
returns-clause-start g c = rw (c.read_unsigned8.ensures.area.image, c.in_ok-head.ensures.value) at c.in_ok-start.ensures.start

pub returns-in_err-start-clause-known : goal.returns-in_err-start-clause-known
returns-in_err-start-clause-known g c =
    let b = g.A.Area.image c.args.area.now in
    known_kept c.requires.known c.args.vdr c.requires.good c.take-known.new.self c.take-known.ensures.others (c.take-known.ensures.own (index_at b (number b c.args.vdr vdr_vxr_head)))

pub returns-clause-known : goal.returns-clause-known
returns-clause-known g c =
    let b = g.A.Area.image c.args.area.now in
    let index = index_at b (number b c.args.vdr vdr_vxr_head) in
    let taken = known_kept c.requires.known c.args.vdr c.requires.good c.take-known.new.self c.take-known.ensures.others (c.take-known.ensures.own index) in
    let right = rw (c.read_unsigned8.ensures.area.image, c.in_ok-head.ensures.value) at c.find_start.ensures.known in
    known_kept taken c.args.vdr c.requires.good c.keep.new.self c.keep.ensures.others (kept_is (IsRightOf index) _ _ c.keep.ensures.own right)
