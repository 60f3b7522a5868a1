use Rattle.std.proofs.Common.{◌*◌, ◌<◌, arith, length, sym}
use Rattle.cdf_area.proofs.Calls.{read_done, read_once}
use Rattle.cdf_format.specs.Stored.{packed_bytes}
use Rattle.cdf_packed.proofs.Standing.{length-packed, too_long}
use Rattle.cdf_packed.proofs.unpacking.read_packed.Goals as goal

pub returns-then-count-size-clause-fits : goal.returns-then-count-size-clause-fits
returns-then-count-size-clause-fits g c =
    let b = g.A.Area.image c.args.area.now in
    let long = length-packed b c.args.at c.requires.inside in
    let more : 2 * c.args.size < length (packed_bytes b c.args.at) = omega (arith, long, c.in_ok-count.ensures.value, c.if-count-size.true) in
    sym (too_long (packed_bytes b c.args.at) c.args.size more)

pub returns-then-count-size-clause-area : goal.returns-then-count-size-clause-area
returns-then-count-size-clause-area g c = read_done (read_once c.in_ok-count.ensures.area)
