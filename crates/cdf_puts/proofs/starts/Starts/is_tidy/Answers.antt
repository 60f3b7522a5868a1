use Rattle.std.specs.Prelude.{IfSome}
use Rattle.cdf_puts.proofs.Common.{IsRightOf, index_at, known_of, number, vdr_vxr_head}
use Rattle.cdf_puts.proofs.KnownStarts.{known_there}
use Rattle.cdf_puts.proofs.starts.Starts.is_tidy.Goals as goal

pub returns-in-Some : goal.returns-in-Some
returns-in-Some c b good i knows says =
    let there : IfSome (known_of c.args.self.now c.args.vdr) (IsRightOf (index_at b (number b c.args.vdr vdr_vxr_head))) = known_there knows c.args.vdr good i in
    let right = rw (← c.in-Some.ensures.value) at there in
    right.tidy says
