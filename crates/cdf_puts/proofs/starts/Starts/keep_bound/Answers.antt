use Rattle.cdf_puts.proofs.Common.{IsRightOf, LeavesEntries, index_at, number, vdr_vxr_head}
use Rattle.cdf_puts.proofs.KnownStarts.{kept_is, known_kept, known_there}
use Rattle.cdf_puts.proofs.starts.Starts.keep_bound.Goals as goal

pub returns-clause-known : goal.returns-clause-known
returns-clause-known c b good i knows within =
    let index = index_at b (number b c.args.vdr vdr_vxr_head) in
    let vdr = c.args.vdr in
    let taken = known_kept knows vdr good c.take-known.new.self c.take-known.ensures.others (c.take-known.ensures.own index) in
    let right = c.keep_bound.ensures.known index (c.take-known.ensures.taken index (known_there knows vdr good i)) within in
    known_kept taken vdr good c.keep.new.self c.keep.ensures.others (kept_is (IsRightOf index) _ _ c.keep.ensures.own right)

pub returns-clause-expects : goal.returns-clause-expects
returns-clause-expects c index within = kept_is (λ known. LeavesEntries known index c.args.more) _ _ c.keep.ensures.own (c.keep_bound.ensures.leaves index within)
