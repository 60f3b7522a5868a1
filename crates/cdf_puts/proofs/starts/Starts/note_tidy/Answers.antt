use Rattle.cdf_puts.proofs.Common.{IsRightOf, index_at, number, vdr_vxr_head}
use Rattle.cdf_puts.proofs.KnownStarts.{kept_is, known_kept, known_there}
use Rattle.cdf_puts.proofs.starts.Starts.note_tidy.Goals as goal

pub returns : goal.returns
returns c b good i knows tidy =
    let index = index_at b (number b c.args.vdr vdr_vxr_head) in
    let vdr = c.args.vdr in
    let taken = known_kept knows vdr good c.take-known.new.self c.take-known.ensures.others (c.take-known.ensures.own index) in
    let right = c.note_tidy.ensures index (c.take-known.ensures.taken index (known_there knows vdr good i)) tidy in
    known_kept taken vdr good c.keep.new.self c.keep.ensures.others (kept_is (IsRightOf index) _ _ c.keep.ensures.own right)
