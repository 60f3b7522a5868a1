use Rattle.std.proofs.Common.{◌++◌, ap, length, ◌∙◌, arith}
use Rattle.cdf_store.proofs.Joined.{put_end}
use Rattle.cdf_store.proofs.pieces.Pieces.push.Goals as goal

pub returns-clause-ok : goal.returns-clause-ok
returns-clause-ok c =
    c.put_in.ensures.bytes ∙ put_end c.reserve.new.self.bytes _ c.args.bytes.now (omega (arith, ap (λ v. length v.bytes) c.self.view_is, ap (λ l. length l) c.reserve.ensures.bytes)) ∙ ap (λ l. l ++ c.args.bytes.now) c.reserve.ensures.bytes
