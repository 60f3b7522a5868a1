use Rattle.cdf_structure.proofs.Common.{arith}
use Rattle.cdf_structure.proofs.Shares.{share_fits, share_most}
use Rattle.cdf_structure.proofs.blocks.share_of.Goals as goal

pub returns-else-count-eq0 : goal.returns-else-count-eq0
returns-else-count-eq0 c = record {
  fits = λ share le. share_fits c.args.bytes c.args.count share le;
  most = λ share small le. share_most c.args.bytes c.args.count share (omega (arith, c.if-count-eq0.false)) le;
}
