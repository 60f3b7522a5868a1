use Rattle.std.proofs.Common.{ap, arith, length, ℕ, List}
use Rattle.cdf_blocks.proofs.MovedGoes.{shortened_anew}
use Rattle.cdf_blocks.proofs.NewBlock.{bytes_short}
use Rattle.cdf_blocks.proofs.laws.moved_is_shortened.Goals as goal

pub returns : goal.returns
returns c b now kind before own after site old new bytes plain good at one is rle lies as_long stored m small moves =
    let long = ap (λ (xs : List ℕ). length xs) m.given.1.1 in
    let short = bytes_short new.packed bytes 1073741824 (omega (arith, m.block.inside, m.block.fills.long, m.entry.as_long, m.given.1.0.0.length_is, long, small)) in
    shortened_anew good at old new one lies bytes site.node site.number is.there is.used is.says m.block m.entry plain rle as_long stored short m.given small moves
