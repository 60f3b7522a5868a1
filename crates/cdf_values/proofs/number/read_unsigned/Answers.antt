use Rattle.cdf_values.proofs.Common.{ap, bytes_high_first, option_map, ◌∙◌}
use Rattle.cdf_values.proofs.RangeLemmas.{unsigned_up_to}
use Rattle.cdf_values.proofs.number.read_unsigned.Goals as goal

pub returns : goal.returns
returns c =
    ap (option_map (λ n. bytes_high_first c.args.size n)) c.plain_number.ensures
    ∙ unsigned_up_to c.args.size c.half_range-half.result c.args.word.now c.requires.some c.half_range-half.ensures
