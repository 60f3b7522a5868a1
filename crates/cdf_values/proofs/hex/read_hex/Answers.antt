use Rattle.cdf_values.proofs.Common.{sym, ◌∙◌}
use Rattle.cdf_values.proofs.HexLemmas.{refused, stops_in_front}
use Rattle.cdf_values.proofs.hex.read_hex.Goals as goal

pub returns-in_default-pair_byte : goal.returns-in_default-pair_byte
returns-in_default-pair_byte c =
    refused c.args.size c.args.word.now c.args.bytes.now.items c.loop-rest.bytes.items
    (sym c.loop-rest.invariant.same ∙ stops_in_front c.loop-rest.bytes.items c.loop-rest.rest.now c.in-len2-up.len_at_least (sym c.pair_byte.ensures ∙ c.in_default-pair_byte.is))
