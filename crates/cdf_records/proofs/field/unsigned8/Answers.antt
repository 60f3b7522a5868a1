use Rattle.std.proofs.Common.{◌∙◌}
use Rattle.cdf_records.proofs.Places.{word_of_rest}
use Rattle.cdf_records.proofs.field.unsigned8.Goals as goal

pub returns : goal.returns
returns c = λ field start shows. c.read_u64.ensures ∙ (word_of_rest c.args.bytes.now c.args.place 8 c.requires ∙ shows.same c.args.place 8 c.requires)
