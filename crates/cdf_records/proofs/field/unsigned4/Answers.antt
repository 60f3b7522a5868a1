use Rattle.std.proofs.Common.{◌∙◌}
use Rattle.cdf_records.proofs.Places.{word_of_rest}
use Rattle.cdf_records.proofs.field.unsigned4.Goals as goal

pub returns : goal.returns
returns c = λ field start shows. c.read_u32.ensures ∙ (word_of_rest c.args.bytes.now c.args.place 4 c.requires ∙ shows.same c.args.place 4 c.requires)
