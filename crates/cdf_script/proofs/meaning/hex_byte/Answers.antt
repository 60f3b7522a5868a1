use Rattle.cdf_script.proofs.Escapes.{digits_are}
use Rattle.cdf_script.proofs.meaning.hex_byte.Goals as goal

pub returns-clause-some : goal.returns-clause-some
returns-clause-some c = λ place. digits_are c.args.text.now _ _ place c.in-len2-up.len_at_least c.in_ok-hex_digit.ensures c.in_ok-hex_digit-2.ensures
