use Rattle.cdf_check.proofs.Common.{ap, arith, encoding, is_some, word4_fits, ◌∙◌}
use Rattle.cdf_records.specs.declared.cdr.Cdr.{Cdr}
use Rattle.cdf_check.proofs.Codes.{known_code}
use Rattle.cdf_check.proofs.cdr_rules.has_encoding.Goals as goal

pub returns : goal.returns
returns g c =
    let image = g.A.Area.image c.args._area.now in
    let fits = word4_fits image 8 56 36 c.requires.bytes (omega arith) (omega arith) in
    let read = ap (λ (cdr : Cdr). cdr.encoding) c.requires.fields in
    c.is_some.ensures ∙ (ap is_some c.of_code.ensures ∙ known_code c.args.cdr.now.encoding (encoding image) read fits)
