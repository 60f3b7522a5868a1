use Rattle.std.proofs.Common.{◌≡◌, arith}
use Rattle.cdf_gen.specs.Generated.{kind_of}
use Rattle.cdf_gen.proofs.Lines.{fourth}
use Rattle.cdf_gen.proofs.line.append_command.Goals as goal

pub returns-in_default : goal.returns-in_default
returns-in_default c =
    let kind : kind_of c.args.x ≡ 3 = omega arith in
    rw (fourth c.args.x kind) at c.append_put_entry.ensures
