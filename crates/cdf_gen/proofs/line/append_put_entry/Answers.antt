use Rattle.std.proofs.Common.{codes}
use Rattle.std.specs.Fmt.{decimal}
use Rattle.cdf_gen.specs.Generated.{put_entry, variable_of}
use Rattle.cdf_gen.proofs.Words.{part_more}
use Rattle.cdf_gen.proofs.line.append_put_entry.Goals as goal

pub returns : goal.returns
unfolding put_entry
returns c =
    part_more c.args.text.now.items (codes "put-entry VAR_TYPE z ") (decimal (variable_of c.args.x)) (codes " CHAR \"data\"") c.append_numbered.new.text.items c.extend_from_slice.new.self.items
    (rw c.variable_of.ensures at c.in_ok-append_numbered.ensures) c.in_ok-extend_from_slice.ensures.items
