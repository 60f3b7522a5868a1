use Rattle.std.proofs.Common.{rules}
use Rattle.cdf_records.proofs.Places.{shows_piece, bytes_piece}
use Rattle.cdf_records.proofs.field.read_piece.Goals as goal

pub returns-clause-fields : goal.returns-clause-fields
returns-clause-fields g c = shows_piece (g.A.Area.image c.args.area.now) c.get.new.out c.args.at c.in_ok-get.ensures.bytes

pub returns-clause-bytes : goal.returns-clause-bytes
returns-clause-bytes g c = bytes_piece (g.A.Area.image c.args.area.now) c.get.new.out c.args.at c.in_ok-get.ensures.bytes (λ i. search (rules, c.type_inv.bytes i))
