use Rattle.std.proofs.Common.{length}
use Rattle.cdf_seal.proofs.Pieces.{front_read}
use Rattle.cdf_seal.proofs.front.FrontArea.get.Goals as goal

pub returns-clause-bytes : goal.returns-clause-bytes
returns-clause-bytes g c = front_read c.get.result (g.A.Area.image c.args.self.now.area.now) c.get.new.out c.args.self.now.size c.args.place (length c.args.out.now) c.get.auto.out c.requires c.get.ensures.bytes
