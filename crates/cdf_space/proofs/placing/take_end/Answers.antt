use Rattle.cdf_space.proofs.Common.{arith}
use Rattle.cdf_space.proofs.Writing.{end_bytes}
use Rattle.cdf_space.proofs.placing.take_end.Goals as goal

pub returns-clause-taken : goal.returns-clause-taken
returns-clause-taken g c =
    let room = c.requires.room in
    let limit = c.requires.limit in
    let at = c.size-place.ensures in
    end_bytes (g.A.Area.image c.args.area.now) (g.A.Area.image c.extend.new.self) (g.A.Area.image c.set_record_size.new.area) (g.A.Area.image c.set_record_type.new.area) (g.A.Area.image c.set_gdr_eof.new.area) c.args.gdr c.size-place.result c.args.need at c.requires.gdr (let n = c.requires.need in omega arith) (omega arith)
    c.in_ok-extend.ensures.longer c.in_ok-set_record_size.ensures.ok c.in_ok-set_record_type.ensures.ok c.in_ok-set_gdr_eof.ensures.ok
