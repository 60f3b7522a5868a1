use Rattle.cdf_var_records.proofs.PutRoomNeeded.{first_behind, first_there}
use Rattle.cdf_var_records.specs.Records.{variable_at}
use Rattle.cdf_var_records.proofs.put_room.read_first_written.Goals as goal

pub returns-then-rec-count-clause-first : goal.returns-then-rec-count-clause-first
returns-then-rec-count-clause-first g c = first_there (variable_at (g.A.Area.image c.args.area.now) c.args.vdr) c.args.rec c.requires.count c.if-rec-count.true

pub returns-clause-first : goal.returns-clause-first
returns-clause-first g c = first_behind (variable_at (g.A.Area.image c.args.area.now) c.args.vdr) c.args.rec c.requires.count c.if-rec-count.false c.in_ok-rule.ensures.sparse c.first_past.ensures
