use Rattle.cdf_vars.proofs.PutParts.{most_past, most_within}
use Rattle.cdf_vars.proofs.put_record.read_most.Goals as goal

pub returns-then-rec-count-clause-most : goal.returns-then-rec-count-clause-most
returns-then-rec-count-clause-most g c = most_within (g.A.Area.image c.args.area.now) c.args.form.now.place.vdr c.args.rec c.requires.count c.if-rec-count.true

pub returns-clause-most : goal.returns-clause-most
returns-clause-most g c = most_past (g.A.Area.image c.args.area.now) c.args.form.now.place.vdr c.args.rec c.requires.count c.if-rec-count.false c.read_block_count.result c.read_block_count.ensures.count
