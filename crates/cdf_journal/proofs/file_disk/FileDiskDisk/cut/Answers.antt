use Rattle.cdf_journal.proofs.Untorn.{uncut}
use Rattle.cdf_journal.proofs.file_disk.FileDiskDisk.cut.Goals as goal

pub returns-in-Ok-clause-crash : goal.returns-in-Ok-clause-crash
returns-in-Ok-clause-crash g c x left = (x, tt, uncut c.args.part c.args.n x)

pub returns-in-Err-clause-crash : goal.returns-in-Err-clause-crash
returns-in-Err-clause-crash g c x left = (x, tt, uncut c.args.part c.args.n x)
