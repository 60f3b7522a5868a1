use Rattle.std.proofs.Common.{length}
use Rattle.cdf_journal.proofs.Untorn.{untorn}
use Rattle.cdf_journal.proofs.file_disk.FileDiskDisk.write_at.Goals as goal

pub returns-in-Ok-clause-crash : goal.returns-in-Ok-clause-crash
returns-in-Ok-clause-crash g c x left = (x, tt, untorn c.args.part c.args.place (length c.args.bytes.now) x)

pub returns-in-Err-clause-crash : goal.returns-in-Err-clause-crash
returns-in-Err-clause-crash g c x left = (x, tt, untorn c.args.part c.args.place (length c.args.bytes.now) x)
