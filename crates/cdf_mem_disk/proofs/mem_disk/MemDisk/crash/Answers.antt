use Rattle.cdf_mem_disk.specs.MemParts.{parts_in}
use Rattle.cdf_mem_disk.proofs.MemMoments.{crash_left}
use Rattle.cdf_mem_disk.proofs.mem_disk.MemDisk.crash.Goals as goal

pub returns-in_err-left-clause-allowed : goal.returns-in_err-left-clause-allowed
returns-in_err-left-clause-allowed c = let past = c.args.self.now.past in crash_left c.args.keep (parts_in past.base) past.history past.made

pub returns-in_err-self-clause-allowed : goal.returns-in_err-self-clause-allowed
returns-in_err-self-clause-allowed c = let past = c.args.self.now.past in crash_left c.args.keep (parts_in past.base) past.history past.made

pub returns-clause-allowed : goal.returns-clause-allowed
returns-clause-allowed c = let past = c.args.self.now.past in crash_left c.args.keep (parts_in past.base) past.history past.made
