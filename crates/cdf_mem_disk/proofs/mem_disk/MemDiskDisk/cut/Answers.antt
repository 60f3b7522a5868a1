use Rattle.std.proofs.Common.{false, inr, true}
use Rattle.cdf_mem_disk.specs.Events.{Cut}
use Rattle.cdf_mem_disk.specs.MemParts.{parts_in}
use Rattle.cdf_mem_disk.proofs.DiskCalls.{cut_follows, time_passes}
use Rattle.cdf_mem_disk.proofs.mem_disk.MemDiskDisk.cut.Goals as goal

pub returns-then-next_fails-clause-crash : goal.returns-then-next_fails-clause-crash
returns-then-next_fails-clause-crash c =
    let past = c.args.self.now.past in
    let refused = c.refuse_cut.new.self in
    cut_follows (parts_in past.base) (parts_in refused.base) past.history refused.history c.args.part c.args.n false c.refuse_cut.ensures.base c.refuse_cut.ensures.kept

pub returns-then-next_fails-clause-time : goal.returns-then-next_fails-clause-time
returns-then-next_fails-clause-time c =
    let past = c.args.self.now.past in
    let refused = c.refuse_cut.new.self in
    time_passes (parts_in past.base) (parts_in refused.base) past.history refused.history (Cut c.args.part c.args.n false) c.refuse_cut.ensures.base c.refuse_cut.ensures.kept

pub returns-in-Ok-clause-crash : goal.returns-in-Ok-clause-crash
returns-in-Ok-clause-crash c =
    let past = c.args.self.now.past in
    let done = c.cut.new.self in
    cut_follows (parts_in past.base) (parts_in done.base) past.history done.history c.args.part c.args.n true c.cut.ensures.base (inr c.in-Ok.ensures.kept)

pub returns-in-Ok-clause-time : goal.returns-in-Ok-clause-time
returns-in-Ok-clause-time c =
    let past = c.args.self.now.past in
    let done = c.cut.new.self in
    time_passes (parts_in past.base) (parts_in done.base) past.history done.history (Cut c.args.part c.args.n true) c.cut.ensures.base (inr c.in-Ok.ensures.kept)
