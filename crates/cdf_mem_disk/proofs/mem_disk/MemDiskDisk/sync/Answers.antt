use Rattle.std.proofs.Common.{inr}
use Rattle.cdf_mem_disk.specs.Events.{Stored}
use Rattle.cdf_mem_disk.specs.MemParts.{parts_in}
use Rattle.cdf_mem_disk.proofs.DiskCalls.{store_left, store_only, time_passes}
use Rattle.cdf_mem_disk.proofs.mem_disk.MemDiskDisk.sync.Goals as goal

pub returns-in-Ok-clause-durable : goal.returns-in-Ok-clause-durable
returns-in-Ok-clause-durable c =
    let past = c.args.self.now.past in
    let done = c.store.new.self in
    λ x left. store_only (parts_in past.base) (parts_in done.base) (parts_in past.parts) past.history done.history x c.store.ensures.base c.in-Ok.ensures.kept past.replayed left

pub returns-in-Ok-clause-crash : goal.returns-in-Ok-clause-crash
returns-in-Ok-clause-crash c =
    let past = c.args.self.now.past in
    let done = c.store.new.self in
    λ x left. store_left (parts_in past.base) (parts_in done.base) past.history done.history x c.store.ensures.base past.made c.in-Ok.ensures.kept left

pub returns-in-Ok-clause-time : goal.returns-in-Ok-clause-time
returns-in-Ok-clause-time c =
    let past = c.args.self.now.past in
    let done = c.store.new.self in
    time_passes (parts_in past.base) (parts_in done.base) past.history done.history Stored c.store.ensures.base (inr c.in-Ok.ensures.kept)
