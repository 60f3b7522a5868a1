use Rattle.std.proofs.Common.{arith, false, inr, true}
use Rattle.cdf_mem_disk.specs.Events.{Wrote}
use Rattle.cdf_mem_disk.specs.MemParts.{parts_in}
use Rattle.cdf_mem_disk.proofs.DiskCalls.{time_passes, write_follows, written_length, wrote_nothing}
use Rattle.cdf_mem_disk.proofs.mem_disk.MemDiskDisk.write_at.Goals as goal

pub returns-then-next_fails-clause-front : goal.returns-then-next_fails-clause-front
returns-then-next_fails-clause-front c =
    wrote_nothing (parts_in c.args.self.now.past.parts) (parts_in c.refuse_write.new.self.parts) c.args.part c.args.place c.args.bytes.now c.requires c.refuse_write.ensures.parts

pub returns-then-next_fails-clause-crash : goal.returns-then-next_fails-clause-crash
returns-then-next_fails-clause-crash c =
    let past = c.args.self.now.past in
    let refused = c.refuse_write.new.self in
    write_follows (parts_in past.base) (parts_in refused.base) past.history refused.history c.args.part c.args.place c.args.bytes.now false c.refuse_write.ensures.base c.refuse_write.ensures.kept

pub returns-then-next_fails-clause-time : goal.returns-then-next_fails-clause-time
returns-then-next_fails-clause-time c =
    let past = c.args.self.now.past in
    let refused = c.refuse_write.new.self in
    time_passes (parts_in past.base) (parts_in refused.base) past.history refused.history (Wrote c.args.part c.args.place c.args.bytes.now false) c.refuse_write.ensures.base c.refuse_write.ensures.kept

pub returns-in-Ok-clause-longer : goal.returns-in-Ok-clause-longer
returns-in-Ok-clause-longer c = written_length (parts_in c.args.self.now.past.parts) (parts_in c.write.new.self.parts) c.args.part c.args.place c.args.bytes.now c.requires c.in-Ok.ensures.parts

pub returns-in-Ok-clause-no_shorter : goal.returns-in-Ok-clause-no_shorter
returns-in-Ok-clause-no_shorter c =
    omega (arith, written_length (parts_in c.args.self.now.past.parts) (parts_in c.write.new.self.parts) c.args.part c.args.place c.args.bytes.now c.requires c.in-Ok.ensures.parts)

pub returns-in-Ok-clause-no_longer : goal.returns-in-Ok-clause-no_longer
returns-in-Ok-clause-no_longer c =
    omega (arith, written_length (parts_in c.args.self.now.past.parts) (parts_in c.write.new.self.parts) c.args.part c.args.place c.args.bytes.now c.requires c.in-Ok.ensures.parts)

pub returns-in-Ok-clause-crash : goal.returns-in-Ok-clause-crash
returns-in-Ok-clause-crash c =
    let past = c.args.self.now.past in
    let done = c.write.new.self in
    write_follows (parts_in past.base) (parts_in done.base) past.history done.history c.args.part c.args.place c.args.bytes.now true c.write.ensures.base (inr c.in-Ok.ensures.kept)

pub returns-in-Ok-clause-time : goal.returns-in-Ok-clause-time
returns-in-Ok-clause-time c =
    let past = c.args.self.now.past in
    let done = c.write.new.self in
    time_passes (parts_in past.base) (parts_in done.base) past.history done.history (Wrote c.args.part c.args.place c.args.bytes.now true) c.write.ensures.base (inr c.in-Ok.ensures.kept)

pub returns-in_default-clause-front : goal.returns-in_default-clause-front
returns-in_default-clause-front c =
    wrote_nothing (parts_in c.args.self.now.past.parts) (parts_in c.write.new.self.parts) c.args.part c.args.place c.args.bytes.now c.requires c.in_default.ensures.same
