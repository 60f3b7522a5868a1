use Rattle.std.proofs.Common.{rules}
use Rattle.cdf_mem_disk.proofs.Histories.{bytes_more, write_more}
use Rattle.cdf_mem_disk.proofs.Replays.{on_err}
use Rattle.cdf_mem_disk.proofs.history.History.note_write.Goals as goal

pub invariant_of-self-in_err-push : goal.invariant_of-self-in_err-push
invariant_of-self-in_err-push c =
    let h = c.self.inside in
    (bytes_more h.bytes.items c.args.bytes.now c.extend_from_slice.new.self.items h.calls.items c.push.new.self.items c.args.self.now c.in_ok-extend_from_slice.ensures.items c.in_err-push.ensures.items c.self.invariant c.self.view_is).0

pub returns-in_err-push-clause-err : goal.returns-in_err-push-clause-err
returns-in_err-push-clause-err c =
    let h = c.self.inside in
    on_err c.from_residual-in_err-push.result _
    (bytes_more h.bytes.items c.args.bytes.now c.extend_from_slice.new.self.items h.calls.items c.push.new.self.items c.args.self.now c.in_ok-extend_from_slice.ensures.items c.in_err-push.ensures.items c.self.invariant c.self.view_is).1

pub invariant_of-self-2 : goal.invariant_of-self-2
invariant_of-self-2 c =
    let h = c.self.inside in
    (write_more h.bytes.items c.args.bytes.now c.extend_from_slice.new.self.items h.calls.items c.push.new.self.items c.args.self.now c.args.part c.args.place c.len-start.result c.args.is_done c.in_ok-extend_from_slice.ensures.items (search rules) c.in_ok-push.ensures.items
    c.self.invariant c.self.view_is).0

pub returns-clause-ok : goal.returns-clause-ok
returns-clause-ok c =
    let h = c.self.inside in
    (write_more h.bytes.items c.args.bytes.now c.extend_from_slice.new.self.items h.calls.items c.push.new.self.items c.args.self.now c.args.part c.args.place c.len-start.result c.args.is_done c.in_ok-extend_from_slice.ensures.items (search rules) c.in_ok-push.ensures.items
    c.self.invariant c.self.view_is).1
