use Rattle.std.proofs.Common.{arith, drop, length, map}
use Rattle.std.proofs.lemmas.List.{drop_all, length-map}
use Rattle.cdf_mem_disk.specs.History.{event_of}
use Rattle.cdf_mem_disk.specs.MemParts.{parts_in}
use Rattle.cdf_mem_disk.proofs.Histories.{drop_next, within_at}
use Rattle.cdf_mem_disk.proofs.Replays.{first_fits, none_left, rest_done, rest_made}
use Rattle.cdf_mem_disk.proofs.history.redo_calls.Goals as goal

pub redo_call-requires-clause-within : goal.redo_call-requires-clause-within
redo_call-requires-clause-within c = within_at (length c.args.bytes.now) c.args.calls.now c.loop-call.call-index _ c.requires.within c.loop-call-test.true

pub redo_call-requires-clause-fits : goal.redo_call-requires-clause-fits
redo_call-requires-clause-fits c = first_fits (parts_in c.loop-call.parts) _ _ _ (drop_next (event_of c.args.bytes.now) c.args.calls.now c.loop-call.call-index _ c.loop-call-test.true) c.loop-call.invariant.made

pub loop-call-preserved : goal.loop-call-preserved
loop-call-preserved c =
    let next = drop_next (event_of c.args.bytes.now) c.args.calls.now c.loop-call.call-index _ c.loop-call-test.true in
    record {
      done = rest_done (parts_in c.loop-call.parts) (parts_in c.redo_call.new.parts) _ _ _ _ next c.in_ok-redo_call.ensures c.loop-call.invariant.done;
      made = rest_made (parts_in c.loop-call.parts) (parts_in c.redo_call.new.parts) _ _ _ next c.loop-call.invariant.made c.in_ok-redo_call.ensures;
    }

pub returns : goal.returns
returns c =
    let events = map (event_of c.args.bytes.now) c.args.calls.now in
    none_left (parts_in c.loop-call.parts) _ (drop c.loop-call.call-index events)
    (drop_all c.loop-call.call-index events (let lt = c.loop-call-test.false in omega (arith, lt, length-map c.args.calls.now (event_of c.args.bytes.now)))) c.loop-call.invariant.done
