use Rattle.std.proofs.Common.{[], ◌∷◌}
use Rattle.std.proofs.lemmas.Result.{on_ok_weaker}
use Rattle.cdf_base.specs.Bytes.{put}
use Rattle.cdf_journal.specs.Crashes.{InPart, Parts, Torn}
use Rattle.cdf_journal.specs.Stages.{IsShutOrOpen}
use Rattle.cdf_journal.specs.declared.disk.Part.TheVariants.{Log}
use Rattle.cdf_journal.proofs.Journalled.{gated}
use Rattle.cdf_journal.proofs.Moments.{weaker}
use Rattle.cdf_journal.proofs.Steps.{gate_torn}
use Rattle.cdf_journal.proofs.gate.disarm.Goals as goal

pub returns-clause-any_moment : goal.returns-clause-any_moment
returns-clause-any_moment g c main body first small lies =
    let parts : Parts = record { main = main; log = lies.log } in
    weaker g.D.Disk.moment g.D.Disk.left_since c.args.disk.now c.write_synced.new.disk (InPart Log (Torn 0 1) parts) (IsShutOrOpen main body) (λ x t. gate_torn main body first lies.log x small lies.has t)
    (c.write_synced.ensures.any_moment parts lies.settled.durable)

pub returns-clause-disarmed : goal.returns-clause-disarmed
returns-clause-disarmed g c =
    on_ok_weaker c.write_synced.result
    (λ told main body first lies. record {
      log = put lies.log 0 (0 ∷ []);
      settled = told (record { main = main; log = lies.log }) lies.settled.reads;
      has = gated body first 0 lies.log lies.has;
    })
    c.write_synced.ensures.settled
