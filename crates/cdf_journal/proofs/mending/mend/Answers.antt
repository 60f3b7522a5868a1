use Rattle.std.proofs.Common.{refl}
use Rattle.std.proofs.lemmas.Result.{on_ok_weaker}
use Rattle.cdf_journal.specs.Log.{recovered}
use Rattle.cdf_journal.specs.Opening.{IsRecovered}
use Rattle.cdf_journal.proofs.Moments.{unmoved}
use Rattle.cdf_journal.proofs.mending.mend.Goals as goal

pub returns-then-log-le8-clause-rests : goal.returns-then-log-le8-clause-rests
returns-then-log-le8-clause-rests g c = on_ok_weaker c.ready.result (λ told rest. told (record { main = c.args.file.now.items; log = c.args.log.now }) rest refl) c.ready.ensures.rests

pub returns-then-log-le8-clause-now : goal.returns-then-log-le8-clause-now
returns-then-log-le8-clause-now g c = on_ok_weaker c.ready.result (λ told was. told c.args.file.now.items was) c.ready.ensures.now

pub returns-else-log-le8-clause-any_moment : goal.returns-else-log-le8-clause-any_moment
returns-else-log-le8-clause-any_moment g c rest =
    unmoved g.D.Disk.may_leave g.D.Disk.moment g.D.Disk.left_since c.args.disk.now (record { main = c.args.file.now.items; log = c.args.log.now }) (IsRecovered (recovered c.args.file.now.items c.args.log.now)) (g.met.D.Disk.only_now c.args.disk.now) rest.durable refl
