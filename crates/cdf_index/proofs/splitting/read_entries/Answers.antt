use Rattle.cdf_index.proofs.Common.{read_more, read_without_memory}
use Rattle.cdf_index.proofs.Inserting.{read_one}
use Rattle.cdf_index.proofs.splitting.read_entries.Goals as goal

pub loop-i-preserved : goal.loop-i-preserved
loop-i-preserved g c =
    let i = c.loop-i.invariant in
    record { read = rw c.in_ok-push.ensures.items (read_one c.in_ok-entry.entry i.read (rw i.area.image at c.in_ok-entry.ensures.value)); area = read_more i.area c.in_ok-entry.ensures.area }

pub returns-in_err-push-clause-area : goal.returns-in_err-push-clause-area
returns-in_err-push-clause-area g c = read_without_memory (read_more c.loop-i.invariant.area c.in_ok-entry.ensures.area) c.from_residual-in_err-push.ensures.1
