use Rattle.std.proofs.Common.{ap, arith, length, refl, ◌∙◌, ◌≡◌, ◌≤◌}
use Rattle.std.specs.Prelude.{replicate}
use Rattle.cdf_base.specs.Bytes.{put}
use Rattle.cdf_journal.specs.Crashes.{InPart, Torn, with_part}
use Rattle.cdf_journal.specs.Opening.{IsRecovered}
use Rattle.cdf_journal.specs.declared.disk.Part.TheVariants.{Log}
use Rattle.cdf_journal.proofs.Journalled.{recovers_shut}
use Rattle.cdf_journal.proofs.Mended.{while_readying, zeros_long, zeros_shut}
use Rattle.cdf_journal.proofs.Moments.{weaker}
use Rattle.cdf_journal.proofs.Steps.{told_now}
use Rattle.cdf_journal.proofs.mending.ready.Goals as goal

pub returns-in_err-write_synced-clause-any_moment : goal.returns-in_err-write_synced-clause-any_moment
returns-in_err-write_synced-clause-any_moment g c parts rest same =
    let short : length parts.log ≤ 8 = omega (arith, c.requires.short, ap length same) in
    weaker g.D.Disk.moment g.D.Disk.left_since c.args.disk.now c.write_synced.new.disk (InPart Log (Torn 0 8) parts) (IsRecovered parts.main) (λ x t. recovers_shut x.main x.log (while_readying parts.log x.log short t.0) ∙ t.1)
    (c.write_synced.ensures.any_moment parts rest.durable)

pub returns-clause-any_moment : goal.returns-clause-any_moment
returns-clause-any_moment g c parts rest same =
    let short : length parts.log ≤ 8 = omega (arith, c.requires.short, ap length same) in
    weaker g.D.Disk.moment g.D.Disk.left_since c.args.disk.now c.write_synced.new.disk (InPart Log (Torn 0 8) parts) (IsRecovered parts.main) (λ x t. recovers_shut x.main x.log (while_readying parts.log x.log short t.0) ∙ t.1)
    (c.write_synced.ensures.any_moment parts rest.durable)

pub returns-clause-rests : goal.returns-clause-rests
returns-clause-rests g c parts rest same = record {
  parts = with_part parts Log (put parts.log 0 (replicate 8 0));
  at_rest = record { settled = c.in_ok-write_synced.ensures.settled parts rest.reads; closed = zeros_shut parts.log; long = zeros_long parts.log };
  has = refl;
}

pub returns-clause-now : goal.returns-clause-now
returns-clause-now g c main was =
    told_now (g.D.Disk.seen c.args.disk.now) (g.D.Disk.seen c.write_synced.new.disk) (λ parts. with_part parts Log (put parts.log 0 (replicate 8 0))) (λ parts. parts.main ≡ main)
    (λ parts e. (c.in_ok-write_synced.ensures.settled parts e).reads) c.in_ok-write_synced.ensures.untold was
