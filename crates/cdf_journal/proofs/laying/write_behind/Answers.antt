use Rattle.std.proofs.Common.{ap, length, refl, ◌∙◌}
use Rattle.std.specs.Option.{option_map}
use Rattle.cdf_base.specs.Bytes.{put}
use Rattle.cdf_journal.specs.Crashes.{InPart, Parts, Torn, with_part}
use Rattle.cdf_journal.specs.Stages.{KeepsGate}
use Rattle.cdf_journal.specs.declared.disk.Part.TheVariants.{Log}
use Rattle.cdf_journal.proofs.Moments.{stayed, went_on}
use Rattle.cdf_journal.proofs.Steps.{gate_kept, gate_stays}
use Rattle.cdf_journal.proofs.laying.write_behind.Goals as goal

pub returns-in_err-write_at-clause-leads : goal.returns-in_err-write_at-clause-leads
returns-in_err-write_at-clause-leads g c =
    went_on g.D.Disk.may_leave g.D.Disk.moment g.D.Disk.left_since c.args.disk.now c.args.disk.now c.write_at.new.self KeepsGate (InPart Log (Torn c.args.at (length c.args.bytes.now))) KeepsGate
    (stayed g.D.Disk.may_leave g.D.Disk.moment g.D.Disk.left_since c.args.disk.now KeepsGate (λ x. (refl, refl))) c.write_at.ensures.crash c.write_at.ensures.time (λ a b s. s)
    (λ a b x s t. gate_kept a b x s (gate_stays c.args.at (length c.args.bytes.now) c.requires.gate b x t))

pub returns-clause-leads : goal.returns-clause-leads
returns-clause-leads g c =
    went_on g.D.Disk.may_leave g.D.Disk.moment g.D.Disk.left_since c.args.disk.now c.args.disk.now c.write_at.new.self KeepsGate (InPart Log (Torn c.args.at (length c.args.bytes.now))) KeepsGate
    (stayed g.D.Disk.may_leave g.D.Disk.moment g.D.Disk.left_since c.args.disk.now KeepsGate (λ x. (refl, refl))) c.write_at.ensures.crash c.write_at.ensures.time (λ a b s. s)
    (λ a b x s t. gate_kept a b x s (gate_stays c.args.at (length c.args.bytes.now) c.requires.gate b x t))

pub returns-clause-seen : goal.returns-clause-seen
returns-clause-seen g c parts e = c.in_ok-write_at.ensures.written ∙ ap (option_map (λ (ps : Parts). with_part ps Log (put ps.log c.args.at c.args.bytes.now))) e
