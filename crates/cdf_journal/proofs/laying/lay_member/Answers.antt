use Rattle.std.proofs.Common.{List, Some, ap, arith, length, ℕ, ◌++◌, ◌∙◌, ◌≡◌, ◌≤◌}
use Rattle.std.proofs.lemmas.Result.{on_ok_weaker}
use Rattle.cdf_base.specs.Bytes.{put}
use Rattle.byteorder.specs.Endian.{big_bytes}
use Rattle.cdf_journal.specs.Crashes.{part_of, with_part}
use Rattle.cdf_journal.specs.Log.{member_bytes}
use Rattle.cdf_journal.specs.Ranges.{member_of}
use Rattle.cdf_journal.specs.Stages.{KeepsGate}
use Rattle.cdf_journal.specs.declared.disk.Part.TheVariants.{Log}
use Rattle.cdf_journal.proofs.FilledAgain.{put_on}
use Rattle.cdf_journal.proofs.Moments.{joined}
use Rattle.cdf_journal.proofs.Steps.{gate_kept, if_some}
use Rattle.cdf_journal.proofs.laying.lay_member.Goals as goal

pub returns-clause-leads : goal.returns-clause-leads
returns-clause-leads g c =
    joined g.D.Disk.may_leave g.D.Disk.moment g.D.Disk.left_since c.args.disk.now c.write_behind.new.disk c.write_behind-2.new.disk KeepsGate c.write_behind.ensures.leads c.write_behind-2.ensures.leads gate_kept

pub returns-clause-seen : goal.returns-clause-seen
returns-clause-seen g c =
    on_ok_weaker c.write_behind-2.result
    (λ told parts e.
    let head = c.number_pair-head.result in
    let bytes = c.bytes_of-bytes.result.now in
    let pair : head ≡ big_bytes 8 (member_of c.args.file.now c.args.range).0 ++ big_bytes 8 (length (member_of c.args.file.now c.args.range).1) =
    c.number_pair-head.ensures ∙ (λ i. big_bytes 8 (c.place_in-place.ensures i) ++ big_bytes 8 (length (c.bytes_of-bytes.ensures i))) in
    let whole : head ++ bytes ≡ member_bytes (member_of c.args.file.now c.args.range) = (λ i. pair i ++ c.bytes_of-bytes.ensures i) in
    let long : g.D.Disk.size c.args.disk.now Log ≡ length parts.log = if_some (g.D.Disk.seen c.args.disk.now) parts (λ ps. g.D.Disk.size c.args.disk.now Log ≡ length (part_of ps Log)) e (g.met.D.Disk.sized c.args.disk.now Log) in
    let le : c.args.at ≤ length parts.log = omega (arith, long, c.requires.at) in
    let middle = c.in_ok-middle.ensures.end.0 in
    told (with_part parts Log (put parts.log c.args.at head)) (c.in_ok-middle.ensures.seen parts e)
    ∙ ap (λ (l : List ℕ). Some (with_part parts Log l)) (ap (λ (k : ℕ). put (put parts.log c.args.at head) k bytes) middle ∙ put_on parts.log head bytes c.args.at le ∙ ap (put parts.log c.args.at) whole))
    c.write_behind-2.ensures.seen
