use Rattle.std.proofs.Common.{List, Some, ap, append_assoc, arith, drop, get_or, length, ℕ, ◌++◌, ◌+◌, ◌∙◌, ◌≡◌, ◌≤◌, sym}
use Rattle.std.proofs.lemmas.List.{append-nil, length-append, length-map}
use Rattle.std.specs.List.{flat_map}
use Rattle.cdf_base.specs.Bytes.{put}
use Rattle.byteorder.specs.Endian.{big_bytes}
use Rattle.cdf_journal.specs.Crashes.{part_of, with_part}
use Rattle.cdf_journal.specs.Log.{member_bytes}
use Rattle.cdf_journal.specs.Ranges.{member_of, members_of}
use Rattle.cdf_journal.specs.Stages.{KeepsGate}
use Rattle.cdf_journal.specs.declared.disk.Part.TheVariants.{Log}
use Rattle.cdf_journal.specs.declared.range.Range.{Range}
use Rattle.cdf_journal.proofs.FilledAgain.{put_on}
use Rattle.cdf_journal.proofs.Items.{next_of, none_of}
use Rattle.cdf_journal.proofs.Moments.{joined}
use Rattle.cdf_journal.proofs.Steps.{gate_kept, if_some}
use Rattle.cdf_journal.proofs.laying.lay_members.Goals as goal

pub returns-in_err-at-2-clause-leads : goal.returns-in_err-at-2-clause-leads
returns-in_err-at-2-clause-leads g c =
    joined g.D.Disk.may_leave g.D.Disk.moment g.D.Disk.left_since c.args.disk.now c.loop-range.disk c.lay_member.new.disk KeepsGate c.loop-range.invariant.leads c.lay_member.ensures.leads gate_kept

pub loop-range-preserved : goal.loop-range-preserved
loop-range-preserved g c =
    let l = c.loop-range in
    let x : Range = get_or c.args.ranges.now l.range-index (record { place = 0; count = 0 }) in
    let m : List ℕ = member_bytes (member_of c.args.file.now x) in
    let next = next_of c.args.ranges.now l.range-index (record { place = 0; count = 0 }) c.loop-range-test.true in
    record {
      gate = omega (arith, c.in_ok-at-2.ensures.end.0, l.invariant.gate);
      at = c.in_ok-at-2.ensures.end.1;
      leads = joined g.D.Disk.may_leave g.D.Disk.moment g.D.Disk.left_since c.args.disk.now l.disk c.lay_member.new.disk KeepsGate l.invariant.leads c.lay_member.ensures.leads gate_kept;
      seen = λ parts e.
          let was = l.invariant.seen parts e in
          let long : g.D.Disk.size c.args.disk.now Log ≡ length parts.log = if_some (g.D.Disk.seen c.args.disk.now) parts (λ ps. g.D.Disk.size c.args.disk.now Log ≡ length (part_of ps Log)) e (g.met.D.Disk.sized c.args.disk.now Log) in
          let le : 8 ≤ length parts.log = omega (arith, long, c.requires.room) in (
            was.0 ++ m,
            omega (arith, c.in_ok-at-2.ensures.end.0, was.1, length-append was.0 m),
            c.in_ok-at-2.ensures.seen (with_part parts Log (put parts.log 8 was.0)) was.2 ∙ ap (λ (bytes : List ℕ). Some (with_part parts Log bytes)) (ap (λ (k : ℕ). put (put parts.log 8 was.0) k m) was.1 ∙ put_on parts.log was.0 m 8 le),
            append_assoc was.0 m (flat_map member_bytes (members_of c.args.file.now (drop (l.range-index + 1) c.args.ranges.now))) ∙ ap (λ (rs : List Range). was.0 ++ flat_map member_bytes (members_of c.args.file.now rs)) (sym next) ∙ was.3,
          );
      no_shorter = omega (arith, l.invariant.no_shorter, c.lay_member.ensures.no_shorter);
      beside = c.lay_member.ensures.beside ∙ l.invariant.beside;
      faults = c.in_ok-at-2.ensures.cause.done ∙ l.invariant.faults;
    }

pub loop-range-init : goal.loop-range-init
loop-range-init g c =
    let rest : List ℕ = flat_map member_bytes (members_of c.args.file.now c.args.ranges.now) in
    record {
      gate = omega (arith, c.in_ok-at.ensures.end.0);
      at = c.in_ok-at.ensures.end.1;
      leads = c.write_behind.ensures.leads;
      seen = λ parts e. (
        c.number_pair-head.result,
        c.in_ok-at.ensures.end.0,
        c.in_ok-at.ensures.seen parts e,
        ap (λ (head : List ℕ). head ++ rest) c.number_pair-head.ensures ∙ ap (λ (n : ℕ). (big_bytes 8 (length c.args.file.now) ++ big_bytes 8 n) ++ rest) (sym (length-map c.args.ranges.now (member_of c.args.file.now))),
      );
      no_shorter = c.write_behind.ensures.no_shorter;
      beside = c.write_behind.ensures.beside;
      faults = c.in_ok-at.ensures.cause.done;
    }

pub returns-clause-seen : goal.returns-clause-seen
returns-clause-seen g c parts e =
    let l = c.loop-range in
    let was = l.invariant.seen parts e in
    let none = none_of c.args.ranges.now l.range-index (let f = c.loop-range-test.false in omega arith) in
    was.2 ∙ ap (λ (bytes : List ℕ). Some (with_part parts Log (put parts.log 8 bytes))) (sym (append-nil was.0) ∙ ap (λ (rs : List Range). was.0 ++ flat_map member_bytes (members_of c.args.file.now rs)) (sym none) ∙ was.3)
