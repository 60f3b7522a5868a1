use Rattle.std.proofs.Common.{List, Some, ap, arith, drop, get_or, length, max, refl, subst, sym, true, ℕ, ◌+◌, ◌<◌, ◌∙◌, ◌≡◌, ◌≤◌}
use Rattle.std.proofs.lemmas.Bool.{leb-true}
use Rattle.std.specs.Option.{option_map}
use Rattle.cdf_base.specs.Bytes.{put}
use Rattle.cdf_journal.specs.Crashes.{InPart, Parts, Torn, with_part}
use Rattle.cdf_journal.specs.Log.{Body, Grown, fits, is_within, patched}
use Rattle.cdf_journal.specs.Ranges.{body_of, member_of, members_of}
use Rattle.cdf_journal.specs.declared.disk.Part.TheVariants.{Log, Main}
use Rattle.cdf_journal.specs.declared.range.Range.{Range}
use Rattle.cdf_journal.proofs.Items.{fits_next, next_of, none_of, within_next}
use Rattle.cdf_journal.proofs.Moments.{stayed, went_on}
use Rattle.cdf_journal.proofs.Steps.{log_is_not_main, main_grown, not_grown}
use Rattle.cdf_journal.proofs.filling.write_ranges.Goals as goal

pub write_at-requires : goal.write_at-requires
write_at-requires g c =
    let l = c.loop-range in
    let fit = fits_next c.args.file.now (g.D.Disk.size l.disk Main) c.args.ranges.now l.range-index (record { place = 0; count = 0 }) c.loop-range-test.true l.invariant.fit in
    subst (λ (k : ℕ). k ≤ g.D.Disk.size l.disk Main) (sym c.place_in.ensures) fit.0

pub returns-in_err-write_at-clause-leads : goal.returns-in_err-write_at-clause-leads
returns-in_err-write_at-clause-leads g c =
    let l = c.loop-range in
    let body : Body = body_of c.args.file.now c.args.ranges.now in
    let ms = body.members in
    let place = c.place_in.result in
    let n = length c.bytes_of.result.now in
    let within : (i : ℕ) → place ≤ i → i < place + n → is_within i ms =
    λ i le lt. within_next c.args.file.now c.args.ranges.now l.range-index (record { place = 0; count = 0 }) c.loop-range-test.true i (subst (λ (k : ℕ). k ≤ i) c.place_in.ensures le)
    (subst (λ (bytes : List ℕ). i < (member_of c.args.file.now (get_or c.args.ranges.now l.range-index (record { place = 0; count = 0 }))).0 + length bytes) c.bytes_of.ensures (subst (λ (k : ℕ). i < k + n) c.place_in.ensures lt)) in
    let fit = fits_next c.args.file.now (g.D.Disk.size l.disk Main) c.args.ranges.now l.range-index (record { place = 0; count = 0 }) c.loop-range-test.true l.invariant.fit in
    let end : place + n ≤ length c.args.file.now = subst (λ (k : ℕ). k ≤ length c.args.file.now) (λ i. sym c.place_in.ensures i + length (sym c.bytes_of.ensures i)) fit.2 in
    went_on g.D.Disk.may_leave g.D.Disk.moment g.D.Disk.left_since c.args.disk.now l.disk c.write_at.new.self (InPart Main (Grown body)) (InPart Main (Torn place n)) (InPart Main (Grown body)) l.invariant.leads c.write_at.ensures.crash c.write_at.ensures.time
    (λ a b s. s) (main_grown body place n within end)

pub loop-range-preserved : goal.loop-range-preserved
loop-range-preserved g c =
    let l = c.loop-range in
    let d : Range = record { place = 0; count = 0 } in
    let x : Range = get_or c.args.ranges.now l.range-index d in
    let body : Body = body_of c.args.file.now c.args.ranges.now in
    let ms = body.members in
    let place = c.place_in.result in
    let n = length c.bytes_of.result.now in
    let S = g.D.Disk.size l.disk Main in
    let fit = fits_next c.args.file.now S c.args.ranges.now l.range-index d c.loop-range-test.true l.invariant.fit in
    let reach : g.D.Disk.size c.write_at.new.self Main ≡ max S ((member_of c.args.file.now x).0 + length (member_of c.args.file.now x).1) = c.in_ok-write_at.ensures.longer ∙ (λ i. max S (c.place_in.ensures i + length (c.bytes_of.ensures i))) in
    let within : (i : ℕ) → place ≤ i → i < place + n → is_within i ms =
    λ i le lt. within_next c.args.file.now c.args.ranges.now l.range-index d c.loop-range-test.true i (subst (λ (k : ℕ). k ≤ i) c.place_in.ensures le)
    (subst (λ (bytes : List ℕ). i < (member_of c.args.file.now x).0 + length bytes) c.bytes_of.ensures (subst (λ (k : ℕ). i < k + n) c.place_in.ensures lt)) in
    let end : place + n ≤ length c.args.file.now = subst (λ (k : ℕ). k ≤ length c.args.file.now) (λ i. sym c.place_in.ensures i + length (sym c.bytes_of.ensures i)) fit.2 in
    record {
      fit = subst (λ (k : ℕ). fits k (length c.args.file.now) (members_of c.args.file.now (drop (l.range-index + 1) c.args.ranges.now)) ≡ true) (sym reach) fit.1;
      leads = went_on g.D.Disk.may_leave g.D.Disk.moment g.D.Disk.left_since c.args.disk.now l.disk c.write_at.new.self (InPart Main (Grown body)) (InPart Main (Torn place n)) (InPart Main (Grown body)) l.invariant.leads c.write_at.ensures.crash c.write_at.ensures.time
          (λ a b s. s) (main_grown body place n within end);
      seen = λ parts e.
          let was = l.invariant.seen parts e in (
            put was.0 (member_of c.args.file.now x).0 (member_of c.args.file.now x).1,
            c.in_ok-write_at.ensures.written ∙ ap (option_map (λ (ps : Parts). with_part ps Main (put ps.main place c.bytes_of.result.now))) was.1 ∙ (λ i. Some (with_part parts Main (put was.0 (c.place_in.ensures i) (c.bytes_of.ensures i)))),
            ap (λ (rs : List Range). patched was.0 (members_of c.args.file.now rs)) (sym (next_of c.args.ranges.now l.range-index d c.loop-range-test.true)) ∙ was.2,
          );
      untold = λ none. c.in_ok-write_at.ensures.written ∙ ap (option_map (λ (ps : Parts). with_part ps Main (put ps.main place c.bytes_of.result.now))) (l.invariant.untold none);
      no_shorter = omega (arith, l.invariant.no_shorter, c.write_at.ensures.no_shorter);
      beside = c.write_at.ensures.beside Log log_is_not_main ∙ l.invariant.beside;
      faults = c.in_ok-write_at.ensures.cause.done ∙ l.invariant.faults;
    }

pub loop-range-init : goal.loop-range-init
loop-range-init g c = record {
  fit = c.requires;
  leads = stayed g.D.Disk.may_leave g.D.Disk.moment g.D.Disk.left_since c.args.disk.now (InPart Main (Grown (body_of c.args.file.now c.args.ranges.now))) (not_grown (body_of c.args.file.now c.args.ranges.now));
  seen = λ parts e. (parts.main, e, refl);
  untold = λ none. none;
  no_shorter = omega arith;
  beside = refl;
  faults = refl;
}

pub returns-clause-seen : goal.returns-clause-seen
returns-clause-seen g c parts e =
    let l = c.loop-range in
    let was = l.invariant.seen parts e in
    let none = none_of c.args.ranges.now l.range-index (let f = c.loop-range-test.false in omega arith) in
    was.1 ∙ ap (λ (m : List ℕ). Some (with_part parts Main m)) (ap (λ (rs : List Range). patched was.0 (members_of c.args.file.now rs)) (sym none) ∙ was.2)

pub returns-clause-reached : goal.returns-clause-reached
returns-clause-reached g c =
    let l = c.loop-range in
    let none = none_of c.args.ranges.now l.range-index (let f = c.loop-range-test.false in omega arith) in
    leb-true (length c.args.file.now) (g.D.Disk.size l.disk Main) (subst (λ (rs : List Range). fits (g.D.Disk.size l.disk Main) (length c.args.file.now) (members_of c.args.file.now rs) ≡ true) none l.invariant.fit)
