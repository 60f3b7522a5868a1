use Rattle.std.proofs.Common.{List, [], ap, length, rules, subst, sym, true, ℕ, ◌∙◌, ◌∷◌, ◌≡◌}
use Rattle.cdf_base.specs.Bytes.{put}
use Rattle.cdf_journal.specs.Crashes.{InPart, Parts, Settles, Torn, with_part}
use Rattle.cdf_journal.specs.Log.{Body, PartlyFilled, filled, fits, recovered}
use Rattle.cdf_journal.specs.Opening.{IsRecovered}
use Rattle.cdf_journal.specs.Ranges.{body_of, members_of}
use Rattle.cdf_journal.specs.declared.disk.Part.TheVariants.{Log, Main}
use Rattle.cdf_journal.proofs.Mended.{long_now, shut_now, while_shutting}
use Rattle.cdf_journal.proofs.Moments.{chained, weaker}
use Rattle.cdf_journal.proofs.Replayed.{as_read, fits_lent, is_read, lent_filling, made_lent}
use Rattle.cdf_journal.proofs.Steps.{told_now}
use Rattle.cdf_journal.proofs.mending.replay.Goals as goal

pub fill-requires : goal.fill-requires
fill-requires g c =
    let main = c.args.file.now.items in
    let log = c.args.log.now in
    let holds : c.in_ok-is_journal.is_journal ≡ true = search rules in
    let a = as_read main log c.load.new.file.items c.load.new.ranges.items c.deref.result.now c.deref-2.result.now c.requires.open (is_read main log c.load.new.file.items c.load.new.ranges.items c.in_ok-is_journal.is_journal holds c.in_ok-is_journal.ensures) c.deref.ensures.value c.deref-2.ensures.value in
    (λ i. fits (c.requires.main i) (length c.deref.result.now) (members_of c.deref.result.now c.deref-2.result.now)) ∙ fits_lent main log c.load.new.file.items c.deref.result.now c.deref-2.result.now a

pub returns-in_err-fill-clause-any_moment : goal.returns-in_err-fill-clause-any_moment
returns-in_err-fill-clause-any_moment g c rest =
    let main = c.args.file.now.items in
    let log = c.args.log.now in
    let holds : c.in_ok-is_journal.is_journal ≡ true = search rules in
    let a = as_read main log c.load.new.file.items c.load.new.ranges.items c.deref.result.now c.deref-2.result.now c.requires.open (is_read main log c.load.new.file.items c.load.new.ranges.items c.in_ok-is_journal.is_journal holds c.in_ok-is_journal.ensures) c.deref.ensures.value c.deref-2.ensures.value in
    let P : Parts → Type 0 = IsRecovered (recovered main log) in
    let B : Body = body_of c.deref.result.now c.deref-2.result.now in
    let parts : Parts = record { main = main; log = log } in
    let a1 = weaker g.D.Disk.moment g.D.Disk.left_since c.args.disk.now c.fill.new.disk (λ x. (x.log ≡ log) × PartlyFilled main B x.main) P (lent_filling main log c.load.new.file.items c.deref.result.now c.deref-2.result.now a) (c.fill.ensures.any_moment parts rest) in
    a1

pub returns-in_err-write_synced-clause-any_moment : goal.returns-in_err-write_synced-clause-any_moment
returns-in_err-write_synced-clause-any_moment g c rest =
    let main = c.args.file.now.items in
    let log = c.args.log.now in
    let holds : c.in_ok-is_journal.is_journal ≡ true = search rules in
    let a = as_read main log c.load.new.file.items c.load.new.ranges.items c.deref.result.now c.deref-2.result.now c.requires.open (is_read main log c.load.new.file.items c.load.new.ranges.items c.in_ok-is_journal.is_journal holds c.in_ok-is_journal.ensures) c.deref.ensures.value c.deref-2.ensures.value in
    let P : Parts → Type 0 = IsRecovered (recovered main log) in
    let B : Body = body_of c.deref.result.now c.deref-2.result.now in
    let parts : Parts = record { main = main; log = log } in
    let a1 = weaker g.D.Disk.moment g.D.Disk.left_since c.args.disk.now c.fill.new.disk (λ x. (x.log ≡ log) × PartlyFilled main B x.main) P (lent_filling main log c.load.new.file.items c.deref.result.now c.deref-2.result.now a) (c.fill.ensures.any_moment parts rest) in
    let made = made_lent main log c.load.new.file.items c.deref.result.now c.deref-2.result.now a in
    let parts1 : Parts = record { main = filled main a.body; log = log } in
    let s1 : Settles g.D.Disk.seen g.D.Disk.may_leave c.fill.new.disk parts1 = subst (λ (m : List ℕ). Settles g.D.Disk.seen g.D.Disk.may_leave c.fill.new.disk (record { main = m; log = log })) made (c.in_ok-fill.ensures.settled parts rest.reads) in
    chained g.D.Disk.moment g.D.Disk.left_since c.args.disk.now c.fill.new.disk c.write_synced.new.disk P a1
    (weaker g.D.Disk.moment g.D.Disk.left_since c.fill.new.disk c.write_synced.new.disk (InPart Log (Torn 0 1) parts1) P (while_shutting main log a.body a.opened a.fit) (c.write_synced.ensures.any_moment parts1 s1.durable))

pub returns-clause-any_moment : goal.returns-clause-any_moment
returns-clause-any_moment g c rest =
    let main = c.args.file.now.items in
    let log = c.args.log.now in
    let holds : c.in_ok-is_journal.is_journal ≡ true = search rules in
    let a = as_read main log c.load.new.file.items c.load.new.ranges.items c.deref.result.now c.deref-2.result.now c.requires.open (is_read main log c.load.new.file.items c.load.new.ranges.items c.in_ok-is_journal.is_journal holds c.in_ok-is_journal.ensures) c.deref.ensures.value c.deref-2.ensures.value in
    let P : Parts → Type 0 = IsRecovered (recovered main log) in
    let B : Body = body_of c.deref.result.now c.deref-2.result.now in
    let parts : Parts = record { main = main; log = log } in
    let a1 = weaker g.D.Disk.moment g.D.Disk.left_since c.args.disk.now c.fill.new.disk (λ x. (x.log ≡ log) × PartlyFilled main B x.main) P (lent_filling main log c.load.new.file.items c.deref.result.now c.deref-2.result.now a) (c.fill.ensures.any_moment parts rest) in
    let made = made_lent main log c.load.new.file.items c.deref.result.now c.deref-2.result.now a in
    let parts1 : Parts = record { main = filled main a.body; log = log } in
    let s1 : Settles g.D.Disk.seen g.D.Disk.may_leave c.fill.new.disk parts1 = subst (λ (m : List ℕ). Settles g.D.Disk.seen g.D.Disk.may_leave c.fill.new.disk (record { main = m; log = log })) made (c.in_ok-fill.ensures.settled parts rest.reads) in
    chained g.D.Disk.moment g.D.Disk.left_since c.args.disk.now c.fill.new.disk c.write_synced.new.disk P a1
    (weaker g.D.Disk.moment g.D.Disk.left_since c.fill.new.disk c.write_synced.new.disk (InPart Log (Torn 0 1) parts1) P (while_shutting main log a.body a.opened a.fit) (c.write_synced.ensures.any_moment parts1 s1.durable))

pub returns-clause-rests : goal.returns-clause-rests
returns-clause-rests g c rest =
    let main = c.args.file.now.items in
    let log = c.args.log.now in
    let holds : c.in_ok-is_journal.is_journal ≡ true = search rules in
    let a = as_read main log c.load.new.file.items c.load.new.ranges.items c.deref.result.now c.deref-2.result.now c.requires.open (is_read main log c.load.new.file.items c.load.new.ranges.items c.in_ok-is_journal.is_journal holds c.in_ok-is_journal.ensures) c.deref.ensures.value c.deref-2.ensures.value in
    let parts : Parts = record { main = main; log = log } in
    let made = made_lent main log c.load.new.file.items c.deref.result.now c.deref-2.result.now a in
    let parts1 : Parts = record { main = filled main a.body; log = log } in
    let s1 : Settles g.D.Disk.seen g.D.Disk.may_leave c.fill.new.disk parts1 = subst (λ (m : List ℕ). Settles g.D.Disk.seen g.D.Disk.may_leave c.fill.new.disk (record { main = m; log = log })) made (c.in_ok-fill.ensures.settled parts rest.reads) in
    record {
      parts = record { main = filled main a.body; log = put log 0 (0 ∷ []) };
      at_rest = record { settled = c.in_ok-write_synced.ensures.settled parts1 s1.reads; closed = shut_now main log a.body a.opened a.fit; long = long_now main log a.body a.opened a.fit };
      has = sym a.fills;
    }

pub returns-clause-now : goal.returns-clause-now
returns-clause-now g c was =
    let main = c.args.file.now.items in
    let log = c.args.log.now in
    let holds : c.in_ok-is_journal.is_journal ≡ true = search rules in
    let a = as_read main log c.load.new.file.items c.load.new.ranges.items c.deref.result.now c.deref-2.result.now c.requires.open (is_read main log c.load.new.file.items c.load.new.ranges.items c.in_ok-is_journal.is_journal holds c.in_ok-is_journal.ensures) c.deref.ensures.value c.deref-2.ensures.value in
    let B : Body = body_of c.deref.result.now c.deref-2.result.now in
    told_now (g.D.Disk.seen c.args.disk.now) (g.D.Disk.seen c.write_synced.new.disk) (λ ps. with_part (with_part ps Main (filled ps.main B)) Log (put ps.log 0 (0 ∷ []))) (λ ps. ps.main ≡ c.load.new.file.items)
    (λ ps e. (c.in_ok-write_synced.ensures.settled (with_part ps Main (filled ps.main B)) (c.in_ok-fill.ensures.settled ps e).reads).reads) (λ none. c.in_ok-write_synced.ensures.untold (c.in_ok-fill.ensures.untold none))
    (λ ps e. ap (λ (m : List ℕ). filled m B) (was ps e) ∙ made_lent main log c.load.new.file.items c.deref.result.now c.deref-2.result.now a ∙ sym a.fills)
