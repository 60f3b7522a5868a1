use Rattle.std.proofs.Common.{arith, length, refl, subst, true, ℕ, ◌≡◌}
use Rattle.std.proofs.lemmas.List.{length-map}
use Rattle.std.proofs.lemmas.Result.{on_ok_weaker}
use Rattle.cdf_journal.specs.Crashes.{part_of}
use Rattle.cdf_journal.specs.Log.{Body, PartlyFilled, filled, fits}
use Rattle.cdf_journal.specs.Ranges.{body_of, member_of}
use Rattle.cdf_journal.specs.Stages.{IsOldOrNew, IsShut, IsShutOrOpen, IsSmall}
use Rattle.cdf_journal.specs.declared.disk.Part.TheVariants.{Main}
use Rattle.cdf_journal.proofs.Journalled.{is_small}
use Rattle.cdf_journal.proofs.Moments.{chained, weaker}
use Rattle.cdf_journal.proofs.Saved.{after_arming, after_disarming, after_filling, after_laying, at_rest}
use Rattle.cdf_journal.proofs.Steps.{if_some}
use Rattle.cdf_journal.proofs.saving.save.Goals as goal

pub returns-in_err-lay-clause-any_moment : goal.returns-in_err-lay-clause-any_moment
returns-in_err-lay-clause-any_moment g c parts rest =
    let body : Body = body_of c.args.file.now c.args.ranges.now in
    let long : g.D.Disk.size c.args.disk.now Main ≡ length parts.main = if_some (g.D.Disk.seen c.args.disk.now) parts (λ ps. g.D.Disk.size c.args.disk.now Main ≡ length (part_of ps Main)) rest.settled.reads (g.met.D.Disk.sized c.args.disk.now Main) in
    let fit : fits (length parts.main) body.new_length body.members ≡ true = subst (λ (k : ℕ). fits k body.new_length body.members ≡ true) long c.requires.fit in
    weaker g.D.Disk.moment g.D.Disk.left_since c.args.disk.now c.lay.new.disk (IsShut parts.main) (IsOldOrNew parts.main (filled parts.main body)) (after_laying parts.main body fit) (c.lay.ensures.any_moment parts rest)

pub returns-in_err-arm-clause-any_moment : goal.returns-in_err-arm-clause-any_moment
returns-in_err-arm-clause-any_moment g c parts rest =
    let body : Body = body_of c.args.file.now c.args.ranges.now in
    let long : g.D.Disk.size c.args.disk.now Main ≡ length parts.main = if_some (g.D.Disk.seen c.args.disk.now) parts (λ ps. g.D.Disk.size c.args.disk.now Main ≡ length (part_of ps Main)) rest.settled.reads (g.met.D.Disk.sized c.args.disk.now Main) in
    let fit : fits (length parts.main) body.new_length body.members ≡ true = subst (λ (k : ℕ). fits k body.new_length body.members ≡ true) long c.requires.fit in
    let P = IsOldOrNew parts.main (filled parts.main body) in
    let small : IsSmall body = is_small (length parts.main) body (omega (arith, c.lay.ensures.small.0)) (omega (arith, c.lay.ensures.small.1, length-map c.args.ranges.now (member_of c.args.file.now))) fit in
    let l1 = c.in_ok-lay.ensures.laid parts rest in
    let a1 = weaker g.D.Disk.moment g.D.Disk.left_since c.args.disk.now c.lay.new.disk (IsShut parts.main) P (after_laying parts.main body fit) (c.lay.ensures.any_moment parts rest) in
    chained g.D.Disk.moment g.D.Disk.left_since c.args.disk.now c.lay.new.disk c.arm.new.disk P a1
    (weaker g.D.Disk.moment g.D.Disk.left_since c.lay.new.disk c.arm.new.disk (IsShutOrOpen parts.main body) P (after_arming parts.main body fit) (c.arm.ensures.any_moment parts.main body l1.0 small l1.2))

pub returns-in_err-fill-clause-any_moment : goal.returns-in_err-fill-clause-any_moment
returns-in_err-fill-clause-any_moment g c parts rest =
    let body : Body = body_of c.args.file.now c.args.ranges.now in
    let long : g.D.Disk.size c.args.disk.now Main ≡ length parts.main = if_some (g.D.Disk.seen c.args.disk.now) parts (λ ps. g.D.Disk.size c.args.disk.now Main ≡ length (part_of ps Main)) rest.settled.reads (g.met.D.Disk.sized c.args.disk.now Main) in
    let fit : fits (length parts.main) body.new_length body.members ≡ true = subst (λ (k : ℕ). fits k body.new_length body.members ≡ true) long c.requires.fit in
    let P = IsOldOrNew parts.main (filled parts.main body) in
    let small : IsSmall body = is_small (length parts.main) body (omega (arith, c.lay.ensures.small.0)) (omega (arith, c.lay.ensures.small.1, length-map c.args.ranges.now (member_of c.args.file.now))) fit in
    let l1 = c.in_ok-lay.ensures.laid parts rest in
    let a1 = weaker g.D.Disk.moment g.D.Disk.left_since c.args.disk.now c.lay.new.disk (IsShut parts.main) P (after_laying parts.main body fit) (c.lay.ensures.any_moment parts rest) in
    let a2 = chained g.D.Disk.moment g.D.Disk.left_since c.args.disk.now c.lay.new.disk c.arm.new.disk P a1
    (weaker g.D.Disk.moment g.D.Disk.left_since c.lay.new.disk c.arm.new.disk (IsShutOrOpen parts.main body) P (after_arming parts.main body fit) (c.arm.ensures.any_moment parts.main body l1.0 small l1.2)) in
    let l2 = c.in_ok-arm.ensures.armed parts.main body l1.0 l1.2 in
    chained g.D.Disk.moment g.D.Disk.left_since c.args.disk.now c.arm.new.disk c.fill.new.disk P a2
    (weaker g.D.Disk.moment g.D.Disk.left_since c.arm.new.disk c.fill.new.disk (λ x. (x.log ≡ l2.log) × PartlyFilled parts.main body x.main) P (after_filling parts.main body fit l2.log small l2.has) (c.fill.ensures.any_moment (record { main = parts.main; log = l2.log }) l2.settled))

pub returns-clause-any_moment : goal.returns-clause-any_moment
returns-clause-any_moment g c parts rest =
    let body : Body = body_of c.args.file.now c.args.ranges.now in
    let long : g.D.Disk.size c.args.disk.now Main ≡ length parts.main = if_some (g.D.Disk.seen c.args.disk.now) parts (λ ps. g.D.Disk.size c.args.disk.now Main ≡ length (part_of ps Main)) rest.settled.reads (g.met.D.Disk.sized c.args.disk.now Main) in
    let fit : fits (length parts.main) body.new_length body.members ≡ true = subst (λ (k : ℕ). fits k body.new_length body.members ≡ true) long c.requires.fit in
    let P = IsOldOrNew parts.main (filled parts.main body) in
    let small : IsSmall body = is_small (length parts.main) body (omega (arith, c.lay.ensures.small.0)) (omega (arith, c.lay.ensures.small.1, length-map c.args.ranges.now (member_of c.args.file.now))) fit in
    let l1 = c.in_ok-lay.ensures.laid parts rest in
    let a1 = weaker g.D.Disk.moment g.D.Disk.left_since c.args.disk.now c.lay.new.disk (IsShut parts.main) P (after_laying parts.main body fit) (c.lay.ensures.any_moment parts rest) in
    let a2 = chained g.D.Disk.moment g.D.Disk.left_since c.args.disk.now c.lay.new.disk c.arm.new.disk P a1
    (weaker g.D.Disk.moment g.D.Disk.left_since c.lay.new.disk c.arm.new.disk (IsShutOrOpen parts.main body) P (after_arming parts.main body fit) (c.arm.ensures.any_moment parts.main body l1.0 small l1.2)) in
    let l2 = c.in_ok-arm.ensures.armed parts.main body l1.0 l1.2 in
    let a3 = chained g.D.Disk.moment g.D.Disk.left_since c.args.disk.now c.arm.new.disk c.fill.new.disk P a2
    (weaker g.D.Disk.moment g.D.Disk.left_since c.arm.new.disk c.fill.new.disk (λ x. (x.log ≡ l2.log) × PartlyFilled parts.main body x.main) P (after_filling parts.main body fit l2.log small l2.has) (c.fill.ensures.any_moment (record { main = parts.main; log = l2.log }) l2.settled)) in
    let s3 = c.in_ok-fill.ensures.settled (record { main = parts.main; log = l2.log }) l2.settled.reads in
    chained g.D.Disk.moment g.D.Disk.left_since c.args.disk.now c.fill.new.disk c.disarm.new.disk P a3
    (weaker g.D.Disk.moment g.D.Disk.left_since c.fill.new.disk c.disarm.new.disk (IsShutOrOpen (filled parts.main body) body) P (after_disarming parts.main body fit)
    (c.disarm.ensures.any_moment (filled parts.main body) body 1 small (record { log = l2.log; settled = s3; has = l2.has })))

pub returns-clause-saved : goal.returns-clause-saved
returns-clause-saved g c =
    on_ok_weaker c.disarm.result
    (λ told parts rest.
    let body : Body = body_of c.args.file.now c.args.ranges.now in
    let l1 = c.in_ok-lay.ensures.laid parts rest in
    let l2 = c.in_ok-arm.ensures.armed parts.main body l1.0 l1.2 in
    let s3 = c.in_ok-fill.ensures.settled (record { main = parts.main; log = l2.log }) l2.settled.reads in
    let l4 = told (filled parts.main body) body 1 (record { log = l2.log; settled = s3; has = l2.has }) in
    record { parts = record { main = filled parts.main body; log = l4.log }; at_rest = at_rest g.D.Disk.seen g.D.Disk.may_leave c.disarm.new.disk (filled parts.main body) body l4; has = refl })
    c.disarm.ensures.disarmed
