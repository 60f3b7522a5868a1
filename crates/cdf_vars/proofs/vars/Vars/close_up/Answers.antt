use Rattle.cdf_vars.proofs.Common.{R, ap, arith, is_max_rec, on_ok_weaker, subst, sym, true, ℤ, ◌+◌, ◌-◌, ◌∙◌, ◌≡◌}
use Rattle.cdf_model.specs.RecordSteps.{last_number}
use Rattle.std.proofs.Common.{w32}
use Rattle.std.specs.Int.{cast_signed, cast_unsigned}
use Rattle.cdf_vars.proofs.ReindexAnswers.{vdr_in}
use Rattle.cdf_vars.proofs.PutRead.{is_vdr}
use Rattle.cdf_vars.proofs.RecordsDeleted.{deleted, known_then, last_passed, last_ruled, one_good, one_places, one_short, one_vdr}
use Rattle.cdf_vars.proofs.vars.Vars.close_up.Given.{Over}
use Rattle.cdf_vars.proofs.vars.Vars.close_up.Goals.{After-last_number, In_ok-close_records}
use Rattle.cdf_cuts.specs.Closing.{RecordsClosed}
use Rattle.cdf_vars.proofs.vars.Vars.close_up.Goals as goal

pub close_records-requires-clause-vdr : goal.close_records-requires-clause-vdr
close_records-requires-clause-vdr g c = vdr_in (is_vdr c.requires.good c.requires.target)

-- the records went from the index
gone : (g : Over) (c : In_ok-close_records g) → RecordsClosed (g.A.Area.image c.args.area.now) (g.A.Area.image c.close_records.new.area) c.args.target.now.id.kind c.requires.target.before c.requires.target.own c.requires.target.after c.args.first c.args.last
gone g c = let is = c.requires.target in c.in_ok-close_records.ensures.closed c.args.target.now.id.kind is.before is.own is.after is.among is.vdr_is

pub write_max_rec-requires-clause-good : goal.write_max_rec-requires-clause-good
write_max_rec-requires-clause-good g c = one_good c.requires.good c.requires.target c.requires.free c.requires.count c.requires.order c.requires.has c.requires.few (gone g (goal.at.write_max_rec-requires-clause-good g c).In_ok-close_records)

pub write_max_rec-requires-clause-places : goal.write_max_rec-requires-clause-places
write_max_rec-requires-clause-places g c = c.requires.known.r_known.places_are ∙ one_places c.requires.good c.requires.target c.requires.free c.requires.count c.requires.order c.requires.has c.requires.few (gone g (goal.at.write_max_rec-requires-clause-places g c).In_ok-close_records) R

pub write_max_rec-requires-clause-short : goal.write_max_rec-requires-clause-short
write_max_rec-requires-clause-short g c = one_short c.requires.good c.requires.target c.requires.free c.requires.count c.requires.order c.requires.has c.requires.few (gone g (goal.at.write_max_rec-requires-clause-short g c).In_ok-close_records)

pub write_max_rec-requires-clause-vdr : goal.write_max_rec-requires-clause-vdr
write_max_rec-requires-clause-vdr g c = one_vdr c.requires.good c.requires.target c.requires.free c.requires.count c.requires.order c.requires.has c.requires.few (gone g (goal.at.write_max_rec-requires-clause-vdr g c).In_ok-close_records)

-- the number that MaxRec becomes
passed : (g : Over) (c : After-last_number g) → cast_signed w32 (cast_unsigned w32 c.last_number.result) ≡ last_number (c.args.count - (c.args.last + 1 - c.args.first))
passed g c = last_passed (c.args.count - (c.args.last + 1 - c.args.first)) (omega (arith, c.requires.order, c.requires.has, c.requires.few)) c.last_number.ensures

pub write_max_rec-requires-clause-ruled : goal.write_max_rec-requires-clause-ruled
write_max_rec-requires-clause-ruled g c =
    subst (λ (z : ℤ). is_max_rec (cast_unsigned w32 z) ≡ true) (sym (passed g (goal.at.write_max_rec-requires-clause-ruled g c).After-last_number)) (last_ruled (c.args.count - (c.args.last + 1 - c.args.first)) (omega (arith, c.requires.order, c.requires.has, c.requires.few)))

pub returns-clause-follows : goal.returns-clause-follows
returns-clause-follows g c =
    let r_is = ap (cast_unsigned w32) (passed g (goal.at.returns-clause-follows g c).After-last_number) in
    on_ok_weaker c.write_max_rec.result (λ writes name named. deleted c.requires.good c.requires.target c.requires.free c.requires.count c.requires.order c.requires.has c.requires.few (gone g (goal.at.returns-clause-follows g c).In_ok-close_records) r_is writes name named) c.write_max_rec.ensures.written

pub returns-clause-known : goal.returns-clause-known
returns-clause-known g c =
    let r_is = ap (cast_unsigned w32) (passed g (goal.at.returns-clause-known g c).After-last_number) in
    on_ok_weaker c.write_max_rec.result (λ writes. known_then c.requires.good c.requires.target c.requires.free c.requires.count c.requires.order c.requires.has c.requires.few (gone g (goal.at.returns-clause-known g c).In_ok-close_records) r_is writes c.requires.known) c.write_max_rec.ensures.written
