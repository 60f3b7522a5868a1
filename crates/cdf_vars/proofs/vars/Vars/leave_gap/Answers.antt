use Rattle.cdf_vars.proofs.Common.{R, ap, cast_signed, cast_unsigned, is_max_rec, on_ok_weaker, subst, sym, true, w32, ℤ, ◌∙◌, ◌≡◌}
use Rattle.cdf_cuts.specs.Past.{CutPast, cut_off}
use Rattle.cdf_model.specs.RecordSteps.{last_number}
use Rattle.cdf_sparse.specs.Opening.{CutOpen}
use Rattle.cdf_vars.proofs.GapLeft.{below, follows_other, follows_same, knows_other, knows_same, left_good, left_places, left_short, left_vdr, mid_good, mid_short, mid_vdr, opening_fits, mid_unpacked}
use Rattle.cdf_vars.proofs.PutRead.{is_vdr}
use Rattle.cdf_vars.proofs.RecordsDeleted.{last_passed, last_ruled}
use Rattle.cdf_var_records.proofs.RecordReading.{record_size_is}
use Rattle.cdf_vars.proofs.ReindexAnswers.{vdr_in}
use Rattle.cdf_vars.proofs.vars.Vars.leave_gap.Given.{Over}
use Rattle.cdf_vars.proofs.vars.Vars.leave_gap.Goals.{After-last_number, In_ok-cut_past, In_ok-open_records}
use Rattle.cdf_vars.proofs.vars.Vars.leave_gap.Goals as goal

pub open_records-requires-clause-vdr : goal.open_records-requires-clause-vdr
open_records-requires-clause-vdr g c = vdr_in (is_vdr c.requires.good c.requires.target)

pub open_records-requires-clause-room : goal.open_records-requires-clause-room
open_records-requires-clause-room g c = opening_fits c.requires.good c.requires.target c.requires.order (c.record_size_of-rec_bytes.ensures ∙ record_size_is c.requires.good c.requires.target.is_form) c.requires.room

-- the records are cut out
abbrev Opened : (g : Over) → In_ok-open_records g → Type 0
Opened g c = let is = c.requires.target in CutOpen (g.A.Area.image c.args.area.now) (g.A.Area.image c.open_records.new.area) c.args.target.now.id.kind is.before is.own is.after c.args.first c.args.last

opened : (g : Over) (c : In_ok-open_records g) → Opened g c
opened g c = let is = c.requires.target in c.in_ok-open_records.ensures.opened c.args.target.now.id.kind is.before is.own is.after is.among is.vdr_is

pub cut_past-requires-clause-good : goal.cut_past-requires-clause-good
cut_past-requires-clause-good g c =
    let q = c.requires in
    mid_good q.good q.target q.rule q.count q.order q.has q.few q.end q.fewer (opened g (goal.at.cut_past-requires-clause-good g c).In_ok-open_records)

pub cut_past-requires-clause-vdr : goal.cut_past-requires-clause-vdr
cut_past-requires-clause-vdr g c =
    let q = c.requires in
    vdr_in (mid_vdr q.good q.target q.rule q.count q.order q.has q.few q.end q.fewer (opened g (goal.at.cut_past-requires-clause-vdr g c).In_ok-open_records))

pub cut_past-requires-clause-unpacked : goal.cut_past-requires-clause-unpacked
cut_past-requires-clause-unpacked g c = let q = c.requires in mid_unpacked q.good q.target q.rule q.count q.order q.has q.few q.end q.fewer (opened g (goal.at.cut_past-requires-clause-unpacked g c).In_ok-open_records)

pub cut_past-requires-clause-short : goal.cut_past-requires-clause-short
cut_past-requires-clause-short g c =
    let q = c.requires in
    mid_short q.good q.target q.rule q.count q.order q.has q.few q.end q.fewer (opened g (goal.at.cut_past-requires-clause-short g c).In_ok-open_records)

-- and so is what is past the last one left
abbrev Left : (g : Over) → In_ok-cut_past g → Type 0
Left g c =
    let is = c.requires.target in
    let x = opened g (goal.at.In_ok-cut_past g c).In_ok-open_records in
    CutPast (g.A.Area.image c.open_records.new.area) (g.A.Area.image c.cut_past.new.area) c.args.target.now.id.kind is.before x.own' (cut_off x.own' c.args.end) is.after c.args.end

left : (g : Over) (c : In_ok-cut_past g) → Left g c
left g c =
    let is = c.requires.target in
    let x = opened g (goal.at.In_ok-cut_past g c).In_ok-open_records in
    c.in_ok-cut_past.ensures.past c.args.target.now.id.kind is.before x.own' is.after x.opened.goes.among (x.opened.goes.vdr_is ∙ is.vdr_is)

pub returns-then-end-count-clause-follows : goal.returns-then-end-count-clause-follows
returns-then-end-count-clause-follows g c name named =
    let q = c.requires in
    let at = goal.at.returns-then-end-count-clause-follows g c in
    follows_same q.good q.target q.rule q.count q.order q.has q.few q.end q.fewer (opened g at.In_ok-open_records) (left g at.In_ok-cut_past) c.if-end-count.true name named

pub returns-then-end-count-clause-known : goal.returns-then-end-count-clause-known
returns-then-end-count-clause-known g c =
    let q = c.requires in
    let at = goal.at.returns-then-end-count-clause-known g c in
    knows_same q.good q.target q.rule q.count q.order q.has q.few q.end q.fewer (opened g at.In_ok-open_records) (left g at.In_ok-cut_past) c.if-end-count.true q.known

pub write_max_rec-requires-clause-good : goal.write_max_rec-requires-clause-good
write_max_rec-requires-clause-good g c =
    let q = c.requires in
    let at = goal.at.write_max_rec-requires-clause-good g c in
    left_good q.good q.target q.rule q.count q.order q.has q.few q.end q.fewer (opened g at.In_ok-open_records) (left g at.In_ok-cut_past)

pub write_max_rec-requires-clause-places : goal.write_max_rec-requires-clause-places
write_max_rec-requires-clause-places g c =
    let q = c.requires in
    let at = goal.at.write_max_rec-requires-clause-places g c in
    q.known.r_known.places_are ∙ left_places q.good q.target q.rule q.count q.order q.has q.few q.end q.fewer (opened g at.In_ok-open_records) (left g at.In_ok-cut_past) R

pub write_max_rec-requires-clause-short : goal.write_max_rec-requires-clause-short
write_max_rec-requires-clause-short g c =
    let q = c.requires in
    let at = goal.at.write_max_rec-requires-clause-short g c in
    left_short q.good q.target q.rule q.count q.order q.has q.few q.end q.fewer (opened g at.In_ok-open_records) (left g at.In_ok-cut_past)

pub write_max_rec-requires-clause-vdr : goal.write_max_rec-requires-clause-vdr
write_max_rec-requires-clause-vdr g c =
    let q = c.requires in
    let at = goal.at.write_max_rec-requires-clause-vdr g c in
    left_vdr q.good q.target q.rule q.count q.order q.has q.few q.end q.fewer (opened g at.In_ok-open_records) (left g at.In_ok-cut_past)

-- the number that MaxRec becomes
passed : (g : Over) (c : After-last_number g) → cast_signed w32 (cast_unsigned w32 c.last_number.result) ≡ last_number c.args.end
passed g c = last_passed c.args.end (below c.args.end c.args.count c.requires.few c.requires.fewer c.if-end-count.false) c.last_number.ensures

pub write_max_rec-requires-clause-ruled : goal.write_max_rec-requires-clause-ruled
write_max_rec-requires-clause-ruled g c =
    subst (λ (z : ℤ). is_max_rec (cast_unsigned w32 z) ≡ true) (sym (passed g (goal.at.write_max_rec-requires-clause-ruled g c).After-last_number)) (last_ruled c.args.end (below c.args.end c.args.count c.requires.few c.requires.fewer c.if-end-count.false))

pub returns-clause-follows : goal.returns-clause-follows
returns-clause-follows g c =
    let q = c.requires in
    let at = goal.at.returns-clause-follows g c in
    let r_is = ap (cast_unsigned w32) (passed g at.After-last_number) in
    on_ok_weaker c.write_max_rec.result (λ writes name named. follows_other q.good q.target q.rule q.count q.order q.has q.few q.end q.fewer (opened g at.In_ok-open_records) (left g at.In_ok-cut_past) c.if-end-count.false r_is writes name named) c.write_max_rec.ensures.written

pub returns-clause-known : goal.returns-clause-known
returns-clause-known g c =
    let q = c.requires in
    let at = goal.at.returns-clause-known g c in
    let r_is = ap (cast_unsigned w32) (passed g at.After-last_number) in
    on_ok_weaker c.write_max_rec.result (λ writes. knows_other q.good q.target q.rule q.count q.order q.has q.few q.end q.fewer (opened g at.In_ok-open_records) (left g at.In_ok-cut_past) c.if-end-count.false r_is writes q.known) c.write_max_rec.ensures.written
