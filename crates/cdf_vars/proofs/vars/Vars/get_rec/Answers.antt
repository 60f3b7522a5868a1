use Rattle.cdf_vars.proofs.Common.{GetRec, List, image_limit, length, ◌≤◌, NoSuchVar, RecordOutOfRange, ap, arith, lt-ltb, read, record_number_limit, refl, refused, variable_at, ℕ, ◌∙◌}
use Rattle.cdf_vars.proofs.PutRead.{form_vdr}
use Rattle.cdf_vars.proofs.RecordAnswers.{shown_rec}
use Rattle.cdf_vars.proofs.vars.Vars.get_rec.Goals as goal

pub returns-in-Missing-clause-answers : goal.returns-in-Missing-clause-answers
returns-in-Missing-clause-answers g c =
    let none = rw c.in-Missing.is at c.in_ok-form.ensures.form in
    rw (c.find_form.ensures.area.image) (refused _ _ (GetRec c.args.name.now c.args.rec) NoSuchVar (rw none refl))

pub returns-then-rec-gt-RECORD_NUMBER_LIMIT-clause-answers : goal.returns-then-rec-gt-RECORD_NUMBER_LIMIT-clause-answers
returns-then-rec-gt-RECORD_NUMBER_LIMIT-clause-answers g c =
    let has = rw c.in-Found.is at c.in_ok-form.ensures.form in
    rw (c.find_form.ensures.area.image) (refused _ _ (GetRec c.args.name.now c.args.rec) RecordOutOfRange (rw (has.named, lt-ltb record_number_limit c.args.rec c.if-rec-gt-RECORD_NUMBER_LIMIT.true) refl))

pub read_record-requires : goal.read_record-requires
read_record-requires g c =
    let has = rw c.in-Found.is at c.in_ok-form.ensures.form in
    rw (c.find_start.ensures.area.image, c.find_form.ensures.area.image) (record { good = c.requires.good; short = (let fits = c.requires.fits in let limit = c.requires.limit in omega arith); form = has.is_form; kept = c.requires.view.unpacked; known = rw (c.find_form.ensures.area.image) at c.in_ok-known.ensures.start })

pub returns-clause-answers : goal.returns-clause-answers
returns-clause-answers g c =
    let has = rw c.in-Found.is at c.in_ok-form.ensures.form in
    let bytes = c.new.ensures ∙ c.in_ok-record.ensures.record ∙ ap (λ (x : List ℕ). read (variable_at x c.in-Found.form.place.vdr) c.args.rec) (c.find_start.ensures.area.image ∙ c.find_form.ensures.area.image) in
    rw (c.read_record.ensures.area.image, c.find_start.ensures.area.image, c.find_form.ensures.area.image) (shown_rec (g.A.Area.frame c.args.area.now).limit has c.requires.good c.requires.fits c.if-rec-gt-RECORD_NUMBER_LIMIT.false bytes)

pub find_start-requires : goal.find_start-requires
find_start-requires g c =
    let has = rw c.in-Found.is at c.in_ok-form.ensures.form in
    let short : length (g.A.Area.image c.args.area.now) ≤ image_limit = omega (arith, c.requires.fits, c.requires.limit) in
    rw (c.find_form.ensures.area.image) (record { good = c.requires.good; short = short; vdr = form_vdr c.requires.good has.is_form; known = c.requires.starts })
