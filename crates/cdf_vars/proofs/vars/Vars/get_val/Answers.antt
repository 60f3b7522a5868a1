use Rattle.cdf_vars.proofs.Common.{GetVal, HasForm, IndexOutOfRange, List, NoSuchVar, RecordOutOfRange, ap, arith, content, drop, image_limit, length, lt-ltb, place, read, record_number_limit, refl, refused, sym, take, values_fit, variable_at, ℕ, ◌*◌, ◌+◌, ◌∙◌, ◌≡◌, ◌≤◌}
use Rattle.cdf_vars.proofs.PutRead.{form_vdr}
use Rattle.cdf_vars.proofs.RecordAnswers.{shown_val}
use Rattle.cdf_vars.proofs.RecordPlaces.{inside, named_formed}
use Rattle.cdf_vars.proofs.vars.Vars.get_val.Given.{Over}
use Rattle.cdf_vars.proofs.vars.Vars.get_val.Goals.{In-Found, After-place_of, In_ok-record, After-value_size-size}
use Rattle.cdf_vars.proofs.vars.Vars.get_val.Goals as goal

has : (g : Over) (c : In-Found g) → HasForm (g.A.Area.image c.args.area.now) c.args.name.now c.in-Found.form
has g c = rw c.in-Found.is at c.in_ok-form.ensures.form

at : (g : Over) (c : After-place_of g) → place (content (g.A.Area.image c.args.area.now)).majority c.in-Found.form.shape.dims c.in-Found.form.shape.varys c.args.index.now ≡ c.place_of.result
at g c =
    let shape = c.in-Found.form.shape in
    let majority = c.in_ok-majority.ensures.majority ∙ ap (λ (x : List ℕ). (content x).majority) c.find_form.ensures.area.image in
    let index = c.as_slice.ensures in
    (λ i. place (sym majority i) shape.dims shape.varys (sym index i)) ∙ sym c.place_of.ensures

record_is : (g : Over) (c : In_ok-record g) → c.in_ok-record.record.items ≡ read (variable_at (g.A.Area.image c.args.area.now) c.in-Found.form.place.vdr) c.args.rec
record_is g c = c.in_ok-record.ensures.record ∙ ap (λ (x : List ℕ). read (variable_at x c.in-Found.form.place.vdr) c.args.rec) (c.find_start.ensures.area.image ∙ c.read_majority.ensures.area.image ∙ c.find_form.ensures.area.image)

value_inside : (g : Over) (c : After-value_size-size g) → c.in-Some.number * c.value_size-size.result + c.value_size-size.result ≤ length c.in_ok-record.record.items
value_inside g c =
    let b = g.A.Area.image c.args.area.now in
    let there = at g (goal.at.After-value_size-size g c).After-place_of ∙ c.in-Some.is in
    inside (has g (goal.at.After-value_size-size g c).In-Found).is_form c.requires.good c.args.rec (content b).majority c.args.index.now
    (record_is g (goal.at.After-value_size-size g c).In_ok-record) c.value_size-size.ensures there

pub returns-in-Missing-clause-answers : goal.returns-in-Missing-clause-answers
returns-in-Missing-clause-answers g c =
    let none = rw c.in-Missing.is at c.in_ok-form.ensures.form in
    rw (c.find_form.ensures.area.image) (refused _ _ (GetVal c.args.name.now c.args.rec c.args.index.now) NoSuchVar (rw none refl))

pub read_majority-requires : goal.read_majority-requires
read_majority-requires g c = rw (c.find_form.ensures.area.image) c.requires.good

pub place_of-requires : goal.place_of-requires
place_of-requires g c = let shaped = (has g (goal.at.place_of-requires g c).In-Found).is_form.shaped in record { one_each = shaped.one_each; fits = values_fit c.in-Found.form.shape shaped }

pub returns-in_default-clause-answers : goal.returns-in_default-clause-answers
returns-in_default-clause-answers g c =
    let h = has g (goal.at.returns-in_default-clause-answers g c).In-Found in
    let outside = at g (goal.at.returns-in_default-clause-answers g c).After-place_of ∙ c.in_default.is in
    rw (c.read_majority.ensures.area.image, c.find_form.ensures.area.image)
    (refused _ _ (GetVal c.args.name.now c.args.rec c.args.index.now) IndexOutOfRange (rw (named_formed h.is_form c.args.name.now h.named, outside) refl))

pub returns-then-rec-gt-RECORD_NUMBER_LIMIT-clause-answers : goal.returns-then-rec-gt-RECORD_NUMBER_LIMIT-clause-answers
returns-then-rec-gt-RECORD_NUMBER_LIMIT-clause-answers g c =
    let h = has g (goal.at.returns-then-rec-gt-RECORD_NUMBER_LIMIT-clause-answers g c).In-Found in
    let there = at g (goal.at.returns-then-rec-gt-RECORD_NUMBER_LIMIT-clause-answers g c).After-place_of ∙ c.in-Some.is in
    let over = lt-ltb record_number_limit c.args.rec c.if-rec-gt-RECORD_NUMBER_LIMIT.true in
    rw (c.read_majority.ensures.area.image, c.find_form.ensures.area.image)
    (refused _ _ (GetVal c.args.name.now c.args.rec c.args.index.now) RecordOutOfRange (rw (named_formed h.is_form c.args.name.now h.named, there, over) refl))

pub read_record-requires : goal.read_record-requires
read_record-requires g c =
    let short : length (g.A.Area.image c.args.area.now) ≤ image_limit = omega (arith, c.requires.fits, c.requires.limit) in
    rw (c.find_start.ensures.area.image, c.read_majority.ensures.area.image, c.find_form.ensures.area.image) (record { good = c.requires.good; short = short; form = (has g (goal.at.read_record-requires g c).In-Found).is_form; kept = c.requires.view.unpacked; known = rw (c.read_majority.ensures.area.image, c.find_form.ensures.area.image) at c.in_ok-known.ensures.start })

pub overflow_mul-number : goal.overflow_mul-number
overflow_mul-number g c = omega (arith, value_inside g (goal.at.overflow_mul-number g c).After-value_size-size, c.in_ok-record.record.ok)

pub piece-requires : goal.piece-requires
piece-requires g c = rw c.deref.ensures.value (value_inside g (goal.at.piece-requires g c).After-value_size-size)

pub returns-clause-answers : goal.returns-clause-answers
returns-clause-answers g c =
    let h = has g (goal.at.returns-clause-answers g c).In-Found in
    let there = at g (goal.at.returns-clause-answers g c).After-place_of ∙ c.in-Some.is in
    let size = c.value_size-size.result in
    let value = c.new.ensures ∙ c.in_ok-value.ensures ∙ ap (λ (xs : List ℕ). take size (drop (c.in-Some.number * size) xs)) c.deref.ensures.value in
    let bytes = record_is g (goal.at.returns-clause-answers g c).In_ok-record in
    rw (c.read_record.ensures.area.image, c.find_start.ensures.area.image, c.read_majority.ensures.area.image, c.find_form.ensures.area.image)
    (shown_val (g.A.Area.frame c.args.area.now).limit h c.requires.good c.requires.fits c.if-rec-gt-RECORD_NUMBER_LIMIT.false bytes c.args.index.now there c.value_size-size.ensures c.new.result value)

pub find_start-requires : goal.find_start-requires
find_start-requires g c =
    let h = has g (goal.at.find_start-requires g c).In-Found in
    let short : length (g.A.Area.image c.args.area.now) ≤ image_limit = omega (arith, c.requires.fits, c.requires.limit) in
    rw (c.read_majority.ensures.area.image, c.find_form.ensures.area.image) (record { good = c.requires.good; short = short; vdr = form_vdr c.requires.good h.is_form; known = c.requires.starts })
