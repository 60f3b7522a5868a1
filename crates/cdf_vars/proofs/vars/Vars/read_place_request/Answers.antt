use Rattle.cdf_vars.proofs.Common.{IndexOutOfRange, List, PutVal, RecordOutOfRange, ap, content, drop, length, place, read, refl, refused, sym, take, values_fit, variable_at, ℕ, ◌*◌, ◌++◌, ◌+◌, ◌∙◌, ◌≡◌, ◌≤◌}
use Rattle.cdf_area.proofs.Calls.{read_more, read_once, read_without_memory}
use Rattle.cdf_vars.proofs.PutRequests.{val_may}
use Rattle.cdf_vars.proofs.RecordPlaces.{inside, named_formed}
use Rattle.cdf_vars.proofs.vars.Vars.read_place_request.Given.{Over}
use Rattle.cdf_vars.proofs.vars.Vars.read_place_request.Goals.{After-place_of, After-value_size-size}
use Rattle.cdf_vars.proofs.vars.Vars.read_place_request.Goals as goal

at : (g : Over) (c : After-place_of g) → place (content (g.A.Area.image c.args.area.now)).majority c.args.target.form.shape.dims c.args.target.form.shape.varys c.args.index.now ≡ c.place_of.result
at g c =
    let shape = c.args.target.form.shape in
    let majority = c.in_ok-majority.ensures.majority in
    let index = c.as_slice.ensures in
    (λ i. place (sym majority i) shape.dims shape.varys (sym index i)) ∙ sym c.place_of.ensures

-- what was read, and that the value lies in it
record_is : (g : Over) (c : After-value_size-size g) → c.in_ok-record.record.items ≡ read (variable_at (g.A.Area.image c.args.area.now) c.args.target.form.place.vdr) c.args.rec
record_is g c = c.in_ok-record.ensures.record ∙ ap (λ (x : List ℕ). read (variable_at x c.args.target.form.place.vdr) c.args.rec) c.read_majority.ensures.area.image

value_inside : (g : Over) (c : After-value_size-size g) → c.in-Some.number * c.value_size-size.result + c.value_size-size.result ≤ length c.in_ok-record.record.items
value_inside g c =
    let there = at g (goal.at.After-value_size-size g c).After-place_of ∙ c.in-Some.is in
    inside c.requires.target.is_form c.requires.good c.args.rec (content (g.A.Area.image c.args.area.now)).majority c.args.index.now (record_is g c) c.value_size-size.ensures there

pub place_of-requires : goal.place_of-requires
place_of-requires g c = let shaped = c.requires.target.is_form.shaped in record { one_each = shaped.one_each; fits = values_fit c.args.target.form.shape shaped }

pub returns-in_default-clause-request : goal.returns-in_default-clause-request
returns-in_default-clause-request g c name words h says limit =
    let outside = at g (goal.at.returns-in_default-clause-request g c).After-place_of ∙ c.in_default.is in
    refused limit _ (PutVal name c.args.rec c.args.index.now words) IndexOutOfRange (rw (named_formed c.requires.target.is_form name h.named, says, outside) refl)

pub returns-then-is_out_of_range-clause-request : goal.returns-then-is_out_of_range-clause-request
returns-then-is_out_of_range-clause-request g c name words h says limit =
    let there = at g (goal.at.returns-then-is_out_of_range-clause-request g c).After-place_of ∙ c.in-Some.is in
    let over = sym (c.is_out_of_range.ensures (g.A.Area.image c.args.area.now) c.requires.target.is_form) ∙ c.if-is_out_of_range.true in
    refused limit _ (PutVal name c.args.rec c.args.index.now words) RecordOutOfRange (rw (named_formed c.requires.target.is_form name h.named, says, there, over) refl)

pub read_record-requires : goal.read_record-requires
read_record-requires g c = rw (c.read_majority.ensures.area.image) (record { good = c.requires.good; short = c.requires.short; form = c.requires.target.is_form; kept = c.new-unpacked.ensures (g.A.Area.image c.args.area.now); known = c.requires.start })

pub with_value-requires : goal.with_value-requires
with_value-requires g c = record { inside = rw c.deref.ensures.value (value_inside g (goal.at.with_value-requires g c).After-value_size-size) }

pub returns-clause-request : goal.returns-clause-request
returns-clause-request g c name words h says =
    let read = (goal.at.returns-clause-request g c).After-value_size-size in
    let there = at g (goal.at.returns-clause-request g c).After-place_of ∙ c.in-Some.is in
    let size = c.value_size-size.result in
    let made = c.in_ok-bytes.ensures ∙ ap (λ (xs : List ℕ). take (c.in-Some.number * size) xs ++ c.args.value.now ++ drop ((c.in-Some.number + 1) * size) xs) c.deref.ensures.value in
    let can = sym (c.is_out_of_range.ensures (g.A.Area.image c.args.area.now) c.requires.target.is_form) ∙ c.if-is_out_of_range.false in
    val_may h c.args.rec c.requires.good can words c.args.index.now there c.value_size-size.ensures c.in_ok-record.record.items (record_is g read) (value_inside g read)
    c.args.value.now c.in_ok-bytes.bytes.items says (c.requires.long ∙ sym c.value_size-size.ensures) made

pub returns-in_err-bytes-clause-area : goal.returns-in_err-bytes-clause-area
returns-in_err-bytes-clause-area g c = read_without_memory (read_more (read_once c.in_ok-majority.ensures.area) c.in_ok-record.ensures.area) c.from_residual-in_err-bytes.ensures.1
