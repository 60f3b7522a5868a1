use Rattle.cdf_vars.proofs.Common.{IfOk-weaker, List, NoSuchVar, Ok, PutVal, ap, length, read_more, read_once, read_without_memory, refl, refused, sym, ℕ, ◌∙◌}
use Rattle.cdf_vars.proofs.PutRequests.{one_long}
use Rattle.cdf_vars.proofs.PutRead.{form_vdr}
use Rattle.cdf_vars.proofs.RecordPlaces.{named_formed}
use Rattle.cdf_vars.proofs.vars.Vars.read_value_request.Goals as goal

pub returns-in_default-clause-request : goal.returns-in_default-clause-request
returns-in_default-clause-request g c limit =
    let none = rw c.in_default.is at c.in_ok-target.ensures.target in
    refused limit _ (PutVal c.args.name.now c.args.rec c.args.index.now c.args.words.now) NoSuchVar (rw none refl)

pub find_start-requires : goal.find_start-requires
find_start-requires g c =
    let has = rw c.in-Some.is at c.in_ok-target.ensures.target in
    rw (c.find_target.ensures.area.image) (record { good = c.requires.good; short = c.requires.short; vdr = form_vdr c.requires.good has.is.is_form; known = c.requires.starts })

pub read_place_request-requires : goal.read_place_request-requires
read_place_request-requires g c =
    let has = rw c.in-Some.is at c.in_ok-target.ensures.target in
    let long = ap (λ (x : List ℕ). length x) c.deref.ensures.value ∙ one_long has c.args.rec c.requires.good c.args.words.now c.in-Ok.value.items c.in-Ok.ensures.ok in
    rw (c.find_start.ensures.area.image, c.find_target.ensures.area.image) (record { good = c.requires.good; short = c.requires.short; target = has.is; start = rw (c.find_target.ensures.area.image) at c.in_ok-known.ensures.start; long = long })

pub returns-in-Ok-clause-request : goal.returns-in-Ok-clause-request
returns-in-Ok-clause-request g c =
    let has = rw c.in-Some.is at c.in_ok-target.ensures.target in
    let requests = rw (c.find_start.ensures.area.image, c.find_target.ensures.area.image) at c.read_place_request.ensures.request in
    IfOk-weaker c.read_place_request.result _ _ (λ request asks. asks c.args.name.now c.args.words.now has (c.in-Ok.ensures.ok ∙ ap Ok (sym c.deref.ensures.value))) requests

pub returns-in_ok-reason_of-in-Err-clause-request : goal.returns-in_ok-reason_of-in-Err-clause-request
returns-in_ok-reason_of-in-Err-clause-request g c limit =
    let has = rw c.in-Some.is at c.in_ok-target.ensures.target in
    let why = c.in_ok-reason_of-in-Err.ensures.reason _ c.in-Err.ensures.err in
    refused limit _ (PutVal c.args.name.now c.args.rec c.args.index.now c.args.words.now) c.in_ok-reason_of-in-Err.field-0 (rw (named_formed has.is.is_form c.args.name.now has.named, why) refl)

pub returns-in_err-reason_of-in-Err-clause-area : goal.returns-in_err-reason_of-in-Err-clause-area
returns-in_err-reason_of-in-Err-clause-area g c = read_without_memory (read_more (read_once c.in_ok-target.ensures.area) c.in_ok-known.ensures.area) (rw c.in_err-reason_of-in-Err.ensures.memory at c.from_residual-in_err-reason_of-in-Err.ensures.1)
