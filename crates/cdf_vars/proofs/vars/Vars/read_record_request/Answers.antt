use Rattle.cdf_vars.proofs.Common.{NoSuchVar, PutRec, RecordOutOfRange, read_once, read_without_memory, refl, refused, sym, ◌∙◌}
use Rattle.cdf_vars.proofs.PutRequests.{rec_may}
use Rattle.cdf_vars.proofs.RecordPlaces.{named_formed}
use Rattle.cdf_vars.proofs.vars.Vars.read_record_request.Goals as goal

pub returns-in_default-clause-request : goal.returns-in_default-clause-request
returns-in_default-clause-request g c limit =
    let none = rw c.in_default.is at c.in_ok-target.ensures.target in
    refused limit _ (PutRec c.args.name.now c.args.rec c.args.words.now) NoSuchVar (rw none refl)

pub returns-then-is_out_of_range-clause-request : goal.returns-then-is_out_of_range-clause-request
returns-then-is_out_of_range-clause-request g c limit =
    let has = rw c.in-Some.is at c.in_ok-target.ensures.target in
    let over = sym (c.is_out_of_range.ensures (g.A.Area.image c.args.area.now) has.is.is_form) ∙ c.if-is_out_of_range.true in
    refused limit _ (PutRec c.args.name.now c.args.rec c.args.words.now) RecordOutOfRange (rw (named_formed has.is.is_form c.args.name.now has.named, ← c.values_of.ensures, c.in-Ok.ensures.ok, over) refl)

pub returns-else-is_out_of_range-clause-request : goal.returns-else-is_out_of_range-clause-request
returns-else-is_out_of_range-clause-request g c =
    let has = rw c.in-Some.is at c.in_ok-target.ensures.target in
    let can = sym (c.is_out_of_range.ensures (g.A.Area.image c.args.area.now) has.is.is_form) ∙ c.if-is_out_of_range.false in
    rec_may has c.args.rec c.requires.good can c.args.words.now c.values_of.ensures c.in-Ok.bytes.items c.in-Ok.ensures.ok

pub returns-in_ok-reason_of-in-Err-clause-request : goal.returns-in_ok-reason_of-in-Err-clause-request
returns-in_ok-reason_of-in-Err-clause-request g c limit =
    let has = rw c.in-Some.is at c.in_ok-target.ensures.target in
    let why = c.in_ok-reason_of-in-Err.ensures.reason _ c.in-Err.ensures.err in
    refused limit _ (PutRec c.args.name.now c.args.rec c.args.words.now) c.in_ok-reason_of-in-Err.field-0 (rw (named_formed has.is.is_form c.args.name.now has.named, ← c.values_of.ensures, why) refl)

pub returns-in_err-reason_of-in-Err-clause-area : goal.returns-in_err-reason_of-in-Err-clause-area
returns-in_err-reason_of-in-Err-clause-area g c = read_without_memory (read_once c.in_ok-target.ensures.area) (rw c.in_err-reason_of-in-Err.ensures.memory at c.from_residual-in_err-reason_of-in-Err.ensures.1)
