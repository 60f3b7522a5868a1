use Rattle.cdf_vars.proofs.Common.{List, NoSuchVar, SetPad, ap, cdr_fits, is_little, length, refl, refused, subst, sym, ℕ, ◌∙◌, ◌≤◌}
use Rattle.cdf_vars.proofs.PadRequests.{elements, may, no_value}
use Rattle.cdf_vars.proofs.VariableFound.{is_vdr, missing, placed}
use Rattle.cdf_vars.proofs.vars.Vars.read_request.Goals as goal

pub returns-in_default-clause-request : goal.returns-in_default-clause-request
returns-in_default-clause-request g c limit = refused limit _ (SetPad c.args.name.now c.args.words.now) NoSuchVar (rw (missing c.args.name.now c.requires.known c.find.ensures.found c.in_default.is) refl)

pub place_of-vdr-requires : goal.place_of-vdr-requires
place_of-vdr-requires g c = placed c.args.name.now c.requires.known c.find.ensures.found c.requires.good c.in-Some.is

pub read_pad_place-requires-clause-vdr : goal.read_pad_place-requires-clause-vdr
read_pad_place-requires-clause-vdr g c = is_vdr c.args.name.now c.requires.known c.find.ensures.found c.requires.good c.in-Some.is c.place_of-vdr.ensures

pub read_encoding-requires : goal.read_encoding-requires
read_encoding-requires g c = subst (λ (x : List ℕ). 320 ≤ length x) (sym c.read_pad_place.ensures.area.image) (cdr_fits _ c.requires.good)

pub read_pad-requires : goal.read_pad-requires
read_pad-requires g c = elements c.args.name.now c.args.words.now c.requires.known c.find.ensures.found c.requires.good c.in-Some.is c.place_of-vdr.ensures c.in_ok-place.ensures.place

pub returns-in-Ok-clause-request : goal.returns-in-Ok-clause-request
returns-in-Ok-clause-request g c =
    may c.args.name.now c.args.words.now c.requires.known c.find.ensures.found c.requires.good c.in-Some.is c.place_of-vdr.ensures c.in_ok-place.ensures.place
    c.in_ok-encoding.encoding.little c.in-Ok.bytes.items (c.in_ok-encoding.ensures.order ∙ ap is_little c.read_pad_place.ensures.area.image) c.in-Ok.ensures.ok

pub returns-in_ok-reason_of-in-Err-clause-request : goal.returns-in_ok-reason_of-in-Err-clause-request
returns-in_ok-reason_of-in-Err-clause-request g c =
    no_value c.args.name.now c.args.words.now c.requires.known c.find.ensures.found c.requires.good c.in-Some.is c.place_of-vdr.ensures c.in_ok-place.ensures.place
    c.in-Err.error c.in_ok-reason_of-in-Err.field-0 c.in-Err.ensures.err c.in_ok-reason_of-in-Err.ensures.reason
