use Rattle.cdf_vars.proofs.Common.{NoSuchVar, NumberOutOfRange, SetBlocking, arith, lt-ltb, refl, refused, signed_limit, sym, vdr_blocking_factor, ◌∙◌}
use Rattle.cdf_vars.proofs.VariableFound.{blocking_done, blocking_knows, field_lies, none_found, the_parts, within_places}
use Rattle.cdf_vars.proofs.vars.Vars.set_blocking.Goals as goal

pub returns-in_default-clause-answers : goal.returns-in_default-clause-answers
returns-in_default-clause-answers g c = refused _ _ (SetBlocking c.args.name.now c.args.n) NoSuchVar (rw (none_found _ c.args.self.now c.args.name.now c.requires.known (sym c.find.ensures.found ∙ c.in_default.is)) refl)

pub returns-then-n-gt-SIGNED_LIMIT-clause-answers : goal.returns-then-n-gt-SIGNED_LIMIT-clause-answers
returns-then-n-gt-SIGNED_LIMIT-clause-answers g c =
    refused _ _ (SetBlocking c.args.name.now c.args.n) NumberOutOfRange (rw ((the_parts c.args.name.now c.requires.good c.requires.known (sym c.find.ensures.found ∙ c.in-Some.is)).named, lt-ltb signed_limit c.args.n c.if-n-gt-SIGNED_LIMIT.true) refl)

pub place_of-requires : goal.place_of-requires
place_of-requires g c = within_places c.args.name.now c.requires.good c.requires.known (sym c.find.ensures.found ∙ c.in-Some.is)

pub set_vdr_blocking_factor-requires : goal.set_vdr_blocking_factor-requires
set_vdr_blocking_factor-requires g c = rw c.place_of.ensures (field_lies c.args.name.now c.requires.good c.requires.known (sym c.find.ensures.found ∙ c.in-Some.is) vdr_blocking_factor (omega arith))

pub returns-clause-answers : goal.returns-clause-answers
returns-clause-answers g c = blocking_done c.args.name.now c.requires.good c.requires.known (sym c.find.ensures.found ∙ c.in-Some.is) c.args.n c.if-n-gt-SIGNED_LIMIT.false c.place_of.ensures c.in_ok-set_vdr_blocking_factor.ensures.ok _ c.requires.fits c.requires.limit

pub returns-clause-known : goal.returns-clause-known
returns-clause-known g c = blocking_knows c.args.name.now c.requires.good c.requires.known (sym c.find.ensures.found ∙ c.in-Some.is) c.args.n c.if-n-gt-SIGNED_LIMIT.false c.place_of.ensures c.in_ok-set_vdr_blocking_factor.ensures.ok
