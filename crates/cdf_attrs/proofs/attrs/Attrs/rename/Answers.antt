use Rattle.cdf_attrs.proofs.Common.{In, List, [], ap, arith, good_is_sound, last_removed, last_to, length, refl, remove, shape, slice_index, subst, sym, ℕ, ◌++◌, ◌+◌, ◌<◌, ◌∙◌, ◌∷◌, ◌≡◌}
use Rattle.std.proofs.Common.{length-append}
use Rattle.cdf_attrs.proofs.AttributeChain.{name_lies, index_in}
use Rattle.cdf_attrs.proofs.KnownAttributes.{names_known, places_known, none_known}
use Rattle.cdf_attrs.proofs.NamesChanged.{number_within}
use Rattle.cdf_attrs.proofs.RenamingSteps.{answers_missing, answers_bad, answers_taken, number_is_adr, few_names, answers_done, names_done, places_done}
use Rattle.cdf_attrs.proofs.attrs.Attrs.rename.Goals as goal

pub returns-in_default-clause-answers : goal.returns-in_default-clause-answers
returns-in_default-clause-answers g c = answers_missing _ _ c.self.inside.names c.args.from.now c.args.to.now (names_known c.requires.known c.self.view_is) (sym c.find.ensures.number ∙ c.in_default.is)

pub returns-then-is_bad_name-clause-answers : goal.returns-then-is_bad_name-clause-answers
returns-then-is_bad_name-clause-answers g c = answers_bad _ _ c.self.inside.names c.args.from.now c.args.to.now (names_known c.requires.known c.self.view_is) c.in-Some.number (sym c.in-Some.ensures.number) (sym c.is_bad_name.ensures ∙ c.if-is_bad_name.true)

pub returns-then-is_some-clause-answers : goal.returns-then-is_some-clause-answers
returns-then-is_some-clause-answers g c =
    answers_taken _ _ c.self.inside.names c.args.from.now c.args.to.now (names_known c.requires.known c.self.view_is) c.in-Some.number (sym c.in-Some.ensures.number)
    (sym c.is_bad_name.ensures ∙ c.if-is_bad_name.false)
    (sym c.find-2.ensures.exact ∙ sym c.is_some.ensures ∙ c.if-is_some.true)

pub add-requires-clause-few : goal.add-requires-clause-few
add-requires-clause-few g c = few_names (g.A.Area.image c.args.area.now) _ c.self.inside.names c.args.from.now c.args.to.now (names_known c.requires.known c.self.view_is) c.requires.good c.requires.fits c.requires.limit

pub bounds-places-number : goal.bounds-places-number
bounds-places-number g c =
    let b = g.A.Area.image c.args.area.now in
    omega (arith, number_is_adr b 0 c.self.inside.names c.args.from.now c.args.to.now (names_known c.requires.known c.self.view_is) c.requires.good c.in-Some.number (number_within c.self.inside.names c.args.from.now c.in-Some.number (sym c.in-Some.ensures.number)), ap length (c.as_slice-places.ensures.value ∙ places_known c.requires.known c.self.view_is))

pub set_adr_name-requires-clause-field : goal.set_adr_name-requires-clause-field
set_adr_name-requires-clause-field g c =
    let b = g.A.Area.image c.args.area.now in
    let there : c.in-Some.number < length c.as_slice-places.result.now = omega (arith, number_is_adr b 0 c.self.inside.names c.args.from.now c.args.to.now (names_known c.requires.known c.self.view_is) c.requires.good c.in-Some.number (number_within c.self.inside.names c.args.from.now c.in-Some.number (sym c.in-Some.ensures.number)), ap length (c.as_slice-places.ensures.value ∙ places_known c.requires.known c.self.view_is)) in
    name_lies b (shape b) (good_is_sound b c.requires.good).has_shape b _ (subst (In (slice_index c.as_slice-places.result.now c.in-Some.number)) (c.as_slice-places.ensures.value ∙ places_known c.requires.known c.self.view_is) (index_in c.as_slice-places.result.now c.in-Some.number there)) refl

pub last_to-requires : goal.last_to-requires
last_to-requires g c =
    let lt = number_within c.self.inside.names c.args.from.now c.in-Some.number (sym c.in-Some.ensures.number) in
    let long : length c.add.new.self ≡ length c.self.inside.names + 1 = ap length c.in_ok-add.ensures.added ∙ length-append c.self.inside.names (c.new.result ∷ []) in
    omega arith

pub returns-in-Ok-clause-answers : goal.returns-in-Ok-clause-answers
returns-in-Ok-clause-answers g c =
    answers_done (g.A.Area.image c.args.area.now) _ c.self.inside.names c.args.from.now c.args.to.now (names_known c.requires.known c.self.view_is) c.in-Some.number _ c.requires.good c.requires.fits (omega (arith, c.requires.fits, c.requires.limit)) (sym c.in-Some.ensures.number)
    (sym c.is_bad_name.ensures ∙ c.if-is_bad_name.false)
    (sym c.find-2.ensures.exact ∙ sym c.is_some.ensures ∙ c.if-is_some.false)
    _ (ap (λ (xs : List ℕ). slice_index xs c.in-Some.number) (c.as_slice-places.ensures.value ∙ places_known c.requires.known c.self.view_is)) c.in-Ok.ensures.ok

pub returns-in-Ok-clause-known : goal.returns-in-Ok-clause-known
returns-in-Ok-clause-known g c =
    let name : c.new.result ≡ c.args.to.now = c.new.ensures ∙ c.in_ok-to_vec.ensures.items_if_clones_equal (λ x y e. e) in
    none_known (g.A.Area.image c.set_adr_name.new.area) c.last_to.new.self c.self.inside.places.items _
    (c.last_to.ensures
    ∙ ap (λ (xs : List (List ℕ)). last_to xs c.in-Some.number) (c.in_ok-add.ensures.added ∙ ap (λ (x : List ℕ). c.self.inside.names ++ x ∷ []) name)
    ∙ names_done (g.A.Area.image c.args.area.now) _ c.self.inside.names c.args.from.now c.args.to.now (names_known c.requires.known c.self.view_is) c.in-Some.number _ c.requires.good c.requires.fits (omega (arith, c.requires.fits, c.requires.limit)) (sym c.in-Some.ensures.number)
    (sym c.is_bad_name.ensures ∙ c.if-is_bad_name.false)
    (sym c.find-2.ensures.exact ∙ sym c.is_some.ensures ∙ c.if-is_some.false)
    _ (ap (λ (xs : List ℕ). slice_index xs c.in-Some.number) (c.as_slice-places.ensures.value ∙ places_known c.requires.known c.self.view_is)) c.in-Ok.ensures.ok)
    (places_known c.requires.known c.self.view_is ∙ places_done (g.A.Area.image c.args.area.now) _ c.self.inside.names c.args.from.now c.args.to.now (names_known c.requires.known c.self.view_is) c.in-Some.number _ c.requires.good c.requires.fits (omega (arith, c.requires.fits, c.requires.limit)) (sym c.in-Some.ensures.number)
    (sym c.is_bad_name.ensures ∙ c.if-is_bad_name.false)
    (sym c.find-2.ensures.exact ∙ sym c.is_some.ensures ∙ c.if-is_some.false)
    _ (ap (λ (xs : List ℕ). slice_index xs c.in-Some.number) (c.as_slice-places.ensures.value ∙ places_known c.requires.known c.self.view_is)) c.in-Ok.ensures.ok) c.clear.ensures.items

pub returns-in-Err-clause-stays : goal.returns-in-Err-clause-stays
returns-in-Err-clause-stays g c =
    none_known (g.A.Area.image c.args.area.now) c.remove.new.self c.self.inside.places.items _
    (c.remove.ensures ∙ ap (λ (xs : List (List ℕ)). remove xs c.len-last.result) c.in_ok-add.ensures.added ∙ last_removed c.self.inside.names c.new.result c.len-last.result c.len-last.ensures.count ∙ names_known c.requires.known c.self.view_is)
    (places_known c.requires.known c.self.view_is) c.clear.ensures.items
