use Rattle.cdf_attrs.proofs.Common.{List, [], ap, ap₂, arith, good_is_sound, has_name, last_removed, remove, shape, sym, ℕ, ◌++◌, ◌∙◌, ◌∷◌, ◌≡◌}
use Rattle.cdf_attrs.proofs.AttributeChain.{few_attributes, names_count}
use Rattle.cdf_attrs.proofs.CreatingAnswers.{badly_named, name_taken, too_large, is_done}
use Rattle.cdf_attrs.proofs.KnownAttributes.{names_known, places_known, none_known}
use Rattle.cdf_attrs.proofs.attrs.Attrs.create.Goals as goal

pub returns-then-is_bad_name-clause-answers : goal.returns-then-is_bad_name-clause-answers
returns-then-is_bad_name-clause-answers g c = badly_named _ (g.A.Area.image c.args.area.now) c.args.name.now c.args.scope (sym c.is_bad_name.ensures ∙ c.if-is_bad_name.true)

pub returns-in-Ok-clause-answers : goal.returns-in-Ok-clause-answers
returns-in-Ok-clause-answers g c =
    is_done _ (g.A.Area.image c.args.area.now) c.args.name.now c.args.scope (sym c.is_bad_name.ensures ∙ c.if-is_bad_name.false)
    (ap (λ (x : List (List ℕ)). has_name x c.args.name.now) (sym (names_known c.requires.known c.self.view_is)) ∙ sym c.find.ensures.exact ∙ sym c.is_some.ensures ∙ c.if-is_some.false)
    (omega (arith, c.if-limit-size.false, c.limit.ensures, c.size.ensures)) (g.A.Area.image c.make.new.area) c.in-Ok.ensures.follows

pub returns-then-is_some-clause-answers : goal.returns-then-is_some-clause-answers
returns-then-is_some-clause-answers g c =
    name_taken _ (g.A.Area.image c.args.area.now) c.args.name.now c.args.scope (sym c.is_bad_name.ensures ∙ c.if-is_bad_name.false)
    (ap (λ (x : List (List ℕ)). has_name x c.args.name.now) (sym (names_known c.requires.known c.self.view_is)) ∙ sym c.find.ensures.exact ∙ sym c.is_some.ensures ∙ c.if-is_some.true)

pub returns-then-limit-size-clause-answers : goal.returns-then-limit-size-clause-answers
returns-then-limit-size-clause-answers g c =
    too_large _ (g.A.Area.image c.args.area.now) c.args.name.now c.args.scope (sym c.is_bad_name.ensures ∙ c.if-is_bad_name.false)
    (ap (λ (x : List (List ℕ)). has_name x c.args.name.now) (sym (names_known c.requires.known c.self.view_is)) ∙ sym c.find.ensures.exact ∙ sym c.is_some.ensures ∙ c.if-is_some.false)
    (omega (arith, c.if-limit-size.true, c.limit.ensures, c.size.ensures))

pub add-requires-clause-few : goal.add-requires-clause-few
add-requires-clause-few g c =
    let b = g.A.Area.image c.args.area.now in
    let h = (good_is_sound b c.requires.good).has_shape in
    omega (arith, names_count b (shape b) h c.self.inside.names (names_known c.requires.known c.self.view_is), few_attributes b (shape b) h, c.requires.fits, c.requires.limit)

pub make-requires-clause-free : goal.make-requires-clause-free
make-requires-clause-free g c = ap (λ (x : List (List ℕ)). has_name x c.args.name.now) (sym (names_known c.requires.known c.self.view_is)) ∙ sym c.find.ensures.exact ∙ sym c.is_some.ensures ∙ c.if-is_some.false

pub make-requires-clause-places : goal.make-requires-clause-places
make-requires-clause-places g c = places_known c.requires.known c.self.view_is

pub returns-in-Ok-clause-known : goal.returns-in-Ok-clause-known
returns-in-Ok-clause-known g c =
    let name : c.new.result ≡ c.args.name.now = c.new.ensures ∙ c.in_ok-to_vec.ensures.items_if_clones_equal (λ x y e. e) in
    none_known (g.A.Area.image c.make.new.area) c.add.new.self c.make.new.places.items _
    (c.in_ok-add.ensures.added ∙ ap₂ (λ (xs : List (List ℕ)) (x : List ℕ). xs ++ x ∷ []) (names_known c.requires.known c.self.view_is) name ∙ sym c.in-Ok.ensures.names)
    c.in-Ok.ensures.places c.clear.ensures.items

pub returns-in-Err-clause-stays : goal.returns-in-Err-clause-stays
returns-in-Err-clause-stays g c =
    none_known (g.A.Area.image c.args.area.now) c.remove.new.self c.make.new.places.items _
    (c.remove.ensures ∙ ap (λ (x : List (List ℕ)). remove x c.len-last.result) c.in_ok-add.ensures.added ∙ last_removed c.self.inside.names c.new.result c.len-last.result c.len-last.ensures.count ∙ names_known c.requires.known c.self.view_is)
    (c.in-Err.ensures.stays ∙ places_known c.requires.known c.self.view_is) c.clear.ensures.items
