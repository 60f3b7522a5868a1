-- The variable of a number among those of a kind, by what is kept of the variables.
use Rattle.cdf_vars.proofs.Common.{Good, IsVdr, Kind, Known, Knows, List, None, Option, Some, Variable, VariableShape, [], ap, arith, content, cut, got-middle, good_is_sound, known_of, length, length-map, map, option_map, refl, same_Some, shape, shapes_of, slice_get, slice_get_within, suc, sym, variable_at, variable_is, variable_of, variables_of, vdrs, zero, ℕ, ◌++◌, ◌<◌, ◌∙◌, ◌∷◌, ◌≡◌}
use Rattle.cdf_vars.proofs.VariableFound.{knows_kind}
use Rattle.cdf_vars.proofs.VariableNames.{variables_are}

got : {A B : Type 0} (f : A → B) (xs : List A) (n : ℕ) → slice_get (map f xs) n ≡ option_map f (slice_get xs n)
got f [] n = refl
got f (x ∷ xs) zero = refl
got f (x ∷ xs) (suc n) = got f xs n

nothing : {A B : Type 0} (f : A → B) (o : Option A) → option_map f o ≡ None → o ≡ None
nothing f None e = refl
nothing f (Some a) e = absurd cc

module _ {b : List ℕ} {known : Known} (good : Good b) (knows : Knows b known) (kind : Kind) (n : ℕ) where
  abbrev vs : List VariableShape
  vs = shapes_of (shape b) kind

  placed_as : slice_get (known_of known kind).places n ≡ option_map (λ (v : VariableShape). v.vdr) (slice_get vs n)
  placed_as = ap (λ (xs : List ℕ). slice_get xs n) (knows_kind b known knows kind).places_are ∙ got (λ (v : VariableShape). v.vdr) vs n

  variable_as : slice_get (variables_of (content b) kind) n ≡ option_map (variable_of b) (slice_get vs n)
  variable_as = ap (λ (xs : List Variable). slice_get xs n) (variables_are b (shape b) (good_is_sound b good).has_shape kind) ∙ got (variable_of b) vs n

  pub none_numbered : None ≡ slice_get (known_of known kind).places n → slice_get (variables_of (content b) kind) n ≡ None
  none_numbered e = variable_as ∙ ap (option_map (variable_of b)) (nothing (λ (v : VariableShape). v.vdr) (slice_get vs n) (sym placed_as ∙ sym e))

  -- the variables in front of it, it, and those behind it
  record Numbered (vdr : ℕ) : Type 0 where
    pub before : List VariableShape
    pub own : VariableShape
    pub after : List VariableShape
    pub was : vs ≡ before ++ own ∷ after
    pub stands : slice_get vs n ≡ Some own
    pub vdr_is : own.vdr ≡ vdr

  module _ {vdr : ℕ} (placed : Some vdr ≡ slice_get (known_of known kind).places n) where
    within : n < length vs
    within =
        let lt = slice_get_within (vdrs vs) n vdr (got (λ (v : VariableShape). v.vdr) vs n ∙ sym placed_as ∙ sym placed) in
        omega (arith, lt, length-map vs (λ (v : VariableShape). v.vdr))

    numbered : Numbered vdr
    numbered =
        let c = cut vs n within in
        let stands : slice_get vs n ≡ Some c.own = (λ i. slice_get (c.is i) (sym c.count i)) ∙ got-middle c.before c.own c.after in
        let same : Some c.own.vdr ≡ Some vdr = ap (option_map (λ (v : VariableShape). v.vdr)) (sym stands) ∙ sym placed_as ∙ sym placed in
        record { before = c.before; own = c.own; after = c.after; was = c.is; stands = stands; vdr_is = same_Some c.own.vdr vdr same }

    pub numbered_vdr : IsVdr b kind vdr
    numbered_vdr = record { before = numbered.before; own = numbered.own; after = numbered.after; was = numbered.was ∙ ap (λ (k : ℕ). numbered.before ++ record numbered.own { vdr = k } ∷ numbered.after) numbered.vdr_is }

    pub variable_numbered : slice_get (variables_of (content b) kind) n ≡ Some (variable_at b vdr)
    unfolding numbered_vdr
    variable_numbered =
        variable_as ∙ ap (option_map (variable_of b)) numbered.stands
        ∙ ap (λ (k : ℕ). Some (variable_of b (record numbered.own { vdr = k }))) numbered.vdr_is
        ∙ ap (λ (v : Variable). Some v) (sym (variable_is good numbered_vdr))
