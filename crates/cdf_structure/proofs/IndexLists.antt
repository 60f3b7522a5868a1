-- The indexes of variables, one after the other.
use Rattle.cdf_structure.proofs.Common.{Hold, Hold-member, IsToldOf, List, Owners, [], ap, append-nil, flat_map, flat_map-append, get_or, get_or-map, length, map, map-append, phase7, record_bytes, refl, subst, sym, take, take_more, variable_records, variable_rows, variable_shape, ℕ, ◌++◌, ◌+◌, ◌<◌, ◌∙◌, ◌∷◌, ◌≡◌, ◌≤◌}
use Rattle.cdf_model.specs.Place.{record_limit}
use Rattle.cdf_format.proofs.Tests.{le_of}
use Rattle.cdf_structure.proofs.Rows.{In-get_or}
use Rattle.cdf_structure.proofs.Tallies.{told_then}

-- the members of lists that were made of others
module _ {X : Type 0} (f : X → List ℕ) (g : ℕ → X) where
  pub list_more : (xs : List ℕ) (i : ℕ) (before now : List ℕ) → i < length xs → before ≡ flat_map f (map g (take i xs)) → now ≡ before ++ f (g (get_or xs i 0)) → now ≡ flat_map f (map g (take (i + 1) xs))
  list_more xs i before now lt p q =
      q ∙ ap (λ (zs : List ℕ). zs ++ f (g (get_or xs i 0))) p
      ∙ ap (λ (zs : List ℕ). flat_map f (map g (take i xs)) ++ zs) (sym (append-nil (f (g (get_or xs i 0)))))
      ∙ sym (flat_map-append f (map g (take i xs)) (g (get_or xs i 0) ∷ []))
      ∙ ap (flat_map f) (sym (map-append g (take i xs) (get_or xs i 0 ∷ [])))
      ∙ ap (λ (zs : List ℕ). flat_map f (map g zs)) (sym (take_more xs i 0 lt))

-- one of the variables, which keep their own rules
pub is_small : (b ts vdrs : List ℕ) → Hold (phase7 b ts vdrs) → (i : ℕ) → i < length vdrs → record_bytes b (get_or vdrs i 0) ≤ record_limit
is_small b ts vdrs described i lt =
    let rows : Hold (variable_rows b ts vdrs (get_or vdrs i 0)) = Hold-member (variable_rows b ts vdrs) vdrs (get_or vdrs i 0) described (In-get_or vdrs i lt) in
    le_of (record_bytes b (get_or vdrs i 0)) record_limit rows.1.1.1.1.1.1.0

-- what each of these variables has, in their order
pub had_at : {X : Type 0} (f : ℕ → X) (vdrs : List ℕ) (xs : List X) (i : ℕ) (d : X) → i < length vdrs → xs ≡ map f vdrs → get_or xs i d ≡ f (get_or vdrs i 0)
had_at f vdrs xs i d lt e = ap (λ ys. get_or ys i d) e ∙ get_or-map f vdrs i 0 d lt

-- the records of one variable more are told of
pub told_variable : (b ts vdrs : List ℕ) (i : ℕ) → i < length vdrs → (first before now : Owners)
    → IsToldOf ts (flat_map variable_records (map (variable_shape b ts) (take i vdrs))) first before → IsToldOf ts (variable_records (variable_shape b ts (get_or vdrs i 0))) before now
    → IsToldOf ts (flat_map variable_records (map (variable_shape b ts) (take (i + 1) vdrs))) first now
told_variable b ts vdrs i lt first before now told more =
    subst (λ (xs : List ℕ). IsToldOf ts xs first now)
    (list_more variable_records (variable_shape b ts) vdrs i (flat_map variable_records (map (variable_shape b ts) (take i vdrs))) _ lt refl refl)
    (told_then ts (flat_map variable_records (map (variable_shape b ts) (take i vdrs))) (variable_records (variable_shape b ts (get_or vdrs i 0))) first before now told more)
