-- The attribute that has an ADR.
use Rattle.cdf_edits.proofs.Common.{AttributeShape, In, List, [], ap, inl, inr, map, refl, sym, ℕ, ◌++◌, ◌∷◌, ◌≡◌}

-- the attribute that has an ADR, and those before and behind it
pub record Stands (as_ : List AttributeShape) (adr : ℕ) : Type 0 where
  pub fronts : List AttributeShape
  pub own : AttributeShape
  pub after : List AttributeShape
  pub is : as_ ≡ fronts ++ own ∷ after
  pub adr_is : own.adr ≡ adr

pub stands_at : (as_ : List AttributeShape) (adr : ℕ) → In adr (map (λ (a : AttributeShape). a.adr) as_) → Stands as_ adr
stands_at [] adr i = absurd i
stands_at (a ∷ more) adr (inl e) = record { fronts = []; own = a; after = more; is = refl; adr_is = sym e }
stands_at (a ∷ more) adr (inr i) = let x = stands_at more adr i in record { fronts = a ∷ x.fronts; own = x.own; after = x.after; is = ap (λ (r : List AttributeShape). a ∷ r) x.is; adr_is = x.adr_is }
