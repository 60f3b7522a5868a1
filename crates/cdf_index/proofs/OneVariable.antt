-- A variable among those of its kind, by its VDR, and among all variables.
use Rattle.cdf_index.proofs.Common.{In, In-append, Kind, List, R, StandsAmong, VariableShape, Z, [], ap, append_assoc, inl, inr, map-append, refl, shape, shapes_of, subst, sym, variables, vdrs, ℕ, ◌++◌, ◌∙◌, ◌∷◌, ◌≡◌}

pub record AmongAll (vs : List VariableShape) (own : VariableShape) : Type 0 where
  pub front : List VariableShape
  pub rest : List VariableShape
  pub all : vs ≡ front ++ own ∷ rest

-- the one with this VDR
stands_in : (vs : List VariableShape) (m : ℕ) → In m (vdrs vs) → (v : VariableShape) × AmongAll vs v × (v.vdr ≡ m)
stands_in [] m i = absurd i
stands_in (v ∷ vs) m (inl e) = (v, record { front = []; rest = vs; all = refl }, sym e)
stands_in (v ∷ vs) m (inr i) = let at = stands_in vs m i in (at.0, record { front = v ∷ at.1.front; rest = at.1.rest; all = ap (λ (r : List VariableShape). v ∷ r) at.1.all }, at.2)

pub record OneOf (b : List ℕ) (vdr : ℕ) : Type 0 where
  pub kind : Kind
  pub before : List VariableShape
  pub own : VariableShape
  pub after : List VariableShape
  pub among : StandsAmong b kind before own after
  pub vdr_is : own.vdr ≡ vdr

pub one_of : (b : List ℕ) (vdr : ℕ) → In vdr (vdrs (variables (shape b))) → OneOf b vdr
one_of b vdr i =
    let s = shape b in
    elim (In-append vdr (vdrs s.r_variables) (vdrs s.z_variables) (subst (In vdr) (map-append (λ (v : VariableShape). v.vdr) s.r_variables s.z_variables) i)) [ inl j ↦ of_kind R j | inr j ↦ of_kind Z j ]
  where
    of_kind : (k : Kind) → In vdr (vdrs (shapes_of (shape b) k)) → OneOf b vdr
    of_kind k j = let at = stands_in (shapes_of (shape b) k) vdr j in record { kind = k; before = at.1.front; own = at.0; after = at.1.rest; among = record { was = at.1.all }; vdr_is = at.2 }

pub among_all : (b : List ℕ) (kind : Kind) (before : List VariableShape) (own : VariableShape) (after : List VariableShape) → shapes_of (shape b) kind ≡ before ++ own ∷ after → AmongAll (variables (shape b)) own
among_all b R before own after was = record { front = before; rest = after ++ (shape b).z_variables; all = ap (λ (vs : List VariableShape). vs ++ (shape b).z_variables) was ∙ append_assoc before (own ∷ after) (shape b).z_variables }
among_all b Z before own after was = record { front = (shape b).r_variables ++ before; rest = after; all = ap (λ (vs : List VariableShape). (shape b).r_variables ++ vs) was ∙ sym (append_assoc (shape b).r_variables before (own ∷ after)) }
