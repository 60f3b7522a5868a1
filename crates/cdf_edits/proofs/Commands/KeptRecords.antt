-- Records whose bytes stay keep what any command has to leave of them.
use Rattle.cdf_edits.proofs.Common.{Act, AllKeep, Allowance, Allowances, Anything, AttributeShape, In, In-append_left, In-append_right, Keeps, Kind, List, OneAttribute, OneVariable, Only, Owner, VariableShape, [], allowance, arith, attribute_records, flat_map, inl, inr, owned_by, owned_by_attributes, owned_by_variables, refl, shape, size_kept, suc, variable_records, ℕ, ◌++◌, ◌+◌, ◌∷◌}
pub use Rattle.cdf_edits.specs.Frame.Kept.{Stood}

pub AllKeep-append : (b now : List ℕ) (may : Allowances) (acts : List Act) (xs ys : List (ℕ × Owner)) → AllKeep b now may acts xs → AllKeep b now may acts ys → AllKeep b now may acts (xs ++ ys)
AllKeep-append b now may acts [] ys p q = q
AllKeep-append b now may acts ((place, owner) ∷ xs) ys p q = (p.0, AllKeep-append b now may acts xs ys p.1 q)

pub keeps_stood : (b now : List ℕ) (m : ℕ) → Stood b now m → (a : Allowance) → Keeps b now m a
keeps_stood b now m st Anything = tt
keeps_stood b now m st (Only fs) = record { stands = st.stands; size_is = size_kept b now m st.whole.same (let l = st.whole.long in omega arith); same = λ i lt out. st.whole.same.each (m + i) (omega arith) (omega arith) }

module _ (b now : List ℕ) (may : Allowances) (acts : List Act) where
  pub keep_owned : (owner : Owner) (places : List ℕ) → ((m : ℕ) → In m places → Stood b now m) → AllKeep b now may acts (owned_by owner places)
  keep_owned owner [] st = tt
  keep_owned owner (m ∷ places) st = (keeps_stood b now m (st m (inl refl)) (allowance b (shape b) may acts m owner), keep_owned owner places (λ x i. st x (inr i)))

  pub keep_attributes : (n : ℕ) (as_ : List AttributeShape) → ((m : ℕ) → In m (flat_map attribute_records as_) → Stood b now m) → AllKeep b now may acts (owned_by_attributes n as_)
  keep_attributes n [] st = tt
  keep_attributes n (a ∷ more) st =
      AllKeep-append b now may acts (owned_by (OneAttribute n) (attribute_records a)) (owned_by_attributes (suc n) more)
      (keep_owned (OneAttribute n) (attribute_records a) (λ m i. st m (In-append_left m (attribute_records a) (flat_map attribute_records more) i)))
      (keep_attributes (suc n) more (λ m i. st m (In-append_right m (attribute_records a) (flat_map attribute_records more) i)))

  pub keep_variables : (kind : Kind) (n : ℕ) (vs : List VariableShape) → ((m : ℕ) → In m (flat_map variable_records vs) → Stood b now m) → AllKeep b now may acts (owned_by_variables kind n vs)
  keep_variables kind n [] st = tt
  keep_variables kind n (v ∷ more) st =
      AllKeep-append b now may acts (owned_by (OneVariable kind n) (variable_records v)) (owned_by_variables kind (suc n) more)
      (keep_owned (OneVariable kind n) (variable_records v) (λ m i. st m (In-append_left m (variable_records v) (flat_map variable_records more) i)))
      (keep_variables kind (suc n) more (λ m i. st m (In-append_right m (variable_records v) (flat_map variable_records more) i)))
