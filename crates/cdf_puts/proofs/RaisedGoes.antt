-- MaxRec is raised to the record that was put: no byte changes but MaxRec, and rMaxRec of an r variable.
use Rattle.cdf_puts.proofs.Common.{number, vdr_max_rec, Changed, Good, In, Kind, List, MaxRecRaised, R, RMaxRecFollows, Some, StandsAmong, Variable, VariableShape, WritesRecords, Z, [], ap, append-nil, arith, bytes_eq, bytes_eq-same, content, extent, fits, greatest_r_max_rec, has, index_records, index_typed, index_types, inl, inr, is_in, is_max_rec, le-leb, map, max_rec_touches, nat_tests, only_variable, r_max_rec, record_number_limit, refl, same_Some, same_shape, shape, slice_get, slice_set, sound, suc, true, type_in, typed, variables_chain, variables_of, with_variables, zero, ℕ, ◌++◌, ◌<◌, ◌==◌, ◌∙◌, ◌∷◌, ◌≡◌, ◌≢◌, ◌≤◌, ◌⊎◌}

-- ---- the greatest numbers of the r variables

abbrev extents : List Variable → List ℕ
extents vs = map (λ (v : Variable). extent v.max_rec) vs

-- one of them is another, and they stay where it has the same
extents_set : (vs : List Variable) (n : ℕ) (x v : Variable) → slice_get vs n ≡ Some x → bytes_eq (extents vs) (extents (slice_set vs n v)) ≡ (extent x.max_rec == extent v.max_rec)
extents_set [] n x v e = absurd cc
extents_set (w ∷ ws) zero x v e = grind (arith, nat_tests, same_Some w x e, bytes_eq-same (extents ws))
extents_set (w ∷ ws) (suc n) x v e = grind (arith, nat_tests, extents_set ws n x v e)

-- of a good image, one variable of a kind is another one by now: its MaxRec and rMaxRec stay, or it is raised, and of an r variable rMaxRec follows
pub greatest_follows : (b now : List ℕ) (kind : Kind) (n : ℕ) (x v : Variable) → slice_get (variables_of (content b) kind) n ≡ Some x → content now ≡ with_variables (content b) kind (slice_set (variables_of (content b) kind) n v) → (kind ≡ Z → r_max_rec now ≡ r_max_rec b)
    → ((extent v.max_rec ≡ extent x.max_rec) × (r_max_rec now ≡ r_max_rec b)) ⊎ ((extent x.max_rec < extent v.max_rec) × (kind ≡ R → r_max_rec now ≡ greatest_r_max_rec (content now))) → RMaxRecFollows b now
greatest_follows b now Z n x v at is of_z side = rw (is, bytes_eq-same) (of_z refl)
greatest_follows b now R n x v at is of_z side = rw (is, extents_set (content b).r_variables n x v at) (grind (arith, nat_tests, side, is))

-- ---- whose records are the GDR and the VDR

module _ {b : List ℕ} {kind : Kind} {before : List VariableShape} {own : VariableShape} {after : List VariableShape} (good : Good b) (at : StandsAmong b kind before own after) where
  pub vdr_no_gdr : own.vdr ≢ (shape b).gdr
  vdr_no_gdr e = (only_variable (sound good at) kind before own after at.was own.vdr (inl refl)).in_file (inr (inl e))

  pub behind_no_vdr : (m : ℕ) → In m (index_records own) → m ≢ own.vdr
  behind_no_vdr m i e = let typed : is_in (type_in (variables_chain kind)) index_types ≡ true = rw (← typed good at, ← e) (index_typed b (shape b) own (has good at) (fits good at) m i) in grind arith

-- ---- of one image

module _ {b now : List ℕ} {kind : Kind} {before : List VariableShape} {own : VariableShape} {after : List VariableShape} {r : ℕ} (good : Good b) (at : StandsAmong b kind before own after) (w : MaxRecRaised b now kind own r) (small : r ≤ record_number_limit) where
  pub raise_writes : WritesRecords b now kind own []
  raise_writes =
      let changed : Changed b now (max_rec_touches b kind own.vdr ++ []) = rw append-nil w.changed in
      let ruled : is_max_rec (number now own.vdr vdr_max_rec) ≡ true = ap is_max_rec w.max_rec_is ∙ rw (le-leb r record_number_limit small) refl in
      search (w, changed, ruled)

  pub raised_shape : shape now ≡ shape b
  raised_shape = same_shape good at raise_writes
