-- MaxRec of a variable is another one: of an r variable rMaxRec follows.
use Rattle.cdf_cuts.proofs.Common.{List, Some, [], arith, map, nat_tests, refl, suc, zero, ℕ, ◌==◌, ◌∷◌, ◌≡◌, ◌≢◌}
use Rattle.std.proofs.Common.{bytes_eq}
use Rattle.cdf_edits.proofs.Common.{Kind, Variable, content, extent, ne_eqb, slice_get, slice_set, with_variables}
use Rattle.cdf_edits.specs.Commands.GreatestRecord.{RMaxRecFollows, greatest_r_max_rec, r_max_rec}
use Rattle.cdf_format.proofs.NameRules.{bytes_eq-same}
use Rattle.cdf_model.specs.Names.{variables_of}
use Rattle.cdf_model.specs.declared.kinds.Kind.TheVariants.{R, Z}
use Rattle.cdf_puts.proofs.Common.{same_Some}

abbrev pub extents : List Variable → List ℕ
extents vs = map (λ (v : Variable). extent v.max_rec) vs

pub extents_set : (vs : List Variable) (n : ℕ) (x v : Variable) → slice_get vs n ≡ Some x → bytes_eq (extents vs) (extents (slice_set vs n v)) ≡ (extent x.max_rec == extent v.max_rec)
extents_set [] n x v e = absurd cc
extents_set (w ∷ ws) zero x v e = grind (arith, nat_tests, same_Some w x e, bytes_eq-same (extents ws))
extents_set (w ∷ ws) (suc n) x v e = grind (arith, nat_tests, extents_set ws n x v e)

pub greatest_lowered : (b now : List ℕ) (kind : Kind) (n : ℕ) (x v : Variable) → slice_get (variables_of (content b) kind) n ≡ Some x → content now ≡ with_variables (content b) kind (slice_set (variables_of (content b) kind) n v) → (kind ≡ Z → r_max_rec now ≡ r_max_rec b) → extent x.max_rec ≢ extent v.max_rec → (kind ≡ R → r_max_rec now ≡ greatest_r_max_rec (content now)) → RMaxRecFollows b now
greatest_lowered b now Z n x v at is of_z other of_r = rw (is, bytes_eq-same) (of_z refl)
greatest_lowered b now R n x v at is of_z other of_r = rw (is, extents_set (content b).r_variables n x v at, ne_eqb (extent x.max_rec) (extent v.max_rec) other) (rw is at (of_r refl))
