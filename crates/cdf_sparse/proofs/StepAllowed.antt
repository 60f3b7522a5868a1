-- A step may change the blocks of a variable that have some ranges: then it may also change those of other ranges, where these have all of the first ones that the variable has.
use Rattle.cdf_cuts.proofs.Common.{Bool, List, None, Option, Range, Some, [], false, inl, inr, refl, subst, ℕ, ◌==◌, ◌∷◌, ◌≡◌}
use Rattle.std.proofs.Common.{if◌then◌else◌}
use Rattle.cdf_edits.proofs.Common.{Act, AllKeep, Allowance, Allowances, Anything, Found, Keeps, Kind, Only, either, range_at, shape, type_at, vdr_type, vxr_type}
use Rattle.cdf_edits.specs.Commands.Allowances.{allowance, anything_if, same_kind}
use Rattle.cdf_edits.specs.Commands.PutSteps.{step_changes}
use Rattle.cdf_format.specs.Owners.{File, OneAttribute, OneVariable, Owner, Unused}
use Rattle.cdf_format.specs.Records.{vdr_vxr_head, vdr_vxr_tail}

-- what each record of an image has to keep
pub keep_as : (b now : List ℕ) (may may' : Allowances) (acts : List Act) → ((m : ℕ) (o : Owner) → Keeps b now m (allowance b (shape b) may acts m o) → Keeps b now m (allowance b (shape b) may' acts m o)) → (xs : List (ℕ × Owner)) → AllKeep b now may acts xs → AllKeep b now may' acts xs
keep_as b now may may' acts f [] k = tt
keep_as b now may may' acts f ((place, owner) ∷ xs) k = (f place owner k.0, keep_as b now may may' acts f xs k.1)

module _ (b now : List ℕ) (found : Found) (changes changes' : Range → Bool) (acts : List Act) (fewer : (m : ℕ) (r : Range) → range_at (shape b) found m ≡ Some r → changes' r ≡ false → changes r ≡ false) where
  abbrev may : Allowances
  may = step_changes b found changes

  abbrev may' : Allowances
  may' = step_changes b found changes'

  block_as : (m : ℕ) (r : Range) → range_at (shape b) found m ≡ Some r → Keeps b now m (anything_if (changes r)) → Keeps b now m (anything_if (changes' r))
  block_as m r e k = elim (either (changes' r)) [
    | inl t ↦ rw t tt
    | inr t ↦ (let none = fewer m r e t in let stays : Keeps b now m (Only []) = subst (λ (p : Bool). Keeps b now m (anything_if p)) none k in rw t stays)
  ]

  abbrev own_may : (Range → Bool) → ℕ → Option Range → Allowance
  own_may c m None = if type_at b m == vdr_type found.kind then Only (vdr_vxr_head ∷ vdr_vxr_tail ∷ []) else (if type_at b m == vxr_type then Anything else Only [])
  own_may c m (Some r) = anything_if (c r)

  own_as : (m : ℕ) (o : Option Range) → range_at (shape b) found m ≡ o → Keeps b now m (own_may changes m o) → Keeps b now m (own_may changes' m o)
  own_as m None e k = k
  own_as m (Some r) e k = block_as m r e k

  variable_as : (kind : Kind) (n m : ℕ) → Keeps b now m (may.variables kind n m) → Keeps b now m (may'.variables kind n m)
  variable_as kind n m k = elim (either (same_kind found.kind kind)) [
    | inl t ↦ elim (either (found.number == n)) [
      | inl q ↦ (let r = range_at (shape b) found m in let here : Keeps b now m (own_may changes m r) = rw (t, q) at k in rw (t, q) (own_as m r refl here))
      | inr q ↦ rw (t, q) (rw (t, q) at k)
    ]
    | inr t ↦ rw t (rw t at k)
  ]

  each_as : (m : ℕ) (o : Owner) → Keeps b now m (allowance b (shape b) may acts m o) → Keeps b now m (allowance b (shape b) may' acts m o)
  each_as m File k = k
  each_as m (OneAttribute n) k = k
  each_as m (OneVariable kind n) k = variable_as kind n m k
  each_as m Unused k = k

  pub step_as : (xs : List (ℕ × Owner)) → AllKeep b now may acts xs → AllKeep b now may' acts xs
  step_as xs k = keep_as b now may may' acts each_as xs k
