-- Rules that are computed: as truth values, and what follows of them.
use Rattle.cdf_examples.proofs.Common.{AllHold, Bool, Breaks, Change, EachBreaks, FirstBroken, Hold, IsBroken, KeepsFormat, List, Row, Verdict, [], adrs, bytes_eq, changed, eqb-true, false, format_phases, image_of, inl, inr, not, owned_records, phase10, phase8, phase9, phases_around, refl, same_of_bytes_eq, shape, subst, suc, sym, true, unread_variables, variables, vdrs, zero, ℕ, ◌++◌, ◌==◌, ◌||◌, ◌∷◌, ◌≡◌, ◌⊎◌}
use Rattle.std.proofs.Common.{◌&&◌, map}
use Rattle.cdf_format.specs.AttributeRules.{phase6}
use Rattle.cdf_format.specs.ChainRules.{phase5}
use Rattle.cdf_format.specs.FileRules.{phase0, phase1, phase2, phase3}
use Rattle.cdf_format.specs.RecordRules.{phase4}
use Rattle.cdf_format.specs.VariableRules.{phase7}

abbrev pub hold : List Row → Bool
hold [] = true
hold (r ∷ rows) = r.holds && hold rows

abbrev pub all_hold : List (List Row) → Bool
all_hold [] = true
all_hold (rows ∷ phases) = hold rows && all_hold phases

both : (p q : Bool) → (p && q) ≡ true → (p ≡ true) × (q ≡ true)
both true q e = (refl, e)
both false q e = absurd cc

pub Hold-by : (rows : List Row) → hold rows ≡ true → Hold rows
Hold-by [] e = tt
Hold-by (r ∷ rows) e = let two = both r.holds (hold rows) e in (two.0, Hold-by rows two.1)

pub AllHold-by : (phases : List (List Row)) → all_hold phases ≡ true → AllHold phases
AllHold-by [] e = tt
AllHold-by (rows ∷ phases) e = let two = both (hold rows) (all_hold phases) e in (Hold-by rows two.0, AllHold-by phases two.1)

pub keeps_rules : (f : List ℕ) → all_hold (phases_around (format_phases (image_of f)) f) ≡ true → KeepsFormat f
keeps_rules f e = AllHold-by (phases_around (format_phases (image_of f)) f) e

-- ---- a rule that is the first broken

abbrev pub broken : List Row → ℕ → ℕ → Bool
broken [] rule place = false
broken (r ∷ rows) rule place = ((r.rule == rule) && ((r.place == place) && not r.holds)) || broken rows rule place

either : (p q : Bool) → (p || q) ≡ true → (p ≡ true) ⊎ (q ≡ true)
either true q e = inl refl
either false q e = inr e

not_false : (p : Bool) → not p ≡ true → p ≡ false
not_false true e = absurd cc
not_false false e = refl

pub IsBroken-by : (rows : List Row) (rule place : ℕ) → broken rows rule place ≡ true → IsBroken rows rule place
IsBroken-by [] rule place e = absurd cc
IsBroken-by (r ∷ rows) rule place e = elim (either ((r.rule == rule) && ((r.place == place) && not r.holds)) (broken rows rule place) e) [
  | inl h ↦
      let outer = both (r.rule == rule) ((r.place == place) && not r.holds) h in
      let inner = both (r.place == place) (not r.holds) outer.1 in
      inl (eqb-true r.rule rule outer.0, eqb-true r.place place inner.0, not_false r.holds inner.1)
  | inr h ↦ inr (IsBroken-by rows rule place h)
]

-- The phases as functions of the file and its image: those behind the one that is broken are not computed.
abbrev pub phases_to_ask : List (List ℕ → List ℕ → List Row)
phases_to_ask =
    (λ f b. phase0 f) ∷ (λ f b. phase1 f) ∷ (λ f b. phase2 f) ∷ (λ f b. phase3 f)
    ∷ (λ f b. phase4 b)
    ∷ (λ f b. phase5 b (shape b).records)
    ∷ (λ f b. phase6 b (shape b).records (adrs (shape b)))
    ∷ (λ f b. phase7 b (shape b).records (vdrs (variables (shape b))))
    ∷ (λ f b. phase8 b (shape b).records (vdrs (variables (shape b))))
    ∷ (λ f b. unread_variables b (vdrs (variables (shape b))) ++ phase9 (shape b).records (owned_records b (shape b)))
    ∷ (λ f b. phase10 f) ∷ []

abbrev pub first_broken : List (List ℕ → List ℕ → List Row) → List ℕ → List ℕ → ℕ → ℕ → ℕ → Bool
first_broken [] f b phase rule place = false
first_broken (rows ∷ phases) f b zero rule place = broken (rows f b) rule place
first_broken (rows ∷ phases) f b (suc phase) rule place = hold (rows f b) && first_broken phases f b phase rule place

FirstBroken-by : (phases : List (List ℕ → List ℕ → List Row)) (f b : List ℕ) (phase rule place : ℕ) → first_broken phases f b phase rule place ≡ true
    → FirstBroken (map (λ rows. rows f b) phases) phase rule place
FirstBroken-by [] f b phase rule place e = absurd cc
FirstBroken-by (rows ∷ phases) f b zero rule place e = IsBroken-by (rows f b) rule place e
FirstBroken-by (rows ∷ phases) f b (suc phase) rule place e =
    let two = both (hold (rows f b)) (first_broken phases f b phase rule place) e in
    (Hold-by (rows f b) two.0, FirstBroken-by phases f b phase rule place two.1)

-- The image is given beside the file, since it computes faster than when it is taken from it.
abbrev pub breaks : List ℕ → List ℕ → ℕ → ℕ → ℕ → Bool
breaks f b phase rule place = bytes_eq (image_of f) b && first_broken phases_to_ask f b phase rule place

pub breaks_first : (f b : List ℕ) (phase rule place : ℕ) → breaks f b phase rule place ≡ true → Breaks f phase rule place
breaks_first f b phase rule place e =
    let two = both (bytes_eq (image_of f) b) (first_broken phases_to_ask f b phase rule place) e in
    subst (λ (b : List ℕ). FirstBroken (map (λ rows. rows f b) phases_to_ask) phase rule place) (sym (same_of_bytes_eq (image_of f) b two.0))
    (FirstBroken-by phases_to_ask f b phase rule place two.1)

-- ---- tables of changes

-- of a file and its image
abbrev pub each_breaks : List ℕ → List ℕ → List (Change × Verdict) → Bool
each_breaks f b [] = true
each_breaks f b ((change, v) ∷ table) = breaks (changed f change) (changed b change) v.phase v.rule v.place && each_breaks f b table

pub EachBreaks-by : (f b : List ℕ) (table : List (Change × Verdict)) → each_breaks f b table ≡ true → EachBreaks f table
EachBreaks-by f b [] e = tt
EachBreaks-by f b ((change, v) ∷ table) e =
    let two = both (breaks (changed f change) (changed b change) v.phase v.rule v.place) (each_breaks f b table) e in
    (breaks_first (changed f change) (changed b change) v.phase v.rule v.place two.0, EachBreaks-by f b table two.1)
