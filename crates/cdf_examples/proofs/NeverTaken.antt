-- A record that acts do not free is not taken by them either: whatever they take stands behind the end, or in records that were unused or that they freed.
use Rattle.cdf_examples.proofs.Common.{Act, Among, AreActs, Bool, Each, Gave, Happens, List, SpaceLeft, Took, [], after_act, ap, arith, eqb-true, false, fits, if◌then◌else◌, inl, inr, is_given_at, leb-true, nat_le, not, or_cases, or_parts, place_for, refl, subst, sym, taken, taken_from, true, ℕ, ◌+◌, ◌-◌, ◌<◌, ◌==◌, ◌∷◌, ◌≡◌, ◌≤◌, ◌⊎◌}
use Rattle.cdf_examples.proofs.CutLemmas.{each_among, each_filter}
use Rattle.cdf_examples.proofs.Refusing.{unequal}

-- the byte at a place is in no record of a list, and of those in use in the one alone that begins there
abbrev pub IsBeside : ℕ → ℕ × ℕ → Type 0
IsBeside place pair = (place < pair.0) ⊎ (pair.0 + pair.1 ≤ place)

abbrev pub IsItOrBeside : ℕ → ℕ × ℕ → Type 0
IsItOrBeside place pair = (pair.0 ≡ place) ⊎ IsBeside place pair

pub record IsInUse (place : ℕ) (left : SpaceLeft) : Type 0 where
  pub listed : Each (IsBeside place) left.listed
  pub used : Each (IsItOrBeside place) left.used
  pub before : place < left.end

-- ---- a record is taken

fits_within : (need size : ℕ) → fits need size ≡ true → need ≤ size
fits_within need size e = elim (or_cases (size == need) (nat_le (need + 28) size) e) [
  | inl is ↦ let same : size ≡ need = eqb-true size need is in omega (arith, same)
  | inr more ↦ let less : need + 28 ≤ size = leb-true (need + 28) size more in omega (arith, less)
]

taken_beside : (place : ℕ) (list : List (ℕ × ℕ)) (end need : ℕ) → Each (IsBeside place) list → place < end → IsBeside place (place_for list end need, need)
taken_beside place [] end need e before = inl before
taken_beside place ((at, size) ∷ more) end need e before = choose (fits need size) refl (taken_beside place more end need e.1 before)
  where
    choose : (p : Bool) → fits need size ≡ p → IsBeside place (place_for more end need, need) → IsBeside place (if p then at else place_for more end need, need)
    choose true is later =
        let within : need ≤ size = fits_within need size is in
        elim e.0 [ inl less ↦ inl less | inr past ↦ let behind : at + size ≤ place = past in inr (omega (arith, within, behind)) ]
    choose false is later = later

list_beside : (place : ℕ) (list : List (ℕ × ℕ)) (need : ℕ) → Each (IsBeside place) list → Each (IsBeside place) (taken_from list need)
list_beside place [] need e = tt
list_beside place ((at, size) ∷ more) need e = choose (size == need) (nat_le (need + 28) size) refl (list_beside place more need e.1)
  where
    choose : (p q : Bool) → nat_le (need + 28) size ≡ q → Each (IsBeside place) (taken_from more need)
        → Each (IsBeside place) (if p then more else (if q then (at + need, size - need) ∷ more else (at, size) ∷ taken_from more need))
    choose true q is later = e.1
    choose false true is later =
        let within : need + 28 ≤ size = leb-true (need + 28) size is in
        (elim e.0 [ inl less ↦ let low : place < at = less in inl (omega (arith, low)) | inr past ↦ let behind : at + size ≤ place = past in inr (omega (arith, within, behind)) ], e.1)
    choose false false is later = (e.0, later)

-- ---- acts, one after the other

after_taking : (place at need : ℕ) (left : SpaceLeft) → Happens left (Took at need) → IsInUse place left → IsInUse place (after_act left (Took at need))
after_taking place at need left h u = record {
  listed = list_beside place left.listed need u.listed;
  used = (inr (subst (λ (n : ℕ). IsBeside place (n, need)) (sym h.1) (taken_beside place left.listed left.end need u.listed u.before)), u.used);
  before = longer (place_for left.listed left.end need == left.end);
}
  where
    longer : (p : Bool) → place < (if p then left.end + need else left.end)
    longer true = let less : place < left.end = u.before in omega (arith, less)
    longer false = u.before

after_giving : (place at size : ℕ) (left : SpaceLeft) → Happens left (Gave at size) → (at == place) ≡ false → IsInUse place left → IsInUse place (after_act left (Gave at size))
after_giving place at size left h other u = record {
  listed = given (nat_le 28 size);
  used = each_filter (IsItOrBeside place) (λ pair. not (pair.0 == at)) left.used u.used;
  before = u.before;
}
  where
    given : (p : Bool) → Each (IsBeside place) (if p then (at, size) ∷ left.listed else left.listed)
    given true = (elim (each_among (IsItOrBeside place) (at, size) left.used u.used h) [ inl is ↦ absurd (unequal at place other is) | inr beside ↦ beside ], u.listed)
    given false = u.listed

pub never_taken : (place size : ℕ) (acts : List Act) (left : SpaceLeft) → IsInUse place left → AreActs left acts → is_given_at acts place ≡ false → Among (place, size) (taken acts) → ⊥
never_taken place size [] left u are kept i = i
never_taken place size (Took at need ∷ more) left u are kept (inl q) =
    let is : place ≡ at = ap (λ (pair : ℕ × ℕ). pair.0) q in
    let enough : 28 ≤ need = are.0.0 in
    let beside : IsBeside place (at, need) = subst (λ (n : ℕ). IsBeside place (n, need)) (sym are.0.1) (taken_beside place left.listed left.end need u.listed u.before) in
    elim beside [ inl less ↦ let low : place < at = less in omega (arith, is, low) | inr past ↦ let behind : at + need ≤ place = past in omega (arith, is, enough, behind) ]
never_taken place size (Took at need ∷ more) left u are kept (inr i) = never_taken place size more (after_act left (Took at need)) (after_taking place at need left are.0 u) are.1 kept i
never_taken place size (Gave at bytes ∷ more) left u are kept i =
    let parts = or_parts (at == place) (is_given_at more place) kept in
    never_taken place size more (after_act left (Gave at bytes)) (after_giving place at bytes left are.0 parts.0 u) are.1 parts.1 i
