-- What groups have.
use Rattle.std.proofs.Common.{Bool, List, [], ap, append_assoc, arith, eqb-true, inl, inr, length, map, refl, subst, suc, sym, true, ℕ, ◌++◌, ◌+◌, ◌∙◌, ◌∷◌, ◌≡◌, ◌≤◌}
use Rattle.std.proofs.lemmas.Bool.{and_parts, ltb-true}
use Rattle.std.proofs.lemmas.List.{length-append}
use Rattle.std.specs.List.{enumerate_from}
use Rattle.std.specs.Prelude.{◌==◌, nat_lt}
use Rattle.cdf_format.proofs.Members.{either}
use Rattle.cdf_format.specs.Shape.{Each}
use Rattle.cdf_writer.specs.Fine.{Rise}
use Rattle.cdf_writer.specs.Groups.{first_number, goes_on, grouped, grouped_on, last_number}

-- all groups one behind the other
abbrev pub joined : {A : Type 0} → List (List A) → List A
joined [] = []
joined (group ∷ more) = group ++ joined more

pub joined_on : {A : Type 0} (joins : List A → A → Bool) (group xs : List A) → joined (grouped_on joins group xs) ≡ group ++ xs
joined_on joins group [] = refl
joined_on joins group (a ∷ more) = elim (either (joins group a)) [
  | inl e ↦ rw e (joined_on joins (group ++ a ∷ []) more ∙ append_assoc group (a ∷ []) more)
  | inr e ↦ rw e (ap (λ (l : List _). group ++ l) (joined_on joins (a ∷ []) more))
]

pub joined_back : {A : Type 0} (joins : List A → A → Bool) (xs : List A) → joined (grouped joins xs) ≡ xs
joined_back joins [] = refl
joined_back joins (a ∷ more) = joined_on joins (a ∷ []) more

module _ {A : Type 0} (P : ℕ × A → Type 0) (most : ℕ) where
  -- numbers that follow each other, from one on
  abbrev pub RunFrom : ℕ → List (ℕ × A) → Type 0
  RunFrom n [] = Unit {0}
  RunFrom n (pair ∷ more) = (pair.0 ≡ n) × RunFrom (suc n) more

  pub record IsGroup (group : List (ℕ × A)) : Type 0 where
    pub some : 1 ≤ length group
    pub few : length group ≤ most
    pub run : RunFrom (first_number group) group
    pub each : Each P group

  run_push : (n k : ℕ) (x : A) (group : List (ℕ × A)) → RunFrom n group → k ≡ n + length group → RunFrom n (group ++ (k, x) ∷ [])
  run_push n k x [] r e = (omega (arith, e), tt)
  run_push n k x (pair ∷ more) r e = (r.0, run_push (suc n) k x more r.1 (omega (arith, e)))

  pub run_last : (n : ℕ) (pair : ℕ × A) (more : List (ℕ × A)) → RunFrom n (pair ∷ more) → last_number (pair ∷ more) ≡ n + length more
  run_last n pair [] r = omega (arith, r.0)
  run_last n pair (next ∷ more) r = omega (arith, run_last (suc n) next more r.1)

  each_push : (x : ℕ × A) (group : List (ℕ × A)) → Each P group → P x → Each P (group ++ x ∷ [])
  each_push x [] e p = (p, tt)
  each_push x (y ∷ group) e p = (e.0, each_push x group e.1 p)

  -- each group begins behind the one before
  abbrev pub Ascend : ℕ → List (List (ℕ × A)) → Type 0
  Ascend low [] = Unit {0}
  Ascend low (group ∷ more) = (low ≤ first_number group) × Ascend (suc (last_number group)) more

  pushed : (pair : ℕ × A) (group : List (ℕ × A)) (next : ℕ × A) → IsGroup (pair ∷ group) → (goes_on most (pair ∷ group) next) ≡ true → P next → IsGroup ((pair ∷ group) ++ next ∷ [])
  pushed pair group (k, x) g e p =
      let parts = and_parts (k == last_number (pair ∷ group) + 1) (nat_lt (length (pair ∷ group)) most) e in
      let num : k ≡ last_number (pair ∷ group) + 1 = eqb-true k (last_number (pair ∷ group) + 1) parts.0 in
      let room : suc (length (pair ∷ group)) ≤ most = ltb-true (length (pair ∷ group)) most parts.1 in
      let last = run_last pair.0 pair group g.run in
      record {
        some = omega (arith, length-append (pair ∷ group) ((k, x) ∷ []));
        few = omega (arith, length-append (pair ∷ group) ((k, x) ∷ []));
        run = run_push pair.0 k x (pair ∷ group) g.run (omega (arith, num, last));
        each = each_push (k, x) (pair ∷ group) g.each p;
      }

  last_push : (pair next : ℕ × A) (group : List (ℕ × A)) → last_number ((pair ∷ group) ++ next ∷ []) ≡ next.0
  last_push pair next [] = refl
  last_push pair next (x ∷ group) = last_push x next group

  pub groups_on : (low : ℕ) (pair : ℕ × A) (group xs : List (ℕ × A)) → 1 ≤ most → IsGroup (pair ∷ group) → low ≤ pair.0 → Rise (suc (last_number (pair ∷ group))) xs → Each P xs
      → Each IsGroup (grouped_on (goes_on most) (pair ∷ group) xs) × Ascend low (grouped_on (goes_on most) (pair ∷ group) xs)
  groups_on low pair group [] some g le rise ps = ((g, tt), (le, tt))
  groups_on low pair group (next ∷ more) some g le rise ps = elim (either (goes_on most (pair ∷ group) next)) [
    | inl e ↦ rw e (groups_on low pair (group ++ next ∷ []) more some (pushed pair group next g e ps.0) le (subst (λ (n : ℕ). Rise (suc n) more) (sym (last_push pair next group)) rise.1) ps.1)
    | inr e ↦
        let one : IsGroup (next ∷ []) = record { some = omega arith; few = some; run = (refl, tt); each = (ps.0, tt) } in
        let r = groups_on (suc (last_number (pair ∷ group))) next [] more some one rise.0 rise.1 ps.1 in
        rw e ((g, r.0), (le, r.1))
  ]

  pub groups_are : (low : ℕ) (xs : List (ℕ × A)) → 1 ≤ most → Rise low xs → Each P xs → Each IsGroup (grouped (goes_on most) xs) × Ascend low (grouped (goes_on most) xs)
  groups_are low [] some rise ps = (tt, tt)
  groups_are low (pair ∷ more) some rise ps = groups_on low pair [] more some (record { some = omega arith; few = some; run = (refl, tt); each = (ps.0, tt) }) rise.0 rise.1 ps.1

  -- a run is its items, numbered
  pub run_numbered : (n : ℕ) (group : List (ℕ × A)) → RunFrom n group → enumerate_from n (map (λ pair. pair.1) group) ≡ group
  run_numbered n [] r = refl
  run_numbered n ((k, x) ∷ more) r =
      let next : n + 1 ≡ suc n = omega arith in
      ap (λ (m : ℕ). (n, x) ∷ enumerate_from m (map (λ pair. pair.1) more)) next ∙ ap (λ (l : List (ℕ × A)). (n, x) ∷ l) (run_numbered (suc n) more r.1) ∙ ap (λ (m : ℕ). (m, x) ∷ more) (sym r.0)
