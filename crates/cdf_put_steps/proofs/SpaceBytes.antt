-- Where a record of the list comes from, behind acts of any kind: from a record that was on the list or in use, or from behind the end.
use Rattle.cdf_edits.proofs.Common.{Act, AreActs, Bool, Gave, Happens, List, SpaceLeft, Took, [], after_act, ap, arith, either, eof_after, eq_of, le_of, false, fold, given_to, if◌then◌else◌, inl, inr, lies_in_taken, list_any, nat_le, nat_lt, nat_tests, or_parts, place_for, refl, subst, sym, taken, taken_from, true, ℕ, ◌&&◌, ◌+◌, ◌-◌, ◌<◌, ◌==◌, ◌∙◌, ◌∷◌, ◌≡◌, ◌≤◌, ◌⊎◌}
use Rattle.cdf_edits.proofs.Edits.Common.{Once}
use Rattle.cdf_edits.specs.Space.Acts.{Among}
use Rattle.cdf_put_steps.proofs.SpaceMore.{among_out}
use Rattle.cdf_put_steps.proofs.SpaceOnce.{OnceIn, having_among, listed_once, once_then, one, same_entry, step_once}

-- ---- a record of the list, when another is taken

-- a record of the list is the one that is taken, whole or with a rest
abbrev IsChosen : List (ℕ × ℕ) → ℕ → ℕ → ℕ → ℕ → Type 0
IsChosen list end need place size = (place_for list end need ≡ place) × ((size ≡ need) ⊎ ((need + 28 ≤ size) × Among (place + need, size - need) (taken_from list need)))

stays_or_chosen : (list : List (ℕ × ℕ)) (end need place size : ℕ) → Among (place, size) list → Among (place, size) (taken_from list need) ⊎ IsChosen list end need place size
stays_or_chosen [] end need place size a = absurd a
stays_or_chosen ((p, n) ∷ more) end need place size (inl q) = elim (either (n == need)) [
  | inl t ↦ rw t (inr (ap (λ (x : ℕ × ℕ). x.0) (sym q), inl (ap (λ (x : ℕ × ℕ). x.1) q ∙ eq_of n need t)))
  | inr f ↦ elim (either (nat_le (need + 28) n)) [
    | inl t ↦ let le = le_of (need + 28) n t in let long = ap (λ (x : ℕ × ℕ). x.1) q in rw (f, t) (inr (ap (λ (x : ℕ × ℕ). x.0) (sym q), inr (omega (arith, le, long), inl (ap (λ (x : ℕ × ℕ). (x.0 + need, x.1 - need)) q))))
    | inr g ↦ rw (f, g) (inl (inl q))
  ]
]
stays_or_chosen ((p, n) ∷ more) end need place size (inr a) = elim (either (n == need)) [
  | inl t ↦ rw t (inl a)
  | inr f ↦ elim (either (nat_le (need + 28) n)) [
    | inl t ↦ rw (f, t) (inl (inr a))
    | inr g ↦ rw (f, g) (elim (stays_or_chosen more end need place size a) [ inl s ↦ inl (inr s) | inr c ↦ inr (c.0, elim c.1 [ inl e ↦ inl e | inr x ↦ inr (x.0, inr x.1) ]) ])
  ]
]

among_given : (x : ℕ × ℕ) (place size : ℕ) (list : List (ℕ × ℕ)) → Among x list → Among x (given_to list place size)
among_given x place size list a = by (nat_le 28 size)
  where
    by : (t : Bool) → Among x (if t then (place, size) ∷ list else list)
    by true = inr a
    by false = a

-- what is taken does not begin in a record that stays on the list
begins_apart : (l : SpaceLeft) (place need m k : ℕ) → Happens l (Took place need) → Once l.listed l.end → Among (m, k) (after_act l (Took place need)).listed → (nat_le m place && nat_lt place (m + k)) ≡ false
begins_apart l place need m k h once a =
    let first = step_once l place need place h once in
    let among = having_among place m k (after_act l (Took place need)).listed (after_act l (Took place need)).end a in
    grind (arith, nat_tests, h.0, first, once place, among)

-- ---- a record of the list that has a byte which was not taken

abbrev Has : ℕ → ℕ × ℕ → Type 0
Has i x = (x.0 ≤ i) × (i < x.0 + x.1)

-- Of a record of the list before acts and one behind them that have a byte which was not taken: it is the same and was not taken from, or it begins later.
abbrev pub Remains : ℕ × ℕ → List Act → ℕ × ℕ → Type 0
Remains was acts x = ((x ≡ was) × (list_any (λ take. nat_le was.0 take.0 && nat_lt take.0 (was.0 + was.1)) (taken acts) ≡ false)) ⊎ (was.0 < x.0)

one_has : (i : ℕ) (x : ℕ × ℕ) → Has i x → one i x.0 x.1 ≡ 1
one_has i x h = grind (arith, nat_tests, h)

begins_later : (was : ℕ × ℕ) (acts : List Act) (x : ℕ × ℕ) → Remains was acts x → was.0 ≤ x.0
begins_later was acts x (inl r) = let q = ap (λ (y : ℕ × ℕ). y.0) r.0 in omega (arith, q)
begins_later was acts x (inr lt) = omega arith

one_untaken : (was : ℕ × ℕ) (place need : ℕ) (acts : List Act) (x : ℕ × ℕ) → (nat_le was.0 place && nat_lt place (was.0 + was.1)) ≡ false → Remains was acts x → Remains was (Took place need ∷ acts) x
one_untaken was place need acts x none (inl r) = inl (r.0, rw none r.1)
one_untaken was place need acts x none (inr lt) = inr lt

pub remains : (l : SpaceLeft) (acts : List Act) (i : ℕ) (was x : ℕ × ℕ) → AreActs l acts → OnceIn l → Among was l.listed → Has i was → Among x (fold after_act l acts).listed → Has i x → lies_in_taken acts i ≡ false → Remains was acts x
remains l [] i was x are once a p c q free = inl (same_entry i l.end x was l.listed (listed_once l once i) c a (one_has i x q) (one_has i was p), refl)
remains l (Took place need ∷ acts) i was x are once a p c q free =
    let parts = or_parts (nat_le place i && nat_lt i (place + need)) (lies_in_taken acts i) free in
    let later = once_then l (Took place need) are.0 once in
    elim (stays_or_chosen l.listed l.end need was.0 was.1 a) [
      | inl stays ↦ one_untaken was place need acts x (begins_apart l place need was.0 was.1 are.0 (listed_once l once) stays) (remains (after_act l (Took place need)) acts i was x are.1 later stays p c q parts.1)
      | inr chosen ↦
          let at : place ≡ was.0 = are.0.1 ∙ chosen.0 in
          let none = parts.0 in
          elim chosen.1 [
            | inl whole ↦ absurd (grind (arith, nat_tests, at, whole, none, p))
            | inr rest ↦
                let has : Has i (was.0 + need, was.1 - need) = grind (arith, nat_tests, at, none, p, rest.0) in
                let more = begins_later (was.0 + need, was.1 - need) acts x (remains (after_act l (Took place need)) acts i (was.0 + need, was.1 - need) x are.1 later rest.1 has c q parts.1) in
                let enough = are.0.0 in
                inr (omega (arith, more, enough))
          ]
    ]
remains l (Gave place size ∷ acts) i was x are once a p c q free =
    elim (remains (after_act l (Gave place size)) acts i was x are.1 (once_then l (Gave place size) are.0 once) (among_given was place size l.listed a) p c q free) [ inl r ↦ inl r | inr lt ↦ inr lt ]

-- ---- what holds of all records on the list and in use, and of what is behind the end

module _ (P : ℕ × ℕ → Type 0) (part : (x : ℕ × ℕ) (at n : ℕ) → P x → x.0 ≤ at → at + n ≤ x.0 + x.1 → P (at, n)) where
  abbrev pub AllHold : SpaceLeft → Type 0
  AllHold l = ((x : ℕ × ℕ) → Among x l.listed → P x) × (((x : ℕ × ℕ) → Among x l.used → P x) × ((at n : ℕ) → l.end ≤ at → P (at, n)))

  left_holds : (list : List (ℕ × ℕ)) (need : ℕ) → ((x : ℕ × ℕ) → Among x list → P x) → (x : ℕ × ℕ) → Among x (taken_from list need) → P x
  left_holds [] need f x a = absurd a
  left_holds ((place, size) ∷ more) need f x a = grind (arith, nat_tests, a, f x, part (place, size) (place + need) (size - need) (f (place, size) (inl refl)), left_holds more need (λ y c. f y (inr c)) x)

  place_holds : (list : List (ℕ × ℕ)) (end need : ℕ) → 28 ≤ need → ((x : ℕ × ℕ) → Among x list → P x) → P (end, need) → P (place_for list end need, need)
  place_holds [] end need enough f e = e
  place_holds ((place, size) ∷ more) end need enough f e = grind (arith, nat_tests, part (place, size) place need (f (place, size) (inl refl)), place_holds more end need enough (λ y c. f y (inr c)) e)

  given_holds : (list : List (ℕ × ℕ)) (place size : ℕ) → P (place, size) → ((x : ℕ × ℕ) → Among x list → P x) → (x : ℕ × ℕ) → Among x (given_to list place size) → P x
  given_holds list place size p f x = by (nat_le 28 size)
    where
      by : (t : Bool) → Among x (if t then (place, size) ∷ list else list) → P x
      by true (inl q) = subst P (sym q) p
      by true (inr a) = f x a
      by false a = f x a

  end_rises : (list : List (ℕ × ℕ)) (end need : ℕ) → end ≤ eof_after list end need
  end_rises list end need = grind (arith, nat_tests)

  hold_then : (l : SpaceLeft) (act : Act) → Happens l act → AllHold l → AllHold (after_act l act)
  hold_then l (Took place need) h all =
      let here : P (place, need) = subst (λ (at : ℕ). P (at, need)) (sym h.1) (place_holds l.listed l.end need h.0 all.0 (all.1.1 l.end need (omega arith))) in
      let more = end_rises l.listed l.end need in
      (left_holds l.listed need all.0, (λ x a. elim a [ inl q ↦ subst P (sym q) here | inr c ↦ all.1.0 x c ], λ at n le. all.1.1 at n (omega (arith, le, more))))
  hold_then l (Gave place size) h all = (given_holds l.listed place size (all.1.0 (place, size) h) all.0, (λ x a. all.1.0 x (among_out x place l.used a), all.1.1))

  pub hold_on : (l : SpaceLeft) (acts : List Act) → AreActs l acts → AllHold l → AllHold (fold after_act l acts)
  hold_on l [] are all = all
  hold_on l (act ∷ acts) are all = hold_on (after_act l act) acts are.1 (hold_then l act are.0 all)
