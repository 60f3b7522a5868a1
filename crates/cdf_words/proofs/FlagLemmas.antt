-- Flags that are known, and of which none stands twice.
use Rattle.cdf_words.proofs.Common.{Bool, List, [], and_parts, ap, are_fine, bytes_eq, bytes_eq-same, cases_Bool, differ-turned, false, inl, inr, is_among, known_flags, list_any-append, not-true, or_parts, refl, same_of_bytes_eq, subst, true, ℕ, ◌++◌, ◌∙◌, ◌∷◌, ◌≡◌}
use Rattle.std.proofs.Common.{not, ◌&&◌, ◌||◌}

pub and_false : (a : Bool) → (a && false) ≡ false
and_false true = refl
and_false false = refl

or_true : (a : Bool) → (a || true) ≡ true
or_true true = refl
or_true false = refl

pub or_false : (a : Bool) → (a || false) ≡ a
or_false true = refl
or_false false = refl

or_right : (a b : Bool) → a ≡ false → (a || b) ≡ true → b ≡ true
or_right true b first either = cc first
or_right false b first either = either

not_last : (a b c : Bool) → c ≡ false → ((a && b) && c) ≡ false
not_last a b c last = rw last (and_false (a && b))

not_middle : (a b c : Bool) → b ≡ false → ((a && b) && c) ≡ false
not_middle a b c middle = rw middle (rw (and_false a) refl)

-- ---- one name more

pub among_later : (name : List ℕ) (before later : List (List ℕ)) → is_among name (before ++ name ∷ later) ≡ true
among_later name [] later = rw (bytes_eq-same name) refl
among_later name (first ∷ before) later = rw (among_later name before later) (or_true (bytes_eq name first))

-- a name stands among names and one more
pub among_more : (name : List ℕ) (before : List (List ℕ)) (more : List ℕ) → is_among name (before ++ more ∷ []) ≡ (is_among name before || bytes_eq name more)
among_more name before more = list_any-append (λ other. bytes_eq name other) before (more ∷ []) ∙ ap (λ (b : Bool). is_among name before || b) (or_false (bytes_eq name more))

-- ---- flags

-- a flag that is not known
pub unknown_not_fine : (before : List (List ℕ)) (flag : List ℕ) (later : List (List ℕ)) → is_among flag known_flags ≡ false → are_fine (before ++ flag ∷ later) ≡ false
unknown_not_fine [] flag later unknown = rw unknown refl
unknown_not_fine (first ∷ before) flag later unknown = not_last (is_among first known_flags) _ _ (unknown_not_fine before flag later unknown)

-- a flag that stands twice
pub twice_not_fine : (before : List (List ℕ)) (flag : List ℕ) (later : List (List ℕ)) → is_among flag before ≡ true → are_fine (before ++ flag ∷ later) ≡ false
twice_not_fine [] flag later stands = cc stands
twice_not_fine (first ∷ before) flag later stands = elim (cases_Bool (bytes_eq flag first)) [
  | inl same ↦
      let again : is_among first (before ++ flag ∷ later) ≡ true = subst (λ (f : List ℕ). is_among f (before ++ flag ∷ later) ≡ true) (same_of_bytes_eq flag first same) (among_later flag before later) in
      not_middle (is_among first known_flags) (not (is_among first (before ++ flag ∷ later))) (are_fine (before ++ flag ∷ later)) (ap not again)
  | inr other ↦ not_last (is_among first known_flags) _ _ (twice_not_fine before flag later (or_right (bytes_eq flag first) (is_among flag before) other stands))
]

-- a known one that stands behind fine ones, of which it is none
pub once_fine : (before : List (List ℕ)) (flag : List ℕ) → are_fine before ≡ true → is_among flag known_flags ≡ true → is_among flag before ≡ false → are_fine (before ++ flag ∷ []) ≡ true
once_fine [] flag fine known new = rw known refl
once_fine (first ∷ before) flag fine known new =
    let parts = and_parts (is_among first known_flags && not (is_among first before)) (are_fine before) fine in
    let front = and_parts (is_among first known_flags) (not (is_among first before)) parts.0 in
    let apart = or_parts (bytes_eq flag first) (is_among flag before) new in
    let alone : is_among first (before ++ flag ∷ []) ≡ false =
    among_more first before flag ∙ ap (λ (b : Bool). b || bytes_eq first flag) (not-true (is_among first before) front.1) ∙ differ-turned flag first apart.0 in
    rw (front.0, alone) (once_fine before flag parts.1 known apart.1)
