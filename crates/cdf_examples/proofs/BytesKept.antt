-- Places of bytes that are compared one by one, computed.
use Rattle.cdf_examples.proofs.Common.{Bool, List, [], ap, arith, byte, cases_lt, drop, eqb-true, false, get_or-drop, inl, inr, leb-true, length, refl, slice_index, subst, suc, true, zero, ℕ, ◌+◌, ◌-◌, ◌<◌, ◌==◌, ◌||◌, ◌∙◌, ◌∷◌, ◌≡◌, ◌≤◌, ◌⊎◌}
use Rattle.std.proofs.Common.{◌&&◌, nat_le, nat_lt}
use Rattle.cdf_edits.specs.Frame.Changed.{Touch, Outside, Changed}

-- it holds of each number below n
abbrev pub all_below : (ℕ → Bool) → ℕ → Bool
all_below test zero = true
all_below test (suc n) = test n && all_below test n

both : (p q : Bool) → (p && q) ≡ true → (p ≡ true) × (q ≡ true)
both true q e = (refl, e)
both false q e = absurd cc

pub below : (test : ℕ → Bool) (n : ℕ) → all_below test n ≡ true → (i : ℕ) → i < n → test i ≡ true
below test zero e i less = absurd (omega (arith, less))
below test (suc n) e i less =
    let two = both (test n) (all_below test n) e in
    elim (cases_lt i n) [
      | inl before ↦ below test n two.1 i before
      | inr at ↦ let same : n ≡ i = omega (arith, less, at) in subst (λ (k : ℕ). test k ≡ true) same two.0
    ]

-- Of n numbers from i on each is skipped, or the bytes of two lists are the same there: one walk along both, since a place far back in a file is dear to read.
abbrev pub agree : (ℕ → Bool) → ℕ → List ℕ → List ℕ → ℕ → Bool
agree skip i xs ys zero = true
agree skip i [] ys (suc n) = false
agree skip i (x ∷ xs) [] (suc n) = false
agree skip i (x ∷ xs) (y ∷ ys) (suc n) = (skip i || (x == y)) && agree skip (suc i) xs ys n

agree_at : (skip : ℕ → Bool) (i : ℕ) (xs ys : List ℕ) (n : ℕ) → agree skip i xs ys n ≡ true → (k m : ℕ) → k < n → i + k ≡ m → (skip m || (slice_index xs k == slice_index ys k)) ≡ true
agree_at skip i xs ys zero e k m less at = absurd (omega (arith, less))
agree_at skip i [] ys (suc n) e k m less at = absurd cc
agree_at skip i (x ∷ xs) [] (suc n) e k m less at = absurd cc
agree_at skip i (x ∷ xs) (y ∷ ys) (suc n) e zero m less at =
    let here : i ≡ m = omega (arith, at) in
    subst (λ (j : ℕ). (skip j || (x == y)) ≡ true) here (both (skip i || (x == y)) (agree skip (suc i) xs ys n) e).0
agree_at skip i (x ∷ xs) (y ∷ ys) (suc n) e (suc k) m less at = agree_at skip (suc i) xs ys n (both (skip i || (x == y)) (agree skip (suc i) xs ys n) e).1 k m (omega (arith, less)) (omega (arith, at))

-- the bytes of two images from a place on, those of the record at `place` from number i on
abbrev pub agree_in : List ℕ → List ℕ → (ℕ → Bool) → ℕ → ℕ → ℕ → Bool
agree_in b now skip place i n = agree skip i (drop (place + i) now) (drop (place + i) b) n

pub agreed : (b now : List ℕ) (skip : ℕ → Bool) (place i n : ℕ) → agree_in b now skip place i n ≡ true → (m : ℕ) → i ≤ m → m < i + n → (skip m || (byte now (place + m) == byte b (place + m))) ≡ true
agreed b now skip place i n e m from upto =
    let at : place + i + (m - i) ≡ place + m = omega arith in
    let k : m - i < n = omega arith in
    let sum : i + (m - i) ≡ m = omega arith in
    let of_now : slice_index (drop (place + i) now) (m - i) ≡ byte now (place + m) = get_or-drop (place + i) now (m - i) 0 ∙ ap (λ (p : ℕ). byte now p) at in
    let of_b : slice_index (drop (place + i) b) (m - i) ≡ byte b (place + m) = get_or-drop (place + i) b (m - i) 0 ∙ ap (λ (p : ℕ). byte b p) at in
    subst (λ (x : ℕ). (skip m || (x == byte b (place + m))) ≡ true) of_now
    (subst (λ (y : ℕ). (skip m || (slice_index (drop (place + i) now) (m - i) == y)) ≡ true) of_b (agree_at skip i (drop (place + i) now) (drop (place + i) b) n e (m - i) m k sum))

-- a place among these bytes
abbrev pub is_inside : List Touch → ℕ → Bool
is_inside [] place = false
is_inside (t ∷ more) place = (nat_le (t.tile + t.place) place && nat_lt place (t.tile + t.place + t.width)) || is_inside more place

apart : (from upto place : ℕ) → (place < from) ⊎ (upto ≤ place) → (nat_le from place && nat_lt place upto) ≡ true → ⊥
apart from upto place outside e =
    let two = both (nat_le from place) (nat_lt place upto) e in
    let after : from ≤ place = leb-true from place two.0 in
    let before : place < upto = leb-true (suc place) upto two.1 in
    elim outside [ inl low ↦ omega (arith, low, after) | inr high ↦ omega (arith, high, before) ]

one_of_two : (p rest q : Bool) → (p ≡ true → ⊥) → ((rest || q) ≡ true → q ≡ true) → ((p || rest) || q) ≡ true → q ≡ true
one_of_two true rest q not_here more e = absurd (not_here refl)
one_of_two false rest q not_here more e = more e

not_inside : (touches : List Touch) (place : ℕ) → Outside touches place → (q : Bool) → (is_inside touches place || q) ≡ true → q ≡ true
not_inside [] place outside q e = e
not_inside (t ∷ more) place outside q e =
    one_of_two (nat_le (t.tile + t.place) place && nat_lt place (t.tile + t.place + t.width)) (is_inside more place) q
    (apart (t.tile + t.place) (t.tile + t.place + t.width) place outside.0) (not_inside more place outside.1 q) e

pub changed_by : (b now : List ℕ) (touches : List Touch) → length b ≤ length now → agree (is_inside touches) 0 now b (length b) ≡ true → Changed b now touches
changed_by b now touches longer e = record {
  longer = longer;
  same = λ place less outside. eqb-true (byte now place) (byte b place)
      (not_inside touches place outside (byte now place == byte b place) (agree_at (is_inside touches) 0 now b (length b) e place place less (omega arith)));
}

-- bytes 0 from one number to another
pub zeros_by : (now : List ℕ) (place need : ℕ) → all_below (λ i. nat_lt i 12 || (byte now (place + i) == 0)) need ≡ true → (i : ℕ) → 12 ≤ i → i < need → byte now (place + i) ≡ 0
zeros_by now place need e i enough less = here (nat_lt i 12) refl (below (λ i. nat_lt i 12 || (byte now (place + i) == 0)) need e i less)
  where
    here : (p : Bool) → nat_lt i 12 ≡ p → (p || (byte now (place + i) == 0)) ≡ true → byte now (place + i) ≡ 0
    here true is h = let low : i < 12 = leb-true (suc i) 12 is in absurd (omega (arith, low, enough))
    here false is h = eqb-true (byte now (place + i)) 0 h
