-- The search of a number among the places of records, which ascend.
use Rattle.cdf_structure.proofs.Common.{AreTiles, Ascends, Climbs, In, List, Some, [], arith, cases_lt, false, get_or, inl, inr, is_in, is_in-false, is_in-true, length, size_at, slice_get, subst, suc, sym, tile_lies, true, zero, ℕ, ◌+◌, ◌-◌, ◌<◌, ◌∷◌, ◌≡◌, ◌≤◌}
use Rattle.std.proofs.lemmas.Option.{get_or_from_slice_get}
use Rattle.cdf_structure.proofs.Rows.{In-get_or}

place_of : (x : ℕ) (xs : List ℕ) → In x xs → (i : ℕ) × (i < length xs) × (get_or xs i 0 ≡ x)
place_of x [] h = absurd h
place_of x (y ∷ ys) (inl e) = (0, omega arith, sym e)
place_of x (y ∷ ys) (inr h) = let r = place_of x ys h in (suc r.0, omega (arith, r.1), r.2)

pub tiles_climb : (b : List ℕ) (from upto : ℕ) (ts : List ℕ) → AreTiles b from upto ts → Climbs ts
tiles_climb b from upto [] t i j lt within = absurd (omega arith)
tiles_climb b from upto (a ∷ ts) t i zero lt within = absurd (omega arith)
tiles_climb b from upto (a ∷ ts) t zero (suc j) lt within =
    let l = tile_lies b (from + size_at b a) upto ts (get_or ts j 0) t.2 (In-get_or ts j (omega arith)) in
    let here : a ≡ from = t.0 in
    let long : 12 ≤ size_at b a = t.1 in
    omega (arith, l.low)
tiles_climb b from upto (a ∷ ts) t (suc i) (suc j) lt within = tiles_climb b (from + size_at b a) upto ts t.2 i j (omega arith) (omega arith)

pub climbs_ascends : (xs : List ℕ) → Climbs xs → (i j : ℕ) → i ≤ j → j < length xs → get_or xs i 0 ≤ get_or xs j 0
climbs_ascends xs c i j le lt = elim (cases_lt i j) [ inl l ↦ omega (arith, c i j l lt) | inr l ↦ let e : i ≡ j = omega arith in rw e (omega arith) ]

pub tiles_ascend : (b : List ℕ) (from upto : ℕ) (ts : List ℕ) → AreTiles b from upto ts → Ascends ts
tiles_ascend b from upto ts t = climbs_ascends ts (tiles_climb b from upto ts t)

pub found_in : (xs : List ℕ) (x i : ℕ) → i < length xs → get_or xs i 0 ≡ x → is_in x xs ≡ true
found_in xs x i lt e = is_in-true x xs (subst (λ z. In z xs) e (In-get_or xs i lt))

pub not_found_in : (xs : List ℕ) (x i : ℕ) → ((k : ℕ) → k < i → get_or xs k 0 < x) → ((k : ℕ) → i ≤ k → k < length xs → x < get_or xs k 0) → is_in x xs ≡ false
not_found_in xs x i below above = is_in-false x xs (λ h.
    let r = place_of x xs h in
    elim (cases_lt r.0 i) [ inl l ↦ absurd (omega (arith, below r.0 l, r.2)) | inr l ↦ absurd (omega (arith, above r.0 l r.1, r.2)) ])

-- a number past the last one of an ascending list is none of them
pub past_last : (xs : List ℕ) (n x : ℕ) → Ascends xs → Some n ≡ slice_get xs (length xs - 1) → n < x → is_in x xs ≡ false
past_last xs n x ascends e less =
    let last = get_or_from_slice_get xs (length xs - 1) n 0 (sym e) in
    not_found_in xs x (length xs)
    (λ k lt. let le = ascends k (length xs - 1) (omega (arith, lt)) (omega (arith, lt)) in omega (arith, le, last, less))
    (λ k le lt. absurd (omega (arith, le, lt)))
