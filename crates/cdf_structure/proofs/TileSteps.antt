-- Steps of the walk over the records of an image.
use Rattle.cdf_structure.proofs.Common.{IsBroken, List, Walk, [], after_first, and_parts, ap, append-nil, append_assoc, arith, eq-eqb, false, flat_map, inl, is_tile, leb, leb-true, length, ne_eqb, phase4, record_rows, refl, size_at, stuck, suc, sym, tiles_from, tiling, true, whole, zero, ℕ, ◌++◌, ◌+◌, ◌∙◌, ◌∷◌, ◌≡◌, ◌≢◌, ◌≤◌}

-- a walk that begins with these records
abbrev pub behind : List ℕ → Walk → Walk
behind before (whole records) = whole (before ++ records)
behind before (stuck records place) = stuck (before ++ records) place

behind_first : (before : List ℕ) (first : ℕ) (w : Walk) → behind (before ++ first ∷ []) w ≡ behind before (after_first first w)
behind_first before first (whole records) = ap whole (append_assoc before (first ∷ []) records)
behind_first before first (stuck records place) = ap (λ (xs : List ℕ). stuck xs place) (append_assoc before (first ∷ []) records)

module _ (b : List ℕ) (place : ℕ) where
  at_end : (most : ℕ) → place ≡ length b → tiles_from most b place ≡ whole []
  unfolding tiles_from
  at_end zero e = rw (eq-eqb place (length b) e) refl
  at_end (suc most) e = rw (eq-eqb place (length b) e) refl

  at_none : (most : ℕ) → place ≢ length b → is_tile b place ≡ false → tiles_from most b place ≡ stuck [] place
  unfolding tiles_from
  at_none zero ne bad = rw (ne_eqb place (length b) ne) refl
  at_none (suc most) ne bad = rw (ne_eqb place (length b) ne, bad) refl

  module _ (before : List ℕ) (most : ℕ) (w : Walk) (goes : behind before (tiles_from most b place) ≡ w) where
    pub tiles_end : place ≡ length b → w ≡ whole before
    tiles_end e = sym goes ∙ ap (behind before) (at_end most e) ∙ ap whole (append-nil before)

    pub tiles_stop : place ≢ length b → is_tile b place ≡ false → (met : List ℕ) × (w ≡ stuck met place)
    tiles_stop ne bad = (before, sym goes ∙ ap (behind before) (at_none most ne bad) ∙ ap (λ (xs : List ℕ). stuck xs place) (append-nil before))

    -- There are not so many records.
    pub tiles_spent : most ≡ 0 → place ≢ length b → (met : List ℕ) × (w ≡ stuck met place)
    unfolding tiles_from
    tiles_spent none ne =
        let here : tiles_from most b place ≡ stuck [] place = rw (none, ne_eqb place (length b) ne) refl in
        (before, sym goes ∙ ap (behind before) here ∙ ap (λ (xs : List ℕ). stuck xs place) (append-nil before))

    pub tiles_more : (less : ℕ) → most ≡ suc less → place ≢ length b → is_tile b place ≡ true → behind (before ++ place ∷ []) (tiles_from less b (place + size_at b place)) ≡ w
    unfolding tiles_from
    tiles_more less is ne good =
        let here : tiles_from most b place ≡ after_first place (tiles_from less b (place + size_at b place)) = rw (is, ne_eqb place (length b) ne, good) refl in
        behind_first before place (tiles_from less b (place + size_at b place)) ∙ ap (behind before) (sym here) ∙ goes

pub tile_ends : (b : List ℕ) (place : ℕ) → is_tile b place ≡ true → place + size_at b place ≤ length b
tile_ends b place good = leb-true (place + size_at b place) (length b) (and_parts (leb 12 (size_at b place)) (leb (place + size_at b place) (length b)) good).1

-- the size and the type of a record lie in the image
pub tile_room : (b : List ℕ) (place : ℕ) → is_tile b place ≡ true → place + 12 ≤ length b
tile_room b place good =
    let parts = and_parts (leb 12 (size_at b place)) (leb (place + size_at b place) (length b)) good in
    omega (arith, leb-true 12 (size_at b place) parts.0, leb-true (place + size_at b place) (length b) parts.1)

-- the rules of the phase where the records go on to the end, and where they do not
pub whole_rows : (b records : List ℕ) → tiling b ≡ whole records → phase4 b ≡ flat_map (record_rows b) records
whole_rows b records is = rw is refl

pub stuck_rows : (b met : List ℕ) (place : ℕ) → tiling b ≡ stuck met place → IsBroken (phase4 b) 1 place
stuck_rows b met place is = rw is (inl (refl, refl, refl))
