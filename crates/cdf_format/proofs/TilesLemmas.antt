-- Tiles lie apart; a tiling is computed, and it is the only one.
use Rattle.std.proofs.Common.{◌≡◌, ◌≢◌, ◌⊎◌, ℕ, zero, suc, ◌+◌, ◌≤◌, List, [], ◌∷◌, length, true, false, eqb, leb, eq-eqb, refl, sym, ap, subst, ◌∙◌, arith, inl, inr}
use Rattle.cdf_format.proofs.Common.{eqb-true, and_parts, and_from, leb-true, le-leb, size_at, Walk, whole, stuck, In, AreTiles, tiling}
use Rattle.cdf_format.specs.Walks.{after_first}
use Rattle.cdf_format.specs.Tiles.{is_tile, tiles_from}
use Rattle.cdf_format.proofs.Members.{either}

-- where a tile lies
pub record Lies (b : List ℕ) (from upto place : ℕ) : Type 0 where
  pub low : from ≤ place
  pub high : place + size_at b place ≤ upto
  pub long : 12 ≤ size_at b place

pub tiles_end : (b : List ℕ) (from upto : ℕ) (ts : List ℕ) → AreTiles b from upto ts → from ≤ upto
tiles_end b from upto [] e = omega arith
tiles_end b from upto (a ∷ ts) h = let r = tiles_end b (from + size_at b a) upto ts h.2 in omega arith

pub tile_lies : (b : List ℕ) (from upto : ℕ) (ts : List ℕ) (a : ℕ) → AreTiles b from upto ts → In a ts → Lies b from upto a
tile_lies b from upto [] a t h = absurd h
tile_lies b from upto (c ∷ ts) a t (inl e) =
    let end = tiles_end b (from + size_at b c) upto ts t.2 in
    let here : c ≡ from = t.0 in
    let long : 12 ≤ size_at b c = t.1 in
    subst (λ x. Lies b from upto x) (sym e) (record { low = omega arith; high = omega arith; long = long })
tile_lies b from upto (c ∷ ts) a t (inr h) =
    let r = tile_lies b (from + size_at b c) upto ts a t.2 h in
    record { low = omega (arith, r.low); high = r.high; long = r.long }

-- two different tiles share no byte
pub tiles_lie_apart : (b : List ℕ) (from upto : ℕ) (ts : List ℕ) (a c : ℕ) → AreTiles b from upto ts → In a ts → In c ts → a ≢ c → (a + size_at b a ≤ c) ⊎ (c + size_at b c ≤ a)
tiles_lie_apart b from upto [] a c t ha hc ne = absurd ha
tiles_lie_apart b from upto (x ∷ ts) a c t (inl ea) (inl ec) ne = absurd (ne (ea ∙ sym ec))
tiles_lie_apart b from upto (x ∷ ts) a c t (inl ea) (inr hc) ne =
    let r = tile_lies b (from + size_at b x) upto ts c t.2 hc in
    let here : x ≡ from = t.0 in
    rw ea (inl (omega (arith, r.low)))
tiles_lie_apart b from upto (x ∷ ts) a c t (inr ha) (inl ec) ne =
    let r = tile_lies b (from + size_at b x) upto ts a t.2 ha in
    let here : x ≡ from = t.0 in
    rw ec (inr (omega (arith, r.low)))
tiles_lie_apart b from upto (x ∷ ts) a c t (inr ha) (inr hc) ne = tiles_lie_apart b (from + size_at b x) upto ts a c t.2 ha hc ne

pub length_tiles : (b : List ℕ) (from upto : ℕ) (ts : List ℕ) → AreTiles b from upto ts → from + length ts ≤ upto
length_tiles b from upto [] t = let e : from ≡ upto = t in omega arith
length_tiles b from upto (a ∷ ts) t = let r = length_tiles b (from + size_at b a) upto ts t.2 in let l : 12 ≤ size_at b a = t.1 in omega arith

pub tiles_unique : (b : List ℕ) (from upto : ℕ) (xs ys : List ℕ) → AreTiles b from upto xs → AreTiles b from upto ys → xs ≡ ys
tiles_unique b from upto [] [] p q = refl
tiles_unique b from upto [] (y ∷ ys) p q = let e = tiles_end b (from + size_at b y) upto ys q.2 in let l : 12 ≤ size_at b y = q.1 in let f : from ≡ upto = p in absurd (omega arith)
tiles_unique b from upto (x ∷ xs) [] p q = let e = tiles_end b (from + size_at b x) upto xs p.2 in let l : 12 ≤ size_at b x = p.1 in let f : from ≡ upto = q in absurd (omega arith)
tiles_unique b from upto (x ∷ xs) (y ∷ ys) p q =
    let e : x ≡ y = p.0 ∙ sym q.0 in
    let r = tiles_unique b (from + size_at b x) upto xs ys p.2 (subst (λ z. AreTiles b (from + size_at b z) upto ys) (sym e) q.2) in
    rw (e, r) refl

-- ---- what is computed is a tiling

first_whole : (first : ℕ) (w : Walk) (ts : List ℕ) → after_first first w ≡ whole ts → (rest : List ℕ) × (w ≡ whole rest) × (ts ≡ first ∷ rest)
first_whole first (whole rest) ts e = (rest, refl, cc)
first_whole first (stuck met place) ts e = absurd cc

pub tiles_sound : (most : ℕ) (b : List ℕ) (place : ℕ) (ts : List ℕ) → tiles_from most b place ≡ whole ts → AreTiles b place (length b) ts
unfolding tiles_from
tiles_sound zero b place ts e = elim (either (eqb place (length b))) [
  | inl z ↦ let nil : [] ≡ ts = whole_same [] ts (rw z at e) in subst (AreTiles b place (length b)) nil (eqb-true place (length b) z)
  | inr z ↦ let no_end = rw z at e in absurd cc
]
  where
    whole_same : (xs ys : List ℕ) → whole xs ≡ whole ys → xs ≡ ys
    whole_same xs ys p = cc
tiles_sound (suc most) b place ts e = elim (either (eqb place (length b))) [
  | inl z ↦ let nil : [] ≡ ts = whole_same [] ts (rw z at e) in subst (AreTiles b place (length b)) nil (eqb-true place (length b) z)
  | inr z ↦ elim (either (is_tile b place)) [
    | inr bad ↦ let no_end = rw (z, bad) at e in absurd cc
    | inl good ↦
        let f = first_whole place (tiles_from most b (place + size_at b place)) ts (rw (z, good) at e) in
        let long : 12 ≤ size_at b place = leb-true 12 (size_at b place) (and_parts (leb 12 (size_at b place)) (leb (place + size_at b place) (length b)) good).0 in
        subst (AreTiles b place (length b)) (sym f.2) (refl, long, tiles_sound most b (place + size_at b place) f.0 f.1)
  ]
]
  where
    whole_same : (xs ys : List ℕ) → whole xs ≡ whole ys → xs ≡ ys
    whole_same xs ys p = cc

pub tiles_complete : (most : ℕ) (b : List ℕ) (place : ℕ) (ts : List ℕ) → AreTiles b place (length b) ts → length ts ≤ most → tiles_from most b place ≡ whole ts
unfolding tiles_from
tiles_complete zero b place [] t le = rw (eq-eqb place (length b) t) refl
tiles_complete (suc most) b place [] t le = rw (eq-eqb place (length b) t) refl
tiles_complete zero b place (a ∷ ts) t le = absurd (omega arith)
tiles_complete (suc most) b place (a ∷ ts) t le =
    let end = tiles_end b (place + size_at b a) (length b) ts t.2 in
    let e : a ≡ place = t.0 in
    let long : 12 ≤ size_at b place = subst (λ (z : ℕ). 12 ≤ size_at b z) e t.1 in
    let rest : AreTiles b (place + size_at b place) (length b) ts = subst (λ (z : ℕ). AreTiles b (place + size_at b z) (length b) ts) e t.2 in
    let high = tiles_end b (place + size_at b place) (length b) ts rest in
    let some : eqb place (length b) ≡ false = elim (either (eqb place (length b))) [ inl z ↦ let q = eqb-true place (length b) z in absurd (omega arith) | inr z ↦ z ] in
    let good : is_tile b place ≡ true = and_from _ _ (le-leb _ _ long) (le-leb _ _ high) in
    rw (some, good, tiles_complete most b (place + size_at b place) ts rest (omega arith)) (ap (λ (z : ℕ). whole (z ∷ ts)) (sym e))

pub tiling_sound : (b ts : List ℕ) → tiling b ≡ whole ts → AreTiles b 8 (length b) ts
tiling_sound b ts e = tiles_sound (length b) b 8 ts e

pub tiling_complete : (b ts : List ℕ) → AreTiles b 8 (length b) ts → tiling b ≡ whole ts
tiling_complete b ts t = let l = length_tiles b 8 (length b) ts t in tiles_complete (length b) b 8 ts t (omega arith)
