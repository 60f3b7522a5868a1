-- One more record at the end of an image, and one that is split into two.
use Rattle.cdf_edits.proofs.Common.{AreTiles, In, List, [], ap, arith, inl, inr, refl, size_at, subst, sym, ℕ, ◌++◌, ◌+◌, ◌∙◌, ◌∷◌, ◌≡◌, ◌≤◌}
use Rattle.cdf_edits.proofs.Frame.LinksStay.{tiles_same}

pub tiles_push : (b : List ℕ) (from upto n : ℕ) (ts : List ℕ) → AreTiles b from upto ts → size_at b upto ≡ n → 12 ≤ n → AreTiles b from (upto + n) (ts ++ upto ∷ [])
tiles_push b from upto n [] t e long = (sym t, subst (λ (x : ℕ). 12 ≤ x) (sym e) long, ap (λ (x : ℕ). x + size_at b upto) t ∙ ap (λ (x : ℕ). upto + x) e)
tiles_push b from upto n (a ∷ ts) t e long = (t.0, t.1, tiles_push b (from + size_at b a) upto n ts t.2 e long)

pub tiles_split : (b now : List ℕ) (from upto a n : ℕ) (xs ys : List ℕ) → AreTiles b from upto (xs ++ a ∷ ys)
    → ((c : ℕ) → In c (xs ++ ys) → size_at now c ≡ size_at b c) → size_at now a ≡ n → size_at now (a + n) + n ≡ size_at b a → 12 ≤ n → 12 ≤ size_at now (a + n)
    → AreTiles now from upto (xs ++ a ∷ (a + n) ∷ ys)
tiles_split b now from upto a n [] ys t same first second l1 l2 =
    let here : a ≡ from = t.0 in
    let rest = tiles_same b now (from + size_at b a) upto ys t.2 same in
    let e : (from + size_at now a) + size_at now (a + n) ≡ from + size_at b a = add_up from (size_at now a) (size_at now (a + n)) n (size_at b a) first second in (
      t.0,
      subst (λ (x : ℕ). 12 ≤ x) (sym first) l1,
      (ap (λ (x : ℕ). x + n) here ∙ sym (ap (λ (x : ℕ). from + x) first), l2, subst (λ (x : ℕ). AreTiles now x upto ys) (sym e) rest),
    )
  where
    add_up : (f s r m w : ℕ) → s ≡ m → r + m ≡ w → f + s + r ≡ f + w
    add_up f s r m w p q = omega arith
tiles_split b now from upto a n (x ∷ xs) ys t same first second l1 l2 =
    let here : size_at now x ≡ size_at b x = same x (inl refl) in (
      t.0,
      subst (λ (z : ℕ). 12 ≤ z) (sym here) t.1,
      subst (λ (z : ℕ). AreTiles now (from + z) upto (xs ++ a ∷ (a + n) ∷ ys)) (sym here) (tiles_split b now (from + size_at b x) upto a n xs ys t.2 (λ c h. same c (inr h)) first second l1 l2),
    )
