-- What room several leaves need together, and some of them.
use Rattle.std.proofs.Common.{Bool, List, [], ap, arith, inl, inr, map, sym, true, ℕ, ◌+◌, ◌∙◌, ◌∷◌, ◌≡◌, ◌≢◌, ◌≤◌, ◌++◌, refl}
use Rattle.std.specs.List.{filter, sum}
use Rattle.std.proofs.lemmas.List.Sums.{sum_by-cons}
use Rattle.cdf_edits.proofs.Common.{either}
use Rattle.cdf_edits.proofs.Edits.LeafPieces.{IsOneOf}
use Rattle.cdf_format.specs.Index.{Leaf}

module _ (g : Leaf → ℕ) where
  abbrev sum_of : List Leaf → ℕ
  sum_of ls = sum (map g ls)

  room_cons : (l : Leaf) (ls : List Leaf) → sum_of (l ∷ ls) ≡ g l + sum_of ls
  room_cons l ls = sum_by-cons (λ x. x) (g l) (map (g) ls)

  pub room_none : sum_of [] ≡ 0
  room_none = refl

  pub room_last : (ls : List Leaf) (l : Leaf) → sum_of (ls ++ l ∷ []) ≡ sum_of ls + g l
  room_last [] l = room_cons l [] ∙ omega (arith, room_none)
  room_last (y ∷ ys) l = let a = room_cons y (ys ++ l ∷ []) in let b = room_cons y ys in let c = room_last ys l in omega (arith, a, b, c)

  module _ (p : Leaf → Bool) where
    -- one that has it has room, and two that have it have room together
    pub room_one : (ls : List Leaf) (x : Leaf) → IsOneOf ls x → p x ≡ true → g x ≤ sum_of (filter p ls)
    room_one [] x i t = absurd i
    room_one (y ∷ ys) x (inl q) t =
        let here : p y ≡ true = ap p q ∙ t in
        let same : g y ≡ g x = ap (g) q in
        rw here (let c = room_cons y (filter p ys) in omega (arith, c, same))
    room_one (y ∷ ys) x (inr i) t = elim (either (p y)) [
      | inl s ↦ rw s (let c = room_cons y (filter p ys) in let r = room_one ys x i t in omega (arith, c, r))
      | inr s ↦ rw s (room_one ys x i t)
    ]

    pub room_two : (ls : List Leaf) (x z : Leaf) → IsOneOf ls x → IsOneOf ls z → x.first ≢ z.first → p x ≡ true → p z ≡ true → g x + g z ≤ sum_of (filter p ls)
    room_two [] x z i j ne t s = absurd i
    room_two (y ∷ ys) x z (inl q) (inl r) ne t s = absurd (ne (ap (λ (w : Leaf). w.first) (sym q ∙ r)))
    room_two (y ∷ ys) x z (inl q) (inr j) ne t s =
        let here : p y ≡ true = ap p q ∙ t in
        let same : g y ≡ g x = ap (g) q in
        rw here (let c = room_cons y (filter p ys) in let r = room_one ys z j s in omega (arith, c, r, same))
    room_two (y ∷ ys) x z (inr i) (inl q) ne t s =
        let here : p y ≡ true = ap p q ∙ s in
        let same : g y ≡ g z = ap (g) q in
        rw here (let c = room_cons y (filter p ys) in let r = room_one ys x i t in omega (arith, c, r, same))
    room_two (y ∷ ys) x z (inr i) (inr j) ne t s = elim (either (p y)) [
      | inl g ↦ rw g (let c = room_cons y (filter p ys) in let r = room_two ys x z i j ne t s in omega (arith, c, r))
      | inr g ↦ rw g (room_two ys x z i j ne t s)
    ]
