-- What is kept leads back to the base.
use Rattle.std.proofs.Common.{◌≡◌, ◌∙◌, ℕ, ◌+◌, ◌-◌, ◌≤◌, ◌<◌, List, [], ◌∷◌, ◌++◌, length, take, drop, min, sym, refl, ap, ap₂, arith, inl, inr}
use Rattle.std.proofs.lemmas.Bool.{cases_lt}
use Rattle.std.proofs.lemmas.List.{take-take, drop-take, length-take-le, length-drop, nil_from_length}
use Rattle.cdf_base.specs.Bytes.{put}
use Rattle.cdf_base.proofs.Puts.{take-put, drop-put, put_own}
use Rattle.cdf_area.specs.OldBytes.{Old, back}

-- what was kept last goes back first
pub back-push : (olds : List Old) (old : Old) (bytes : List ℕ) → back (olds ++ old ∷ []) bytes ≡ back olds (put bytes old.place old.bytes)
unfolding back
back-push [] old bytes = refl
back-push (first ∷ olds) old bytes = ap (λ (l : List ℕ). put l first.place first.bytes) (back-push olds old bytes)

-- what a cut leaves past a place
drop-take_past : (k m : ℕ) (bytes : List ℕ) → k ≤ m → drop k (take m bytes) ≡ take (m - k) (drop k bytes)
drop-take_past k m bytes le =
    let e : m ≡ k + (m - k) = omega arith in
    ap (λ n. drop k (take n bytes)) e ∙ drop-take k (m - k) bytes

-- a write of nothing, or past the marked bytes, leaves them
pub take-put_past : (bytes : List ℕ) (place : ℕ) (xs : List ℕ) (m : ℕ) → place + length xs ≤ length bytes → min m (place + length xs) ≤ place → take m (put bytes place xs) ≡ take m bytes
take-put_past bytes place xs m inside past =
    elim (cases_lt place m) as (λ _. take m (put bytes place xs) ≡ take m bytes) [
      | inl below ↦ let none : xs ≡ [] = nil_from_length xs (omega arith) in rw none (ap (take m) (put_own bytes place 0 (omega arith)))
      | inr past ↦ sym (take-take m place (put bytes place xs) past) ∙ ap (take m) (take-put bytes place xs (omega arith)) ∙ take-take m place bytes past
    ]

-- past what was kept, a write leaves the marked bytes
rest-put : (bytes : List ℕ) (place : ℕ) (xs : List ℕ) (m k : ℕ) → place + length xs ≤ length bytes → place < m → k ≡ min m (place + length xs) → drop k (take m (put bytes place xs)) ≡ drop k (take m bytes)
rest-put bytes place xs m k inside below e =
    let same : take (m - k) (drop k (put bytes place xs)) ≡ take (m - k) (drop k bytes) =
    elim (cases_lt (place + length xs) m) as (λ _. take (m - k) (drop k (put bytes place xs)) ≡ take (m - k) (drop k bytes)) [
      | inl before ↦ let at : k ≡ place + length xs = omega arith in rw at (ap (take (m - (place + length xs))) (drop-put bytes place xs inside))
      | inr past ↦ let none : m - k ≡ 0 = omega arith in rw none refl
    ] in
    drop-take_past k m (put bytes place xs) (omega arith) ∙ same ∙ sym (drop-take_past k m bytes (omega arith))

-- the kept bytes of a range, put back over what was written
pub put-put_kept : (bytes : List ℕ) (place : ℕ) (xs : List ℕ) (m : ℕ) (old : List ℕ) → place + length xs ≤ length bytes → m ≤ length bytes → place < m
    → old ≡ take (min m (place + length xs) - place) (drop place bytes) → put (take m (put bytes place xs)) place old ≡ take m bytes
unfolding put
put-put_kept bytes place xs m old inside low below kept =
    let n = min m (place + length xs) - place in
    let long : length old ≡ n = ap length kept ∙ length-take-le n (drop place bytes) (omega (arith, length-drop place bytes)) in
    let own : take n (drop place (take m bytes)) ≡ old =
    ap (take n) (drop-take_past place m bytes (omega arith)) ∙ take-take n (m - place) (drop place bytes) (omega arith) ∙ sym kept in
    let front : take place (take m (put bytes place xs)) ≡ take place (take m bytes) =
    take-take place m (put bytes place xs) (omega arith) ∙ take-put bytes place xs (omega arith) ∙ sym (take-take place m bytes (omega arith)) in
    let rest = rest-put bytes place xs m (place + length old) inside below (omega arith) in
    ap₂ (λ (u v : List ℕ). u ++ (old ++ v)) front rest
    ∙ ap (put (take m bytes) place) (sym own)
    ∙ put_own (take m bytes) place n (omega (arith, length-take-le m bytes low))

-- once the old bytes of a range are kept, what is written over it leaves the base
pub back-kept : (olds : List Old) (bytes : List ℕ) (place : ℕ) (xs : List ℕ) (m : ℕ) (old : List ℕ) → place + length xs ≤ length bytes → m ≤ length bytes → place < m
    → old ≡ take (min m (place + length xs) - place) (drop place bytes)
    → back (olds ++ record { place = place; bytes = old } ∷ []) (take m (put bytes place xs)) ≡ back olds (take m bytes)
back-kept olds bytes place xs m old inside low below kept =
    back-push olds (record { place = place; bytes = old }) (take m (put bytes place xs)) ∙ ap (back olds) (put-put_kept bytes place xs m old inside low below kept)
