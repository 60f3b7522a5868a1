-- Bytes written over others.
use Rattle.std.proofs.Common.{List, [], ap, ap₂, append-nil, append_assoc, arith, drop, length, refl, replicate, sym, ℕ, ◌++◌, ◌+◌, ◌∙◌, ◌≡◌}
use Rattle.std.proofs.lemmas.List.{drop_at, length-append, length-replicate, replicate-append-replicate, take_at}
use Rattle.cdf_base.proofs.Puts.{put_more}
use Rattle.cdf_base.specs.Bytes.{put}

pub put_free : (front free back body : List ℕ) → length free ≡ length body → put (front ++ (free ++ back)) (length front) body ≡ front ++ (body ++ back)
unfolding put
put_free front free back body e =
    let whole : front ++ (free ++ back) ≡ (front ++ free) ++ back = sym (append_assoc front free back) in
    ap₂ (λ (xs ys : List ℕ). xs ++ (body ++ ys)) (take_at front (free ++ back) (length front) refl) (ap (λ (l : List ℕ). drop (length front + length body) l) whole ∙ drop_at (front ++ free) back (length front + length body) (omega (arith, e, length-append front free)))

-- a record written over bytes 0 behind an image, its size first
pub record_put : (b xs ys : List ℕ) (n : ℕ) → n ≡ length xs + length ys → put (put (b ++ replicate n 0) (length b) xs) (length b + length xs) ys ≡ b ++ (xs ++ ys)
record_put b xs ys n e =
    let zs : List ℕ = replicate n 0 in
    let long : length zs ≡ n = length-replicate {A = ℕ} n 0 in
    let own = append-nil zs in
    let both : length (xs ++ ys) ≡ n = omega (arith, e, length-append xs ys) in
    put_more (b ++ zs) xs ys (length b) (omega (arith, long, e, length-append b zs))
    ∙ ap (λ (l : List ℕ). put (b ++ l) (length b) (xs ++ ys)) (sym own) ∙ put_free b zs [] (xs ++ ys) (long ∙ sym both) ∙ ap (λ (l : List ℕ). b ++ l) (append-nil (xs ++ ys))

-- the size of a room is written over bytes 0
pub room_put : (b xs : List ℕ) (n : ℕ) → length xs ≡ 8 → put (b ++ replicate (8 + n) 0) (length b) xs ≡ b ++ (xs ++ replicate n 0)
room_put b xs n e =
    let eight : List ℕ = replicate 8 0 in
    ap (λ (l : List ℕ). put (b ++ l) (length b) xs) (sym (replicate-append-replicate 8 n 0)) ∙ put_free b eight (replicate n 0) xs (length-replicate {A = ℕ} 8 0 ∙ sym e)
