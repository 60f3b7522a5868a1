-- Writes over a list of bytes.
use Rattle.std.proofs.Common.{◌≡◌, ◌∙◌, ℕ, ◌+◌, ◌-◌, ◌≤◌, ◌<◌, List, ◌++◌, length, take, drop, refl, slice_index, sym, ap, ap₂, append_assoc, arith, length-append, length-take}
use Rattle.std.proofs.lemmas.List.{take-append-drop, take_at, drop_at, drop-drop, take-append-le, drop-append-le, length-take-le, length-drop, get_or-drop, get_or-take, get_or_append_left, get_or-append_right}
use Rattle.cdf_base.specs.Bytes.{put}

pub length-put : (b : List ℕ) (place : ℕ) (xs : List ℕ) → place + length xs ≤ length b → length (put b place xs) ≡ length b
unfolding put
length-put b place xs h =
    omega (arith, length-append (take place b) (xs ++ drop (place + length xs) b), length-append xs (drop (place + length xs) b), length-take-le place b (omega arith), length-drop (place + length xs) b)

-- what a write leaves past it
pub drop-put : (b : List ℕ) (place : ℕ) (xs : List ℕ) → place + length xs ≤ length b → drop (place + length xs) (put b place xs) ≡ drop (place + length xs) b
unfolding put
drop-put b place xs h =
    let head = take place b ++ xs in
    let long : length head ≡ place + length xs = length-append (take place b) xs ∙ ap (λ n. n + length xs) (length-take-le place b (omega arith)) in
    ap (λ (l : List ℕ). drop (place + length xs) l) (sym (append_assoc (take place b) xs (drop (place + length xs) b))) ∙ drop_at head _ (place + length xs) long

pub take-put : (b : List ℕ) (place : ℕ) (xs : List ℕ) → place ≤ length b → take place (put b place xs) ≡ take place b
unfolding put
take-put b place xs h = take_at (take place b) _ place (length-take-le place b h)

-- a second write of as many bytes is all that is seen
pub put-put : (b : List ℕ) (place : ℕ) (xs ys : List ℕ) → place + length xs ≤ length b → length ys ≡ length xs → put (put b place xs) place ys ≡ put b place ys
unfolding put
put-put b place xs ys h same =
    ap₂ (λ (u v : List ℕ). u ++ (ys ++ v)) (take-put b place xs (omega arith))
    (ap (λ n. drop (place + n) (put b place xs)) same ∙ drop-put b place xs h ∙ ap (λ n. drop (place + n) b) (sym same))

-- what stands there already
pub put_own : (b : List ℕ) (place n : ℕ) → place + n ≤ length b → put b place (take n (drop place b)) ≡ b
unfolding put
put_own b place n h =
    let long : length (take n (drop place b)) ≡ n = length-take-le n (drop place b) (omega (arith, length-drop place b)) in
    ap (λ m. take place b ++ (take n (drop place b) ++ drop (place + m) b)) long
    ∙ ap (λ (l : List ℕ). take place b ++ (take n (drop place b) ++ l)) (sym (drop-drop n place b))
    ∙ ap (λ (l : List ℕ). take place b ++ l) (take-append-drop n (drop place b))
    ∙ take-append-drop place b

pub put-append : (b z : List ℕ) (place : ℕ) (xs : List ℕ) → place + length xs ≤ length b → put (b ++ z) place xs ≡ put b place xs ++ z
unfolding put
put-append b z place xs h =
    ap₂ (λ (u v : List ℕ). u ++ (xs ++ v)) (take-append-le place b z (omega arith)) (drop-append-le (place + length xs) b z h)
    ∙ ap (λ (l : List ℕ). take place b ++ l) (sym (append_assoc xs (drop (place + length xs) b) z))
    ∙ sym (append_assoc (take place b) (xs ++ drop (place + length xs) b) z)

pub byte-put_before : (b : List ℕ) (place : ℕ) (xs : List ℕ) (i : ℕ) → place ≤ length b → i < place → slice_index (put b place xs) i ≡ slice_index b i
unfolding put
byte-put_before b place xs i h lt =
    let l : i < length (take place b) = omega (arith, length-take place b) in
    get_or_append_left (take place b) (xs ++ drop (place + length xs) b) 0 i l ∙ get_or-take place b i 0 lt

pub byte-put_inside : (b : List ℕ) (place : ℕ) (xs : List ℕ) (i : ℕ) → place ≤ length b → i < length xs → slice_index (put b place xs) (place + i) ≡ slice_index xs i
unfolding put
byte-put_inside b place xs i h lt =
    let l : length (take place b) ≡ place = omega (arith, length-take place b) in
    let e : (place + i) - place ≡ i = omega arith in
    get_or-append_right (take place b) (xs ++ drop (place + length xs) b) place (place + i) 0 l (omega arith) ∙ rw e (get_or_append_left xs (drop (place + length xs) b) 0 i lt)

pub byte-put_after : (b : List ℕ) (place : ℕ) (xs : List ℕ) (i : ℕ) → place ≤ length b → place + length xs ≤ i → slice_index (put b place xs) i ≡ slice_index b i
unfolding put
byte-put_after b place xs i h le =
    let l : length (take place b) ≡ place = omega (arith, length-take place b) in
    let e : (place + length xs) + ((i - place) - length xs) ≡ i = omega arith in
    get_or-append_right (take place b) (xs ++ drop (place + length xs) b) place i 0 l (omega arith)
    ∙ get_or-append_right xs (drop (place + length xs) b) (length xs) (i - place) 0 refl (omega arith)
    ∙ get_or-drop (place + length xs) b ((i - place) - length xs) 0
    ∙ rw e refl

-- the next bytes
pub put_more : (b xs ys : List ℕ) (place : ℕ) → place + length xs + length ys ≤ length b → put (put b place xs) (place + length xs) ys ≡ put b place (xs ++ ys)
unfolding put
put_more b xs ys place h =
    let head = take place b ++ xs in
    let tail = drop (place + length xs) b in
    let long : length head ≡ place + length xs = length-append (take place b) xs ∙ ap (λ n. n + length xs) (length-take-le place b (omega arith)) in
    let whole : take place b ++ (xs ++ tail) ≡ head ++ tail = sym (append_assoc (take place b) xs tail) in
    let front : take (place + length xs) (take place b ++ (xs ++ tail)) ≡ head = ap (take (place + length xs)) whole ∙ take_at head tail (place + length xs) long in
    let rest : drop (place + length xs + length ys) (take place b ++ (xs ++ tail)) ≡ drop (place + length (xs ++ ys)) b =
    sym (drop-drop (length ys) (place + length xs) (take place b ++ (xs ++ tail)))
    ∙ ap (λ (l : List ℕ). drop (length ys) (drop (place + length xs) l)) whole
    ∙ ap (drop (length ys)) (drop_at head tail (place + length xs) long)
    ∙ drop-drop (length ys) (place + length xs) b
    ∙ ap (λ n. drop n b) (omega (arith, length-append xs ys)) in
    ap₂ (λ (u v : List ℕ). u ++ (ys ++ v)) front rest
    ∙ append_assoc (take place b) xs (ys ++ drop (place + length (xs ++ ys)) b)
    ∙ ap (λ (l : List ℕ). take place b ++ l) (sym (append_assoc xs ys (drop (place + length (xs ++ ys)) b)))
