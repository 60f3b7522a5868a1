-- Lists that are gone through element by element, or part by part.
use Rattle.cdf_values.proofs.Common.{List, [], add-one, ap, append-nil, append_assoc, arith, div-mul-le_self, drop, drop-drop, drop_at, flat_map, length, length-append, length-drop, length-reverse, length-take, mul-le, parts, refl, reverse, suc, sym, take, zero, ℕ, ◌*◌, ◌++◌, ◌+◌, ◌-◌, ◌/◌, ◌<◌, ◌∙◌, ◌∷◌, ◌≡◌, ◌≤◌}
use Rattle.cdf_model.proofs.Filled.{filled_more}
use borrow.Rule.Slice.PartMut.{put_mid}

pub flat_map-append : {A B : Type 0} (f : A → List B) (xs ys : List A) → flat_map f (xs ++ ys) ≡ flat_map f xs ++ flat_map f ys
flat_map-append f [] ys = refl
flat_map-append f (x ∷ xs) ys = ap (λ l. f x ++ l) (flat_map-append f xs ys) ∙ sym (append_assoc (f x) (flat_map f xs) (flat_map f ys))

parts_suc : (n k : ℕ) (xs : List ℕ) → parts n (suc k) xs ≡ parts n k xs ++ (take n (drop (k * n) xs) ∷ [])
parts_suc n zero xs = ap (λ m. take n (drop m xs) ∷ []) (let e : 0 ≡ 0 * n = omega arith in e)
parts_suc n (suc k) xs =
    ap (λ l. take n xs ∷ l) (parts_suc n k (drop n xs) ∙ ap (λ l. parts n k (drop n xs) ++ (take n l ∷ [])) (drop-drop (k * n) n xs ∙ ap (λ m. drop m xs) (let e : n + k * n ≡ suc k * n = omega arith in e)))

-- one more part
pub parts_more : (n k : ℕ) (xs : List ℕ) → parts n (k + 1) xs ≡ parts n k xs ++ (take n (drop (k * n) xs) ∷ [])
parts_more n k xs = rw add-one (parts_suc n k xs)

-- the parts of a whole number of parts, turned round or not, have all the bytes
pub length-turned : (n k : ℕ) (xs : List ℕ) → k * n ≤ length xs → length (flat_map reverse (parts n k xs)) ≡ k * n
length-turned n zero xs h = omega arith
length-turned n (suc k) xs h =
    let here : length (reverse (take n xs)) ≡ n = length-reverse (take n xs) ∙ length-take n xs ∙ omega arith in
    let more : length (flat_map reverse (parts n k (drop n xs))) ≡ k * n = length-turned n k (drop n xs) (omega (arith, length-drop n xs)) in
    length-append (reverse (take n xs)) (flat_map reverse (parts n k (drop n xs))) ∙ omega arith

-- the next part is turned round
pub turned_more : (n i : ℕ) (old now ys : List ℕ) → (i + 1) * n ≤ length old → now ≡ flat_map reverse (parts n i old) ++ drop (i * n) old → ys ≡ reverse (take ((i + 1) * n - i * n) (drop (i * n) now))
    → put_mid (i * n) ((i + 1) * n - i * n) now ys ≡ flat_map reverse (parts n (i + 1) old) ++ drop ((i + 1) * n) old
turned_more n i old now ys room before e =
    let done = flat_map reverse (parts n i old) in
    let next : (i + 1) * n ≡ i * n + n = omega arith in
    let size : length done ≡ i * n = length-turned n i old (omega arith) in
    let part : (i + 1) * n - i * n ≡ n = omega arith in
    let here : ys ≡ reverse (take n (drop (i * n) old)) =
    e ∙ ap (λ k. reverse (take k (drop (i * n) now))) part ∙ ap (λ l. reverse (take n l)) (ap (drop (i * n)) before ∙ drop_at done (drop (i * n) old) (i * n) size) in
    let turned : done ++ ys ≡ flat_map reverse (parts n (i + 1) old) =
    ap (λ l. done ++ l) (here ∙ sym (append-nil (reverse (take n (drop (i * n) old)))))
    ∙ sym (flat_map-append reverse (parts n i old) (take n (drop (i * n) old) ∷ []))
    ∙ sym (ap (flat_map reverse) (parts_more n i old)) in
    ap (λ l. put_mid (i * n) ((i + 1) * n - i * n) l ys) before
    ∙ filled_more (i * n) ((i + 1) * n) n done old ys size next
    ∙ ap (λ l. l ++ drop ((i + 1) * n) old) turned

-- the part of a number below the quotient is there
pub has_part : (n i len : ℕ) → i < len / n → (i + 1) * n ≤ len
has_part n i len h = omega (arith, mul-le (i + 1) n (len / n) n (omega arith) (omega arith), div-mul-le_self len n)

-- a part of one byte is turned round already
single_bytes : (xs : List ℕ) → flat_map reverse (parts 1 (length xs) xs) ≡ xs
single_bytes [] = refl
single_bytes (x ∷ xs) = ap (λ l. x ∷ l) (single_bytes xs)

pub turned_singly : (n : ℕ) (xs : List ℕ) → n ≡ 1 → xs ≡ flat_map reverse (parts n (length xs / n) xs)
turned_singly n xs e =
    let count : length xs / 1 ≡ length xs = omega arith in
    sym (ap (λ m. flat_map reverse (parts m (length xs / m) xs)) e ∙ ap (λ k. flat_map reverse (parts 1 k xs)) count ∙ single_bytes xs)
