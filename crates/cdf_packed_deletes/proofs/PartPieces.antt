-- The pieces of plain bytes that are records: of a part of them, and of two parts one behind the other.
use Rattle.cdf_edits.proofs.Common.{List, ap, arith, drop, length, suc, sym, ℕ, ◌*◌, ◌++◌, ◌+◌, ◌-◌, ◌<◌, ◌∙◌, ◌≡◌, ◌≤◌}
use Rattle.cdf_edits.proofs.Edits.LeafPieces.{times_le}
use Rattle.cdf_put_steps.proofs.RecordPieces.{piece}
use Rattle.std.proofs.Common.{take}
use Rattle.std.proofs.lemmas.List.{drop-append-le, drop-drop, drop-take, drop_at, length-drop, length-take, take-append-le, take-take}

-- so many records, from one on
abbrev pub part : ℕ → ℕ → ℕ → List ℕ → List ℕ
part size a c xs = take (c * size) (drop (a * size) xs)

pub part_long : (size a c : ℕ) (xs : List ℕ) → (a + c) * size ≤ length xs → length (part size a c xs) ≡ c * size
part_long size a c xs le = omega (arith, length-take (c * size) (drop (a * size) xs), length-drop (a * size) xs, spread a c size)
  where
    spread : (a c size : ℕ) → (a + c) * size ≡ a * size + c * size
    spread a c size = omega arith

pub piece_of_part : (size a c j : ℕ) (xs : List ℕ) → j < c → piece size j (part size a c xs) ≡ piece size (a + j) xs
piece_of_part size a c j xs lt =
    let le = times_le (suc j) c size lt in
    let most : c * size ≡ j * size + (c * size - j * size) = omega (arith, le) in
    let at : a * size + j * size ≡ (a + j) * size = omega arith in
    let whole : drop (j * size) (part size a c xs) ≡ take (c * size - j * size) (drop (j * size) (drop (a * size) xs)) = ap (λ (n : ℕ). drop (j * size) (take n (drop (a * size) xs))) most ∙ drop-take (j * size) (c * size - j * size) (drop (a * size) xs) in
    ap (take size) whole ∙ take-take size (c * size - j * size) (drop (j * size) (drop (a * size) xs)) (omega (arith, le)) ∙ ap (take size) (drop-drop (j * size) (a * size) xs) ∙ ap (λ (n : ℕ). take size (drop n xs)) at

pub piece_front : (size n j : ℕ) (xs ys : List ℕ) → length xs ≡ n * size → j < n → piece size j (xs ++ ys) ≡ piece size j xs
piece_front size n j xs ys long lt =
    let le = times_le (suc j) n size lt in
    ap (take size) (drop-append-le (j * size) xs ys (omega (arith, le, long))) ∙ take-append-le size (drop (j * size) xs) ys (omega (arith, length-drop (j * size) xs, le, long))

pub piece_back : (size n j : ℕ) (xs ys : List ℕ) → length xs ≡ n * size → piece size (n + j) (xs ++ ys) ≡ piece size j ys
piece_back size n j xs ys long =
    let at : (n + j) * size ≡ n * size + j * size = omega arith in
    ap (λ (m : ℕ). take size (drop m (xs ++ ys))) at ∙ ap (take size) (sym (drop-drop (j * size) (n * size) (xs ++ ys)) ∙ ap (drop (j * size)) (drop_at xs ys (n * size) long))

pub piece_of_first : (size c j : ℕ) (xs : List ℕ) → j < c → piece size j (part size 0 c xs) ≡ piece size j xs
piece_of_first size c j xs lt = let e : 0 + j ≡ j = omega arith in piece_of_part size 0 c j xs lt ∙ ap (λ (n : ℕ). piece size n xs) e
