-- Texts of values, each with a blank in front.
use Rattle.cdf_values.proofs.Common.{Byte, Char, DataType, Double, Epoch, Epoch16, Float, Int1, Int2, Int4, Int8, List, Real4, Real8, TimeTt2000, UChar, UInt1, UInt2, UInt4, [], add-mod_right, add-one, ap, append-nil, append_assoc, arith, cases_lt, div-add-mod, div-eq-sub-div, drop, flat_map, inl, inr, join_with_byte, length, length-drop, map, mod-eq_of_lt, mul-mod_right, nat_tests, notation_of, parts, size_of, suc, sym, take, text_by, text_size, values_text, ℕ, ◌%◌, ◌*◌, ◌++◌, ◌+◌, ◌-◌, ◌/◌, ◌<◌, ◌==◌, ◌∙◌, ◌∷◌, ◌≡◌, ◌≤◌, ◌⊎◌}
use Rattle.std.specs.Prelude.{false}

abbrev pub led : DataType → ℕ → List ℕ → List ℕ
led t size rest = flat_map (λ part. 32 ∷ text_by (notation_of t) part) (parts size (length rest / size) rest)

joined_first : (f : List ℕ → List ℕ) (x : List ℕ) (xs : List (List ℕ)) → join_with_byte 32 (map f (x ∷ xs)) ≡ f x ++ flat_map (λ y. 32 ∷ f y) xs
joined_first f x [] = sym (append-nil (f x))
joined_first f x (y ∷ xs) = ap (λ l. f x ++ (32 ∷ l)) (joined_first f y xs)

-- the first part, and those behind it
first_part : (size : ℕ) (xs : List ℕ) → 0 < size → size ≤ length xs → parts size (length xs / size) xs ≡ take size xs ∷ parts size (length (drop size xs) / size) (drop size xs)
first_part size xs some long =
    let count : length xs / size ≡ suc (length (drop size xs) / size) = div-eq-sub-div some long ∙ add-one ((length xs - size) / size) ∙ ap (λ n. suc (n / size)) (sym (length-drop size xs)) in
    ap (λ n. parts size n xs) count

pub begins : (t : DataType) (elems size : ℕ) (xs : List ℕ) → size ≡ text_size t elems → 0 < size → size ≤ length xs → text_by (notation_of t) (take size xs) ++ led t size (drop size xs) ≡ values_text t elems xs
begins t elems size xs e some long =
    sym (joined_first (text_by (notation_of t)) (take size xs) (parts size (length (drop size xs) / size) (drop size xs)))
    ∙ ap (λ ps. join_with_byte 32 (map (text_by (notation_of t)) ps)) (sym (first_part size xs some long))
    ∙ ap (λ n. join_with_byte 32 (map (text_by (notation_of t)) (parts n (length xs / n) xs))) e

pub goes_on : (t : DataType) (size : ℕ) (done xs : List ℕ) → 0 < size → size ≤ length xs → done ++ led t size xs ≡ ((done ++ (32 ∷ [])) ++ text_by (notation_of t) (take size xs)) ++ led t size (drop size xs)
goes_on t size done xs some long =
    ap (λ ps. done ++ flat_map (λ part. 32 ∷ text_by (notation_of t) part) ps) (first_part size xs some long)
    ∙ sym (append_assoc (done ++ (32 ∷ [])) (text_by (notation_of t) (take size xs)) (led t size (drop size xs)) ∙ append_assoc done (32 ∷ []) (text_by (notation_of t) (take size xs) ++ led t size (drop size xs)))

pub whole_by : (s e len : ℕ) → len % (s * e) ≡ 0 → len % s ≡ 0
whole_by s e len h =
    let split : len ≡ s * (e * (len / (s * e))) = omega (arith, div-add-mod len (s * e)) in
    ap (λ n. n % s) split ∙ mul-mod_right s (e * (len / (s * e)))

-- whole values are whole texts
pub whole_texts : (t : DataType) (elems len : ℕ) → len % (size_of t * elems) ≡ 0 → len % text_size t elems ≡ 0
whole_texts Int1 elems len h = whole_by (size_of Int1) elems len h
whole_texts Int2 elems len h = whole_by (size_of Int2) elems len h
whole_texts Int4 elems len h = whole_by (size_of Int4) elems len h
whole_texts Int8 elems len h = whole_by (size_of Int8) elems len h
whole_texts UInt1 elems len h = whole_by (size_of UInt1) elems len h
whole_texts UInt2 elems len h = whole_by (size_of UInt2) elems len h
whole_texts UInt4 elems len h = whole_by (size_of UInt4) elems len h
whole_texts Real4 elems len h = whole_by (size_of Real4) elems len h
whole_texts Real8 elems len h = whole_by (size_of Real8) elems len h
whole_texts Epoch elems len h = whole_by (size_of Epoch) elems len h
whole_texts Epoch16 elems len h = whole_by (size_of Epoch16) elems len h
whole_texts TimeTt2000 elems len h = whole_by (size_of TimeTt2000) elems len h
whole_texts Byte elems len h = whole_by (size_of Byte) elems len h
whole_texts Float elems len h = whole_by (size_of Float) elems len h
whole_texts Double elems len h = whole_by (size_of Double) elems len h
whole_texts Char elems len h = let one : 1 * elems ≡ elems = omega arith in ap (λ n. len % n) (sym one) ∙ h
whole_texts UChar elems len h = let one : 1 * elems ≡ elems = omega arith in ap (λ n. len % n) (sym one) ∙ h

pub some_bytes : (t : DataType) (elems : ℕ) → 1 ≤ elems → 0 < text_size t elems
some_bytes Int1 elems h = omega arith
some_bytes Int2 elems h = omega arith
some_bytes Int4 elems h = omega arith
some_bytes Int8 elems h = omega arith
some_bytes UInt1 elems h = omega arith
some_bytes UInt2 elems h = omega arith
some_bytes UInt4 elems h = omega arith
some_bytes Real4 elems h = omega arith
some_bytes Real8 elems h = omega arith
some_bytes Epoch elems h = omega arith
some_bytes Epoch16 elems h = omega arith
some_bytes TimeTt2000 elems h = omega arith
some_bytes Byte elems h = omega arith
some_bytes Float elems h = omega arith
some_bytes Double elems h = omega arith
some_bytes Char elems h = omega arith
some_bytes UChar elems h = omega arith

small_or : (size len : ℕ) → (len < size) ⊎ (size ≤ len) → len % size ≡ 0 → 0 < len → size ≤ len
small_or size len (inr long) whole h = long
small_or size len (inl short) whole h = absurd (omega (arith, mod-eq_of_lt short))

-- a whole number of parts that is not none has one
pub some_part : (size len : ℕ) → 0 < size → len % size ≡ 0 → 0 < len → size ≤ len
some_part size len some whole h = small_or size len (cases_lt len size) whole h

pub still_whole : (size len : ℕ) → len % size ≡ 0 → size ≤ len → (len - size) % size ≡ 0
still_whole size len whole room = sym (ap (λ n. n % size) (let e : len ≡ (len - size) + size = omega arith in e) ∙ add-mod_right (len - size) size) ∙ whole

pub not_none : (n : ℕ) → false ≡ (n == 0) → 0 < n
not_none n e = grind (arith, nat_tests)
