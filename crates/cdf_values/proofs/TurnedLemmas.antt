-- Parts that are turned round twice.
use Rattle.cdf_values.proofs.Common.{Bool, Byte, Char, DataType, Double, Epoch, Epoch16, Float, Int1, Int2, Int4, Int8, List, Real4, Real8, TimeTt2000, UChar, UInt1, UInt2, UInt4, ap, ap₂, arith, div-add-mod, drop, drop_at, false, flat_map, length, length-drop, length-reverse, length-take, nil_from_length, parts, refl, reverse, reverse-reverse, size_of, suc, sym, take, take-append-drop, take_at, true, turned, unit_of, zero, ℕ, ◌%◌, ◌*◌, ◌++◌, ◌/◌, ◌∙◌, ◌≡◌}
use Rattle.cdf_values.proofs.ListLemmas.{length-turned}
use Rattle.cdf_values.proofs.WriteLemmas.{whole_by}

twice : (n k : ℕ) (xs : List ℕ) → length xs ≡ k * n → flat_map reverse (parts n k (flat_map reverse (parts n k xs))) ≡ xs
twice n zero xs e = sym (nil_from_length xs (omega arith))
twice n (suc k) xs e =
    let first = reverse (take n xs) in
    let others = flat_map reverse (parts n k (drop n xs)) in
    let size : length first ≡ n = length-reverse (take n xs) ∙ length-take n xs ∙ omega arith in
    let rest : length (drop n xs) ≡ k * n = length-drop n xs ∙ omega arith in
    ap₂ (λ l m. reverse l ++ flat_map reverse (parts n k m)) (take_at first others n size) (drop_at first others n size)
    ∙ ap₂ (λ l m. l ++ m) (reverse-reverse (take n xs)) (twice n k (drop n xs) rest) ∙ take-append-drop n xs

whole_parts : (n len : ℕ) → len % n ≡ 0 → len ≡ (len / n) * n
whole_parts n len h = omega (arith, div-add-mod len n)

-- whole elements are whole units
whole_units : (t : DataType) (len : ℕ) → len % size_of t ≡ 0 → len % unit_of t ≡ 0
whole_units Int1 len h = h
whole_units Int2 len h = h
whole_units Int4 len h = h
whole_units Int8 len h = h
whole_units UInt1 len h = h
whole_units UInt2 len h = h
whole_units UInt4 len h = h
whole_units Real4 len h = h
whole_units Real8 len h = h
whole_units Epoch len h = h
whole_units Epoch16 len h = whole_by 8 2 len h
whole_units TimeTt2000 len h = h
whole_units Byte len h = h
whole_units Float len h = h
whole_units Double len h = h
whole_units Char len h = h
whole_units UChar len h = h

turned_size : (n : ℕ) (xs : List ℕ) → length xs % n ≡ 0 → length (flat_map reverse (parts n (length xs / n) xs)) ≡ length xs
turned_size n xs h =
    let e = whole_parts n (length xs) h in
    length-turned n (length xs / n) xs (omega arith) ∙ sym e

pub size_stays : (t : DataType) (little : Bool) (bytes : List ℕ) → length bytes % size_of t ≡ 0 → length (turned t little bytes) ≡ length bytes
size_stays t true bytes h = turned_size (unit_of t) bytes (whole_units t (length bytes) h)
size_stays t false bytes h = refl

pub back : (t : DataType) (little : Bool) (bytes : List ℕ) → length bytes % size_of t ≡ 0 → turned t little (turned t little bytes) ≡ bytes
back t true bytes h =
    let n = unit_of t in
    let once = flat_map reverse (parts n (length bytes / n) bytes) in
    let whole = whole_units t (length bytes) h in
    ap (λ len. flat_map reverse (parts n (len / n) once)) (turned_size n bytes whole) ∙ twice n (length bytes / n) bytes (whole_parts n (length bytes) whole)
back t false bytes h = refl

-- written back over the value
pub in_place : (t : DataType) (little : Bool) (n : ℕ) (value now : List ℕ) → length value % size_of t ≡ 0 → n ≡ length value → now ≡ turned t little value → take n (now ++ drop (length now) value) ≡ turned t little value
in_place t little n value now whole long is = take_at now (drop (length now) value) n (ap length is ∙ size_stays t little value whole ∙ sym long) ∙ is
