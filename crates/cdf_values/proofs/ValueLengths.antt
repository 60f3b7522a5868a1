-- How many bytes the values are that words write.
use Rattle.cdf_values.proofs.Common.{BadValue, Bool, Char, Characters, DataType, Err, HasSize, Hexadecimal, List, None, Notation, Ok, Option, Signed, Some, UChar, Unsigned, WrongCount, [], ap, ap₂, arith, bytes_by, bytes_high_first, bytes_in, bytes_of_words, false, fold, hex_bytes, if◌then◌else◌, is_none, length, map, mul-mod_right, nat_tests, negative_in, notation_of, position, positive_in, refl, rules, size_of, suc, sum, sym, text_size, true, values_in, zero, ℕ, ◌%◌, ◌*◌, ◌++◌, ◌+◌, ◌==◌, ◌||◌, ◌∙◌, ◌∷◌, ◌≡◌, ◌≤◌}
use Rattle.std.proofs.lemmas.List.{length-append}
use Rattle.cdf_model.specs.VariableSteps.{is_characters}
use Rattle.cdf_values.proofs.ReadLemmas.{words_onto, takes_word, stops_at_word}

-- a type has a byte or more
pub size_some : (t : DataType) → 1 ≤ size_of t
size_some Char = omega arith
size_some t = omega arith

pub whole_elements : (t : DataType) (elems n : ℕ) → n ≡ size_of t * elems → n % size_of t ≡ 0
whole_elements t elems n e = ap (λ m. m % size_of t) e ∙ mul-mod_right (size_of t) elems

-- one element of a number has the bytes of its type, and a text those of its letters
pub whole_text : (t : DataType) (elems : ℕ) → ((elems == 1) || is_characters (notation_of t)) ≡ true → text_size t elems ≡ size_of t * elems
whole_text Char elems one = omega arith
whole_text UChar elems one = omega arith
whole_text t elems one = grind (arith, nat_tests, one)

-- a word writes so many bytes, and has a quarter of them at least, one byte more being counted for it
record Writes (n : ℕ) (word bytes : List ℕ) : Type 0 where
  pub size : length bytes ≡ n
  pub short : n ≤ 4 * (length word + 1)

given : (p : Bool) (x y : List ℕ) → (if p then Some x else None) ≡ Some y → (p ≡ true) × (x ≡ y)
given true x y e = (refl, cc)
given false x y e = absurd cc

number_long : (n x : ℕ) → length (bytes_high_first n x) ≡ n
number_long zero x = refl
number_long (suc n) x = let rest = number_long n x in omega (arith, rest)

numbered : (n x : ℕ) (p : Bool) (bytes : List ℕ) → (if p then Some (bytes_high_first n x) else None) ≡ Some bytes → length bytes ≡ n
numbered n x p bytes e = ap length (sym (given p (bytes_high_first n x) bytes e).1) ∙ number_long n x

signed : (n b : ℕ) (word bytes : List ℕ) (p : Bool) → (if p then negative_in n word else positive_in n (b ∷ word)) ≡ Some bytes → length bytes ≡ n
signed n b word bytes true e = numbered n _ _ bytes e
signed n b word bytes false e = numbered n _ _ bytes e

pairs : (n : ℕ) (word : List ℕ) → length word ≡ 2 * n → length (hex_bytes word) ≡ n
pairs n [] e = omega arith
pairs n (b ∷ []) e = absurd (omega arith)
pairs zero (b ∷ c ∷ word) e = absurd (omega arith)
pairs (suc n) (b ∷ c ∷ word) e = let rest = pairs n word (omega arith) in omega (arith, rest)

by_notation : (notation : Notation) (n : ℕ) (word bytes : List ℕ) → HasSize notation n → bytes_by notation n word ≡ Some bytes → Writes n word bytes
by_notation Signed n [] bytes s e = absurd cc
by_notation Signed n (b ∷ word) bytes s e = record { size = signed n b word bytes (b == 45) e; short = omega (arith, s.1) }
by_notation Unsigned n [] bytes s e = absurd cc
by_notation Unsigned n (b ∷ word) bytes s e = record { size = numbered n _ _ bytes e; short = omega (arith, s.1) }
by_notation Hexadecimal n word bytes s e =
    let g = given _ (hex_bytes word) bytes e in
    let long : length word ≡ 2 * n = grind (arith, nat_tests, g.0) in
    record { size = ap length (sym g.1) ∙ pairs n word long; short = omega arith }
by_notation Characters n word bytes s e =
    let g = given (length word == n) word bytes e in
    let long : length word ≡ n = grind (arith, nat_tests, g.0) in
    record { size = ap length (sym g.1) ∙ long; short = omega arith }

sized : (t : DataType) (elems : ℕ) → HasSize (notation_of t) (text_size t elems)
sized Char elems = tt
sized UChar elems = tt
sized t elems = search rules

written : (t : DataType) (elems : ℕ) (word bytes : List ℕ) → bytes_in t elems word ≡ Some bytes → Writes (text_size t elems) word bytes
written t elems word bytes e = by_notation (notation_of t) (text_size t elems) word bytes (sized t elems) e

-- the words with a separator each
abbrev pub line_bytes : List (List ℕ) → ℕ
line_bytes words = sum (map (λ word. length word + 1) words)

added : (a : ℕ) (xs : List ℕ) → fold ◌+◌ a xs ≡ a + fold ◌+◌ 0 xs
added a [] = omega arith
added a (x ∷ xs) = added (a + x) xs ∙ omega (arith, added (0 + x) xs)

line_more : (word : List ℕ) (words : List (List ℕ)) → line_bytes (word ∷ words) ≡ (length word + 1) + line_bytes words
line_more word words = added (0 + (length word + 1)) (map (λ word. length word + 1) words) ∙ omega arith

pub fewer : (words : List (List ℕ)) → length words ≤ line_bytes words
fewer [] = omega arith
fewer (word ∷ words) =
    let rest = fewer words in
    omega (arith, rest, line_more word words)

-- words write so many bytes each, behind those that there are
pub record Sizes (size done : ℕ) (words : List (List ℕ)) (bytes : List ℕ) : Type 0 where
  pub long : length bytes ≡ done + size * length words
  pub short : size * length words ≤ 4 * line_bytes words

sizes : (t : DataType) (elems at : ℕ) (done : List ℕ) (words : List (List ℕ)) (bytes : List ℕ) → words_onto t elems at done words ≡ Ok bytes → Sizes (text_size t elems) (length done) words bytes
sizes t elems at done [] bytes e =
    let same : done ++ [] ≡ bytes = cc in
    record { long = sym (ap length same) ∙ omega (arith, length-append done []); short = omega arith }
sizes t elems at done (word ∷ words) bytes e = by (bytes_in t elems word) refl (λ more eq. sizes t elems (at + 1) (done ++ more) words bytes eq)
  where
    by : (o : Option (List ℕ)) → bytes_in t elems word ≡ o → ((more : List ℕ) → words_onto t elems (at + 1) (done ++ more) words ≡ Ok bytes → Sizes (text_size t elems) (length (done ++ more)) words bytes) → Sizes (text_size t elems) (length done) (word ∷ words) bytes
    by None is others = absurd (let no = sym (stops_at_word (bytes_in t elems) at done word words is) ∙ e in cc)
    by (Some more) is others =
        let w = written t elems word more is in
        let rest = others more (sym (takes_word (bytes_in t elems) at done more word words is) ∙ e) in
        record { long = omega (arith, rest.long, w.size, length-append done more); short = omega (arith, rest.short, w.short, line_more word words) }

all_words : (t : DataType) (elems : ℕ) (words : List (List ℕ)) → words_onto t elems 0 [] words ≡ bytes_of_words t elems words
all_words t elems words = by (position (λ word. is_none (bytes_in t elems word)) words) refl
  where
    by : (o : Option ℕ) → position (λ word. is_none (bytes_in t elems word)) words ≡ o → words_onto t elems 0 [] words ≡ bytes_of_words t elems words
    by None e = rw (e, words_onto, bytes_of_words) refl
    by (Some i) e = let same : 0 + i ≡ i = omega arith in rw (e, words_onto, bytes_of_words) (ap (λ (n : ℕ). Err (BadValue n)) same)

pub words_sized : (t : DataType) (elems : ℕ) (words : List (List ℕ)) (bytes : List ℕ) → bytes_of_words t elems words ≡ Ok bytes → Sizes (text_size t elems) 0 words bytes
words_sized t elems words bytes e = sizes t elems 0 [] words bytes (all_words t elems words ∙ e)

-- so many values have the bytes of their elements
pub values_long : (t : DataType) (elems n : ℕ) (words : List (List ℕ)) (value : List ℕ) → ((elems == 1) || is_characters (notation_of t)) ≡ true → values_in t elems n words ≡ Ok value → length value ≡ size_of t * elems * n
values_long t elems n words value one e = by (length words == n) refl
  where
    by : (p : Bool) → (length words == n) ≡ p → length value ≡ size_of t * elems * n
    by true is =
        let read : bytes_of_words t elems words ≡ Ok value = rw is at e in
        let count : length words ≡ n = grind (arith, nat_tests, is) in
        let long : length value ≡ text_size t elems * length words = omega (arith, (words_sized t elems words value read).long) in
        long ∙ ap₂ (λ (m k : ℕ). m * k) (whole_text t elems one) count
    by false is = let not : Err (WrongCount (length words) n) ≡ Ok value = rw is at e in absurd cc
