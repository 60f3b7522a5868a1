-- Reading words one by one.
use Rattle.cdf_values.proofs.Common.{BadValue, Bool, DataType, IsRead, List, Notation, Result, ap, append-nil, append_assoc, arith, bytes_by, bytes_in, bytes_of_words, cond, false, false≢true, flat_map, is_none, length, nat_lt, nat_tests, notation_of, option_to_list, position, position_or_len, refl, suc, sym, text_size, true, values_in, ℕ, ◌++◌, ◌+◌, ◌==◌, ◌∙◌, ◌∷◌, ◌≡◌}
use Rattle.std.specs.Prelude.{Option, Some, None, Ok, Err}
use Rattle.cdf_model.specs.declared.answer.Reason.{Reason}

-- the bytes, or the place of a bad word
abbrev pub outcome : Option ℕ → ℕ → List ℕ → Result (List ℕ) Reason
outcome None at bytes = Ok bytes
outcome (Some i) at bytes = Err (BadValue (at + i))

-- the bytes so far and those of the words that are left, the first of which has the number `at`
abbrev pub onto : (List ℕ → Option (List ℕ)) → ℕ → List ℕ → List (List ℕ) → Result (List ℕ) Reason
onto f at done words = outcome (position (λ word. is_none (f word)) words) at (done ++ flat_map (λ word. flat_map (λ bytes. bytes) (option_to_list (f word))) words)

abbrev pub words_onto : DataType → ℕ → ℕ → List ℕ → List (List ℕ) → Result (List ℕ) Reason
words_onto t elems at done words = onto (bytes_in t elems) at done words

shifted : (b c : Bool) (p at : ℕ) (xs ys : List ℕ) → b ≡ c → xs ≡ ys → outcome (cond b (Some (1 + p)) None) at xs ≡ outcome (cond c (Some p) None) (at + 1) ys
shifted true true p at xs ys e f = let n : at + (1 + p) ≡ (at + 1) + p = omega arith in ap (λ n. Err (BadValue n)) n
shifted true false p at xs ys e f = cc
shifted false true p at xs ys e f = cc
shifted false false p at xs ys e f = ap (λ bytes. Ok bytes) f

one_less : (p n : ℕ) → nat_lt (1 + p) (suc n) ≡ nat_lt p n
one_less p n = grind (arith, nat_tests)

-- one word more
pub takes_word : (f : List ℕ → Option (List ℕ)) (at : ℕ) (done bytes word : List ℕ) (words : List (List ℕ)) → f word ≡ Some bytes → onto f at done (word ∷ words) ≡ onto f (at + 1) (done ++ bytes) words
takes_word f at done bytes word words e =
    rw e (shifted (nat_lt (1 + position_or_len (λ word. is_none (f word)) words) (suc (length words))) (nat_lt (position_or_len (λ word. is_none (f word)) words) (length words)) (position_or_len (λ word. is_none (f word)) words) at _ _ (one_less (position_or_len (λ word. is_none (f word)) words) (length words))
    (ap (λ l. done ++ (l ++ flat_map (λ word. flat_map (λ bytes. bytes) (option_to_list (f word))) words)) (append-nil bytes) ∙ sym (append_assoc done bytes (flat_map (λ word. flat_map (λ bytes. bytes) (option_to_list (f word))) words))))

some_left : (n : ℕ) → nat_lt 0 (suc n) ≡ true
some_left n = grind (arith, nat_tests)

pub stops_at_word : (f : List ℕ → Option (List ℕ)) (at : ℕ) (done word : List ℕ) (words : List (List ℕ)) → f word ≡ None → onto f at done (word ∷ words) ≡ Err (BadValue at)
stops_at_word f at done word words e =
    let here : at + 0 ≡ at = omega arith in
    rw (e, some_left (length words)) (ap (λ n. Err (BadValue n)) here)

pub not_read : (meaning : Option (List ℕ)) (old new : List ℕ) → IsRead meaning old new false → meaning ≡ None
not_read None old new h = refl
not_read (Some bytes) old new h = absurd (false≢true h.0)

-- what is appended where a word is read
pub appended : (meaning : Option (List ℕ)) (old new : List ℕ) → IsRead meaning old new true → (bytes : List ℕ) × (meaning ≡ Some bytes) × (new ≡ old ++ bytes)
appended None old new h = absurd (false≢true (sym h))
appended (Some bytes) old new h = (bytes, refl, h.1)

counted_by : (count : Bool) (meaning other : Result (List ℕ) Reason) → count ≡ true → cond count meaning other ≡ meaning
counted_by true meaning other e = refl
counted_by false meaning other e = absurd (false≢true e)

same_count : (a b : ℕ) → a ≡ b → (a == b) ≡ true
same_count a b e = grind (arith, nat_tests)

pub counted : (t : DataType) (elems wanted : ℕ) (words : List (List ℕ)) → length words ≡ wanted → values_in t elems wanted words ≡ bytes_of_words t elems words
counted t elems wanted words e = counted_by (length words == wanted) (bytes_of_words t elems words) _ (same_count (length words) wanted e)

meaning_of : (t : DataType) (elems size : ℕ) (notation : Notation) (old new word : List ℕ) (is_read : Bool) → notation ≡ notation_of t → size ≡ text_size t elems → IsRead (bytes_by notation size word) old new is_read → IsRead (bytes_in t elems word) old new is_read
meaning_of t elems size notation old new word is_read e f h = rw (sym e, sym f) h

-- a word more, as the loop reads it
pub goes_on : (t : DataType) (elems size at : ℕ) (notation : Notation) (old new word : List ℕ) (words more : List (List ℕ)) → notation ≡ notation_of t → size ≡ text_size t elems → words ≡ word ∷ more → IsRead (bytes_by notation size word) old new true
    → words_onto t elems at old words ≡ words_onto t elems (at + 1) new more
goes_on t elems size at notation old new word words more e f g h =
    let read = appended (bytes_in t elems word) old new (meaning_of t elems size notation old new word true e f h) in
    ap (words_onto t elems at old) g ∙ takes_word (bytes_in t elems) at old read.0 word more read.1 ∙ ap (λ l. words_onto t elems (at + 1) l more) (sym read.2)

pub stops : (t : DataType) (elems size at : ℕ) (notation : Notation) (old new word : List ℕ) (words more : List (List ℕ)) → notation ≡ notation_of t → size ≡ text_size t elems → words ≡ word ∷ more → IsRead (bytes_by notation size word) old new false
    → words_onto t elems at old words ≡ Err (BadValue at)
stops t elems size at notation old new word words more e f g h =
    ap (words_onto t elems at old) g ∙ stops_at_word (bytes_in t elems) at old word more (not_read (bytes_in t elems word) old new (meaning_of t elems size notation old new word false e f h))
