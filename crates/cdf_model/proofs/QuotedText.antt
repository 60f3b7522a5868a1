-- A word that is written between quotes is read as itself.
use Rattle.std.proofs.Common.{◌≡◌, ℕ, ◌+◌, ◌*◌, ◌/◌, ◌%◌, ◌<◌, true, false, ◌&&◌, List, [], ◌∷◌, ◌++◌, length, map, Some, Ok, IsOkAnd, refl, sym, ◌∙◌, ap₂, subst, inl, inr, arith}
use Rattle.std.proofs.lemmas.Bool.{cases_eq, cases_Bool, agree_below_at, eqb-true, ne_eqb}
use Rattle.std.proofs.lemmas.List.{map-id}
use Rattle.std.proofs.lemmas.List.Elements.{All-head, All-tail}
use Rattle.std.specs.Char.{is_ascii_hexdigit}
use Rattle.std.specs.List.{All, flat_map, join_with_byte}
use Rattle.std.specs.Prelude.{◌==◌, nat_lt, nat_le}
use Rattle.cdf_model.specs.Quoting.{AWord, quote, at_end, hex_value, before_quote, meaning, first_word, words}
use Rattle.cdf_model.specs.Values.{hex_digit, quoted_byte, quoted}
use Rattle.cdf_model.specs.Written.{WritesByte, Itself, AQuote, ABackslash, Digits, WritesBytes, WritesWord, Quoted, WritesLine}
use Rattle.cdf_model.proofs.JoinedWords.{writes-joined}
use Rattle.cdf_model.proofs.WordsRead.{meaning-written, before-written, first-written, Reads-written}

-- a hexadecimal digit is read as its value
pub digit-test : (d : ℕ) → d < 16 → is_ascii_hexdigit (hex_digit d) ≡ true
digit-test d small = agree_below_at (λ d. is_ascii_hexdigit (hex_digit d)) (λ d. true) 16 d refl small

pub digit-value : (d : ℕ) → d < 16 → hex_value (hex_digit d) ≡ d
digit-value d small = eqb-true _ d (agree_below_at (λ d. hex_value (hex_digit d) == d) (λ d. true) 16 d refl small)

in_digits : (b : ℕ) → b < 256 → WritesByte (92 ∷ 120 ∷ hex_digit (b / 16) ∷ hex_digit (b % 16) ∷ []) b
in_digits b small =
    let high : b / 16 < 16 = omega arith in
    let low : b % 16 < 16 = omega arith in
    let whole : 16 * hex_value (hex_digit (b / 16)) + hex_value (hex_digit (b % 16)) ≡ b = omega (arith, digit-value (b / 16) high, digit-value (b % 16) low) in
    subst (λ (x : ℕ). WritesByte (92 ∷ 120 ∷ hex_digit (b / 16) ∷ hex_digit (b % 16) ∷ []) x) whole
    (Digits (hex_digit (b / 16)) (hex_digit (b % 16)) (digit-test (b / 16) high) (digit-test (b % 16) low))

writes-byte : (b : ℕ) → b < 256 → WritesByte (quoted_byte b) b
writes-byte b small = elim (cases_eq b 34) [
  | inl is ↦ subst (λ (x : ℕ). WritesByte (quoted_byte x) x) (sym is) AQuote
  | inr differs ↦ elim (cases_eq b 92) [
    | inl is ↦ subst (λ (x : ℕ). WritesByte (quoted_byte x) x) (sym is) ABackslash
    | inr differs_too ↦
        let no_quote : (b == 34) ≡ false = ne_eqb b 34 differs in
        let no_backslash : (b == 92) ≡ false = ne_eqb b 92 differs_too in
        elim (cases_Bool (nat_le 32 b && nat_lt b 127)) [
          | inl plain ↦ rw (no_quote, no_backslash, plain) (Itself b no_quote no_backslash)
          | inr other ↦ rw (no_quote, no_backslash, other) (in_digits b small)
        ]
  ]
]

writes-bytes : (bytes : List ℕ) → All (λ b. b < 256) bytes → WritesBytes (flat_map quoted_byte bytes) bytes
writes-bytes [] small = refl
writes-bytes (b ∷ bytes) small = (quoted_byte b, flat_map quoted_byte bytes, refl, writes-byte b (All-head (λ b. b < 256) b bytes small), writes-bytes bytes (All-tail (λ b. b < 256) b bytes small))

pub writes-word : (word : List ℕ) → All (λ b. b < 256) word → WritesWord (quoted word) word
writes-word word small = Quoted (flat_map quoted_byte word) word (writes-bytes word small)

pub meaning-quoted : (place : ℕ) (bytes : List ℕ) → All (λ b. b < 256) bytes → meaning place (flat_map quoted_byte bytes) ≡ Ok bytes
meaning-quoted place bytes small = meaning-written bytes (flat_map quoted_byte bytes) (writes-bytes bytes small) place

pub before-quoted : (bytes text : List ℕ) → All (λ b. b < 256) bytes → before_quote (flat_map quoted_byte bytes ++ quote ∷ text) ≡ Some (length (flat_map quoted_byte bytes))
before-quoted bytes text small = before-written bytes (flat_map quoted_byte bytes) text (writes-bytes bytes small)

pub first-quoted : (place : ℕ) (bytes text : List ℕ) → All (λ b. b < 256) bytes → at_end text ≡ true → first_word place (quoted bytes ++ text) ≡ AWord (record { place = place; bytes = bytes }) (length (quoted bytes))
first-quoted place bytes text small ends =
    first-written place [] (quoted bytes) bytes text refl (writes-word bytes small) ends
    ∙ ap₂ (λ p n. AWord (record { place = p; bytes = bytes }) n) (omega arith) (omega arith)

-- words that are written between quotes and joined by blanks are read as these words
pub Reads-quoted : (ws : List (List ℕ)) → All (λ word. All (λ b. b < 256) word) ws → IsOkAnd (words (join_with_byte 32 (map quoted ws))) (λ read. map (λ word. word.bytes) read ≡ ws)
Reads-quoted ws small =
    let written = writes-joined (λ word. All (λ b. b < 256) word) quoted (λ word. word) ws writes-word small in
    Reads-written (join_with_byte 32 (map quoted ws)) ws (subst (λ (l : List (List ℕ)). WritesLine (join_with_byte 32 (map quoted ws)) l) (map-id ws) written)
