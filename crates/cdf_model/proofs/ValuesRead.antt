-- The text of a value is read as the value.
use Rattle.std.proofs.Common.{◌≡◌, pos, negsuc, ◌-ℤ◌, ℕ, suc, ◌+◌, ◌-◌, ◌*◌, ◌/◌, ◌%◌, ◌^◌, ◌<◌, ◌≤◌, Bool, true, false, not, cond, List, [], ◌∷◌, length, Some, refl, sym, ◌∙◌, ap, ap₂, subst, inl, inr, arith, lit≤}
use Rattle.std.proofs.lemmas.Bool.{cases_lt, ne_eqb, false≢true, and_parts, lt-ltb, le-ltb, le-leb, eq-eqb}
use Rattle.std.proofs.lemmas.Fmt.{decimal_nonempty}
use Rattle.std.proofs.lemmas.Int.{ints}
use Rattle.std.proofs.lemmas.List.Elements.{All-head, All-tail}
use Rattle.std.specs.Char.{is_ascii_digit, is_ascii_hexdigit}
use Rattle.std.specs.Fmt.{decimal, signed_decimal}
use Rattle.std.specs.Int.{bytes_high_first}
use Rattle.std.specs.List.{All, list_all}
use Rattle.std.specs.Prelude.{◌==◌, nat_lt, nat_le}
use Rattle.cdf_model.specs.declared.data_type.DataType.{DataType}
use Rattle.cdf_model.specs.declared.data_type.DataType.TheVariants.{Int1, Int2, Int4, Int8, UInt1, UInt2, UInt4, Real4, Real8, Epoch, Epoch16, TimeTt2000, Byte, Float, Double, Char, UChar}
use Rattle.cdf_model.specs.Arguments.{is_plain_number}
use Rattle.cdf_model.specs.Quoting.{hex_value}
use Rattle.cdf_model.specs.Values.{Notation, notation_of, text_size, Signed, Unsigned, Hexadecimal, Characters, number_of, signed_of, hex_digit, hex_text, hex_bytes, text_by, bytes_by, positive_in, negative_in, signed_in}
use Rattle.cdf_model.specs.Written.{is_bare, WritesWord, Bare}
use Rattle.cdf_model.proofs.Decimals.{digits-decimal, value-decimal, is_plain-decimal}
use Rattle.cdf_model.proofs.Numbers.{number_of-lt, bytes-number_of}
use Rattle.cdf_model.proofs.QuotedText.{digit-test, digit-value, writes-word}

-- the word that a text writes
abbrev pub word_of : Notation → List ℕ → List ℕ
word_of Characters bytes = bytes
word_of notation bytes = text_by notation bytes

-- the sizes of numbers
pub data IsSize : ℕ → Type 0 where
  One : IsSize 1
  Two : IsSize 2
  Four : IsSize 4
  Eight : IsSize 8

record Powers (n : ℕ) : Type 0 where
  bytes : 256 ^ n ≡ 2 ^ (8 * n)
  least : 2 ^ (8 * n) ≤ 2 ^ 64
  halves : 2 ^ (8 * n) ≡ 2 ^ (8 * n - 1) + 2 ^ (8 * n - 1)

powers : (n : ℕ) → IsSize n → Powers n
powers n One = record { bytes = refl; least = lit≤ tt; halves = refl }
powers n Two = record { bytes = refl; least = lit≤ tt; halves = refl }
powers n Four = record { bytes = refl; least = lit≤ tt; halves = refl }
powers n Eight = record { bytes = refl; least = lit≤ tt; halves = refl }

number-fits : (n : ℕ) (bytes : List ℕ) → IsSize n → length bytes ≡ n → All (λ b. b < 256) bytes → number_of bytes < 2 ^ (8 * n)
number-fits n bytes size long small = let p = powers n size in omega (arith, number_of-lt bytes small, ap (λ m. 256 ^ m) long, p.bytes)

back : (n : ℕ) (bytes : List ℕ) → length bytes ≡ n → All (λ b. b < 256) bytes → bytes_high_first n (number_of bytes) ≡ bytes
back n bytes long small = ap (λ m. bytes_high_first m (number_of bytes)) (sym long) ∙ bytes-number_of bytes small

-- a test that the separators and the quote do not pass
bare-byte : (test : ℕ → Bool) → test 32 ≡ false → test 9 ≡ false → test 34 ≡ false → (b : ℕ) → test b ≡ true → is_bare b ≡ true
bare-byte test blank tab quote b passes =
    let no_blank : (b == 32) ≡ false = ne_eqb b 32 (λ same. false≢true (sym blank ∙ ap test (sym same) ∙ passes)) in
    let no_tab : (b == 9) ≡ false = ne_eqb b 9 (λ same. false≢true (sym tab ∙ ap test (sym same) ∙ passes)) in
    let no_quote : (b == 34) ≡ false = ne_eqb b 34 (λ same. false≢true (sym quote ∙ ap test (sym same) ∙ passes)) in
    rw (no_blank, no_tab, no_quote) refl

bare-bytes : (test : ℕ → Bool) → test 32 ≡ false → test 9 ≡ false → test 34 ≡ false → (word : List ℕ) → list_all test word ≡ true → list_all is_bare word ≡ true
bare-bytes test blank tab quote [] all = refl
bare-bytes test blank tab quote (b ∷ word) all =
    let parts = and_parts (test b) (list_all test word) all in
    rw (bare-byte test blank tab quote b parts.0) (bare-bytes test blank tab quote word parts.1)

bare-word : (word : List ℕ) → 0 < length word → list_all is_bare word ≡ true → WritesWord word word
bare-word [] some bare = absurd (omega arith)
bare-word (b ∷ word) some bare = Bare b word bare

writes-decimal : (n : ℕ) → n < 2 ^ 64 → WritesWord (decimal n) (decimal n)
writes-decimal n small = bare-word (decimal n) (decimal_nonempty n small) (bare-bytes is_ascii_digit refl refl refl (decimal n) (digits-decimal n small))

writes-negative : (n : ℕ) → n < 2 ^ 64 → WritesWord (45 ∷ decimal n) (45 ∷ decimal n)
writes-negative n small = Bare 45 (decimal n) (bare-bytes is_ascii_digit refl refl refl (decimal n) (digits-decimal n small))

-- the text of a value writes a word, and the word is read as the value
pub record Back (notation : Notation) (n : ℕ) (bytes : List ℕ) : Type 0 where
  pub written : WritesWord (text_by notation bytes) (word_of notation bytes)
  pub read : bytes_by notation n (word_of notation bytes) ≡ Some bytes

back-unsigned : (n : ℕ) (bytes : List ℕ) → IsSize n → length bytes ≡ n → All (λ b. b < 256) bytes → Back Unsigned n bytes
back-unsigned n bytes size long small =
    let p = powers n size in
    let fits = number-fits n bytes size long small in
    let wide : number_of bytes < 2 ^ 64 = omega (arith, p.least) in
    let test : nat_lt (number_of bytes) (2 ^ (8 * n)) ≡ true = lt-ltb _ _ fits in
    record {
      written = writes-decimal (number_of bytes) wide;
      read = rw (is_plain-decimal (number_of bytes) wide, value-decimal (number_of bytes) wide, test, back n bytes long small) refl;
    }

signed_of_is : (n : ℕ) (bytes : List ℕ) → length bytes ≡ n → signed_of bytes ≡ cond (nat_lt (number_of bytes) (2 ^ (8 * n - 1))) (pos (number_of bytes)) (pos (number_of bytes) -ℤ pos (2 ^ (8 * n)))
signed_of_is n bytes long = ap (λ m. cond (nat_lt (number_of bytes) (2 ^ (8 * m - 1))) (pos (number_of bytes)) (pos (number_of bytes) -ℤ pos (2 ^ (8 * m)))) long

-- a number with digits alone has no sign
no_sign : (b : ℕ) → is_ascii_digit b ≡ true → (b == 45) ≡ false
no_sign b digit = ne_eqb b 45 (λ same. let sign : is_ascii_digit 45 ≡ false = refl in false≢true (sym sign ∙ ap is_ascii_digit (sym same) ∙ digit))

no_sign-in : (n : ℕ) (word : List ℕ) → is_plain_number word ≡ true → signed_in n word ≡ positive_in n word
no_sign-in n [] plain = refl
no_sign-in n (b ∷ []) plain = rw (no_sign b plain) refl
no_sign-in n (b ∷ c ∷ word) plain =
    let digits = (and_parts (list_all is_ascii_digit (b ∷ c ∷ word)) (not (b == 48)) plain).0 in
    let digit = (and_parts (is_ascii_digit b) (list_all is_ascii_digit (c ∷ word)) digits).0 in
    rw (no_sign b digit) refl

back-positive : (n : ℕ) (bytes : List ℕ) → IsSize n → length bytes ≡ n → All (λ b. b < 256) bytes → number_of bytes < 2 ^ (8 * n - 1) → Back Signed n bytes
back-positive n bytes size long small low =
    let p = powers n size in
    let m : ℕ = number_of bytes in
    let wide : m < 2 ^ 64 = omega (arith, p.least, p.halves) in
    let test : nat_lt m (2 ^ (8 * n - 1)) ≡ true = lt-ltb _ _ low in
    let number : signed_of bytes ≡ pos m = signed_of_is n bytes long ∙ ap (λ t. cond t (pos m) (pos m -ℤ pos (2 ^ (8 * n)))) test in
    let text : signed_decimal (signed_of bytes) ≡ decimal m = ap signed_decimal number in
    let read : positive_in n (decimal m) ≡ Some bytes = rw (is_plain-decimal m wide, value-decimal m wide, test, back n bytes long small) refl in
    record {
      written = subst (λ (l : List ℕ). WritesWord l l) (sym text) (writes-decimal m wide);
      read = ap (signed_in n) text ∙ no_sign-in n (decimal m) (is_plain-decimal m wide) ∙ read;
    }

difference : (m all : ℕ) → m < all → pos m -ℤ pos all ≡ negsuc (all - m - 1)
difference m all less = omega (arith, ints)

back-negative : (n : ℕ) (bytes : List ℕ) → IsSize n → length bytes ≡ n → All (λ b. b < 256) bytes → 2 ^ (8 * n - 1) ≤ number_of bytes → Back Signed n bytes
back-negative n bytes size long small high =
    let p = powers n size in
    let m : ℕ = number_of bytes in
    let all : ℕ = 2 ^ (8 * n) in
    let half : ℕ = 2 ^ (8 * n - 1) in
    let fits = number-fits n bytes size long small in
    let k : ℕ = all - m in
    let whole : suc (all - m - 1) ≡ k = omega arith in
    let wide : k < 2 ^ 64 = omega (arith, p.least, p.halves) in
    let above : nat_lt m half ≡ false = le-ltb _ _ high in
    let number : signed_of bytes ≡ negsuc (all - m - 1) = signed_of_is n bytes long ∙ ap (λ t. cond t (pos m) (pos m -ℤ pos all)) above ∙ difference m all fits in
    let text : signed_decimal (signed_of bytes) ≡ 45 ∷ decimal k = ap signed_decimal number ∙ ap (λ j. 45 ∷ decimal j) whole in
    let some : (k == 0) ≡ false = ne_eqb k 0 (λ none. omega arith) in
    let within : nat_le k half ≡ true = le-leb k half (omega (arith, p.halves)) in
    let again : all - k ≡ m = omega arith in
    let read : negative_in n (decimal k) ≡ Some bytes = rw (is_plain-decimal k wide, value-decimal k wide, some, within, again, back n bytes long small) refl in
    record {
      written = subst (λ (l : List ℕ). WritesWord l l) (sym text) (writes-negative k wide);
      read = ap (signed_in n) text ∙ read;
    }

back-signed : (n : ℕ) (bytes : List ℕ) → IsSize n → length bytes ≡ n → All (λ b. b < 256) bytes → Back Signed n bytes
back-signed n bytes size long small = elim (cases_lt (number_of bytes) (2 ^ (8 * n - 1))) [
  | inl low ↦ back-positive n bytes size long small low
  | inr high ↦ back-negative n bytes size long small high
]

length-hex_text : (bytes : List ℕ) → length (hex_text bytes) ≡ 2 * length bytes
length-hex_text [] = omega arith
length-hex_text (b ∷ bytes) = omega (arith, length-hex_text bytes)

digits-hex_text : (bytes : List ℕ) → All (λ b. b < 256) bytes → list_all is_ascii_hexdigit (hex_text bytes) ≡ true
digits-hex_text [] small = refl
digits-hex_text (b ∷ bytes) small =
    let fits = All-head (λ b. b < 256) b bytes small in
    let high : b / 16 < 16 = omega arith in
    let low : b % 16 < 16 = omega arith in
    rw (digit-test (b / 16) high, digit-test (b % 16) low) (digits-hex_text bytes (All-tail (λ b. b < 256) b bytes small))

hex_bytes-hex_text : (bytes : List ℕ) → All (λ b. b < 256) bytes → hex_bytes (hex_text bytes) ≡ bytes
hex_bytes-hex_text [] small = refl
hex_bytes-hex_text (b ∷ bytes) small =
    let fits = All-head (λ b. b < 256) b bytes small in
    let high : b / 16 < 16 = omega arith in
    let low : b % 16 < 16 = omega arith in
    let byte : 16 * hex_value (hex_digit (b / 16)) + hex_value (hex_digit (b % 16)) ≡ b = omega (arith, digit-value (b / 16) high, digit-value (b % 16) low) in
    ap₂ (λ x l. x ∷ l) byte (hex_bytes-hex_text bytes (All-tail (λ b. b < 256) b bytes small))

back-digits : (n : ℕ) (bytes : List ℕ) → 0 < n → length bytes ≡ n → All (λ b. b < 256) bytes → Back Hexadecimal n bytes
back-digits n bytes some long small =
    let size : (length (hex_text bytes) == 2 * n) ≡ true = eq-eqb _ _ (omega (arith, length-hex_text bytes)) in
    record {
      written = bare-word (hex_text bytes) (omega (arith, length-hex_text bytes)) (bare-bytes is_ascii_hexdigit refl refl refl (hex_text bytes) (digits-hex_text bytes small));
      read = rw (size, digits-hex_text bytes small, hex_bytes-hex_text bytes small) refl;
    }

back-letters : (n : ℕ) (bytes : List ℕ) → length bytes ≡ n → All (λ b. b < 256) bytes → Back Characters n bytes
back-letters n bytes long small =
    let size : (length bytes == n) ≡ true = eq-eqb _ _ long in
    record { written = writes-word bytes small; read = rw size refl }

-- at each type
pub back-value : (t : DataType) (elems : ℕ) (bytes : List ℕ) → 0 < text_size t elems → length bytes ≡ text_size t elems → All (λ b. b < 256) bytes → Back (notation_of t) (text_size t elems) bytes
back-value Int1 elems bytes some long small = back-signed 1 bytes One long small
back-value Int2 elems bytes some long small = back-signed 2 bytes Two long small
back-value Int4 elems bytes some long small = back-signed 4 bytes Four long small
back-value Int8 elems bytes some long small = back-signed 8 bytes Eight long small
back-value UInt1 elems bytes some long small = back-unsigned 1 bytes One long small
back-value UInt2 elems bytes some long small = back-unsigned 2 bytes Two long small
back-value UInt4 elems bytes some long small = back-unsigned 4 bytes Four long small
back-value Real4 elems bytes some long small = back-digits 4 bytes some long small
back-value Real8 elems bytes some long small = back-digits 8 bytes some long small
back-value Epoch elems bytes some long small = back-digits 8 bytes some long small
back-value Epoch16 elems bytes some long small = back-digits 16 bytes some long small
back-value TimeTt2000 elems bytes some long small = back-signed 8 bytes Eight long small
back-value Byte elems bytes some long small = back-signed 1 bytes One long small
back-value Float elems bytes some long small = back-digits 4 bytes some long small
back-value Double elems bytes some long small = back-digits 8 bytes some long small
back-value Char elems bytes some long small = back-letters elems bytes long small
back-value UChar elems bytes some long small = back-letters elems bytes long small
