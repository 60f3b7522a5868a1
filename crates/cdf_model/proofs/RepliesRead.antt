-- The values that a reply shows are read as the same values.
use Rattle.std.proofs.Common.{◌≡◌, ℕ, zero, suc, ◌*◌, ◌/◌, ◌<◌, true, false, not, cond, List, [], ◌∷◌, ◌++◌, length, take, drop, map, Option, Some, None, Result, Ok, Err, IsOkAnd, refl, ◌∙◌, ap, ap₂, append-nil, arith}
use Rattle.std.proofs.Math.Nat.{mul-div_cancel}
use Rattle.std.proofs.lemmas.Bool.{le-ltb, eq-eqb}
use Rattle.std.proofs.lemmas.List.{length-drop, length-map, length-take-le, take-append-drop}
use Rattle.std.proofs.lemmas.List.Elements.{All-cons, All-drop, All-head, All-tail, All-take}
use Rattle.std.specs.List.{All, flat_map, join_with_byte, prefix_len, position}
use Rattle.std.specs.Option.{is_none, option_to_list}
use Rattle.std.specs.Prelude.{◌==◌, nat_lt}
use Rattle.cdf_model.specs.declared.answer.Reason.{Reason}
use Rattle.cdf_model.specs.declared.answer.Reason.TheVariants.{BadValue, WrongCount}
use Rattle.cdf_model.specs.declared.data_type.DataType.{DataType}
use Rattle.cdf_model.specs.ByteOrder.{parts}
use Rattle.cdf_model.specs.Quoting.{words}
use Rattle.cdf_model.specs.Values.{notation_of, text_by, text_size, values_text, bytes_in, bytes_of_words, values_in}
use Rattle.cdf_model.specs.Written.{WritesLine}
use Rattle.cdf_model.proofs.JoinedWords.{writes-joined}
use Rattle.cdf_model.proofs.ValuesRead.{word_of, back-value}
use Rattle.cdf_model.proofs.WordsRead.{Reads-written}

-- a value of n bytes
abbrev IsValue : ℕ → List ℕ → Type 0
IsValue n bytes = (length bytes ≡ n) × All (λ b. b < 256) bytes

values-parts : (n count : ℕ) (bytes : List ℕ) → length bytes ≡ count * n → All (λ b. b < 256) bytes → All (IsValue n) (parts n count bytes)
values-parts n zero bytes long small = λ k d inside. absurd (omega arith)
values-parts n (suc count) bytes long small =
    All-cons (IsValue n) (take n bytes) (parts n count (drop n bytes)) (length-take-le n bytes (omega arith), All-take (λ b. b < 256) n bytes small)
    (values-parts n count (drop n bytes) (omega (arith, length-drop n bytes)) (All-drop (λ b. b < 256) n bytes small))

joined-parts : (n count : ℕ) (bytes : List ℕ) → length bytes ≡ count * n → flat_map (λ part. part) (parts n count bytes) ≡ bytes
joined-parts n zero [] long = refl
joined-parts n zero (b ∷ bytes) long = absurd (omega arith)
joined-parts n (suc count) bytes long = ap (λ l. take n bytes ++ l) (joined-parts n count (drop n bytes) (omega (arith, length-drop n bytes))) ∙ take-append-drop n bytes

length-parts : (n count : ℕ) (bytes : List ℕ) → length (parts n count bytes) ≡ count
length-parts n zero bytes = refl
length-parts n (suc count) bytes = ap suc (length-parts n count (drop n bytes))

-- words that are each read as some bytes
all-read : (P : List ℕ → Type 0) (read : List ℕ → Option (List ℕ)) (word : List ℕ → List ℕ) (values : List (List ℕ)) → ((value : List ℕ) → P value → read (word value) ≡ Some value) → All P values → prefix_len (λ w. not (is_none (read w))) (map word values) ≡ length (map word values)
all-read P read word [] back all = refl
all-read P read word (value ∷ values) back all =
    rw (back value (All-head P value values all), all-read P read word values back (All-tail P value values all)) (omega arith)

none-fails : (P : List ℕ → Type 0) (read : List ℕ → Option (List ℕ)) (word : List ℕ → List ℕ) (values : List (List ℕ)) → ((value : List ℕ) → P value → read (word value) ≡ Some value) → All P values → position (λ w. is_none (read w)) (map word values) ≡ None
none-fails P read word values back all =
    let n : ℕ = length (map word values) in
    let past : nat_lt n n ≡ false = le-ltb n n (omega arith) in
    ap (λ m. cond (nat_lt m n) (Some m) None) (all-read P read word values back all) ∙ ap (λ t. cond t (Some n) None) past

bytes-read : (P : List ℕ → Type 0) (read : List ℕ → Option (List ℕ)) (word : List ℕ → List ℕ) (values : List (List ℕ)) → ((value : List ℕ) → P value → read (word value) ≡ Some value) → All P values → flat_map (λ w. flat_map (λ bytes. bytes) (option_to_list (read w))) (map word values) ≡ flat_map (λ value. value) values
bytes-read P read word [] back all = refl
bytes-read P read word (value ∷ values) back all =
    ap₂ (λ (a b : List ℕ). a ++ b)
    (ap (λ o. flat_map (λ bytes. bytes) (option_to_list o)) (back value (All-head P value values all)) ∙ append-nil value)
    (bytes-read P read word values back (All-tail P value values all))

-- the answer by the place of the first word that is not read
abbrev chosen : DataType → ℕ → List (List ℕ) → Option ℕ → Result (List ℕ) Reason
chosen t elems ws found = elim found [
  | None ↦ Ok (flat_map (λ word. flat_map (λ bytes. bytes) (option_to_list (bytes_in t elems word))) ws)
  | Some i ↦ Err (BadValue i)
]

-- what is read at Ok has another property
IsOkAnd-more : {A E : Type 0} (P Q : A → Type 0) (r : Result A E) → ((a : A) → P a → Q a) → IsOkAnd r P → IsOkAnd r Q
IsOkAnd-more P Q (Ok a) more holds = more a holds
IsOkAnd-more P Q (Err e) more holds = absurd holds

values_in-back : (t : DataType) (elems count : ℕ) (bytes : List ℕ) → 0 < text_size t elems → length bytes ≡ count * text_size t elems → All (λ b. b < 256) bytes → values_in t elems count (map (word_of (notation_of t)) (parts (text_size t elems) count bytes)) ≡ Ok bytes
values_in-back t elems count bytes some long small =
    let n : ℕ = text_size t elems in
    let values : List (List ℕ) = parts n count bytes in
    let ws : List (List ℕ) = map (word_of (notation_of t)) values in
    let all = values-parts n count bytes long small in
    let reads = λ (value : List ℕ) (is : IsValue n value). (back-value t elems value some is.0 is.1).read in
    let enough : (length ws == count) ≡ true = eq-eqb _ _ (length-map values (word_of (notation_of t)) ∙ length-parts n count bytes) in
    ap (λ test. cond test (bytes_of_words t elems ws) (Err (WrongCount (length ws) count))) enough
    ∙ ap (chosen t elems ws) (none-fails (IsValue n) (bytes_in t elems) (word_of (notation_of t)) values reads all)
    ∙ ap Ok (bytes-read (IsValue n) (bytes_in t elems) (word_of (notation_of t)) values reads all ∙ joined-parts n count bytes long)

pub values-back : (t : DataType) (elems count : ℕ) (bytes : List ℕ) → 0 < text_size t elems → length bytes ≡ count * text_size t elems → All (λ b. b < 256) bytes → IsOkAnd (words (values_text t elems bytes)) (λ read. values_in t elems count (map (λ word. word.bytes) read) ≡ Ok bytes)
values-back t elems count bytes some long small =
    let n : ℕ = text_size t elems in
    let values : List (List ℕ) = parts n count bytes in
    let number : length bytes / n ≡ count = ap (λ m. m / n) long ∙ mul-div_cancel count some in
    let line : List ℕ = join_with_byte 32 (map (text_by (notation_of t)) values) in
    let text : values_text t elems bytes ≡ line = ap (λ m. join_with_byte 32 (map (text_by (notation_of t)) (parts n m bytes))) number in
    let written : WritesLine line (map (word_of (notation_of t)) values) = writes-joined (IsValue n) (text_by (notation_of t)) (word_of (notation_of t)) values (λ value is. (back-value t elems value some is.0 is.1).written) (values-parts n count bytes long small) in
    let reads = Reads-written line (map (word_of (notation_of t)) values) written in
    let back = values_in-back t elems count bytes some long small in
    rw text (IsOkAnd-more _ _ (words line) (λ read same. ap (values_in t elems count) same ∙ back) reads)
