-- What words are read as.
use Rattle.std.proofs.Common.{◌≡◌, ℕ, zero, suc, ◌+◌, ◌-◌, ◌*◌, ◌^◌, ◌<◌, ◌≤◌, Bool, true, false, List, [], ◌∷◌, length, take, drop, get_or, length-drop, Some, None, refl, sym, ap, ◌∙◌, add-one, arith, inl, inr}
use Rattle.std.proofs.lemmas.Bool.Decides.{nat_tests}
use Rattle.std.specs.Prelude.{◌&&◌, ◌==◌, nat_lt, position, if◌then◌else◌}
use Rattle.std.specs.List.{fold, position_or_len}
use Rattle.std.proofs.lemmas.Bool.{cases_Bool}
use Rattle.std.proofs.lemmas.Grind.{common_steps}
use Rattle.std.proofs.lemmas.List.Splits.{slice_split_first}
use Rattle.cdf_script.specs.Commas.{parts}
use Rattle.cdf_model.specs.Arguments.{is_plain_number, letters_in, number_in, value}

-- a further digit
abbrev pub longer : ℕ → ℕ → ℕ
longer n b = 10 * n + (b - 48)

grows : (n : ℕ) (word : List ℕ) → n ≤ fold longer n word
grows n [] = omega arith
grows n (b ∷ word) = omega (arith, grows (longer n b) word)

none_of : (p : Bool) (v : ℕ) → 2 ^ 32 ≤ v → None ≡ (if p && nat_lt v (2 ^ 32) then Some v else None)
none_of true v h = let test : nat_lt v (2 ^ 32) ≡ false = grind (arith, nat_tests) in rw test refl
none_of false v h = refl

some_of : (p : Bool) (v n : ℕ) → p ≡ true → v ≡ n → n < 2 ^ 32 → Some n ≡ (if p && nat_lt v (2 ^ 32) then Some v else None)
some_of true v n h same small = let test : nat_lt v (2 ^ 32) ≡ true = grind (arith, nat_tests) in rw test (ap Some (sym same))
some_of false v n h same small = cc

from_place : (word : List ℕ) (i n : ℕ) → i < length word → fold longer n (drop i word) ≡ fold longer (longer n (get_or word i 0)) (drop (suc i) word)
from_place [] i n h = absurd (omega arith)
from_place (b ∷ word) zero n h = refl
from_place (b ∷ word) (suc i) n h = from_place word i n (omega arith)

pub too_large : (word : List ℕ) (i n : ℕ) → i < length word → value word ≡ fold longer n (drop i word) → (longer n (get_or word i 0) < 2 ^ 32 → ⊥) → None ≡ number_in word
too_large word i n inside so_far large =
    let more = grows (longer n (get_or word i 0)) (drop (suc i) word) in
    none_of (is_plain_number word) (value word) (omega (arith, so_far ∙ from_place word i n inside))

pub next_digit : (word : List ℕ) (i n m : ℕ) → i < length word → value word ≡ fold longer n (drop i word) → longer n (get_or word i 0) ≡ m → value word ≡ fold longer m (drop (i + 1) word)
next_digit word i n m inside so_far same = so_far ∙ from_place word i n inside ∙ ap (λ k. fold longer k (drop (suc i) word)) same ∙ ap (λ j. fold longer m (drop j word)) (sym (add-one i))

no_more : (word : List ℕ) (i n : ℕ) → length word ≤ i → fold longer n (drop i word) ≡ n
no_more [] zero n h = refl
no_more [] (suc i) n h = refl
no_more (b ∷ word) zero n h = absurd (omega arith)
no_more (b ∷ word) (suc i) n h = no_more word i n (omega arith)

pub all_digits : (word : List ℕ) (i n : ℕ) → length word ≤ i → value word ≡ fold longer n (drop i word) → is_plain_number word ≡ true → n < 2 ^ 32 → Some n ≡ number_in word
all_digits word i n past so_far plain small = some_of (is_plain_number word) (value word) n plain (so_far ∙ no_more word i n past) small

-- a byte that is no letter
pub no_letter : (word : List ℕ) (i : ℕ) → i < length word → (get_or word i 0 ≡ 84 → ⊥) → (get_or word i 0 ≡ 70 → ⊥) → letters_in (drop i word) ≡ None
no_letter [] i inside t f = absurd (omega arith)
no_letter (b ∷ word) zero inside t f = grind (arith, nat_tests)
no_letter (b ∷ word) (suc i) inside t f = no_letter word i (omega arith) t f

-- the place of the first comma, or the length
abbrev comma : List ℕ → ℕ
comma text = position_or_len (λ b. b == 44) text

pub one_part : (text : List ℕ) → None ≡ position (λ b. b == 44) text → parts text ≡ text ∷ []
one_part text found = alone text (grind (arith, nat_tests, common_steps)) where
  alone : (text : List ℕ) → length text ≤ comma text → parts text ≡ text ∷ []
  alone [] past = refl
  alone (b ∷ text) past = elim (cases_Bool (b == 44)) [
    | inl holds ↦ let nothing : length (b ∷ text) ≤ 0 = rw holds at past in absurd (omega arith)
    | inr fails ↦
        let behind : length (b ∷ text) ≤ 1 + comma text = rw fails at past in
        rw (fails, alone text (omega arith)) refl
  ]

pub part_at : (text : List ℕ) (n : ℕ) {part behind : List ℕ} → Some n ≡ position (λ b. b == 44) text → part ≡ take n text → behind ≡ drop (n + 1) text
    → (parts text ≡ part ∷ parts behind) × (length behind < length text)
part_at text n found front back =
    let here : comma text ≡ n = grind (arith, nat_tests, common_steps) in
    let inside : n < length text = grind (arith, nat_tests, common_steps) in
    rw (front, back) (slice_split_first (λ b. b == 44) text 0 (omega arith) ∙ ap (λ i. take i text ∷ parts (drop (i + 1) text)) here, omega (arith, length-drop (n + 1) text))
