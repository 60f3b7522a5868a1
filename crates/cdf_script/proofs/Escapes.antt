-- What stands between quotes.
use Rattle.std.proofs.Common.{◌≡◌, ℕ, ◌+◌, ◌*◌, ◌≤◌, Bool, true, false, List, [], ◌∷◌, length, drop, Some, None, get_or, arith, refl, sym, ap, ◌∙◌, ◌++◌, append_assoc, inl, inr}
use Rattle.std.proofs.lemmas.Bool.{cases_Bool}
use Rattle.std.specs.Prelude.{◌&&◌, if◌then◌else◌, ◌==◌, Ok, Err, is_ok}
use Rattle.std.specs.declared.result.Result.{Result}
use Rattle.std.specs.Char.{is_ascii_hexdigit}
use Rattle.std.specs.List.{list_any}
use Rattle.std.specs.Result.{result_err}
use Rattle.cdf_model.specs.declared.answer.LineError.{LineError}
use Rattle.cdf_model.specs.declared.answer.LineError.TheVariants.{BadHex}
use Rattle.cdf_model.specs.Quoting.{digits, hex_value, meaning, with_byte}

-- two tests that both hold
two_digits : (x y : Bool) (high low b c : ℕ) (fault more : Result (List ℕ) LineError) → Some high ≡ (if x then Some b else None) → Some low ≡ (if y then Some c else None)
    → (if x && y then with_byte (16 * b + c) more else fault) ≡ with_byte (16 * high + low) more
two_digits true true high low b c fault more h l = cc
two_digits true false high low b c fault more h l = cc
two_digits false true high low b c fault more h l = cc
two_digits false false high low b c fault more h l = cc

pub digits_are : (text : List ℕ) (high low place : ℕ) → 2 ≤ length text
    → Some high ≡ (if is_ascii_hexdigit (get_or text 0 0) then Some (hex_value (get_or text 0 0)) else None)
    → Some low ≡ (if is_ascii_hexdigit (get_or text 1 0) then Some (hex_value (get_or text 1 0)) else None)
    → digits place text ≡ with_byte (16 * high + low) (meaning (place + 4) (drop 2 text))
digits_are [] high low place long h l = absurd (omega arith)
digits_are (b ∷ []) high low place long h l = absurd (omega arith)
digits_are (b ∷ c ∷ text) high low place long h l =
    two_digits (is_ascii_hexdigit b) (is_ascii_hexdigit c) high low (hex_value b) (hex_value c) (Err (BadHex place)) (meaning (place + 4) text) h l

-- bytes in front of those of a word that is read
abbrev pub behind : List ℕ → Result (List ℕ) LineError → Result (List ℕ) LineError
behind bytes (Ok more) = Ok (bytes ++ more)
behind bytes (Err fault) = Err fault

pub behind-with_byte : (bytes : List ℕ) (b : ℕ) (more : Result (List ℕ) LineError) → behind bytes (with_byte b more) ≡ behind (bytes ++ b ∷ []) more
behind-with_byte bytes b (Ok more) = ap Ok (sym (append_assoc bytes (b ∷ []) more))
behind-with_byte bytes b (Err fault) = refl

pub fault-with_byte : (b : ℕ) (more : Result (List ℕ) LineError) → result_err (with_byte b more) ≡ result_err more
fault-with_byte b (Ok more) = refl
fault-with_byte b (Err fault) = refl

pub decodes : (word : Result (List ℕ) LineError) (bytes longer : List ℕ) (b place used : ℕ) (left rest : List ℕ) → word ≡ behind bytes (meaning place left)
    → meaning place left ≡ with_byte b (meaning (place + used) (drop used left)) → longer ≡ bytes ++ b ∷ [] → rest ≡ drop used left
    → word ≡ behind longer (meaning (place + used) rest)
decodes word bytes longer b place used left rest so_far means more back =
    so_far ∙ ap (behind bytes) means ∙ behind-with_byte bytes b (meaning (place + used) (drop used left)) ∙ rw (more, back) refl

pub no_fault : (word : Result (List ℕ) LineError) (place : ℕ) (left : List ℕ) → result_err word ≡ result_err (meaning place left) → left ≡ [] → is_ok word ≡ true
no_fault (Ok bytes) place left same end = refl
no_fault (Err fault) place left same end = let e : Some fault ≡ None = same ∙ ap (λ l. result_err (meaning place l)) end in cc

-- without a backslash, bytes mean themselves
pub means_itself : (place : ℕ) (text : List ℕ) → list_any (λ b. b == 92) text ≡ false → meaning place text ≡ Ok text
means_itself place [] none = refl
means_itself place (b ∷ text) none = elim (cases_Bool (b == 92)) [
  | inl holds ↦ let e : true ≡ false = rw holds at none in cc
  | inr fails ↦ let rest : list_any (λ b. b == 92) text ≡ false = rw fails at none in rw (fails, means_itself (place + 1) text rest) refl
]
