-- What reading comes to, in terms of what words mean.
use Rattle.std.specs.Prelude.{◌≡◌, ℕ, ◌+◌, ◌*◌, List, ◌++◌, Bool, true, false, ◌&&◌, if◌then◌else◌, Some, None, Err}
use Rattle.std.specs.declared.option.Option.{Option}
use Rattle.std.specs.declared.result.Result.{Result}
use Rattle.std.specs.Char.{is_ascii_hexdigit}
use Rattle.cdf_model.specs.Quoting.{hex_value}
use Rattle.cdf_model.specs.declared.answer.Reason.{Reason}
use Rattle.cdf_model.specs.declared.answer.Reason.TheVariants as reason
use Rattle.cdf_values.specs.declared.read.ValueError.{ValueError}
use Rattle.cdf_values.specs.declared.read.ValueError.TheVariants.{WrongCount, BadValue, NoMemory}

-- the byte of two hexadecimal digits
abbrev pub pair_byte : ℕ → ℕ → Option ℕ
pair_byte high low = if is_ascii_hexdigit high && is_ascii_hexdigit low then Some (16 * hex_value high + hex_value low) else None

-- bytes are appended where a word writes some, and it is told whether it does
abbrev pub IsRead : Option (List ℕ) → List ℕ → List ℕ → Bool → Type 0
IsRead None old new is_read = is_read ≡ false
IsRead (Some bytes) old new is_read = (is_read ≡ true) × (new ≡ old ++ bytes)

-- an error says what the words mean, or that memory is wanted
abbrev pub Explains : Result (List ℕ) Reason → ValueError → Type 0
Explains meaning (WrongCount found wanted) = meaning ≡ Err (reason.WrongCount found wanted)
Explains meaning (BadValue at) = meaning ≡ Err (reason.BadValue at)
Explains meaning NoMemory = Unit {0}
