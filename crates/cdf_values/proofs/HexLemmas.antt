-- Reading pairs of hexadecimal digits.
use Rattle.cdf_values.proofs.Common.{Bool, IsRead, List, [], arith, cond, digits_in, false, get_or, hex_bytes, hex_value, if◌then◌else◌, is_ascii_hexdigit, length, list_all, pair_byte, refl, true, ℕ, ◌&&◌, ◌*◌, ◌++◌, ◌+◌, ◌==◌, ◌∷◌, ◌≡◌, ◌≤◌}
use Rattle.std.specs.Prelude.{Option, Some, None}

-- the bytes so far and those of the digits that are left
abbrev pub pairs_onto : List ℕ → List ℕ → Option (List ℕ)
pairs_onto done rest = if list_all is_ascii_hexdigit rest then Some (done ++ hex_bytes rest) else None

stops_by : (p q all : Bool) (byte : ℕ) (bytes : List ℕ) → cond (p && q) (Some byte) None ≡ None → cond (p && (q && all)) (Some bytes) None ≡ None
stops_by true true all byte bytes e = cc
stops_by true false all byte bytes e = refl
stops_by false q all byte bytes e = refl

pub stops_at_pair : (b c : ℕ) (done rest : List ℕ) → pair_byte b c ≡ None → pairs_onto done (b ∷ c ∷ rest) ≡ None
stops_at_pair b c done rest e =
    stops_by (is_ascii_hexdigit b) (is_ascii_hexdigit c) (list_all is_ascii_hexdigit rest) (16 * hex_value b + hex_value c) (done ++ hex_bytes (b ∷ c ∷ rest)) e

refused_by : (count all : Bool) (bytes done old new : List ℕ) → cond all (Some done) None ≡ None → IsRead (cond (count && all) (Some bytes) None) old new false
refused_by true true bytes done old new e = cc
refused_by true false bytes done old new e = refl
refused_by false all bytes done old new e = refl

pub refused : (size : ℕ) (word old new : List ℕ) → pairs_onto old word ≡ None → IsRead (digits_in size word) old new false
refused size word old new e = refused_by (length word == 2 * size) (list_all is_ascii_hexdigit word) (hex_bytes word) (old ++ hex_bytes word) old new e

pub stops_in_front : (done rest : List ℕ) → 2 ≤ length rest → pair_byte (get_or rest 0 0) (get_or rest 1 0) ≡ None → pairs_onto done rest ≡ None
stops_in_front done [] h e = absurd (omega arith)
stops_in_front done (b ∷ []) h e = absurd (omega arith)
stops_in_front done (b ∷ c ∷ rest) h e = stops_at_pair b c done rest e
