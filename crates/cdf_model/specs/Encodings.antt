-- The encodings of values that are read (CDF Internal Format Description, CDF Descriptor Record, Encoding).
use Rattle.std.specs.Prelude.{ℕ, ℤ, pos, negsuc, List, [], ◌∷◌, true, false, ◌==◌, if◌then◌else◌, Some, None}
use Rattle.std.specs.List.{list_any}
use Rattle.std.specs.declared.option.Option.{Option}
use Rattle.cdf_model.specs.declared.encoding.Encoding.{Encoding}

-- NETWORK, SUN, SGi, IBMRS, PPC, HP, NeXT, ARM_BIG
abbrev pub big_codes : List ℕ
big_codes = 1 ∷ 2 ∷ 5 ∷ 7 ∷ 9 ∷ 11 ∷ 12 ∷ 18 ∷ []

-- DECSTATION, IBMPC, ALPHAOSF1, ALPHAVMSi, ARM_LITTLE
abbrev pub little_codes : List ℕ
little_codes = 4 ∷ 6 ∷ 13 ∷ 16 ∷ 17 ∷ []

abbrev pub encoding_at : ℕ → Option Encoding
encoding_at code =
    if list_any (λ c. code == c) big_codes then Some (record { code = code; little = false })
    else (if list_any (λ c. code == c) little_codes then Some (record { code = code; little = true }) else None)

-- the encoding of a code, and none where the code is not among these
abbrev pub encoding_of : ℤ → Option Encoding
encoding_of (pos code) = encoding_at code
encoding_of (negsuc n) = None
