-- The code of an encoding is small, so it is the same with a sign and without one.
use Rattle.cdf_check.proofs.Common.{ap, arith, cases_lt, cast_signed, cast_unsigned, false, inl, inr, is_some, nat_tests, of_z-to_z, suc, sym, to_z-neg, to_z_pos, w32, ℕ, ℤ, ◌-◌, ◌<◌, ◌^◌, ◌∙◌, ◌≡◌, ◌≤◌}
use Rattle.cdf_model.specs.Encodings.{encoding_of, encoding_at}

large_is_unknown : (code : ℕ) → 2 ^ 31 ≤ code → is_some (encoding_at code) ≡ false
large_is_unknown code large = grind (arith, nat_tests)

same_code : (code : ℕ) → code < 2 ^ 32 → is_some (encoding_of (cast_signed w32 code)) ≡ is_some (encoding_at code)
same_code code fits =
    elim (cases_lt code (2 ^ 31)) [
      | inl small ↦ ap (λ (z : ℤ). is_some (encoding_of z)) (to_z_pos w32 code small)
      | inr large ↦
          let back : 2 ^ 32 - suc (2 ^ 32 - suc code) ≡ code = omega arith in
          let negative = rw back at (to_z-neg w32 (2 ^ 32 - suc code) (omega arith)) in
          ap (λ (z : ℤ). is_some (encoding_of z)) negative ∙ sym (large_is_unknown code large)
    ]

pub known_code : (read : ℤ) (code : ℕ) → read ≡ cast_signed w32 code → code < 2 ^ 32 → is_some (encoding_of (cast_signed w32 (cast_unsigned w32 read))) ≡ is_some (encoding_at code)
known_code read code is fits = rw (is, of_z-to_z w32 code fits) (same_code code fits)
