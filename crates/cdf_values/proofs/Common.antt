-- The names that most proofs of this crate cite, passed on from one place. Declares nothing.
pub use Rattle.cdf_model.specs.ByteOrder.{parts, turned, unit_of}
pub use Rattle.cdf_model.specs.Quoting.{hex_value, quote}
pub use Rattle.cdf_model.specs.Types.{size_of}
pub use Rattle.cdf_model.specs.Values.{Characters, Hexadecimal, Notation, Signed, Unsigned, bytes_by, bytes_in, bytes_of_words, digits_in, hex_bytes, hex_text, negative_in, notation_of, number_of, positive_in, quoted_byte, signed_of, text_by, text_size, unsigned_in, values_in, values_text}
pub use Rattle.cdf_model.specs.declared.answer.Reason.TheVariants.{BadValue, WrongCount}
pub use Rattle.cdf_model.specs.declared.data_type.DataType.{DataType}
pub use Rattle.cdf_model.specs.declared.data_type.DataType.TheVariants.{Byte, Char, Double, Epoch, Epoch16, Float, Int1, Int2, Int4, Int8, Real4, Real8, TimeTt2000, UChar, UInt1, UInt2, UInt4}
pub use Rattle.cdf_values.specs.Notations.{HasSize, meant}
pub use Rattle.cdf_values.specs.Numbers.{digits_from, plain_up_to, with_digit}
pub use Rattle.cdf_values.specs.Reading.{IsRead, pair_byte}
pub use Rattle.std.proofs.Common.{Bool, Err, List, None, Ok, Option, Some, [], add-one, ap, append_assoc, ap₂, arith, cond, drop, false, get_or, inl, inr, length, length-append, length-drop, length-take, lit<, map, negsuc, pos, refl, reverse, rules, subst, suc, sym, take, true, zero, ℕ, ◌%◌, ◌*◌, ◌++◌, ◌+◌, ◌-◌, ◌/◌, ◌<◌, ◌^◌, ◌∙◌, ◌∷◌, ◌≡◌, ◌≤◌, ◌⊎◌}
pub use Rattle.std.proofs.Math.Nat.{add-mod_right, div-add-mod, div-eq-sub-div, div-mul-le_self, mod-eq_of_lt, mul-mod_right, pow-le-pow_right, pow-succ'}
pub use Rattle.std.proofs.lemmas.Bool.{cases_lt, false≢true}
pub use Rattle.std.proofs.lemmas.Bool.Decides.{nat_tests}
pub use Rattle.std.proofs.lemmas.List.{append-nil, at_drop_more, drop-drop, drop_at, length-reverse, nil_from_length, reverse-reverse, take-append-drop, take_at, take_rest}
pub use Rattle.std.proofs.lemmas.Nat.{mul-le, pow-add, pow_pos}
pub use Rattle.std.specs.Char.{is_ascii_digit, is_ascii_hexdigit}
pub use Rattle.std.specs.Fmt.{decimal, signed_decimal}
pub use Rattle.std.specs.Int.{bytes_high_first}
pub use Rattle.std.specs.List.{flat_map, fold, join_with_byte, list_all, position_or_len, sum}
pub use Rattle.std.specs.Option.{is_none, option_map, option_to_list}
pub use Rattle.std.specs.Prelude.{OnOk, Result, if◌then◌else◌, nat_le, nat_lt, not, position, ◌&&◌, ◌-ℤ◌, ◌==◌, ◌||◌}
pub use Rattle.std.specs.Result.{is_ok}
