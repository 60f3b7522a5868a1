-- The names that most proofs of this crate cite, passed on from one place. Declares nothing.
pub use Rattle.cdf_model.specs.Names.{is_among}
pub use Rattle.cdf_words.proofs.Texts.{bytes_eq-same, differ-turned, same_of_bytes_eq}
pub use Rattle.cdf_words.specs.Asking.{Asked, are_fine, files_in, flags_in, is_end, is_flag, known_flags, said, said_by}
pub use Rattle.cdf_words.specs.CommandLine.{command_app, file_rule, flag_rule}
unfoldable pub use Rattle.cdf_words.specs.CommandLine.{command, faults, found}
pub use Rattle.clap.specs.Faults.{bundle_fault, check_fault, default_fault, flag_word_fault, long_fault, settle_fault, step_fault, turn_fault}
unfoldable pub use Rattle.clap.specs.Faults.{defaults_fault, flags_fault, walk_fault}
pub use Rattle.clap.specs.Kinds.{or_else}
pub use Rattle.clap.specs.Lexer.{has_byte, long_of, short_of}
pub use Rattle.clap.specs.Simple.{Shape, filled, with_index}
pub use Rattle.clap.specs.Walk.{Held, Step, Walk, after_flag, after_step, arg_by_long, finished, has_row, idle, is_pending, long_met, long_or_other, nothing_held, reacted, reading_by, row_text, settled, short_or_plain, trailing, value, walk_from, with_default, with_values, without}
unfoldable pub use Rattle.clap.specs.Walk.{walked}
pub use Rattle.clap.specs.Words.{IsAmong, Kinds, Row, Rule, Text, app_of, fault_of, first_of, found_of, is_simple, is_simple_and_free, kind_of, matches_of, one_of, rows_of, rule_of, with_rule}
pub use Rattle.clap.specs.declared.error.kind.ErrorKind.TheVariants.{ArgumentConflict, MissingRequiredArgument, TooManyValues, UnknownArgument}
pub use Rattle.std.proofs.Common.{Bool, List, None, Option, Some, String, [], ap, append-nil, append_assoc, ap₂, arith, codes, cond, false, inl, inr, map, one-add, refl, rules, string_bytes, subst, suc, sym, true, ℕ, ◌++◌, ◌+◌, ◌==◌, ◌∙◌, ◌∷◌, ◌≡◌}
pub use Rattle.std.proofs.lemmas.Bool.{and_parts, cases_Bool, eqb-true, not-true, or_parts}
pub use Rattle.std.proofs.lemmas.List.Folds.{list_any-append}
pub use Rattle.std.specs.List.{after_first, before_first, position_or_len}
pub use Rattle.std.specs.Option.{option_and_then, option_map_or}
pub use Rattle.std.specs.Prelude.{IsSome, bytes_eq, find, fold, if◌then◌else◌, is_some, not, slice_get, ◌&&◌, ◌||◌}
pub use Rattle.std.specs.Str.{IsUtf8}
unfoldable pub use Rattle.std.specs.Str.{chars}
