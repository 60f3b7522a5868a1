use Rattle.cdf_words.proofs.Common.{IsAmong, IsSome, None, Option, Some, Text, [], ap, app_of, codes, fault_of, faults, first_of, found, found_of, inl, inr, is_simple, is_simple_and_free, is_some, kind_of, map, matches_of, one_of, rows_of, string_bytes, subst, sym, true, ◌∙◌, ◌≡◌}
use Rattle.std.specs.Prelude.{option_map}
use Rattle.std.specs.Borrow.{Bor}
use Rattle.clap.proofs.WalkLemmas.{first_value-rows, one_text-rows}
use Rattle.cdf_words.specs.declared.words.WordsError.TheVariants.{Usage}
use Rattle.cdf_words.proofs.ClapLine.{says, says_none, has_file}
use Rattle.cdf_words.proofs.ClapSimple.{simple, simple_and_free}
use Rattle.cdf_words.proofs.words.parse.Goals as goal

is_there : (o : Option (Bor Text)) → is_some (option_map (λ s. s.now) o) ≡ true → IsSome o
is_there None is = is
is_there (Some s) is = is

pub unwrap-requires : goal.unwrap-requires
unfolding faults found
unwrap-requires c =
    let words = map string_bytes c.args.words.now in
    let f = found_of c.in-Ok.matches in
    let fine : faults words ≡ [] = sym (ap (λ a. fault_of a words) c.in_ok-command.ensures) ∙ c.in-Ok.ensures.kinds (ap is_simple_and_free c.in_ok-command.ensures ∙ simple_and_free) in
    let rows : rows_of f ≡ found words = (c.in-Ok.ensures.matches (ap is_simple c.in_ok-command.ensures ∙ simple)).0 ∙ ap (λ a. matches_of a words) c.in_ok-command.ensures in
    is_there c.get_str.result (ap is_some (c.get_str.ensures ∙ first_value-rows f (codes "file") ∙ ap (first_of (codes "file")) rows) ∙ has_file c.args.words.now fine)

pub returns-in-Ok-clause-said : goal.returns-in-Ok-clause-said
unfolding faults found
returns-in-Ok-clause-said c =
    let words = map string_bytes c.args.words.now in
    let f = found_of c.in-Ok.matches in
    let fine : faults words ≡ [] = sym (ap (λ a. fault_of a words) c.in_ok-command.ensures) ∙ c.in-Ok.ensures.kinds (ap is_simple_and_free c.in_ok-command.ensures ∙ simple_and_free) in
    let rows : rows_of f ≡ found words = (c.in-Ok.ensures.matches (ap is_simple c.in_ok-command.ensures ∙ simple)).0 ∙ ap (λ a. matches_of a words) c.in_ok-command.ensures in
    says c.args.words.now _ _ _ _ _ fine
    (λ e. c.get_flag.ensures.value (one_text-rows f (codes "new") ∙ ap (one_of (codes "new")) rows ∙ e), λ e. c.get_flag.ensures.other (one_text-rows f (codes "new") ∙ ap (one_of (codes "new")) rows ∙ e))
    (λ e. c.get_flag-in-Ok.ensures.value (one_text-rows f (codes "check") ∙ ap (one_of (codes "check")) rows ∙ e), λ e. c.get_flag-in-Ok.ensures.other (one_text-rows f (codes "check") ∙ ap (one_of (codes "check")) rows ∙ e))
    (λ e. c.get_flag-in-Ok-2.ensures.value (one_text-rows f (codes "no-save") ∙ ap (one_of (codes "no-save")) rows ∙ e), λ e. c.get_flag-in-Ok-2.ensures.other (one_text-rows f (codes "no-save") ∙ ap (one_of (codes "no-save")) rows ∙ e))
    (λ e. c.get_flag-in-Ok-3.ensures.value (one_text-rows f (codes "space") ∙ ap (one_of (codes "space")) rows ∙ e), λ e. c.get_flag-in-Ok-3.ensures.other (one_text-rows f (codes "space") ∙ ap (one_of (codes "space")) rows ∙ e))
    (sym (ap (option_map (λ s. s.now)) c.unwrap.ensures) ∙ c.get_str.ensures ∙ first_value-rows f (codes "file") ∙ ap (first_of (codes "file")) rows)

pub returns-in-Err-clause-usage : goal.returns-in-Err-clause-usage
unfolding faults
returns-in-Err-clause-usage c = λ e.
    let words = map string_bytes c.args.words.now in
    let usage : c.cause.result ≡ Usage = cc in
    says_none c.args.words.now (λ none.
    let free : fault_of (app_of c.in_ok-command.command) words ≡ [] = ap (λ a. fault_of a words) c.in_ok-command.ensures ∙ none in
    elim (c.in-Err.ensures.kinds (ap is_simple_and_free c.in_ok-command.ensures ∙ simple_and_free)) [
      | inl memory ↦ c.cause.ensures usage (c.kind.ensures ∙ memory)
      | inr among ↦ subst (IsAmong (kind_of c.in-Err.error)) free among
    ])
