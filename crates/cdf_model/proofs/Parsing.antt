-- To show what holds of all that a line gives: it holds of each fault, and so it is left to show of what words that are enough are read as.
use Rattle.std.proofs.Common.{ℕ, ◌≤◌, Bool, List, [], ◌∷◌, length, drop, Some, None, Option, Result, Ok, Err, IfOk, IfSome, find, bytes_eq, nat_lt, if◌then◌else◌, ltb-false}
use Rattle.std.proofs.lemmas.Bool.{cond_both}
use Rattle.std.specs.Prelude.{⊤}
use Rattle.cdf_model.specs.declared.answer.LineError.{LineError}
use Rattle.cdf_model.specs.declared.answer.LineError.TheVariants.{UnknownWord, MissingWord, ExtraWord, BadNumber}
use Rattle.cdf_model.specs.Arguments.{number_in, numbers_in, varys_in, choice_in, type_in, scope_in, majority_in, entry_kind_in, rule_in}
use Rattle.cdf_model.specs.Forms.{Slot, AText, ANumber, Numbers, Varies, AType, AScope, AKind, AMajority, ARule, AChoice, AValue, Meaning, CommandRow, wanted, rows, row_named}
use Rattle.cdf_model.specs.Grammar.{Parsed, Faulty, or_fault, read_word, read_row, extra, read_all, parse_words}
use Rattle.cdf_model.specs.Quoting.{Word}

-- what holds of each item
abbrev pub OfEach : {A : Type 0} → (A → Type 0) → List A → Type 0
OfEach P [] = ⊤
OfEach P (a ∷ more) = P a × OfEach P more

-- holds of the one that a test finds
pub of_found : {A : Type 0} (P : A → Type 0) (test : A → Bool) (items : List A) → OfEach P items → IfSome (find test items) P
of_found P test [] each = tt
of_found P test (a ∷ more) each = cond_both (test a) (Some a) (find test more) (λ o. IfSome o P) (λ yes. each.0) (λ no. of_found P test more each.1)

module _ (P : Parsed → Type 0) (faulty : (fault : LineError) → P (Faulty fault)) where
  pub by_any : {A : Type 0} (fault : LineError) (o : Option A) (more : A → Parsed) → ((a : A) → P (more a)) → P (or_fault fault o more)
  by_any fault None more given = faulty fault
  by_any fault (Some a) more given = given a

  pub by_option : {A : Type 0} (Q : A → Type 0) (fault : LineError) (o : Option A) (more : A → Parsed) → IfSome o Q → ((a : A) → Q a → P (more a)) → P (or_fault fault o more)
  by_option Q fault None more fact given = faulty fault
  by_option Q fault (Some a) more fact given = given a fact

  pub by_word : (slot : Slot) (word : Word) (more : Meaning slot → Parsed) → ((a : Meaning slot) → P (more a)) → P (read_word slot word more)
  by_word AText word more given = given word.bytes
  by_word ANumber word more given = by_any (BadNumber word.place) (number_in word.bytes) more given
  by_word Numbers word more given = by_any (BadNumber word.place) (numbers_in word.bytes) more given
  by_word Varies word more given = by_any (UnknownWord word.place) (varys_in word.bytes) more given
  by_word AType word more given = by_any (UnknownWord word.place) (type_in word.bytes) more given
  by_word AScope word more given = by_any (UnknownWord word.place) (scope_in word.bytes) more given
  by_word AKind word more given = by_any (UnknownWord word.place) (entry_kind_in word.bytes) more given
  by_word AMajority word more given = by_any (UnknownWord word.place) (majority_in word.bytes) more given
  by_word ARule word more given = by_any (UnknownWord word.place) (rule_in word.bytes) more given
  by_word (AChoice first second) word more given = by_any (UnknownWord word.place) (choice_in first second word.bytes) more given
  by_word AValue word more given = given (word.bytes ∷ [])

  by_extra : (r : CommandRow) (words behind : List Word) → P (read_row r words) → P (elim behind [
    | [] ↦ read_row r words
    | word ∷ more ↦ if r.is_open then read_row r words else Faulty (ExtraWord word.place)
  ])
  by_extra r words [] given = given
  by_extra r words (word ∷ more) given = cond_both r.is_open (read_row r words) (Faulty (ExtraWord word.place)) P (λ yes. given) (λ no. faulty (ExtraWord word.place))

  by_row : (n : ℕ) (r : CommandRow) (words : List Word) → (wanted r ≤ length words → P (read_row r words)) → P (read_all n r words)
  by_row n r words given =
      cond_both (nat_lt (length words) (wanted r)) (Faulty (MissingWord n)) (extra r words) P
      (λ less. faulty (MissingWord n))
      (λ enough. by_extra r words (drop (wanted r) words) (given (ltb-false (length words) (wanted r) enough)))

  pub by_name : (Q : CommandRow → Type 0) → OfEach Q rows → (n : ℕ) (name : Word) (words : List Word) → ((r : CommandRow) → Q r → wanted r ≤ length words → P (read_row r words)) → P (parse_words n (name ∷ words))
  by_name Q each n name words given =
      by_option Q (UnknownWord name.place) (row_named name.bytes) (λ r. read_all n r words) (of_found Q (λ r. bytes_eq r.name name.bytes) rows each)
      (λ r fact. by_row n r words (given r fact))

  pub by_any_name : (n : ℕ) (name : Word) (words : List Word) → ((r : CommandRow) → wanted r ≤ length words → P (read_row r words)) → P (parse_words n (name ∷ words))
  by_any_name n name words given = by_any (UnknownWord name.place) (row_named name.bytes) (λ r. read_all n r words) (λ r. by_row n r words (given r))

  pub by_words : (Q : List Word → Type 0) (n : ℕ) (r : Result (List Word) LineError) → IfOk r Q → ((ws : List Word) → Q ws → P (parse_words n ws)) → P (elim r [
    | Ok ws ↦ parse_words n ws
    | Err fault ↦ Faulty fault
  ])
  by_words Q n (Ok ws) fact given = given ws fact
  by_words Q n (Err fault) fact given = faulty fault
