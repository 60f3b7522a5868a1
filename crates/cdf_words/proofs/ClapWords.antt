-- One word of a command line, as clap takes it where some flags, and a file or none, were read before.
use Rattle.cdf_words.proofs.Common.{ArgumentConflict, Bool, Held, Kinds, List, None, Option, Row, Rule, Shape, Some, Step, Text, TooManyValues, UnknownArgument, Walk, [], after_flag, after_step, ap, ap₂, are_fine, arg_by_long, before_first, bundle_fault, bytes_eq, cases_Bool, chars, codes, command_app, differ-turned, eqb-true, false, file_rule, filled, flags_fault, has_byte, has_row, idle, inl, inr, is_among, is_end, is_flag, is_pending, is_some, known_flags, long_fault, long_met, long_of, nothing_held, one-add, or_else, or_parts, reacted, refl, same_of_bytes_eq, settle_fault, settled, short_of, slice_get, step_fault, subst, true, value, with_index, ℕ, ◌++◌, ◌==◌, ◌∙◌, ◌∷◌, ◌≡◌}
use Rattle.std.proofs.Common.{◌&&◌, ◌||◌, if◌then◌else◌}
use Rattle.std.specs.Prelude.{option_map}
use Rattle.clap.specs.declared.error.kind.ErrorKind.{ErrorKind}
use Rattle.clap.specs.Words.{built}
use Rattle.cdf_words.proofs.FlagLemmas.{among_later, among_more, and_false, once_fine, or_false}
use Rattle.cdf_words.proofs.ClapRows.{add, added, at, at_add_other, at_add_same, flag_arg, has_none, has_some, yes}

abbrev pub top : Shape
top = (built command_app).top

abbrev pub file_arg : Rule
file_arg = with_index 1 (filled file_rule)

-- the names of the flags
abbrev pub names : List Text
names = codes "new" ∷ codes "check" ∷ codes "no-save" ∷ codes "space" ∷ []

abbrev pub rules : List Rule
rules = flag_arg (codes "new") ∷ flag_arg (codes "check") ∷ flag_arg (codes "no-save") ∷ flag_arg (codes "space") ∷ file_arg ∷ []

rules_are : top.rules ≡ rules
rules_are = refl

abbrev pub dashed : Text → Text
dashed name = 45 ∷ 45 ∷ name

pub first_none : (a b : Kinds) → or_else a b ≡ [] → a ≡ []
first_none [] b e = refl
first_none (k ∷ ks) b e = cc

pub kinds_apart : (k : ErrorKind) (ks kinds : Kinds) {Z : Type 0} → kinds ≡ k ∷ ks → kinds ≡ [] → Z
kinds_apart k ks kinds e none = cc

-- ---- what a word looks like

-- it is a file; it is `--`; it begins with two dashes, or with one and another byte
pub data Look (word : Text) : Type 0 where
  plain : is_flag word ≡ false → is_end word ≡ false → long_of word ≡ None → short_of word ≡ None → Look word
  ends : word ≡ codes "--" → Look word
  long : (first : ℕ) (text : Text) → word ≡ dashed (first ∷ text) → Look word
  short : (flags : Text) → is_flag word ≡ true → is_end word ≡ false → is_among word known_flags ≡ false → long_of word ≡ None → short_of word ≡ Some flags → Look word

dashes : (x y : ℕ) (zs : Text) → (x == 45) ≡ true → (y == 45) ≡ true → Look (x ∷ y ∷ zs)
dashes x y [] e d = ends (ap₂ (λ (m n : ℕ). m ∷ n ∷ []) (eqb-true x 45 e) (eqb-true y 45 d))
dashes x y (z ∷ zs) e d = long z zs (ap₂ (λ (m n : ℕ). m ∷ n ∷ z ∷ zs) (eqb-true x 45 e) (eqb-true y 45 d))

pub look : (word : Text) → Look word
look [] = plain refl refl refl refl
look (x ∷ []) = elim (cases_Bool (x == 45)) [
  | inl e ↦ plain refl (rw e refl) (rw e refl) (rw e refl)
  | inr e ↦ plain refl (rw e refl) (rw e refl) (rw e refl)
]
look (x ∷ y ∷ zs) = elim (cases_Bool (x == 45)) [
  | inl e ↦ elim (cases_Bool (y == 45)) [
    | inl d ↦ dashes x y zs e d
    | inr d ↦ short (y ∷ zs) e (rw (e, d) refl) (rw (e, d) refl) (rw (e, d) refl) (rw (e, d) refl)
  ]
  | inr e ↦ plain e (rw e refl) (rw e refl) (rw e refl)
]

-- a text without `=` is its own name
pub all_before : (text : Text) → has_byte 61 text ≡ false → before_first (λ x. x == 61) text ≡ text
all_before [] none = refl
all_before (x ∷ xs) none =
    let parts = or_parts (x == 61) (has_byte 61 xs) none in
    rw (parts.0, one-add) (ap (λ (l : Text). x ∷ l) (all_before xs parts.1))

-- ---- what is held between two words

-- the rows are those of these flags and this file
pub record Rows (flags : List Text) (file : Option Text) (rows : List Row) : Type 0 where
  pub flag_rows : (id : Text) → bytes_eq (codes "file") id ≡ false → at id rows ≡ (if is_among (dashed id) flags then Some (added (flag_arg id) yes) else None)
  pub file_row : at (codes "file") rows ≡ option_map (λ f. added file_arg (f ∷ [])) file

pub record Open (flags : List Text) (file : Option Text) (h : Held) : Type 0 where
  pub settles : settle_fault rules false h ≡ []
  pub skip : h.skip ≡ 0
  pub fine : are_fine flags ≡ true
  pub rows : Rows flags file (settled rules h).rows

abbrev pub position_of : Option Text → ℕ
position_of file = if is_some file then 2 else 1

-- `rest` says that `--` was read
abbrev pub walk_at : Option Text → Bool → Held → Walk
walk_at file rest h = record { held = h; waiting = idle; position = position_of file; is_trailing = rest; stopped = None }

abbrev pub Fails : Kinds → Type 0
Fails fault = fault ≡ [] → ⊥

-- a word without a fault leads on
abbrev pub Goes : Kinds → Walk → List Text → Option Text → Bool → Type 0
Goes fault after flags file rest = (fault ≡ []) × ((h : Held) × (after ≡ walk_at file rest h) × Open flags file h)

pub start : Open [] None nothing_held
start = record { settles = refl; skip = refl; fine = refl; rows = record { flag_rows = λ id apart. refl; file_row = refl } }

-- ---- one word

pub first_file : (flags : List Text) (rest : Bool) (h : Held) (word : Text) → Open flags None h → Goes (step_fault top 1 h value) (after_step rules word (walk_at None rest h) h value) flags (Some word) rest
first_file flags rest h word o =
    let rows = (settled rules h).rows in
    let none : has_row (codes "file") rows ≡ false = has_none (codes "file") rows o.rows.file_row in
    let pend : (is_pending file_arg h.pending && false) ≡ false = and_false (is_pending file_arg h.pending) in
    let trail : (rest || false) ≡ rest = or_false rest in (
      rw pend o.settles,
      (
        record { rows = rows; pending = Some (codes "file", word ∷ []); skip = h.skip },
        rw (pend, trail) refl,
        record {
          settles = rw none refl;
          skip = o.skip;
          fine = o.fine;
          rows = record {
            flag_rows = λ id apart. at_add_other file_arg (word ∷ []) id rows apart none ∙ o.rows.flag_rows id apart;
            file_row = at_add_same file_arg (word ∷ []) rows none;
          };
        },
      ),
    )

pub second_file : (h : Held) → Fails (step_fault top 2 h value)
second_file h bad = cc bad

module _ (flags : List Text) (file : Option Text) (h : Held) (id word : Text) (apart : bytes_eq (codes "file") id ≡ false) (o : Open flags file h) where
  abbrev pub met : Held × Step
  met = after_flag rules idle word (long_met rules (Some (flag_arg id)) None h).0 (long_met rules (Some (flag_arg id)) None h).1

  abbrev pub flag_fault : Kinds
  flag_fault = or_else (long_fault rules false (Some (flag_arg id)) None h) (step_fault top (position_of file) met.0 met.1)

  row_is : (stands : Bool) → is_among (dashed id) flags ≡ stands → at id (settled rules h).rows ≡ (if stands then Some (added (flag_arg id) yes) else None)
  row_is stands is = o.rows.flag_rows id apart ∙ ap (λ (b : Bool). if b then Some (added (flag_arg id) yes) else None) is

  pub twice_fails : is_among (dashed id) flags ≡ true → Fails flag_fault
  twice_fails stands = kinds_apart ArgumentConflict [] _ (rw (o.settles, has_some id (settled rules h).rows (added (flag_arg id) yes) (row_is true stands)) refl)

  pub once_goes : is_among (dashed id) known_flags ≡ true → is_among (dashed id) flags ≡ false → Goes flag_fault (after_step rules word (walk_at file false h) met.0 met.1) (flags ++ dashed id ∷ []) file false
  once_goes known new =
      let rows = (settled rules h).rows in
      let none : has_row id rows ≡ false = has_none id rows (row_is false new) in (
        rw (o.settles, none) refl,
        (
          reacted rules (flag_arg id) [] h,
          refl,
          record {
            settles = refl;
            skip = o.skip;
            fine = once_fine flags (dashed id) o.fine known new;
            rows = record {
              flag_rows = λ other away. elim (cases_Bool (bytes_eq id other)) [
                | inl same ↦ subst (λ (x : Text). at x (add (flag_arg id) yes rows) ≡ (if is_among (dashed x) (flags ++ dashed id ∷ []) then Some (added (flag_arg x) yes) else None)) (same_of_bytes_eq id other same)
                    (rw (among_later (dashed id) flags []) (at_add_same (flag_arg id) yes rows none))
                | inr differs ↦
                    let as_before : is_among (dashed other) (flags ++ dashed id ∷ []) ≡ is_among (dashed other) flags =
                    among_more (dashed other) flags (dashed id) ∙ ap (λ (b : Bool). is_among (dashed other) flags || b) (differ-turned id other differs) ∙ or_false (is_among (dashed other) flags) in
                    rw as_before (at_add_other (flag_arg id) yes other rows differs none ∙ o.rows.flag_rows other away)
              ];
              file_row = at_add_other (flag_arg id) yes (codes "file") rows (differ-turned (codes "file") id apart) none ∙ o.rows.file_row;
            };
          },
        ),
      )

-- a flag with a value
pub valued_fails : (h : Held) (name value_is : Text) (more : Kinds) (n c s p : Bool) → bytes_eq (codes "new") name ≡ n → bytes_eq (codes "check") name ≡ c → bytes_eq (codes "no-save") name ≡ s → bytes_eq (codes "space") name ≡ p → Fails (or_else (long_fault rules false (arg_by_long rules name) (Some value_is) h) more)
valued_fails h name value_is more true c s p en ec es ep = kinds_apart TooManyValues [] _ (rw en refl)
valued_fails h name value_is more false true s p en ec es ep = kinds_apart TooManyValues [] _ (rw (en, ec) refl)
valued_fails h name value_is more false false true p en ec es ep = kinds_apart TooManyValues [] _ (rw (en, ec, es) refl)
valued_fails h name value_is more false false false true en ec es ep = kinds_apart TooManyValues [] _ (rw (en, ec, es, ep) refl)
valued_fails h name value_is more false false false false en ec es ep = kinds_apart UnknownArgument [] _ (rw (en, ec, es, ep) refl)

unknown_parts : (text : Text) → is_among (dashed text) known_flags ≡ false → (bytes_eq (codes "new") text ≡ false) × (bytes_eq (codes "check") text ≡ false) × (bytes_eq (codes "no-save") text ≡ false) × (bytes_eq (codes "space") text ≡ false)
unknown_parts text unknown =
    let first = or_parts (bytes_eq text (codes "new")) _ unknown in
    let second = or_parts (bytes_eq text (codes "check")) _ first.1 in
    let third = or_parts (bytes_eq text (codes "no-save")) _ second.1 in
    let fourth = or_parts (bytes_eq text (codes "space")) _ third.1 in
    (differ-turned text (codes "new") first.0, differ-turned text (codes "check") second.0, differ-turned text (codes "no-save") third.0, differ-turned text (codes "space") fourth.0)

pub unknown_fails : (h : Held) (text : Text) (more : Kinds) → is_among (dashed text) known_flags ≡ false → Fails (or_else (long_fault rules false (arg_by_long rules text) None h) more)
unknown_fails h text more unknown = let parts = unknown_parts text unknown in kinds_apart UnknownArgument [] _ (rw (parts.0, parts.1, parts.2, parts.3) refl)

-- what follows a single dash has a character
abbrev pub Spelled : Option Text → Type 0
Spelled None = Unit {0}
Spelled (Some flags) = is_some (slice_get (chars flags) 0) ≡ true

pub bundle_fails : (h : Held) (flags : Text) (more : Kinds) → h.skip ≡ 0 → is_some (slice_get (chars flags) 0) ≡ true → Fails (or_else (bundle_fault rules false flags h) more)
unfolding flags_fault chars
bundle_fails h [] more z some = cc
bundle_fails h (x ∷ xs) more z some = (elim (slice_get (chars (x ∷ xs)) 0) as (λ o. slice_get (chars (x ∷ xs)) 0 ≡ o → is_some o ≡ true → Fails (or_else (bundle_fault rules false (x ∷ xs) h) more)) [
  | None ↦ λ e t. cc
  | Some y ↦ λ e t. kinds_apart UnknownArgument [] _ (rw (z, e) refl)
]) refl some
