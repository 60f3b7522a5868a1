-- A whole command line: clap finds no fault in words exactly where they are fine flags and one file, and then finds what they ask for.
use Rattle.cdf_words.proofs.Common.{Asked, Bool, Held, IsUtf8, Kinds, List, MissingRequiredArgument, None, Option, Row, Rule, Some, Step, String, Text, Walk, [], after_first, after_flag, after_step, ap, append-nil, append_assoc, are_fine, arg_by_long, arith, before_first, bundle_fault, bytes_eq, cases_Bool, chars, check_fault, codes, command, command_app, cond, default_fault, defaults_fault, eqb-true, false, faults, files_in, finished, flag_word_fault, flags_in, fold, found, has_byte, has_row, idle, inl, inr, is_among, is_end, is_flag, is_some, known_flags, long_fault, long_met, long_of, long_or_other, map, nothing_held, one-add, option_and_then, option_map_or, or_else, position_or_len, refl, row_text, said, said_by, same_of_bytes_eq, settle_fault, settled, short_of, short_or_plain, slice_get, step_fault, string_bytes, subst, suc, sym, trailing, true, turn_fault, value, walk_fault, walk_from, walked, with_default, ℕ, ◌++◌, ◌+◌, ◌==◌, ◌∙◌, ◌∷◌, ◌≡◌}
use Rattle.std.proofs.Common.{not, ◌||◌, if◌then◌else◌}
use Rattle.std.specs.Str.{encode_utf8_all as encodes}
use Rattle.std.proofs.lemmas.Str.{IsCharBoundary-after_ascii, IsUtf8-drop, IsUtf8-string_bytes, encodes-chars}
use Rattle.clap.specs.Facts.{explicit_source}
use Rattle.clap.specs.Walk.{first_of, one_of}
use Rattle.clap.specs.Words.{built}
use Rattle.clap.proofs.FaultLemmas.{leaf_fault}
use Rattle.cdf_words.proofs.FlagLemmas.{twice_not_fine, unknown_not_fine}
use Rattle.cdf_words.proofs.ClapRows.{added, at, at_defaults, by_default, default_at, flag_arg, with_defaults, yes}
use Rattle.cdf_words.proofs.ClapWords.{Fails, Goes, Look, Open, Spelled, all_before, bundle_fails, dashed, ends, file_arg, first_file, first_none, kinds_apart, long, look, names, once_goes, plain, position_of, rules, second_file, short, start, top, twice_fails, unknown_fails, valued_fails, walk_at}

-- ---- the flags and files of words, by the first of them

module _ (word : Text) (words : List Text) where
  flags_end : is_end word ≡ true → flags_in (word ∷ words) ≡ []
  flags_end is = rw is refl

  files_end : is_end word ≡ true → files_in (word ∷ words) ≡ words
  files_end is = rw is refl

  flags_more : is_end word ≡ false → flags_in (word ∷ words) ≡ cond (is_flag word) (word ∷ flags_in words) (flags_in words)
  flags_more goes = rw (goes, one-add) refl

  files_more : is_end word ≡ false → files_in (word ∷ words) ≡ cond (is_flag word) (files_in words) (word ∷ files_in words)
  files_more goes =
      let n : ℕ = position_or_len is_end words in
      let further : suc n + 1 ≡ suc (n + 1) = omega arith in
      rw (goes, one-add, further) (by_flag (is_flag word) _ _)
    where
      by_flag : (flag : Bool) (front back : List Text) → (cond (not flag) (word ∷ front) front) ++ back ≡ cond flag (front ++ back) (word ∷ front ++ back)
      by_flag true front back = refl
      by_flag false front back = refl

-- the files, where one may have been read
abbrev with_file : Option Text → List Text → List Text
with_file None files = files
with_file (Some name) files = name ∷ files

not_fine : (flags files : List Text) → are_fine flags ≡ false → said_by flags files ≡ None
not_fine flags [] bad = refl
not_fine flags (name ∷ []) bad = rw bad refl
not_fine flags (name ∷ other ∷ files) bad = refl

-- ---- the rest of a command line

abbrev tail_fault : Walk → List Text → Kinds
tail_fault w ws =
    or_else [] (or_else (settle_fault rules false (fold (walked rules []) w ws).held)
    (or_else (defaults_fault (settled rules (fold (walked rules []) w ws).held).rows rules) (check_fault top (finished rules (fold (walked rules []) w ws).held) false)))

abbrev rest_fault : Walk → List Text → Kinds
rest_fault w ws = or_else (walk_fault top [] w ws) (tail_fault w ws)

abbrev end_rows : Walk → List Text → List Row
end_rows w ws = finished rules (fold (walked rules []) w ws).held

-- what the getters read at the end
record Values (a : Asked) (rows : List Row) : Type 0 where
  new_is : one_of (codes "new") rows ≡ Some (if a.new then codes "true" else codes "false")
  check_is : one_of (codes "check") rows ≡ Some (if a.check then codes "true" else codes "false")
  no_save_is : one_of (codes "no-save") rows ≡ Some (if a.no_save then codes "true" else codes "false")
  space_is : one_of (codes "space") rows ≡ Some (if a.space then codes "true" else codes "false")
  file_is : first_of (codes "file") rows ≡ Some a.name

abbrev Agree : Kinds → List Row → Option Asked → Type 0
Agree kinds rows None = Fails kinds
Agree kinds rows (Some a) = (kinds ≡ []) × Values a rows

-- ---- the end

no_default : (rows : List Row) → with_default rows file_arg ≡ rows
no_default rows = elim (cases_Bool (has_row (codes "file") rows)) [ inl e ↦ rw e refl | inr e ↦ rw e refl ]

finished_at : (id : Text) (h : Held) (o : Option Row) → at id (settled rules h).rows ≡ o → at id (finished rules h) ≡ fold (default_at id) o names
finished_at id h o is = ap (at id) (no_default (with_defaults (settled rules h).rows names)) ∙ at_defaults id names (settled rules h).rows o is

flag_value : (flags : List Text) (file : Option Text) (h : Held) (id : Text) → Open flags file h → bytes_eq (codes "file") id ≡ false → fold (default_at id) None names ≡ Some (by_default (flag_arg id))
    → one_of id (finished rules h) ≡ Some (if is_among (dashed id) flags then codes "true" else codes "false")
flag_value flags file h id o apart default = by_used (is_among (dashed id) flags) (o.rows.flag_rows id apart)
  where
    by_used : (used : Bool) → at id (settled rules h).rows ≡ (if used then Some (added (flag_arg id) yes) else None) → one_of id (finished rules h) ≡ Some (if used then codes "true" else codes "false")
    by_used true is = ap (option_and_then row_text) (finished_at id h (Some (added (flag_arg id) yes)) is)
    by_used false is = ap (option_and_then row_text) (finished_at id h None is ∙ default)

file_row_end : (h : Held) (o : Option Row) → at (codes "file") (settled rules h).rows ≡ o → at (codes "file") (finished rules h) ≡ o
file_row_end h None is = finished_at (codes "file") h None is
file_row_end h (Some r) is = finished_at (codes "file") h (Some r) is

values_at : (flags : List Text) (name : Text) (h : Held) → Open flags (Some name) h
    → Values (record { new = is_among (codes "--new") flags; check = is_among (codes "--check") flags; no_save = is_among (codes "--no-save") flags; space = is_among (codes "--space") flags; name = name }) (finished rules h)
values_at flags name h o = record {
  new_is = flag_value flags (Some name) h (codes "new") o refl refl;
  check_is = flag_value flags (Some name) h (codes "check") o refl refl;
  no_save_is = flag_value flags (Some name) h (codes "no-save") o refl refl;
  space_is = flag_value flags (Some name) h (codes "space") o refl refl;
  file_is = ap (option_and_then (λ r. slice_get r.values 0)) (file_row_end h (Some (added file_arg (name ∷ []))) o.rows.file_row);
}

flag_default_fault : (id : Text) (rows : List Row) → default_fault rows (flag_arg id) ≡ []
flag_default_fault id rows = elim (cases_Bool (has_row id rows)) [ inl e ↦ rw e refl | inr e ↦ rw e refl ]

file_default_fault : (rows : List Row) → default_fault rows file_arg ≡ []
file_default_fault rows = elim (cases_Bool (has_row (codes "file") rows)) [ inl e ↦ rw e refl | inr e ↦ rw e refl ]

no_default_fault : (rows : List Row) → defaults_fault rows rules ≡ []
unfolding defaults_fault
no_default_fault rows =
    let one = with_default rows (flag_arg (codes "new")) in
    let two = with_default one (flag_arg (codes "check")) in
    let three = with_default two (flag_arg (codes "no-save")) in
    let four = with_default three (flag_arg (codes "space")) in
    rw (flag_default_fault (codes "new") rows, flag_default_fault (codes "check") one, flag_default_fault (codes "no-save") two, flag_default_fault (codes "space") three, file_default_fault four) refl

abbrev missing_at : Option Row → Kinds
missing_at o = if not (option_map_or (λ r. explicit_source r.source) o false) || false then MissingRequiredArgument ∷ [] else []

end_fault : (h : Held) (o : Option Row) (w : Walk) → settle_fault rules false h ≡ [] → at (codes "file") (settled rules h).rows ≡ o → w.held ≡ h → rest_fault w [] ≡ missing_at o
unfolding walk_fault
end_fault h o w settles is e =
    rw (e, settles, no_default_fault (settled rules h).rows) (ap (λ p. if not (option_map_or (λ r. explicit_source r.source) p false) || false then MissingRequiredArgument ∷ [] else []) (file_row_end h o is))

at_end : (flags : List Text) (file : Option Text) (rest : Bool) (h : Held) → Open flags file h → Agree (rest_fault (walk_at file rest h) []) (end_rows (walk_at file rest h) []) (said_by flags (with_file file []))
at_end flags None rest h o = kinds_apart MissingRequiredArgument [] _ (end_fault h None (walk_at None rest h) o.settles o.rows.file_row refl)
at_end flags (Some name) rest h o =
    let a : Asked = record { new = is_among (codes "--new") flags; check = is_among (codes "--check") flags; no_save = is_among (codes "--no-save") flags; space = is_among (codes "--space") flags; name = name } in
    subst (λ (b : Bool). Agree (rest_fault (walk_at (Some name) rest h) []) (end_rows (walk_at (Some name) rest h) []) (if b then Some a else None)) (sym o.fine)
    (end_fault h (Some (added file_arg (name ∷ []))) (walk_at (Some name) rest h) o.settles o.rows.file_row refl, values_at flags name h o)

-- ---- one word, and then the others

-- a fault of the first word is one of all
first_word : (w : Walk) (word : Text) (ws : List Text) → turn_fault top [] w word ≡ [] → rest_fault w (word ∷ ws) ≡ rest_fault (walked rules [] w word) ws
unfolding walk_fault
first_word w word ws e = ap (λ k. or_else (or_else k (walk_fault top [] (walked rules [] w word) ws)) (tail_fault (walked rules [] w word) ws)) e

turn_none : (w : Walk) (word : Text) (ws : List Text) → rest_fault w (word ∷ ws) ≡ [] → turn_fault top [] w word ≡ []
unfolding walk_fault
turn_none w word ws e = first_none _ _ (first_none _ _ e)

stops : (w : Walk) (word : Text) (ws : List Text) (rows : List Row) (asked : Option Asked) → asked ≡ None → Fails (turn_fault top [] w word) → Agree (rest_fault w (word ∷ ws)) rows asked
stops w word ws rows asked none fails = subst (λ (o : Option Asked). Agree (rest_fault w (word ∷ ws)) rows o) (sym none) (λ e. fails (turn_none w word ws e))

leads : (w : Walk) (word : Text) (ws : List Text) (asked : Option Asked) (flags : List Text) (file : Option Text) (rest : Bool) → Goes (turn_fault top [] w word) (walked rules [] w word) flags file rest
    → ((h : Held) → Open flags file h → Agree (rest_fault (walk_at file rest h) ws) (end_rows (walk_at file rest h) ws) asked) → Agree (rest_fault w (word ∷ ws)) (end_rows w (word ∷ ws)) asked
leads w word ws asked flags file rest goes later =
    subst (λ k. Agree k (end_rows (walked rules [] w word) ws) asked) (sym (first_word w word ws goes.0))
    (subst (λ v. Agree (rest_fault v ws) (end_rows v ws) asked) (sym goes.1.1) (later goes.1.0 goes.1.2))

module _ (file : Option Text) (h : Held) (word : Text) where
  abbrev met_on : Bool → Bool → Option (Text × Option Text) → Held × Step
  met_on rest dash lo = if rest then (h, value) else (if dash then (h, trailing (position_of file)) else long_or_other rules idle word lo h)

  abbrev fault_on : Bool → Bool → Option (Text × Option Text) → Kinds
  fault_on rest dash lo = or_else (if rest then [] else (if dash then [] else flag_word_fault rules false lo word h)) (step_fault top (position_of file) (met_on rest dash lo).0 (met_on rest dash lo).1)

  abbrev next_on : Bool → Bool → Option (Text × Option Text) → Walk
  next_on rest dash lo = after_step rules word (walk_at file rest h) (met_on rest dash lo).0 (met_on rest dash lo).1

  -- a word that looks so
  turns : (P : Kinds → Walk → Type 0) (dash : Bool) (lo : Option (Text × Option Text)) → is_end word ≡ dash → long_of word ≡ lo → P (fault_on false dash lo) (next_on false dash lo) → P (turn_fault top [] (walk_at file false h) word) (walked rules [] (walk_at file false h) word)
  unfolding walked
  turns P dash lo end_is long_is holds =
      subst (λ (b : Bool). P (fault_on false b (long_of word)) (next_on false b (long_of word))) (sym end_is)
      (subst (λ (l : Option (Text × Option Text)). P (fault_on false dash l) (next_on false dash l)) (sym long_is) holds)

  turns_behind : (P : Kinds → Walk → Type 0) → P (step_fault top (position_of file) h value) (after_step rules word (walk_at file true h) h value) → P (turn_fault top [] (walk_at file true h) word) (walked rules [] (walk_at file true h) word)
  unfolding walked
  turns_behind P holds = holds

-- ---- behind `--`

behind : (flags : List Text) (file : Option Text) (h : Held) (ws : List Text) → Open flags file h → Agree (rest_fault (walk_at file true h) ws) (end_rows (walk_at file true h) ws) (said_by flags (with_file file ws))
behind flags file h [] o = at_end flags file true h o
behind flags None h (word ∷ ws) o =
    leads (walk_at None true h) word ws (said_by flags (word ∷ ws)) flags (Some word) true
    (turns_behind None h word (λ fault after. Goes fault after flags (Some word) true) (first_file flags true h word o))
    (λ h' o'. behind flags (Some word) h' ws o')
behind flags (Some name) h (word ∷ ws) o =
    stops (walk_at (Some name) true h) word ws (end_rows (walk_at (Some name) true h) (word ∷ ws)) (said_by flags (name ∷ word ∷ ws)) refl
    (turns_behind (Some name) h word (λ fault after. Fails fault) (second_file h))

-- ---- before it

abbrev AllSpelled : List Text → Type 0
AllSpelled [] = Unit {0}
AllSpelled (word ∷ words) = Spelled (short_of word) × AllSpelled words

-- a word of two dashes and this text
known_name : (text : Text) → is_among (dashed text) known_flags ≡ true → (P : Text → Type 0) → P (codes "new") → P (codes "check") → P (codes "no-save") → P (codes "space") → P text
known_name text known P new check no_save space = elim (cases_Bool (bytes_eq text (codes "new"))) [
  | inl e ↦ subst P (sym (same_of_bytes_eq text (codes "new") e)) new
  | inr e ↦ elim (cases_Bool (bytes_eq text (codes "check"))) [
    | inl f ↦ subst P (sym (same_of_bytes_eq text (codes "check") f)) check
    | inr f ↦ elim (cases_Bool (bytes_eq text (codes "no-save"))) [
      | inl g ↦ subst P (sym (same_of_bytes_eq text (codes "no-save") g)) no_save
      | inr g ↦ elim (cases_Bool (bytes_eq text (codes "space"))) [
        | inl k ↦ subst P (sym (same_of_bytes_eq text (codes "space") k)) space
        | inr k ↦
            let none : is_among (dashed text) known_flags ≡ false = rw (e, f, g, k) refl in
            absurd (cc (sym known ∙ none))
      ]
    ]
  ]
]

-- the walk at a word, where a fault of it is no fault of the words before
abbrev turn_at : Option Text → Held → Text → Kinds
turn_at file h word = turn_fault top [] (walk_at file false h) word

abbrev after_at : Option Text → Held → Text → Walk
after_at file h word = walked rules [] (walk_at file false h) word

-- a flag that is known goes once
abbrev Known : List Text → Option Text → Held → Text → Type 0
Known flags file h text = (is_among (dashed text) flags ≡ true → Fails (turn_at file h (dashed text))) × (is_among (dashed text) flags ≡ false → Goes (turn_at file h (dashed text)) (after_at file h (dashed text)) (flags ++ dashed text ∷ []) file false)

known : (flags : List Text) (file : Option Text) (h : Held) (text : Text) → Open flags file h → is_among (dashed text) known_flags ≡ true → Known flags file h text
known flags file h text o is = known_name text is (Known flags file h)
    (by_name (codes "new") refl refl refl refl refl)
    (by_name (codes "check") refl refl refl refl refl)
    (by_name (codes "no-save") refl refl refl refl refl)
    (by_name (codes "space") refl refl refl refl refl)
  where
    by_name : (id : Text) → is_end (dashed id) ≡ false → long_of (dashed id) ≡ Some (id, None) → arg_by_long rules id ≡ Some (flag_arg id) → bytes_eq (codes "file") id ≡ false → is_among (dashed id) known_flags ≡ true → Known flags file h id
    by_name id end_not long_is found apart is_known = (
      λ stands. turns file h (dashed id) (λ fault after. Fails fault) false (Some (id, None)) end_not long_is
          (subst (λ (a : Option Rule). Fails (or_else (long_fault rules false a None h) (step_fault top (position_of file) (after_flag rules idle (dashed id) (long_met rules a None h).0 (long_met rules a None h).1).0 (after_flag rules idle (dashed id) (long_met rules a None h).0 (long_met rules a None h).1).1))) (sym found)
          (twice_fails flags file h id (dashed id) apart o stands)),
      λ new. turns file h (dashed id) (λ fault after. Goes fault after (flags ++ dashed id ∷ []) file false) false (Some (id, None)) end_not long_is
          (subst (λ (a : Option Rule). Goes (or_else (long_fault rules false a None h) (step_fault top (position_of file) (after_flag rules idle (dashed id) (long_met rules a None h).0 (long_met rules a None h).1).0 (after_flag rules idle (dashed id) (long_met rules a None h).0 (long_met rules a None h).1).1))
          (after_step rules (dashed id) (walk_at file false h) (after_flag rules idle (dashed id) (long_met rules a None h).0 (long_met rules a None h).1).0 (after_flag rules idle (dashed id) (long_met rules a None h).0 (long_met rules a None h).1).1) (flags ++ dashed id ∷ []) file false) (sym found)
          (once_goes flags file h id (dashed id) apart o is_known new)),
    )

module _ (flags : List Text) (file : Option Text) (h : Held) (first : ℕ) (rest : Text) where
  abbrev text : Text
  text = first ∷ rest

  -- a flag with a value is not known
  valued_unknown : has_byte 61 text ≡ true → is_among (dashed text) known_flags ≡ false
  valued_unknown has = elim (cases_Bool (is_among (dashed text) known_flags)) [
    | inl is ↦ absurd (known_name text is (λ (t : Text). has_byte 61 t ≡ true → ⊥) (λ e. cc e) (λ e. cc e) (λ e. cc e) (λ e. cc e) has)
    | inr not_so ↦ not_so
  ]

  valued_stops : has_byte 61 text ≡ true → Fails (turn_at file h (dashed text))
  valued_stops has =
      let name : Text = before_first (λ x. x == 61) text in
      let value_is : Text = after_first (λ x. x == 61) text in
      turns file h (dashed text) (λ fault after. Fails fault) false (Some (name, Some value_is)) refl (rw has refl)
      (valued_fails h name value_is _ (bytes_eq (codes "new") name) (bytes_eq (codes "check") name) (bytes_eq (codes "no-save") name) (bytes_eq (codes "space") name) refl refl refl refl)

  unknown_stops : has_byte 61 text ≡ false → is_among (dashed text) known_flags ≡ false → Fails (turn_at file h (dashed text))
  unknown_stops lacks not_known =
      turns file h (dashed text) (λ fault after. Fails fault) false (Some (text, None)) refl (rw lacks (ap (λ (n : Text). Some (n, None)) (all_before text lacks)))
      (unknown_fails h text _ not_known)

short_stops : (flags : List Text) (file : Option Text) (h : Held) (word letters : Text) → Open flags file h → is_end word ≡ false → long_of word ≡ None → short_of word ≡ Some letters → Spelled (short_of word) → Fails (turn_at file h word)
short_stops flags file h word letters o end_not long_not is spelled =
    turns file h word (λ fault after. Fails fault) false None end_not long_not
    (subst (λ (so : Option Text). Fails (or_else (option_map_or (λ l. bundle_fault rules false l h) so []) (step_fault top (position_of file) (short_or_plain rules idle word so h).0 (short_or_plain rules idle word so h).1))) (sym is)
    (bundle_fails h letters _ o.skip (subst Spelled is spelled)))

plain_turn : (file : Option Text) (h : Held) (word : Text) (P : Kinds → Walk → Type 0) → is_end word ≡ false → long_of word ≡ None → short_of word ≡ None
    → P (step_fault top (position_of file) h value) (after_step rules word (walk_at file false h) h value) → P (turn_at file h word) (after_at file h word)
plain_turn file h word P end_not long_not short_not holds =
    turns file h word P false None end_not long_not
    (subst (λ (so : Option Text). P (or_else (option_map_or (λ l. bundle_fault rules false l h) so []) (step_fault top (position_of file) (short_or_plain rules idle word so h).0 (short_or_plain rules idle word so h).1))
    (after_step rules word (walk_at file false h) (short_or_plain rules idle word so h).0 (short_or_plain rules idle word so h).1)) (sym short_not) holds)

-- all the words that follow
abbrev All_agree : List Text → Option Text → Held → List Text → Type 0
All_agree flags file h words = Agree (rest_fault (walk_at file false h) words) (end_rows (walk_at file false h) words) (said_by (flags ++ flags_in words) (with_file file (files_in words)))

module _ (flags : List Text) (file : Option Text) (h : Held) (word : Text) (words : List Text) (o : Open flags file h) where
  -- these are the flags and files of all the words
  counted : (fs gs : List Text) → flags_in (word ∷ words) ≡ fs → files_in (word ∷ words) ≡ gs → Agree (rest_fault (walk_at file false h) (word ∷ words)) (end_rows (walk_at file false h) (word ∷ words)) (said_by (flags ++ fs) (with_file file gs)) → All_agree flags file h (word ∷ words)
  counted fs gs flags_are files_are agree =
      subst (λ (l : List Text). Agree (rest_fault (walk_at file false h) (word ∷ words)) (end_rows (walk_at file false h) (word ∷ words)) (said_by (flags ++ l) (with_file file (files_in (word ∷ words))))) (sym flags_are)
      (subst (λ (l : List Text). Agree (rest_fault (walk_at file false h) (word ∷ words)) (end_rows (walk_at file false h) (word ∷ words)) (said_by (flags ++ fs) (with_file file l))) (sym files_are) agree)

  as_flag : is_flag word ≡ true → is_end word ≡ false → Agree (rest_fault (walk_at file false h) (word ∷ words)) (end_rows (walk_at file false h) (word ∷ words)) (said_by (flags ++ word ∷ flags_in words) (with_file file (files_in words))) → All_agree flags file h (word ∷ words)
  as_flag is end_not agree =
      counted (word ∷ flags_in words) (files_in words)
      (flags_more word words end_not ∙ ap (λ b. cond b (word ∷ flags_in words) (flags_in words)) is)
      (files_more word words end_not ∙ ap (λ b. cond b (files_in words) (word ∷ files_in words)) is) agree

  unknown_flag : is_flag word ≡ true → is_end word ≡ false → is_among word known_flags ≡ false → Fails (turn_at file h word) → All_agree flags file h (word ∷ words)
  unknown_flag is end_not not_known fails =
      as_flag is end_not
      (stops (walk_at file false h) word words _ _ (not_fine (flags ++ word ∷ flags_in words) (with_file file (files_in words)) (unknown_not_fine flags word (flags_in words) not_known)) fails)

  known_flag : is_flag word ≡ true → is_end word ≡ false
      → (is_among word flags ≡ true → Fails (turn_at file h word)) × (is_among word flags ≡ false → Goes (turn_at file h word) (after_at file h word) (flags ++ word ∷ []) file false)
      → ((h' : Held) → Open (flags ++ word ∷ []) file h' → All_agree (flags ++ word ∷ []) file h' words) → All_agree flags file h (word ∷ words)
  known_flag is end_not turn later = as_flag is end_not (elim (cases_Bool (is_among word flags)) [
    | inl stands ↦
        stops (walk_at file false h) word words _ _ (not_fine (flags ++ word ∷ flags_in words) (with_file file (files_in words)) (twice_not_fine flags word (flags_in words) stands)) (turn.0 stands)
    | inr new ↦
        subst (λ (l : List Text). Agree (rest_fault (walk_at file false h) (word ∷ words)) (end_rows (walk_at file false h) (word ∷ words)) (said_by l (with_file file (files_in words)))) (append_assoc flags (word ∷ []) (flags_in words))
        (leads (walk_at file false h) word words _ (flags ++ word ∷ []) file false (turn.1 new) later)
  ])

  -- `--` ends the flags
  last_flag : is_end word ≡ true → turn_at file h word ≡ [] → after_at file h word ≡ walk_at file true h → All_agree flags file h (word ∷ words)
  last_flag is fine goes =
      counted [] words (flags_end word words is) (files_end word words is)
      (subst (λ (l : List Text). Agree (rest_fault (walk_at file false h) (word ∷ words)) (end_rows (walk_at file false h) (word ∷ words)) (said_by l (with_file file words))) (sym (append-nil flags))
      (leads (walk_at file false h) word words _ flags file true (fine, (h, goes, o)) (λ h' o'. behind flags file h' words o')))

  a_file : is_flag word ≡ false → is_end word ≡ false → Agree (rest_fault (walk_at file false h) (word ∷ words)) (end_rows (walk_at file false h) (word ∷ words)) (said_by (flags ++ flags_in words) (with_file file (word ∷ files_in words))) → All_agree flags file h (word ∷ words)
  a_file is end_not agree =
      counted (flags_in words) (word ∷ files_in words)
      (flags_more word words end_not ∙ ap (λ b. cond b (word ∷ flags_in words) (flags_in words)) is)
      (files_more word words end_not ∙ ap (λ b. cond b (files_in words) (word ∷ files_in words)) is) agree

-- a file is the first one, or there are two
plain_word : (flags : List Text) (file : Option Text) (h : Held) (word : Text) (words : List Text) → Open flags file h → is_flag word ≡ false → is_end word ≡ false → long_of word ≡ None → short_of word ≡ None
    → ((h' : Held) → Open flags (Some word) h' → All_agree flags (Some word) h' words) → All_agree flags file h (word ∷ words)
plain_word flags None h word words o is end_not long_not short_not later =
    a_file flags None h word words o is end_not
    (leads (walk_at None false h) word words _ flags (Some word) false
    (plain_turn None h word (λ fault after. Goes fault after flags (Some word) false) end_not long_not short_not (first_file flags false h word o)) later)
plain_word flags (Some name) h word words o is end_not long_not short_not later =
    a_file flags (Some name) h word words o is end_not
    (stops (walk_at (Some name) false h) word words (end_rows (walk_at (Some name) false h) (word ∷ words)) _ refl
    (plain_turn (Some name) h word (λ fault after. Fails fault) end_not long_not short_not (second_file h)))

ends_turn : (file : Option Text) (h : Held) → (turn_at file h (codes "--") ≡ []) × (after_at file h (codes "--") ≡ walk_at file true h)
unfolding walked
ends_turn file h = (refl, refl)

abbrev Later : List Text → Type 0
Later words = (flags : List Text) (file : Option Text) (h : Held) → Open flags file h → All_agree flags file h words

all_words : (flags : List Text) (file : Option Text) (h : Held) (words : List Text) → AllSpelled words → Open flags file h → All_agree flags file h words
all_words flags file h [] spelled o = subst (λ (l : List Text). Agree (rest_fault (walk_at file false h) []) (end_rows (walk_at file false h) []) (said_by l (with_file file []))) (sym (append-nil flags)) (at_end flags file false h o)
all_words flags file h (word ∷ words) spelled o = by_look (λ flags' file' h' o'. all_words flags' file' h' words spelled.1 o') (look word)
  where
    by_text : Later words → (first : ℕ) (rest : Text) → All_agree flags file h (dashed (first ∷ rest) ∷ words)
    by_text later first rest = elim (cases_Bool (has_byte 61 (first ∷ rest))) [
      | inl has ↦ unknown_flag flags file h (dashed (first ∷ rest)) words o refl refl (valued_unknown flags file h first rest has) (valued_stops flags file h first rest has)
      | inr lacks ↦ elim (cases_Bool (is_among (dashed (first ∷ rest)) known_flags)) [
        | inl is_known ↦ known_flag flags file h (dashed (first ∷ rest)) words o refl refl (known flags file h (first ∷ rest) o is_known) (later (flags ++ dashed (first ∷ rest) ∷ []) file)
        | inr not_known ↦ unknown_flag flags file h (dashed (first ∷ rest)) words o refl refl not_known (unknown_stops flags file h first rest lacks not_known)
      ]
    ]

    by_look : Later words → Look word → All_agree flags file h (word ∷ words)
    by_look later (plain flag_not end_not long_not short_not) = plain_word flags file h word words o flag_not end_not long_not short_not (later flags (Some word))
    by_look later (ends is) = subst (λ (w : Text). All_agree flags file h (w ∷ words)) (sym is) (let turn = ends_turn file h in last_flag flags file h (codes "--") words o refl turn.0 turn.1)
    by_look later (long first rest is) = subst (λ (w : Text). All_agree flags file h (w ∷ words)) (sym is) (by_text later first rest)
    by_look later (short letters flag_is end_not not_known long_not short_is) = unknown_flag flags file h word words o flag_is end_not not_known (short_stops flags file h word letters o end_not long_not short_is spelled.0)

-- ---- the whole

whole : (words : List Text) → faults words ≡ rest_fault (walk_from nothing_held) words
unfolding faults command
whole words = leaf_fault (built command_app) nothing_held words refl

found_is : (words : List Text) → found words ≡ end_rows (walk_from nothing_held) words
unfolding found command
found_is words = refl

-- The words have no fault exactly where they ask for something, and then that is what is found.
abbrev Exact : List Text → Option Asked → Type 0
Exact words None = Fails (faults words)
Exact words (Some a) = (faults words ≡ []) × Values a (found words)

exactly : (words : List Text) → AllSpelled words → Exact words (said words)
exactly words spelled = by_asked (said words) (all_words [] None nothing_held words spelled start)
  where
    by_asked : (asked : Option Asked) → Agree (rest_fault (walk_from nothing_held) words) (end_rows (walk_from nothing_held) words) asked → Exact words asked
    by_asked None agree = λ e. agree (sym (whole words) ∙ e)
    by_asked (Some a) agree = (whole words ∙ agree.0, subst (λ (rows : List Row). Values a rows) (sym (found_is words)) agree.1)

-- ---- the words of a program are texts

-- a text that is not empty has a character
has_char : (text : Text) → IsUtf8 text → (y : ℕ) (ys : Text) → text ≡ y ∷ ys → is_some (slice_get (chars text) 0) ≡ true
has_char text u y ys e = by_chars (chars text) (encodes-chars text u ∙ e)
  where
    by_chars : (cs : List ℕ) → encodes cs ≡ y ∷ ys → is_some (slice_get cs 0) ≡ true
    by_chars [] h = cc
    by_chars (c ∷ cs) h = refl

spelled : (word : Text) → IsUtf8 word → Spelled (short_of word)
unfolding chars
spelled [] u = tt
spelled (x ∷ []) u = (elim (x == 45) as (λ b. x == 45 ≡ b → Spelled (short_of (x ∷ []))) [ true ↦ λ e. rw e tt | false ↦ λ e. rw e tt ]) refl
spelled (x ∷ (y ∷ ys)) u = (elim (x == 45) as (λ b. x == 45 ≡ b → Spelled (short_of (x ∷ y ∷ ys))) [
  | true ↦ λ e. (elim (y == 45) as (λ b. y == 45 ≡ b → Spelled (short_of (x ∷ y ∷ ys))) [
    | true ↦ λ d. rw (e, d) tt
    | false ↦ λ d. rw (e, d) (has_char (y ∷ ys) (IsUtf8-drop (x ∷ y ∷ ys) 1 u (IsCharBoundary-after_ascii (x ∷ y ∷ ys) 0 u (omega arith) (omega (arith, eqb-true x 45 e)))) y ys refl)
  ]) refl
  | false ↦ λ e. rw e tt
]) refl

strings_spelled : {Z : Type 0} (words : List (String Z)) → AllSpelled (map string_bytes words)
strings_spelled [] = tt
strings_spelled (w ∷ ws) = (spelled (string_bytes w) (IsUtf8-string_bytes w), strings_spelled ws)

-- ---- for `parse`

-- what a getter says of a flag
abbrev pub Tells : Text → List Row → Bool → Type 0
Tells id rows is = (one_of id rows ≡ Some (codes "true") → is ≡ true) × (one_of id rows ≡ Some (codes "false") → is ≡ false)

flag_is : (b is : Bool) (o : Option Text) → o ≡ Some (if b then codes "true" else codes "false") → (o ≡ Some (codes "true") → is ≡ true) × (o ≡ Some (codes "false") → is ≡ false) → is ≡ b
flag_is true is o e tells = tells.0 e
flag_is false is o e tells = tells.1 e

some_same : (x y : Text) → Some x ≡ Some y → x ≡ y
some_same x y is = cc

module _ {Z : Type 0} (strings : List (String Z)) where
  abbrev texts : List Text
  texts = map string_bytes strings

  exact : Exact texts (said texts)
  exact = exactly texts (strings_spelled strings)

  pub has_file : faults texts ≡ [] → is_some (first_of (codes "file") (found texts)) ≡ true
  has_file fine = by_asked (said texts) exact
    where
      by_asked : (asked : Option Asked) → Exact texts asked → is_some (first_of (codes "file") (found texts)) ≡ true
      by_asked None e = absurd (e fine)
      by_asked (Some a) e = ap is_some e.1.file_is

  pub says : (new check no_save space : Bool) (name : Text) → faults texts ≡ [] → Tells (codes "new") (found texts) new → Tells (codes "check") (found texts) check → Tells (codes "no-save") (found texts) no_save → Tells (codes "space") (found texts) space → Some name ≡ first_of (codes "file") (found texts)
      → said texts ≡ Some (record { new = new; check = check; no_save = no_save; space = space; name = name })
  says new check no_save space name fine tells_new tells_check tells_no_save tells_space file = by_asked (said texts) exact
    where
      by_asked : (asked : Option Asked) → Exact texts asked → asked ≡ Some (record { new = new; check = check; no_save = no_save; space = space; name = name })
      by_asked None e = absurd (e fine)
      by_asked (Some a) e =
          let n = sym (flag_is a.new new _ e.1.new_is tells_new) in
          let c = sym (flag_is a.check check _ e.1.check_is tells_check) in
          let s = sym (flag_is a.no_save no_save _ e.1.no_save_is tells_no_save) in
          let p = sym (flag_is a.space space _ e.1.space_is tells_space) in
          let f = some_same a.name name (sym e.1.file_is ∙ sym file) in
          λ i. Some (record { new = n i; check = c i; no_save = s i; space = p i; name = f i })

  pub says_none : Fails (faults texts) → said texts ≡ None
  says_none bad = by_asked (said texts) exact
    where
      by_asked : (asked : Option Asked) → Exact texts asked → asked ≡ None
      by_asked None e = refl
      by_asked (Some a) e = absurd (bad e.0)
