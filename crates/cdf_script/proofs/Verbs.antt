-- Commands by their names.
use Rattle.std.proofs.Common.{◌≡◌, ℕ, ◌+◌, ◌≤◌, ◌<◌, List, [], ◌∷◌, drop, length, map, Some, None, refl, sym, ap, ◌∙◌, inl, inr, arith, drop-drop, length-drop, subst}
use Rattle.std.proofs.lemmas.Bool.{cases_Bool}
use Rattle.std.specs.Prelude.{bytes_eq, find}
use Rattle.std.specs.declared.option.Option.{Option}
use Rattle.std.specs.Option.{option_map}
use Rattle.cdf_model.specs.declared.answer.LineError.TheVariants.{UnknownWord}
use Rattle.cdf_model.specs.Forms.{row_named}
use Rattle.cdf_model.specs.Grammar.{Faulty, or_fault, parse_words, read_all}
use Rattle.cdf_model.specs.Quoting.{Word}
use Rattle.cdf_script.specs.declared.verb.Verb.{Verb}
use Rattle.cdf_script.specs.Counting.{BeginsAt}
use Rattle.cdf_script.specs.Verbs.{name_of, row_of, rows-verbs, verb_in, verbs}

found : (name : List ℕ) (vs : List Verb) → find (λ r. bytes_eq r.name name) (map row_of vs) ≡ option_map row_of (find (λ v. bytes_eq (name_of v) name) vs)
found name [] = refl
found name (v ∷ vs) = elim (cases_Bool (bytes_eq (name_of v) name)) [
  | inl holds ↦ rw holds refl
  | inr fails ↦ rw fails (found name vs)
]

-- the row of a name is that of its verb
row-verb : (name : List ℕ) → row_named name ≡ option_map row_of (verb_in name)
row-verb name = ap (λ rs. find (λ r. bytes_eq r.name name) rs) rows-verbs ∙ found name verbs

named : (line_length : ℕ) (word : Word) (left : List Word) (o : Option Verb) → o ≡ verb_in word.bytes
    → parse_words line_length (word ∷ left) ≡ or_fault (UnknownWord word.place) (option_map row_of o) (λ r. read_all line_length r left)
named line_length word left o same =
    ap (λ found. or_fault (UnknownWord word.place) found (λ r. read_all line_length r left)) (row-verb word.bytes ∙ ap (option_map row_of) (sym same))

pub names_verb : {words left : List Word} {word : Word} {name : List ℕ} {verb : Verb} → words ≡ word ∷ left → name ≡ word.bytes → Some verb ≡ verb_in name
    → (line_length : ℕ) → parse_words line_length words ≡ read_all line_length (row_of verb) left
names_verb {left = left} {word = word} {verb = verb} front text same line_length = ap (parse_words line_length) front ∙ named line_length word left (Some verb) (same ∙ ap verb_in text)

pub names_nothing : {words left : List Word} {word : Word} {name : List ℕ} → words ≡ word ∷ left → name ≡ word.bytes → None ≡ verb_in name
    → (line_length : ℕ) → parse_words line_length words ≡ Faulty (UnknownWord word.place)
names_nothing {left = left} {word = word} front text same line_length = ap (parse_words line_length) front ∙ named line_length word left None (same ∙ ap verb_in text)

pub next_dropped : (n : ℕ) (words left next : List Word) → drop n words ≡ left → next ≡ drop 1 left → drop (n + 1) words ≡ next
next_dropped n words left next so_far one = rw one (rw (← so_far) (sym (drop-drop 1 n words)))

pub some_left : (n number : ℕ) (words left : List Word) → drop n words ≡ left → n ≤ number → number < length words → left ≡ [] → ⊥
some_left n number words left so_far below more none =
    let size : length (drop n words) ≡ 0 = ap length (so_far ∙ none) in
    omega (arith, length-drop n words)

pub stands_at : (n number : ℕ) (words left next : List Word) (word : Word) (place : ℕ) → drop n words ≡ left → n ≡ number → left ≡ word ∷ next → place ≡ word.place → BeginsAt (drop number words) place
stands_at n number words left next word place so_far same front at =
    let whole : drop number words ≡ word ∷ next = ap (λ k. drop k words) (sym same) ∙ so_far ∙ front in
    subst (λ ws. BeginsAt ws place) (sym whole) (sym at)
