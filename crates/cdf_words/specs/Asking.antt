-- What the words of the command line ask for (own).
use Rattle.std.specs.Prelude.{ℕ, List, [], ◌∷◌, ◌++◌, Bool, true, false, not, ◌&&◌, ◌||◌, ◌==◌, bytes_eq, codes, if◌then◌else◌, Some, None}
use Rattle.std.specs.List.{after_first, before_first, filter}
use Rattle.std.specs.declared.option.Option.{Option}
use Rattle.std.specs.Option.{option_and_then}
use Rattle.cdf_model.specs.Names.{is_among}
use Rattle.cdf_words.specs.declared.words.Asked.{Asked as AskedWords}

-- what a run is asked for: to begin with a new file, to check one and no more, not to save, to show what records take, and the file
pub record Asked : Type 0 where
  pub new : Bool
  pub check : Bool
  pub no_save : Bool
  pub space : Bool
  pub name : List ℕ

abbrev pub asked_for : AskedWords → Asked
asked_for words = record { new = words.new; check = words.check; no_save = words.no_save; space = words.space; name = words.name.now }

-- a word that begins with `-`, and is longer
abbrev pub is_flag : List ℕ → Bool
is_flag (b ∷ c ∷ rest) = b == 45
is_flag word = false

abbrev pub is_end : List ℕ → Bool
is_end word = bytes_eq word (codes "--")

-- the flags are the words before `--` that look like flags
abbrev pub flags_in : List (List ℕ) → List (List ℕ)
flags_in words = filter is_flag (before_first is_end words)

-- the files are the others before it, and all words behind it
abbrev pub files_in : List (List ℕ) → List (List ℕ)
files_in words = filter (λ word. not (is_flag word)) (before_first is_end words) ++ after_first is_end words

abbrev pub known_flags : List (List ℕ)
known_flags = codes "--new" ∷ codes "--check" ∷ codes "--no-save" ∷ codes "--space" ∷ []

-- each is known, and none stands twice
abbrev pub are_fine : List (List ℕ) → Bool
are_fine [] = true
are_fine (flag ∷ flags) = is_among flag known_flags && not (is_among flag flags) && are_fine flags

-- what flags and one file say
abbrev pub said_by : List (List ℕ) → List (List ℕ) → Option Asked
said_by flags (name ∷ []) =
    if are_fine flags then Some (record {
      new = is_among (codes "--new") flags;
      check = is_among (codes "--check") flags;
      no_save = is_among (codes "--no-save") flags;
      space = is_among (codes "--space") flags;
      name = name;
    }) else None
said_by flags files = None

abbrev pub said : List (List ℕ) → Option Asked
said words = said_by (flags_in words) (files_in words)

-- a file that is made is not checked
abbrev pub unless_both : Asked → Option Asked
unless_both a = if a.new && a.check then None else Some a

-- what the words ask for, if they are such words: a flag stands once, and there is one file
abbrev pub ask : List (List ℕ) → Option Asked
ask words = option_and_then unless_both (said words)

-- such a run saves nothing
abbrev pub saves_nothing : Asked → Bool
saves_nothing a = a.check || a.no_save
