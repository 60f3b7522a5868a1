-- What a word is read as (own).
use Rattle.std.specs.Prelude.{ℕ, ◌+◌, ◌-◌, ◌*◌, ◌^◌, List, [], ◌∷◌, map, Bool, true, false, not, ◌&&◌, ◌==◌, nat_lt, bytes_eq, if◌then◌else◌, codes, find, Some, None}
use Rattle.std.specs.declared.option.Option.{Option}
use Rattle.std.specs.Char.{is_ascii_digit}
use Rattle.std.specs.List.{fold, list_all, slice_split}
use Rattle.std.specs.Option.{option_map}
use Rattle.cdf_model.specs.declared.data_type.DataType.{DataType}
use Rattle.cdf_model.specs.declared.head.Majority.{Majority}
use Rattle.cdf_model.specs.declared.head.Majority.TheVariants.{Row, Column}
use Rattle.cdf_model.specs.declared.kinds.EntryKind.{EntryKind}
use Rattle.cdf_model.specs.declared.kinds.EntryKind.TheVariants.{G, R, Z}
use Rattle.cdf_model.specs.declared.kinds.Scope.{Scope}
use Rattle.cdf_model.specs.declared.kinds.Scope.TheVariants.{Global, Variable}
use Rattle.cdf_model.specs.declared.kinds.Sparse.{Sparse}
use Rattle.cdf_model.specs.declared.kinds.Sparse.TheVariants.{NoRule, Pad, Previous}
use Rattle.cdf_model.specs.Types.{data_types, name_of}

-- one digit or more, the first of several not 0
abbrev pub is_plain_number : List ℕ → Bool
is_plain_number [] = false
is_plain_number (b ∷ []) = is_ascii_digit b
is_plain_number (b ∷ word) = list_all is_ascii_digit (b ∷ word) && not (b == 48)

-- the number that decimal digits write
abbrev pub value : List ℕ → ℕ
value word = fold (λ n b. 10 * n + (b - 48)) 0 word

-- a number of at most 32 bits
abbrev pub number_in : List ℕ → Option ℕ
number_in word = if is_plain_number word && nat_lt (value word) (2 ^ 32) then Some (value word) else None

-- all of these, or none where one is not there
abbrev pub all_of : List (Option ℕ) → Option (List ℕ)
all_of [] = Some []
all_of (None ∷ more) = None
all_of (Some n ∷ more) = option_map (λ ns. n ∷ ns) (all_of more)

-- `-` for none, else numbers joined by commas
abbrev pub numbers_in : List ℕ → Option (List ℕ)
numbers_in word = if bytes_eq word (codes "-") then Some [] else all_of (map number_in (slice_split (λ b. b == 44) word))

-- letters T and F
abbrev pub letters_in : List ℕ → Option (List Bool)
letters_in [] = Some []
letters_in (b ∷ word) = if b == 84 then option_map (λ varys. true ∷ varys) (letters_in word) else (if b == 70 then option_map (λ varys. false ∷ varys) (letters_in word) else None)

-- `-` for none, else a letter or more
abbrev pub varys_in : List ℕ → Option (List Bool)
varys_in [] = None
varys_in word = if bytes_eq word (codes "-") then Some [] else letters_in word

-- what the word stands for, of these words
abbrev pub one_of : {A : Type 0} → List (List ℕ × A) → List ℕ → Option A
one_of choices word = option_map (λ choice. choice.1) (find (λ choice. bytes_eq word choice.0) choices)

-- the first of two words, or the second
abbrev pub choice_in : List ℕ → List ℕ → List ℕ → Option Bool
choice_in first second word = one_of ((first, false) ∷ (second, true) ∷ []) word

abbrev pub type_in : List ℕ → Option DataType
type_in word = find (λ t. bytes_eq (name_of t) word) data_types

abbrev pub scope_in : List ℕ → Option Scope
scope_in word = one_of ((codes "global", Global) ∷ (codes "variable", Variable) ∷ []) word

abbrev pub majority_in : List ℕ → Option Majority
majority_in word = one_of ((codes "row", Row) ∷ (codes "column", Column) ∷ []) word

abbrev pub entry_kind_in : List ℕ → Option EntryKind
entry_kind_in word = one_of ((codes "g", G) ∷ (codes "r", R) ∷ (codes "z", Z) ∷ []) word

abbrev pub rule_in : List ℕ → Option Sparse
rule_in word = one_of ((codes "none", NoRule) ∷ (codes "pad", Pad) ∷ (codes "previous", Previous) ∷ []) word
