-- What is written of the entries of a chain whose numbers fall since a variable goes.
use Rattle.std.specs.Prelude.{◌≡◌, ◌<◌, ◌≤◌, ◌⊎◌, ◌==◌, ℕ, ℤ, ◌-◌, List, [], ◌∷◌, length, map, position, All, nat_lt, false, if◌then◌else◌, Some, None}
use Rattle.std.specs.Int.{w32, cast_unsigned}
use Rattle.std.specs.List.{slice_get}
use Rattle.cdf_model.specs.AttributeSteps.{is_wrong_scope}
use Rattle.cdf_format.specs.Content.{attribute_of, content}
use Rattle.cdf_format.specs.Shape.{AttributeShape, adrs, shape}
use Rattle.cdf_model.specs.Names.{attribute_names}
use Rattle.cdf_model.specs.declared.kinds.EntryKind.{EntryKind}
use Rattle.cdf_edits.specs.Commands.EntryChains.{max_field}
use Rattle.cdf_edits.specs.Edits.FallenNumbers.{fallen}
use Rattle.cdf_edits.specs.Edits.Writes.{Write, write, with_writes}
use Rattle.cdf_format.specs.Fields.{with_field}
use Rattle.cdf_format.specs.Records.{aedr_num}
use Rattle.cdf_format.specs.Tiles.{In}
use Rattle.cdf_attrs.specs.Known.{KnownEntries, KnowsEntries}
use Rattle.cdf_edits.specs.Edits.EntryMarks.{entries_chain}
use Rattle.cdf_format.specs.WellFormed.{Good}
use Rattle.cdf_attrs.specs.Removing.{IsGreatest, TakenAt, without_at}

-- of entries with these numbers at these places, the greater numbers less by one
abbrev pub lower_writes : ℕ → List ℕ → List ℕ → List Write
lower_writes num [] places = []
lower_writes num (n ∷ numbers) [] = []
lower_writes num (n ∷ numbers) (aedr ∷ places) = if nat_lt num n then write aedr aedr_num (n - 1) ∷ lower_writes num numbers places else lower_writes num numbers places

-- some numbers of a chain are greater and were written less by one, and then its greatest number; or none is greater, and nothing was written
pub record LowersNumbers (b now : List ℕ) (kind : EntryKind) (adr : ℕ) (entries : KnownEntries) (num : ℕ) : Type 0 where
  pub some : (n : ℕ) × (In n entries.numbers × (num < n))
  pub greatest : ℤ
  pub greatest_is : IsGreatest (map (fallen num) entries.numbers) greatest
  pub written : now ≡ with_field (with_writes b (lower_writes num entries.numbers entries.places)) adr (max_field kind) (cast_unsigned w32 greatest)

abbrev pub Lowers : List ℕ → List ℕ → EntryKind → ℕ → KnownEntries → ℕ → Type 0
Lowers b now kind adr entries num = (All (λ n. n ≤ num) entries.numbers × (now ≡ b)) ⊎ LowersNumbers b now kind adr entries num

-- an attribute, by its ADR, whose entries of a kind go with its scope
pub record IsScoped (b : List ℕ) (kind : EntryKind) (adr : ℕ) : Type 0 where
  pub number : ℕ
  pub own : AttributeShape
  pub stands : slice_get (shape b).attributes number ≡ Some own
  pub adr_is : own.adr ≡ adr
  pub in_scope : is_wrong_scope kind (attribute_of b own).scope ≡ false

-- the entry of a number was taken out of a chain, and these are left; or there is none
pub record TakesNumber (b now : List ℕ) (kind : EntryKind) (adr : ℕ) (entries : KnownEntries) (num : ℕ) (left : KnownEntries) : Type 0 where
  pub index : ℕ
  pub at : position (λ n. n == num) entries.numbers ≡ Some index
  pub taken : TakenAt b now kind adr entries index
  pub left_is : left ≡ without_at entries index

pub record HasNoNumber (b now : List ℕ) (entries : KnownEntries) (num : ℕ) (left : KnownEntries) : Type 0 where
  pub none : position (λ n. n == num) entries.numbers ≡ None
  pub stays : now ≡ b
  pub left_is : left ≡ entries

abbrev pub DropsNumber : List ℕ → List ℕ → EntryKind → ℕ → KnownEntries → ℕ → KnownEntries → Type 0
DropsNumber b now kind adr entries num left = HasNoNumber b now entries num left ⊎ TakesNumber b now kind adr entries num left

-- the entry of a number was taken out of the chain of an attribute, and then the greater numbers were written less by one
pub record DropsFrom (b now : List ℕ) (kind : EntryKind) (adr num : ℕ) : Type 0 where
  pub entries : KnownEntries
  pub chain_is : entries.chain ≡ entries_chain kind adr
  pub known : KnowsEntries b entries
  pub mid : List ℕ
  pub left : KnownEntries
  pub drops : DropsNumber b mid kind adr entries num left
  pub good : Good mid
  pub left_known : KnowsEntries mid left
  pub lowers : Lowers mid now kind adr left num

-- the attributes have the names that they had, and stand where they did, in an image that is as long
pub record KeepsAttributes (b now : List ℕ) : Type 0 where
  pub names : attribute_names (content now) ≡ attribute_names (content b)
  pub places : adrs (shape now) ≡ adrs (shape b)
  pub long : length now ≡ length b
