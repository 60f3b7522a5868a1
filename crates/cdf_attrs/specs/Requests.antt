-- What a command `put-entry` asks for: a value for an attribute, or nothing that may be done (own).
use Rattle.std.specs.Prelude.{◌≡◌, ℕ, List, false}
use Rattle.cdf_model.specs.declared.data_type.DataType.{DataType}
use Rattle.cdf_model.specs.declared.kinds.EntryKind.{EntryKind}
use Rattle.cdf_model.specs.Answers.{Refuse}
use Rattle.cdf_model.specs.AttributeSteps.{is_out_of_range, put_entry_step}
use Rattle.cdf_format.specs.Content.{content}
use Rattle.cdf_format.specs.Stored.{is_little}
use Rattle.cdf_edits.specs.declared.chain.Chain.{Chain}
use Rattle.cdf_attrs.specs.declared.entry_bytes.StoredValue.{StoredValue}
use Rattle.cdf_attrs.specs.declared.putting_entry.Request.{Request}
use Rattle.cdf_attrs.specs.declared.putting_entry.Request.TheVariants.{Put, Refused}
use Rattle.cdf_attrs.specs.Finding.{FindsChain}
use Rattle.cdf_attrs.specs.Valued.{IsWritten}

-- the attribute of this number has the entries of the kind in this chain, one of them may have the number, and the words write the value
pub record MayPut (b attr : List ℕ) (kind : EntryKind) (num : ℕ) (t : DataType) (words : List (List ℕ)) (number : ℕ) (chain : Chain) (value : StoredValue) : Type 0 where
  pub found : FindsChain b attr kind number chain
  pub in_range : is_out_of_range (content b) kind num ≡ false
  pub t_is : value.t ≡ t
  pub written : IsWritten (is_little b) t words value.elems value.bytes.items

abbrev pub IsRequest : List ℕ → List ℕ → EntryKind → ℕ → DataType → List (List ℕ) → Request → Type 0
IsRequest b attr kind num t words (Put number chain value) = MayPut b attr kind num t words number chain value
IsRequest b attr kind num t words (Refused reason) = put_entry_step (content b) attr kind num t words ≡ Refuse reason
