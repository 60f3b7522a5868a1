-- What `put-entry` and `del-entry` do (CDF Internal Format Description, "Attribute Entry Descriptor Record"; own: a new entry stands last in its chain, and a replaced one where the old one stood).
use Rattle.std.specs.Prelude.{◌≡◌, ℕ, List, [], ◌∷◌, ◌++◌, ◌==◌, if◌then◌else◌, Some, None}
use Rattle.std.specs.declared.option.Option.{Option}
use Rattle.std.specs.List.{flat_map}
use Rattle.std.specs.Option.{option_to_list}
use Rattle.cdf_model.specs.declared.kinds.EntryKind.{EntryKind}
use Rattle.cdf_model.specs.DataSet.{DataSet}
use Rattle.cdf_edits.specs.Commands.Allowances.{FreedStay, no_fields, Allowances, Only, stays_all, space_fields}
use Rattle.cdf_edits.specs.Commands.EntryChains.{chain_of, entry_at, entry_allowance, share_chain, GreatestIs}
use Rattle.cdf_edits.specs.Commands.Named.{is_attribute}
use Rattle.cdf_edits.specs.Commands.NewRecords.{Says, AreSameFields, MovesForRoom, moved_for_room}
use Rattle.cdf_edits.specs.Space.Acts.{Act, Took, gave}
use Rattle.cdf_format.specs.AttributeRules.{entry_bytes}
use Rattle.cdf_format.specs.Chains.{next_field}
use Rattle.cdf_format.specs.Fields.{number}
use Rattle.cdf_format.specs.Records.{Field, aedr_bytes, aedr_num_strings, aedr_rfu_b, aedr_rfu_c, aedr_rfu_d, aedr_rfu_e}
use Rattle.cdf_format.specs.Shape.{AttributeShape}

-- both may change the chain that the entry is of
abbrev pub entry_changes : List ℕ → DataSet → List ℕ → EntryKind → ℕ → Allowances
entry_changes b d attr kind num = record stays_all { gdr = Only space_fields; attributes = λ n place. if is_attribute d attr n then entry_allowance b kind num (next_field ∷ []) place else Only [] }

-- ---- the chain, and the greatest number of its entries

abbrev pub chain_after : List ℕ → Option ℕ → Option ℕ → List ℕ
chain_after chain None new = chain ++ option_to_list new
chain_after chain (Some old) new = flat_map (λ place. if place == old then option_to_list new else place ∷ []) chain

-- an entry of an attribute is made, replaced or taken away
pub record ChainFollows (b now : List ℕ) (a a' : AttributeShape) (kind : EntryKind) (num : ℕ) : Type 0 where
  pub chain_is : chain_of a' kind ≡ chain_after (chain_of a kind) (entry_at b a kind num) (entry_at now a' kind num)
  pub greatest_is : (other : EntryKind) → GreatestIs b now a a' other (share_chain kind other)

-- ---- `put-entry`

abbrev pub new_aedr : List (Field × ℕ)
new_aedr = (aedr_rfu_b, 0) ∷ (aedr_rfu_c, 0) ∷ (aedr_rfu_d, 0xffffffff) ∷ (aedr_rfu_e, 0xffffffff) ∷ []

abbrev pub entry_end : List ℕ → ℕ → ℕ
entry_end now aedr = aedr_bytes (entry_bytes now aedr)

-- an entry that is replaced
pub record EntryMoves (b now : List ℕ) (aedr aedr' : ℕ) (acts : List Act) : Type 0 where
  pub acts_are : acts ≡ moved_for_room b aedr aedr' (entry_end now aedr')
  pub reserved : AreSameFields b aedr now aedr' (aedr_rfu_b ∷ aedr_rfu_c ∷ aedr_rfu_d ∷ aedr_rfu_e ∷ [])
  pub room : MovesForRoom b now aedr aedr' (entry_end now aedr')

-- a new one, or one that is replaced
abbrev pub EntryFollows : List ℕ → List ℕ → Option ℕ → ℕ → List Act → Type 0
EntryFollows b now None aedr' acts = (acts ≡ Took aedr' (entry_end now aedr') ∷ []) × Says now aedr' new_aedr
EntryFollows b now (Some aedr) aedr' acts = EntryMoves b now aedr aedr' acts

pub record PutsEntry (b now : List ℕ) (a a' : AttributeShape) (kind : EntryKind) (num : ℕ) (acts : List Act) : Type 0 where
  pub aedr : ℕ
  pub stands : entry_at now a' kind num ≡ Some aedr
  pub follows : EntryFollows b now (entry_at b a kind num) aedr acts
  pub no_strings : number now aedr aedr_num_strings ≡ 0
  pub chain : ChainFollows b now a a' kind num
  pub freed : FreedStay b now no_fields acts

-- ---- `del-entry`

pub record DeletesEntry (b now : List ℕ) (a a' : AttributeShape) (kind : EntryKind) (num : ℕ) (acts : List Act) : Type 0 where
  pub acts_are : acts ≡ gave b (option_to_list (entry_at b a kind num))
  pub chain : ChainFollows b now a a' kind num
  pub freed : FreedStay b now no_fields acts
