-- The two chains of entries of an attribute, and their greatest numbers, which no rule reads (CDF Internal Format Description, "Attribute Descriptor Record": AgrEDRhead, AzEDRhead, MAXgrEntry, MAXzEntry; own: only a command that changes what such a field speaks of writes it).
use Rattle.std.specs.Prelude.{◌≡◌, ℕ, ℤ, pos, negsuc, List, [], ◌∷◌, Bool, ◌==◌, find, if◌then◌else◌, Some, None}
use Rattle.std.specs.declared.option.Option.{Option}
use Rattle.cdf_model.specs.declared.kinds.EntryKind.{EntryKind}
use Rattle.cdf_model.specs.declared.kinds.EntryKind.TheVariants as entries
use Rattle.cdf_model.specs.declared.kinds.Kind.{Kind}
use Rattle.cdf_model.specs.declared.kinds.Kind.TheVariants as kinds
use Rattle.cdf_model.specs.AttributeSteps.{entries_of}
use Rattle.cdf_model.specs.DataSet.{Entry}
use Rattle.cdf_model.specs.Numbered.{greatest}
use Rattle.cdf_edits.specs.Commands.Allowances.{Allowance, Anything, Only}
use Rattle.cdf_format.specs.Content.{attribute_of}
use Rattle.cdf_format.specs.Fields.{integer4, number, type_at}
use Rattle.cdf_format.specs.Records.{Field, adr_agr_edr_head, adr_ngr_entries, adr_max_gr_entry, adr_az_edr_head, adr_nz_entries, adr_max_z_entry, aedr_num}
use Rattle.cdf_format.specs.RecordTypes.{adr_type, agr_edr_type, az_edr_type}
use Rattle.cdf_format.specs.Shape.{AttributeShape}

-- the type of the entries of a kind
abbrev pub entry_type : EntryKind → ℕ
entry_type entries.G = agr_edr_type
entry_type entries.R = agr_edr_type
entry_type entries.Z = az_edr_type

-- entries of two kinds stand in one chain
abbrev pub share_chain : EntryKind → EntryKind → Bool
share_chain kind other = entry_type kind == entry_type other

-- the entries of an attribute for variables of a kind
abbrev pub kind_of_entries : Kind → EntryKind
kind_of_entries kinds.R = entries.R
kind_of_entries kinds.Z = entries.Z

-- the chain of the entries of a kind, and where the one of a number stands
abbrev pub chain_of : AttributeShape → EntryKind → List ℕ
chain_of a entries.G = a.gr_entries
chain_of a entries.R = a.gr_entries
chain_of a entries.Z = a.z_entries

abbrev pub entry_at : List ℕ → AttributeShape → EntryKind → ℕ → Option ℕ
entry_at b a kind num = find (λ aedr. number b aedr aedr_num == num) (chain_of a kind)

-- the head, the count and the greatest number of the chain
abbrev pub max_field : EntryKind → Field
max_field entries.G = adr_max_gr_entry
max_field entries.R = adr_max_gr_entry
max_field entries.Z = adr_max_z_entry

abbrev pub chain_fields : EntryKind → List Field
chain_fields entries.Z = adr_az_edr_head ∷ adr_nz_entries ∷ adr_max_z_entry ∷ []
chain_fields other = adr_agr_edr_head ∷ adr_ngr_entries ∷ adr_max_gr_entry ∷ []

-- of the records of an attribute, one entry of a chain goes or is replaced; of the others in it only these fields change
abbrev pub entry_allowance : List ℕ → EntryKind → ℕ → List Field → ℕ → Allowance
entry_allowance b kind num fields place =
    if type_at b place == adr_type then Only (chain_fields kind)
    else (if type_at b place == entry_type kind then (if number b place aedr_num == num then Anything else Only fields) else Only [])

-- the greatest number of entries, or -1
abbrev pub greatest_number : List (ℕ × Entry) → ℤ
greatest_number items = elim (greatest items) [ None ↦ negsuc 0 | Some n ↦ pos n ]

-- the greatest number of a chain is written, or it stays
abbrev pub GreatestIs : List ℕ → List ℕ → AttributeShape → AttributeShape → EntryKind → Bool → Type 0
GreatestIs b now a a' kind written = integer4 now a'.adr (max_field kind) ≡ (if written then greatest_number (entries_of (attribute_of now a') kind) else integer4 b a.adr (max_field kind))
