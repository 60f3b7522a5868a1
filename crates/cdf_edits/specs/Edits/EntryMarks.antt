-- The chain of the entries of a kind, as calls on chains speak of it, and marks that leave everything else of an attribute and of the file (own).
use Rattle.std.specs.Prelude.{ℕ, List, Bool, ◌&&◌}
use Rattle.cdf_model.specs.declared.kinds.EntryKind.{EntryKind}
use Rattle.cdf_model.specs.declared.kinds.EntryKind.TheVariants as entries
use Rattle.cdf_edits.specs.Edits.Marks.{Mark, all_spared, spared, unmarked, keeps_file, keeps_variables}
use Rattle.cdf_edits.specs.declared.chain.Chain.{Chain}
use Rattle.cdf_edits.specs.declared.chain.Chain.TheVariants.{GrEntries, ZEntries}
use Rattle.cdf_format.specs.Records.{Field, record_size, gdr_adr_head, gdr_num_attr, adr_adr_next, adr_agr_edr_head, adr_scope, adr_num, adr_ngr_entries, adr_max_gr_entry, adr_az_edr_head, adr_nz_entries, adr_max_z_entry, adr_rfu_e, adr_name}
use Rattle.cdf_format.specs.RecordTypes.{gdr_type, adr_type, agr_edr_type, az_edr_type}
use Rattle.cdf_format.specs.Shape.{AttributeShape}

-- the chain of the entries of a kind that an ADR has
abbrev pub entries_chain : EntryKind → ℕ → Chain
entries_chain entries.G adr = GrEntries adr
entries_chain entries.R adr = GrEntries adr
entries_chain entries.Z adr = ZEntries adr

-- where its head and its count stand in the ADR
abbrev pub head_field : EntryKind → Field
head_field entries.G = adr_agr_edr_head
head_field entries.R = adr_agr_edr_head
head_field entries.Z = adr_az_edr_head

abbrev pub count_field : EntryKind → Field
count_field entries.G = adr_ngr_entries
count_field entries.R = adr_ngr_entries
count_field entries.Z = adr_nz_entries

-- an attribute with other entries in it
abbrev pub with_chain : AttributeShape → EntryKind → List ℕ → AttributeShape
with_chain a entries.G es = record a { gr_entries = es }
with_chain a entries.R es = record a { gr_entries = es }
with_chain a entries.Z es = record a { z_entries = es }

-- the other chain of the ADR: its head, its count and its greatest number, and its entries
abbrev pub keeps_other : List Mark → EntryKind → Bool
keeps_other marks entries.G = (spared marks adr_type adr_az_edr_head && spared marks adr_type adr_nz_entries) && (spared marks adr_type adr_max_z_entry && unmarked marks az_edr_type)
keeps_other marks entries.R = (spared marks adr_type adr_az_edr_head && spared marks adr_type adr_nz_entries) && (spared marks adr_type adr_max_z_entry && unmarked marks az_edr_type)
keeps_other marks entries.Z = (spared marks adr_type adr_agr_edr_head && spared marks adr_type adr_ngr_entries) && (spared marks adr_type adr_max_gr_entry && unmarked marks agr_edr_type)

-- what the ADR has beside its two chains: the next field and what is before it, Scope and Num, and Name
abbrev pub keeps_adr : List Mark → Bool
keeps_adr marks = all_spared marks adr_type record_size adr_adr_next && (all_spared marks adr_type adr_scope adr_num && all_spared marks adr_type adr_rfu_e adr_name)

-- the file, all variables, the chain of the attributes, and of the ADRs everything but one chain
abbrev pub keeps_but_chain : List Mark → EntryKind → Bool
keeps_but_chain marks kind = (keeps_file marks && keeps_variables marks) && ((spared marks gdr_type gdr_adr_head && spared marks gdr_type gdr_num_attr) && (keeps_adr marks && keeps_other marks kind))
