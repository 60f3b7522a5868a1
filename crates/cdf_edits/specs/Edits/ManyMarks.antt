-- The marks of steps that change many records (own).
use Rattle.std.specs.Prelude.{ℕ, List, [], ◌∷◌, ◌++◌, map}
use Rattle.cdf_edits.specs.Edits.Marks.{Anywhere, Among, Mark, mark, attribute_types, field_marks, removing_marks}
use Rattle.cdf_format.specs.Records.{field, gdr_adr_head, gdr_num_attr, gdr_uir_head, uir_prev_uir, adr_num, aedr_attr_num}
use Rattle.cdf_format.specs.RecordTypes.{gdr_type, uir_type, adr_type, agr_edr_type, az_edr_type}

-- of records of these types nothing is said; none has more bytes than so many
abbrev pub wholes : List ℕ → List ℕ → ℕ → List Mark
wholes types places limit = map (λ type. mark type (Among places) (field 0 limit)) types

-- records of these types are freed one after the other
abbrev pub freeing_marks : List ℕ → List ℕ → List ℕ → ℕ → List Mark
freeing_marks types unused places limit = mark gdr_type Anywhere gdr_uir_head ∷ mark uir_type (Among unused) uir_prev_uir ∷ wholes types places limit

-- attributes get other numbers, and their entries say them
abbrev pub numbering_marks : List ℕ → List ℕ → List Mark
numbering_marks adrs entries = mark adr_type (Among adrs) adr_num ∷ mark agr_edr_type (Among entries) aedr_attr_num ∷ mark az_edr_type (Among entries) aedr_attr_num ∷ []

-- an attribute is taken out of the chain and counted no more, these behind it and their entries get other numbers, and records of it are freed
abbrev pub unlinking_marks : ℕ → List ℕ → List ℕ → List ℕ → List Mark
unlinking_marks gdr members adrs entries = removing_marks gdr_type gdr gdr_adr_head adr_type members ++ field_marks gdr_type gdr gdr_num_attr ++ numbering_marks adrs entries

abbrev pub deleting_marks : ℕ → List ℕ → List ℕ → List ℕ → List ℕ → List ℕ → ℕ → List Mark
deleting_marks gdr members adrs entries unused places limit = unlinking_marks gdr members adrs entries ++ freeing_marks attribute_types unused places limit
