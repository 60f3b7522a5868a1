-- Numbers that are written in records.
use Rattle.std.specs.Prelude.{ℕ, List, map}
use Rattle.cdf_attrs.specs.declared.numbering.Numbered.{Numbered}
use Rattle.cdf_edits.specs.Edits.Writes.{Write, write}
use Rattle.cdf_format.specs.Fields.{LiesIn}
use Rattle.cdf_format.specs.Records.{field, aedr_attr_num}
use Rattle.cdf_format.specs.Shape.{Each}

-- a number as it is written
abbrev pub write_of : Numbered → Write
write_of n = write n.at (field n.field 4) n.number

abbrev pub entry_numbers : List ℕ → ℕ → List Write
entry_numbers entries number = map (λ entry. write entry aedr_attr_num number) entries

-- the fields lie in the image
abbrev pub AllLie : List ℕ → List Write → Type 0
AllLie b writes = Each (λ w. LiesIn b w.tile w.f) writes
