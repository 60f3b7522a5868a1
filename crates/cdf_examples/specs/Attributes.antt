-- Files with one attribute: it is made, gets an entry, and the entry is replaced and taken away.
use Rattle.std.specs.Prelude.{ℕ, List, [], ◌∷◌, length, codes}
use Rattle.cdf_model.specs.declared.data_type.DataType.TheVariants.{Char}
use Rattle.cdf_model.specs.declared.kinds.Scope.TheVariants.{Global}
use Rattle.cdf_model.specs.DataSet.{DataSet, Entry}
use Rattle.cdf_format.specs.Owners.{Owner, File, OneAttribute, Unused}
use Rattle.cdf_model.specs.declared.space.Space.{Space}
use Rattle.cdf_format.specs.Shape.{Shape}
use Rattle.cdf_examples.specs.Building.{◌⧺◌, four, minus4, magic, new_cdr, cdr, GdrFields, new_gdr, gdr, AdrFields, new_adr, adr, text_entry, gr_entry, uir}
use Rattle.cdf_examples.specs.NewFile.{new_data_set}

abbrev pub project : AdrFields
project = new_adr 1 (codes "Project")

-- the same with the one entry 0, which stands at this place
abbrev pub project_with : ℕ → AdrFields
project_with place = record project { gr_head = place; ngr_entries = 1; max_gr_entry = 0 }

abbrev pub gdr_with : ℕ → ℕ → GdrFields
gdr_with eof unused = record new_gdr { adr_head = 404; eof = eof; num_attr = 1; unused = unused }

-- ---- an attribute without entries: `attr Project global`

unfoldable pub attribute_file : List ℕ
attribute_file = magic ⧺ cdr new_cdr ⧺ gdr (gdr_with 728 0) ⧺ adr project

abbrev pub with_project : List (ℕ × Entry) → DataSet
with_project entries = record new_data_set { attributes = record { name = codes "Project"; scope = Global; g = entries; z = [] } ∷ [] }

abbrev pub shape_with : List ℕ → List ℕ → List ℕ → Shape
shape_with records entries unused = record {
  records = records;
  gdr = 320;
  attributes = record { adr = 404; gr_entries = entries; z_entries = [] } ∷ [];
  r_variables = [];
  z_variables = [];
  unused = unused;
}

-- ---- with an entry: `put-entry Project g 0 CHAR "ISTP"`

unfoldable pub entry_file : List ℕ
entry_file = magic ⧺ cdr new_cdr ⧺ gdr (gdr_with 788 0) ⧺ adr (project_with 728) ⧺ gr_entry (text_entry (codes "ISTP"))

-- the 60 bytes of the entry, one field a line
abbrev pub entry_as_written : List ℕ
entry_as_written =
    (0x00 ∷ 0x00 ∷ 0x00 ∷ 0x00 ∷ 0x00 ∷ 0x00 ∷ 0x00 ∷ 0x3c ∷ [])  -- size
    ⧺ (0x00 ∷ 0x00 ∷ 0x00 ∷ 0x05 ∷ [])  -- type
    ⧺ (0x00 ∷ 0x00 ∷ 0x00 ∷ 0x00 ∷ 0x00 ∷ 0x00 ∷ 0x00 ∷ 0x00 ∷ [])  -- AEDRnext
    ⧺ (0x00 ∷ 0x00 ∷ 0x00 ∷ 0x00 ∷ [])  -- AttrNum
    ⧺ (0x00 ∷ 0x00 ∷ 0x00 ∷ 0x33 ∷ [])  -- DataType
    ⧺ (0x00 ∷ 0x00 ∷ 0x00 ∷ 0x00 ∷ [])  -- Num
    ⧺ (0x00 ∷ 0x00 ∷ 0x00 ∷ 0x04 ∷ [])  -- NumElems
    ⧺ (0x00 ∷ 0x00 ∷ 0x00 ∷ 0x00 ∷ [])  -- NumStrings
    ⧺ (0x00 ∷ 0x00 ∷ 0x00 ∷ 0x00 ∷ [])  -- rfuB
    ⧺ (0x00 ∷ 0x00 ∷ 0x00 ∷ 0x00 ∷ [])  -- rfuC
    ⧺ (0xff ∷ 0xff ∷ 0xff ∷ 0xff ∷ [])  -- rfuD
    ⧺ (0xff ∷ 0xff ∷ 0xff ∷ 0xff ∷ [])  -- rfuE
    ⧺ (0x49 ∷ 0x53 ∷ 0x54 ∷ 0x50 ∷ [])  -- value

abbrev pub text_item : List ℕ → ℕ × Entry
text_item text = (0, record { type = Char; elems = length text; bytes = text })

abbrev pub entry_owned : List (ℕ × Owner)
entry_owned = (8, File) ∷ (320, File) ∷ (404, OneAttribute 0) ∷ (728, OneAttribute 0) ∷ []

-- ---- the entry replaced by a text of its size, which stays in its place, and by a longer one, which does not: `ABCD`, then `ABCDE`

unfoldable pub replaced_file : List ℕ
replaced_file = magic ⧺ cdr new_cdr ⧺ gdr (gdr_with 788 0) ⧺ adr (project_with 728) ⧺ gr_entry (text_entry (codes "ABCD"))

-- what is left of an entry of such a text behind the 28 first bytes of its record
abbrev pub rest_of_entry : List ℕ → List ℕ
rest_of_entry text = four 0 ⧺ four (length text) ⧺ four 0 ⧺ four 0 ⧺ four 0 ⧺ four minus4 ⧺ four minus4 ⧺ text

unfoldable pub moved_file : List ℕ
moved_file = magic ⧺ cdr new_cdr ⧺ gdr (gdr_with 849 728) ⧺ adr (project_with 788) ⧺ uir 0 0 (rest_of_entry (codes "ABCD")) ⧺ gr_entry (text_entry (codes "ABCDE"))

abbrev pub moved_owned : List (ℕ × Owner)
moved_owned = (8, File) ∷ (320, File) ∷ (404, OneAttribute 0) ∷ (788, OneAttribute 0) ∷ (728, Unused) ∷ []

abbrev pub moved_space : Space
moved_space = record { eof = 849; used = 781; listed = 1; listed_bytes = 60; unlisted = 0; unlisted_bytes = 0 }

-- ---- an entry taken away: `del-entry Project g 0`

-- of the text `ISTP`, then one of 4 bytes put again
unfoldable pub freed_file : List ℕ
freed_file = magic ⧺ cdr new_cdr ⧺ gdr (gdr_with 788 728) ⧺ adr project ⧺ uir 0 0 (rest_of_entry (codes "ISTP"))

unfoldable pub again_file : List ℕ
again_file = magic ⧺ cdr new_cdr ⧺ gdr (gdr_with 788 0) ⧺ adr (project_with 728) ⧺ gr_entry (text_entry (codes "DATA"))

abbrev pub again_space : Space
again_space = record { eof = 788; used = 780; listed = 0; listed_bytes = 0; unlisted = 0; unlisted_bytes = 0 }

-- texts of 44, 24 and 16 bytes
abbrev pub text44 : List ℕ
text44 = codes "abcdefghijklmnopqrstuvwxyzabcdefghijklmnopqr"

abbrev pub text24 : List ℕ
text24 = codes "abcdefghijklmnopqrstuvwx"

abbrev pub text16 : List ℕ
text16 = codes "abcdefghijklmnop"

-- of 44 bytes: 100 bytes at 728 are unused
unfoldable pub freed100_file : List ℕ
freed100_file = magic ⧺ cdr new_cdr ⧺ gdr (gdr_with 828 728) ⧺ adr project ⧺ uir 0 0 (rest_of_entry text44)

-- then 80 bytes are asked for, whose rest would be too small
unfoldable pub behind_file : List ℕ
behind_file = magic ⧺ cdr new_cdr ⧺ gdr (gdr_with 908 728) ⧺ adr (project_with 828) ⧺ uir 0 0 (rest_of_entry text44) ⧺ gr_entry (text_entry text24)

abbrev pub behind_space : Space
behind_space = record { eof = 908; used = 800; listed = 1; listed_bytes = 100; unlisted = 0; unlisted_bytes = 0 }

-- or 72 bytes, whose rest is a record of 28
unfoldable pub split_file : List ℕ
split_file = magic ⧺ cdr new_cdr ⧺ gdr (gdr_with 828 800) ⧺ adr (project_with 728) ⧺ gr_entry (text_entry text16) ⧺ uir 0 0 []

abbrev pub split_space : Space
split_space = record { eof = 828; used = 792; listed = 1; listed_bytes = 28; unlisted = 0; unlisted_bytes = 0 }
