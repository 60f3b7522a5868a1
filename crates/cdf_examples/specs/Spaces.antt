-- Images in which a record was taken, or one was freed, as the unused list and eof say.
use Rattle.std.specs.Prelude.{ℕ, ◌-◌, List, [], drop, codes}
use Rattle.cdf_examples.specs.Attributes.{project, gdr_with, rest_of_entry, text44}
use Rattle.cdf_examples.specs.Building.{◌⧺◌, zeros, magic, new_cdr, cdr, new_gdr, gdr, adr, z_entry, z_vdr, sized, uir}
use Rattle.cdf_examples.specs.DeletedVariable.{units, unit, variable}

-- a record that was taken: a UIR on no list, bytes 0 after its type
abbrev pub taken : ℕ → List ℕ
taken need = sized 0xffffffff (zeros (need - 12))

-- of 100 unused bytes at 728, 72 were taken, or 80 at the end
unfoldable pub taken_in_list : List ℕ
taken_in_list = magic ⧺ cdr new_cdr ⧺ gdr (gdr_with 828 800) ⧺ adr project ⧺ taken 72 ⧺ uir 0 0 []

unfoldable pub taken_at_end : List ℕ
taken_at_end = magic ⧺ cdr new_cdr ⧺ gdr (gdr_with 908 728) ⧺ adr project ⧺ uir 0 0 (rest_of_entry text44) ⧺ taken 80

-- Of three variables and their entries, the first entry is unused by now, and the VDR of its variable is in no chain.
unfoldable pub half_deleted : List ℕ
half_deleted =
    magic ⧺ cdr new_cdr ⧺ gdr (record new_gdr { z_head = 1072; adr_head = 404; eof = 1931; num_attr = 1; nz_vars = 2; unused = 1760 })
    ⧺ adr (record units { z_head = 1817; nz_entries = 2; max_z_entry = 1 })
    ⧺ z_vdr (variable (codes "A") 0 1072) ⧺ z_vdr (variable (codes "B") 0 1416) ⧺ z_vdr (variable (codes "C") 1 0)
    ⧺ uir 0 0 (drop 28 (z_entry (unit (codes "a") 0 0))) ⧺ z_entry (unit (codes "b") 0 1874) ⧺ z_entry (unit (codes "c") 1 0)
