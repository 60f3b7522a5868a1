-- A file with what files in use have: two attributes with an entry each, three variables with records, blocks that have room for more, index nodes of 7 entries, and a checksum.
use Rattle.std.specs.Prelude.{ℕ, List, [], ◌∷◌, ◌++◌, codes}
use Rattle.cdf_examples.specs.Building.{◌⧺◌, minus4, zeros, magic, CdrFields, new_cdr, cdr, GdrFields, new_gdr, gdr, AdrFields, new_adr, adr, EntryFields, text_entry, gr_entry, z_entry, VdrFields, new_vdr, z_vdr, covering, vxr, vvr}

abbrev pub usual_cdr : CdrFields
usual_cdr = record new_cdr { flags = 15 }

abbrev pub usual_gdr : GdrFields
usual_gdr = record new_gdr { z_head = 788; adr_head = 404; eof = 2786; num_attr = 2; nz_vars = 3 }

-- at 404, with its entry at 728
abbrev pub project : AdrFields
project = record (new_adr 1 (codes "Project")) { next = 2404; gr_head = 728; ngr_entries = 1; max_gr_entry = 0 }

abbrev pub project_entry : EntryFields
project_entry = record (text_entry (codes "ISTP")) { num_strings = 1 }

-- at 788: times, of the type TIME_TT2000
abbrev pub epoch : VdrFields
epoch = record (new_vdr 33 (codes "Epoch")) { next = 1336; max_rec = 2; vxr_head = 1140; vxr_tail = 1140; flags = 3; blocking = 2; pad = 1 ∷ zeros 6 ++ 0x80 ∷ [] }

-- at 1280 and 1308: the times 0, 1000000000 and 2000000000, and room for a fourth
abbrev pub epoch_blocks : List ℕ
epoch_blocks =
    vvr (zeros 8 ⧺ 0x00 ∷ 0xca ∷ 0x9a ∷ 0x3b ∷ zeros 4)
    ⧺ vvr ((0x00 ∷ 0x94 ∷ 0x35 ∷ 0x77 ∷ zeros 4) ⧺ zeros 8)

-- at 1336: three components, of the type REAL4
abbrev pub b_gse : VdrFields
b_gse = record (new_vdr 21 (codes "B_GSE")) { next = 1888; max_rec = 2; vxr_head = 1688; vxr_tail = 1688; num = 1; blocking = 4; dims = 3 ∷ []; varys = minus4 ∷ [] }

-- at 1828: three records with the low byte of each value first, and room for a fourth
abbrev pub b_gse_block : List ℕ
b_gse_block = vvr (
    (0x00 ∷ 0x00 ∷ 0x80 ∷ 0x3f ∷ 0x00 ∷ 0x00 ∷ 0x00 ∷ 0x40 ∷ 0x00 ∷ 0x00 ∷ 0x40 ∷ 0x40 ∷ [])
    ⧺ (0x00 ∷ 0x00 ∷ 0x00 ∷ 0x00 ∷ 0x00 ∷ 0x00 ∷ 0x00 ∷ 0x80 ∷ 0x01 ∷ 0x00 ∷ 0xc0 ∷ 0x7f ∷ [])
    ⧺ (0x00 ∷ 0x00 ∷ 0x80 ∷ 0xbf ∷ 0x00 ∷ 0x00 ∷ 0x00 ∷ 0xc0 ∷ 0x00 ∷ 0x00 ∷ 0x40 ∷ 0xc0 ∷ [])
    ⧺ zeros 12)

-- at 1888: the names of the components, one record that does not vary
abbrev pub label : VdrFields
label = record (new_vdr 51 (codes "label")) { max_rec = 0; vxr_head = 2240; vxr_tail = 2240; flags = 0; num_elems = 4; num = 2; dims = 3 ∷ []; varys = minus4 ∷ [] }

-- at 2404, with its entry at 2728
abbrev pub units : AdrFields
units = record (new_adr 2 (codes "UNITS")) { num = 1; z_head = 2728; nz_entries = 1; max_z_entry = 1 }

abbrev pub units_entry : EntryFields
units_entry = record (text_entry (codes "nT")) { attr_num = 1; num = 1; num_strings = 1 }

unfoldable pub usual_image : List ℕ
usual_image =
    magic ⧺ cdr usual_cdr ⧺ gdr usual_gdr
    ⧺ adr project ⧺ gr_entry project_entry
    ⧺ z_vdr epoch ⧺ vxr (covering 0 1 1280 ∷ covering 2 3 1308 ∷ []) ⧺ epoch_blocks
    ⧺ z_vdr b_gse ⧺ vxr (covering 0 3 1828 ∷ []) ⧺ b_gse_block
    ⧺ z_vdr label ⧺ vxr (covering 0 0 2380 ∷ []) ⧺ vvr (codes "Bx  By  Bz  ")
    ⧺ adr units ⧺ z_entry units_entry

-- the MD5 of its 2786 bytes
abbrev pub usual_digest : List ℕ
usual_digest = 0xfe ∷ 0x0f ∷ 0x8f ∷ 0xab ∷ 0x2a ∷ 0x9b ∷ 0x97 ∷ 0xe4 ∷ 0xc6 ∷ 0x5f ∷ 0xb4 ∷ 0xa7 ∷ 0xc8 ∷ 0x0c ∷ 0xc6 ∷ 0x71 ∷ []
