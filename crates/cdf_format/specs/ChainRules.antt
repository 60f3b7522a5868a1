-- The rules of an image on its chains, phase 5 (CDF Internal Format Description, "Global Descriptor Record").
use Rattle.std.specs.Prelude.{ℕ, suc, List, [], ◌∷◌, ◌++◌, length, Bool, false, not, ◌==◌}
use Rattle.std.specs.List.{list_any}
use Rattle.cdf_format.specs.Fields.{number, gdr_offset}
use Rattle.cdf_format.specs.Records.{Field, cdr_place, gdr_nr_vars, gdr_num_attr, gdr_nz_vars, adr_num, vdr_num}
use Rattle.cdf_format.specs.RecordTypes.{gdr_type}
use Rattle.cdf_format.specs.Rules.{Row, row}
use Rattle.cdf_format.specs.Chains.{is_a}
use Rattle.cdf_format.specs.Shape.{adr_chain, r_vdr_chain, z_vdr_chain, uir_chain}
use Rattle.cdf_format.specs.Walks.{Walk, whole, stuck}

-- Each link of a chain leads right; else its record is named. Other rules are asked of the members of a chain that is one.
abbrev pub chain_rows : ℕ → Walk → (List ℕ → List Row) → List Row
chain_rows rule (whole members) more = more members
chain_rows rule (stuck met holder) more = row rule holder false ∷ []

-- the members are numbered in order, from a number on
abbrev pub number_rows : ℕ → List ℕ → Field → ℕ → List ℕ → List Row
number_rows rule b num n [] = []
number_rows rule b num n (member ∷ more) = row rule member (number b member num == n) ∷ number_rows rule b num (suc n) more

-- a count in the record at a place is that of the members
abbrev pub count_rows : ℕ → List ℕ → ℕ → Field → List ℕ → List Row
count_rows rule b place count members = row rule place (number b place count == length members) ∷ []

-- no member is like one before it; else the later one is named
abbrev pub differ_rows : ℕ → (ℕ → ℕ → Bool) → List ℕ → List ℕ → List Row
differ_rows rule alike before [] = []
differ_rows rule alike before (member ∷ more) = row rule member (not (list_any (alike member) before)) ∷ differ_rows rule alike (before ++ member ∷ []) more

-- attributes, r variables and z variables
abbrev pub adrs_rows : List ℕ → List ℕ → List Row
adrs_rows b members = count_rows 3 b (gdr_offset b) gdr_num_attr members ++ number_rows 4 b adr_num 0 members

abbrev pub r_vdrs_rows : List ℕ → List ℕ → List Row
r_vdrs_rows b members = count_rows 6 b (gdr_offset b) gdr_nr_vars members ++ number_rows 7 b vdr_num 0 members

abbrev pub z_vdrs_rows : List ℕ → List ℕ → List Row
z_vdrs_rows b members = count_rows 9 b (gdr_offset b) gdr_nz_vars members ++ number_rows 10 b vdr_num 0 members

-- the chains that begin in the GDR, in an image with these records
abbrev pub link_rows : List ℕ → List ℕ → List Row
link_rows b records =
    chain_rows 2 (adr_chain b records) (adrs_rows b)
    ++ chain_rows 5 (r_vdr_chain b records) (r_vdrs_rows b)
    ++ chain_rows 8 (z_vdr_chain b records) (z_vdrs_rows b)
    ++ chain_rows 11 (uir_chain b records) (λ members. [])

abbrev pub phase5 : List ℕ → List ℕ → List Row
phase5 b records = row 1 cdr_place (is_a b records gdr_type (gdr_offset b)) ∷ link_rows b records
