-- The rules of phases 4 to 9 once more, by the shape of an image: the links are those of the shape, and each rule that follows no link holds of its records.
use Rattle.cdf_format.proofs.Common.{flat_map, Row, Hold, adr_name, adr_ngr_entries, adr_nz_entries, adrs_rows, r_vdrs_rows, z_vdrs_rows, differ_rows, same_name, adr_rows, entries_rows, variable_rows, index_rows, AttributeShape, Shape, adrs, vdrs, variables, HasShape}
use Rattle.std.specs.Prelude.{ℕ, List, [], ◌++◌}
use Rattle.cdf_format.specs.Owners.{OwnedOnce}

-- counts and numbers
abbrev pub counting_rows : List ℕ → Shape → List Row
counting_rows b s = adrs_rows b (adrs s) ++ r_vdrs_rows b (vdrs s.r_variables) ++ z_vdrs_rows b (vdrs s.z_variables)

-- an attribute and its entries
abbrev pub attribute_shape_rows : List ℕ → AttributeShape → List Row
attribute_shape_rows b a = adr_rows b a.adr ++ entries_rows b a.adr adr_ngr_entries a.gr_entries ++ entries_rows b a.adr adr_nz_entries a.z_entries

abbrev pub attributes_shape_rows : List ℕ → Shape → List Row
attributes_shape_rows b s = flat_map (attribute_shape_rows b) s.attributes ++ differ_rows 2 (same_name b adr_name) [] (adrs s)

abbrev pub variables_shape_rows : List ℕ → Shape → List Row
variables_shape_rows b s = flat_map (variable_rows b s.records (vdrs (variables s))) (vdrs (variables s))

abbrev pub indexes_shape_rows : List ℕ → Shape → List Row
indexes_shape_rows b s = flat_map (λ v. index_rows b s.records v.vdr v.index) (variables s)

pub record IsGoodByShape (b : List ℕ) (s : Shape) : Type 0 where
  pub has_shape : HasShape b s
  pub counting : Hold (counting_rows b s)
  pub attributes : Hold (attributes_shape_rows b s)
  pub of_variables : Hold (variables_shape_rows b s)
  pub indexes : Hold (indexes_shape_rows b s)
  pub owned_once : OwnedOnce b s
