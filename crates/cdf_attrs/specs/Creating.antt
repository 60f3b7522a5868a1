-- A new attribute: its descriptor (CDF Internal Format Description, "Attribute Descriptor Record").
use Rattle.std.specs.Prelude.{ℕ, ◌-◌, List, [], ◌∷◌, ◌++◌, length, replicate}
use Rattle.cdf_model.specs.declared.kinds.Scope.{Scope}
use Rattle.cdf_model.specs.declared.kinds.Scope.TheVariants.{Global, Variable, GlobalAssumed, VariableAssumed}
use Rattle.cdf_format.specs.Records.{Field, record_type, adr_adr_next, adr_agr_edr_head, adr_scope, adr_num, adr_ngr_entries, adr_max_gr_entry, adr_rfu_a, adr_az_edr_head, adr_nz_entries, adr_max_z_entry, adr_rfu_e, adr_name}
use Rattle.cdf_format.specs.RecordTypes.{adr_type}
use Rattle.cdf_edits.specs.Space.Placing.{laid_out}

-- Scope, as it is stored
abbrev pub scope_code : Scope → ℕ
scope_code Global = 1
scope_code Variable = 2
scope_code GlobalAssumed = 3
scope_code VariableAssumed = 4

-- what the fields say that follow the link to the next one: no entries, Scope, Num, and -1 where there is no number of an entry
abbrev pub adr_fields : ℕ → ℕ → List (Field × ℕ)
adr_fields scope num =
    (adr_agr_edr_head, 0)
    ∷ (adr_scope, scope)
    ∷ (adr_num, num)
    ∷ (adr_ngr_entries, 0)
    ∷ (adr_max_gr_entry, 0xffffffff)
    ∷ (adr_rfu_a, 0)
    ∷ (adr_az_edr_head, 0)
    ∷ (adr_nz_entries, 0)
    ∷ (adr_max_z_entry, 0xffffffff)
    ∷ (adr_rfu_e, 0xffffffff)
    ∷ []

-- what follows the size of a new ADR, which is the last one; the Name is filled with bytes 0
unfoldable pub adr_body : ℕ → ℕ → List ℕ → List ℕ
adr_body scope num name = laid_out ((record_type, adr_type) ∷ (adr_adr_next, 0) ∷ adr_fields scope num) ++ (name ++ replicate (adr_name.width - length name) 0)
