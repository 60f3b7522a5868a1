-- Packing of a variable that has no block and no node is turned on or off (CDF Internal Format Description, "Compressed Parameters Record"; own: other bits of Flags stay).
use Rattle.std.specs.Prelude.{◌≡◌, ◌≤◌, ℕ, ◌+◌, List, [], ◌∷◌, length, Bool, true, false, if◌then◌else◌}
use Rattle.cdf_edits.specs.Frame.Kept.{Stood}
use Rattle.cdf_edits.specs.Commands.Allowances.{ListedStay, FreedStay, Stays, no_fields, shapes_of, space_fields}
use Rattle.cdf_edits.specs.Edits.Standing.{StandsAmong, other_kind}
use Rattle.cdf_edits.specs.Commands.Cuts.{cpr_acts, new_cpr}
use Rattle.cdf_edits.specs.Commands.NewRecords.{Says, with_bits}
use Rattle.cdf_edits.specs.Space.Acts.{ActsFollow}
use Rattle.cdf_edits.specs.Space.Freeing.{AllGiven}
use Rattle.cdf_edits.specs.Space.Placing.{Placed, laid_out}
use Rattle.cdf_format.specs.Content.{content, variable_of}
use Rattle.cdf_format.specs.Fields.{number, with_field}
use Rattle.cdf_format.specs.Records.{cpr_bytes, cpr_c_type, cpr_p_count, cpr_parameter, cpr_rfu_a, record_type, vdr_compression_bit, vdr_cpr_or_spr_offset, vdr_flags}
use Rattle.cdf_format.specs.RecordTypes.{cpr_type}
use Rattle.cdf_format.specs.Shape.{Each, VariableShape, shape}
use Rattle.cdf_format.specs.Tiles.{In}
use Rattle.cdf_format.specs.WellFormed.{Good}
use Rattle.cdf_model.specs.VariableSteps.{with_variable}
use Rattle.cdf_model.specs.declared.kinds.Kind.{Kind}
use Rattle.cdf_puts.specs.Going.{IsOther, LooseStay, found_in}

-- -1
abbrev pub no_link : ℕ
no_link = 0xffffffffffffffff

-- Flags that say whether records are packed
abbrev pub packed_flags : ℕ → Bool → ℕ
packed_flags flags rle = with_bits flags vdr_compression_bit 1 (if rle then 1 else 0)

-- a descriptor says so, and where the parameters stand
abbrev pub with_packing : List ℕ → ℕ → Bool → ℕ → List ℕ
with_packing b vdr rle link = with_field (with_field b vdr vdr_flags (packed_flags (number b vdr vdr_flags) rle)) vdr vdr_cpr_or_spr_offset link

-- run lengths of zeros, behind the size of the record
abbrev pub cpr_body : List ℕ
cpr_body = laid_out ((record_type, cpr_type) ∷ (cpr_c_type, 1) ∷ (cpr_rfu_a, 0) ∷ (cpr_p_count, 1) ∷ (cpr_parameter 0, 0) ∷ [])

-- ---- what the image has then

-- the variable with other parameters, or none
abbrev pub with_cpr : VariableShape → List ℕ → VariableShape
with_cpr own cpr = record own { cpr = cpr }

-- From one good image to another: the variable is packed or not, and all else stays but Flags and CPRorSPRoffset of its descriptor, its parameters and the links to what they are.
pub record Repacked (b now : List ℕ) (kind : Kind) (before : List VariableShape) (own : VariableShape) (after : List VariableShape) (rle : Bool) (cpr : List ℕ) : Type 0 where
  pub good : Good now
  pub among : StandsAmong now kind before (with_cpr own cpr) after
  pub gdr_is : (shape now).gdr ≡ (shape b).gdr
  pub attributes_are : (shape now).attributes ≡ (shape b).attributes
  pub others_are : shapes_of (shape now) (other_kind kind) ≡ shapes_of (shape b) (other_kind kind)
  pub content_is : content now ≡ with_variable (content b) (found_in b kind before own) (record (variable_of b own) { rle = rle })
  pub longer : length b ≤ length now
  pub within : length now ≤ length b + (if rle then cpr_bytes 1 else 0)
  pub follow : ActsFollow b now (cpr_acts b rle own.cpr cpr)
  pub gdr : Stays b now (shape b).gdr space_fields
  pub descriptor : Stays b now own.vdr (vdr_flags ∷ vdr_cpr_or_spr_offset ∷ [])
  pub cpr_stays : rle ≡ true → (m : ℕ) → In m own.cpr → Stood b now m
  pub stay : (m : ℕ) → IsOther (shape b).attributes before after (shapes_of (shape b) (other_kind kind)) m → Stood b now m
  pub listed : ListedStay b now (cpr_acts b rle own.cpr cpr)
  pub loose : LooseStay b now
  pub freed : FreedStay b now no_fields (cpr_acts b rle own.cpr cpr)
  pub flags_are : number now own.vdr vdr_flags ≡ packed_flags (number b own.vdr vdr_flags) rle
  pub cpr_says : own.cpr ≡ [] → Each (λ place. Says now place new_cpr) cpr
  pub link_is : rle ≡ false → number now own.vdr vdr_cpr_or_spr_offset ≡ no_link

abbrev pub IsRepacked : List ℕ → List ℕ → Kind → List VariableShape → VariableShape → List VariableShape → Bool → Type 0
IsRepacked b now kind before own after rle = (cpr : List ℕ) × Repacked b now kind before own after rle cpr

-- ---- by which bytes

-- nothing is packed, and then the parameters are freed
abbrev pub TurnedOff : List ℕ → List ℕ → VariableShape → Type 0
TurnedOff b now own = AllGiven (with_packing b own.vdr false no_link) now own.cpr

-- parameters are placed, and then the records are packed
pub record TurnedOn (b now : List ℕ) (own : VariableShape) : Type 0 where
  pub place : ℕ
  pub filled : List ℕ
  pub placed : Placed b filled cpr_body place
  pub written : now ≡ with_packing filled own.vdr true place
