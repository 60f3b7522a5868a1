-- Where all of an image is read so far, no variable of it is packed.
use Rattle.cdf_vars.proofs.Common.{Each, In, List, VariableShape, [], ap, false, inl, inr, shape, variables, vdrs, ℕ, ◌∙◌, ◌∷◌, ◌≡◌}
use Rattle.cdf_edits.proofs.Edits.PlainVariables.{all_loose}
use Rattle.cdf_format.specs.NotRead.{IsRead}
use Rattle.cdf_format.specs.Shape.{is_compressed}

among : (b : List ℕ) (vdr : ℕ) (vs : List VariableShape) → Each (λ (v : VariableShape). is_compressed b v.vdr ≡ false) vs → In vdr (vdrs vs) → is_compressed b vdr ≡ false
among b vdr [] loose i = absurd i
among b vdr (v ∷ vs) loose (inl e) = ap (is_compressed b) e ∙ loose.0
among b vdr (v ∷ vs) loose (inr i) = among b vdr vs loose.1 i

pub unpacked_there : (b : List ℕ) (vdr : ℕ) → IsRead b → In vdr (vdrs (variables (shape b))) → is_compressed b vdr ≡ false
unpacked_there b vdr read i = among b vdr (variables (shape b)) (all_loose b (variables (shape b)) read) i
