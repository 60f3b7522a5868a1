-- What a call that carries out `set-compress` leaves of an image: the command is followed, and where descriptors stand is known yet (own).
use Rattle.std.specs.Prelude.{◌≡◌, ◌&&◌, not, ℕ, List, Bool, Some, if◌then◌else◌}
use Rattle.cdf_edits.specs.Commands.Allowances.{shapes_of}
use Rattle.cdf_edits.specs.Follows.{Follows}
use Rattle.cdf_format.specs.Content.{content, variable_of}
use Rattle.cdf_format.specs.Records.{cpr_bytes}
use Rattle.cdf_format.specs.Shape.{VariableShape, is_compressed, shape, vdrs}
use Rattle.cdf_format.specs.WellFormed.{Good}
use Rattle.cdf_model.specs.Names.{variable_named}
use Rattle.cdf_model.specs.VariableSteps.{with_variable}
use Rattle.cdf_model.specs.declared.command.Command.TheVariants.{SetCompress}
use Rattle.cdf_model.specs.declared.kinds.Kind.{Kind}
use Rattle.cdf_puts.specs.Going.{found_in}

-- parameters are taken where records are to be packed and there are none
abbrev pub packing_room : List ℕ → ℕ → Bool → ℕ
packing_room b vdr rle = if rle && not (is_compressed b vdr) then cpr_bytes 1 else 0

-- The variable is packed or not by then, and each descriptor stands where it stood. By each name of the variable the image follows the command.
pub record CompressionSet (b now : List ℕ) (kind : Kind) (before : List VariableShape) (own : VariableShape) (rle : Bool) : Type 0 where
  pub good : Good now
  pub content_is : content now ≡ with_variable (content b) (found_in b kind before own) (record (variable_of b own) { rle = rle })
  pub places : (k : Kind) → vdrs (shapes_of (shape now) k) ≡ vdrs (shapes_of (shape b) k)
  pub follows : (name : List ℕ) → variable_named (content b) name ≡ Some (found_in b kind before own) → Follows b (SetCompress name rle) now
