-- What the renaming of an attribute writes.
use Rattle.std.specs.Prelude.{◌≡◌, ℕ, List, [], ◌∷◌, length}
use Rattle.cdf_edits.specs.Frame.Changed.{touched_field, Changed}
use Rattle.cdf_format.specs.Fields.{name_in}
use Rattle.cdf_format.specs.Records.{adr_name}
use Rattle.cdf_edits.specs.Commands.NewRecords.{IsFilled}

-- the Name of the ADR at a place is this one now, filled with bytes 0, and no other byte changed
pub record Renamed (b now : List ℕ) (adr : ℕ) (to : List ℕ) : Type 0 where
  pub name_is : name_in now adr adr_name ≡ to
  pub filled : IsFilled now adr adr_name to
  pub length_stays : length now ≡ length b
  pub changed : Changed b now (touched_field adr adr_name ∷ [])
