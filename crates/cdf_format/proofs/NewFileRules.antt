-- The new file keeps all rules, by computing them.
use Rattle.std.proofs.Common.{◌≡◌, List, [], ◌∷◌, Bool, true, ◌&&◌, length, refl}
use Rattle.cdf_format.proofs.Common.{format_phases, Row, Hold, AllHold, image_of, sealed, Good}
use Rattle.cdf_model.specs.DataSet.{new_data_set}
use Rattle.cdf_format.specs.Chains.{chain_on}
use Rattle.cdf_format.specs.Content.{content}
use Rattle.cdf_format.specs.NewFile.{new_image}
use Rattle.cdf_format.specs.Phases.{phases_around}
use Rattle.cdf_format.specs.Shape.{shape}
use Rattle.cdf_format.specs.Tiles.{tiles_from}
use Rattle.cdf_format.proofs.Tests.{both}

abbrev hold : List Row → Bool
hold [] = true
hold (r ∷ rows) = r.holds && hold rows

abbrev all_hold : List (List Row) → Bool
all_hold [] = true
all_hold (rows ∷ phases) = hold rows && all_hold phases

hold_by : (rows : List Row) → hold rows ≡ true → Hold rows
hold_by [] e = tt
hold_by (r ∷ rows) e = let two = both r.holds (hold rows) e in (two.0, hold_by rows two.1)

all_hold_by : (phases : List (List Row)) → all_hold phases ≡ true → AllHold phases
all_hold_by [] e = tt
all_hold_by (rows ∷ phases) e = let two = both (hold rows) (all_hold phases) e in (hold_by rows two.0, all_hold_by phases two.1)

pub new_is_good : Good new_image
unfolding new_image shape tiles_from chain_on
new_is_good = all_hold_by (phases_around (format_phases (image_of (sealed new_image))) (sealed new_image)) refl

pub new_content : content new_image ≡ new_data_set
unfolding new_image content shape tiles_from chain_on
new_content = refl

pub new_length : length new_image ≡ 404
unfolding new_image
new_length = refl
