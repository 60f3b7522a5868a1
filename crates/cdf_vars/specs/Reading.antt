-- Variables as they are read where their descriptors stand.
use Rattle.std.specs.Prelude.{◌<◌, ℕ, List, length, map, bytes_eq}
use Rattle.std.specs.List.{IsDistinct, enumerate_from}
use Rattle.cdf_format.specs.Fields.{LiesIn, name_at, name_field, type_at}
use Rattle.cdf_format.specs.Tiles.{In}
use Rattle.cdf_model.specs.declared.item.Item.{Item}
use Rattle.cdf_model.specs.declared.item.Item.TheVariants.{Var}
use Rattle.cdf_model.specs.declared.kinds.Kind.{Kind}

-- each of these records has its Name in the image, no two have the same, and they can be counted
pub record AreNamed (b places : List ℕ) : Type 0 where
  pub lie : (place : ℕ) → In place places → LiesIn b place (name_field (type_at b place))
  pub differ : IsDistinct bytes_eq (map (name_at b) places)
  pub few : length places < 0xffffffff

-- the variable of a number, whose descriptor stands at a place, as `list` shows it
abbrev pub item_at : List ℕ → Kind → ℕ × ℕ → Item
item_at b kind (num, place) = Var kind num (name_at b place)

-- numbered from n on
abbrev pub items_at : List ℕ → Kind → ℕ → List ℕ → List Item
items_at b kind n places = map (item_at b kind) (enumerate_from n places)
