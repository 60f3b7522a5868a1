-- What is kept of the variables of a file: of each kind their names, and where their descriptors stand, both in the order of their numbers (own).
use Rattle.std.specs.Prelude.{◌≡◌, ℕ, ◌<◌, List, map, length, slice_index, false}
use Rattle.cdf_edits.specs.Commands.Allowances.{shapes_of}
use Rattle.cdf_format.specs.Content.{content}
use Rattle.cdf_format.specs.Fields.{LiesIn}
use Rattle.cdf_format.specs.Records.{vdr_name}
use Rattle.cdf_format.specs.Shape.{shape, vdrs}
use Rattle.cdf_model.specs.declared.kinds.Kind.{Kind}
use Rattle.cdf_model.specs.declared.kinds.Kind.TheVariants.{R, Z}
use Rattle.cdf_model.specs.Names.{variables_of}
use Rattle.cdf_names.specs.Names.{has_name}

-- of the variables of one kind
pub record KnownKind : Type 0 where
  pub names : List (List ℕ)
  pub places : List ℕ

pub record Known : Type 0 where
  pub r : KnownKind
  pub z : KnownKind

-- what is kept of a kind
abbrev pub known_of : Known → Kind → KnownKind
known_of known R = known.r
known_of known Z = known.z

-- this is what there is of the variables of a kind in an image
pub record KnowsKind (b : List ℕ) (kind : Kind) (known : KnownKind) : Type 0 where
  pub names_are : known.names ≡ map (λ v. v.name) (variables_of (content b) kind)
  pub places_are : known.places ≡ vdrs (shapes_of (shape b) kind)

-- this is what there is of the variables of an image
pub record Knows (b : List ℕ) (known : Known) : Type 0 where
  pub r_known : KnowsKind b R known.r
  pub z_known : KnowsKind b Z known.z

-- the variable of a number among those of a kind, whose descriptor stands in an image, may get a name, which none of the kind has
pub record MayRename (b : List ℕ) (known : KnownKind) (num : ℕ) (to : List ℕ) : Type 0 where
  pub named : num < length known.names
  pub placed : num < length known.places
  pub absent : has_name known.names to ≡ false
  pub few : length known.names < 4294967295
  pub field : LiesIn b (slice_index known.places num) vdr_name
