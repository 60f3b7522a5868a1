-- The new file: two records, and nothing else.
use Rattle.std.specs.Prelude.{ℕ, pos, List, [], ◌∷◌, false}
use Rattle.cdf_model.specs.declared.head.Majority.TheVariants.{Row}
use Rattle.cdf_model.specs.DataSet.{DataSet}
use Rattle.cdf_format.specs.Owners.{Owner, File}
use Rattle.cdf_model.specs.declared.space.Space.{Space}
use Rattle.cdf_format.specs.Shape.{Shape}
use Rattle.cdf_examples.specs.Building.{◌⧺◌, magic, new_cdr, cdr, new_gdr, gdr}

unfoldable pub new_file : List ℕ
new_file = magic ⧺ cdr new_cdr ⧺ gdr new_gdr

abbrev pub new_shape : Shape
new_shape = record { records = 8 ∷ 320 ∷ []; gdr = 320; attributes = []; r_variables = []; z_variables = []; unused = [] }

abbrev pub new_owned : List (ℕ × Owner)
new_owned = (8, File) ∷ (320, File) ∷ []

abbrev pub new_space : Space
new_space = record { eof = 404; used = 396; listed = 0; listed_bytes = 0; unlisted = 0; unlisted_bytes = 0 }

-- version 3.9.0, encoding 6, row majority, no checksum, and nothing else
abbrev pub new_data_set : DataSet
new_data_set = record { release = pos 9; increment = pos 0; encoding = 6; majority = Row; md5 = false; rdims = []; attributes = []; r_variables = []; z_variables = [] }
