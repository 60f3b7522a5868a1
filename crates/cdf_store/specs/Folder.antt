-- The folder that holds a name.
use Rattle.std.specs.Prelude.{ℕ, List, [], ◌∷◌}
use Rattle.std.specs.Option.{option_map_or}
use Rattle.std.specs.Path.{cur_dir, path_parent}

-- a folder, or the one at hand where its text is empty
abbrev pub folder_or_here : List ℕ → List ℕ
folder_or_here [] = cur_dir
folder_or_here (b ∷ bs) = b ∷ bs

-- the parent of a name, or the folder at hand where it has none
abbrev pub folder_in : List ℕ → List ℕ
folder_in name = option_map_or folder_or_here (path_parent name) cur_dir
