-- Files with an index of many levels: each node has one entry, which names the next one, and the last one names a block.
use Rattle.std.specs.Prelude.{ℕ, ◌+◌, ◌*◌, List, [], ◌∷◌, codes}
use Rattle.std.specs.List.{flat_map}
use Rattle.cdf_examples.specs.Building.{◌⧺◌, zeros, new_vdr, z_vdr, covering, vxr_of, vvr}
use Rattle.cdf_examples.specs.OneVariable.{heads}

-- nodes of 44 bytes from 748 on, with these numbers
abbrev pub levels_of : List ℕ → List ℕ
levels_of numbers = flat_map (λ n. vxr_of 1 0 (covering 0 0 (748 + 44 * (n + 1)) ∷ [])) numbers

-- as far as this eof
abbrev pub deep_file : ℕ → List ℕ → List ℕ
deep_file eof numbers = heads eof 0 ⧺ z_vdr (record (new_vdr 4 (codes "T")) { max_rec = 0; vxr_head = 748; vxr_tail = 748 }) ⧺ levels_of numbers ⧺ vvr (zeros 4)

unfoldable pub eight_levels : List ℕ
eight_levels = deep_file 1116 (0 ∷ 1 ∷ 2 ∷ 3 ∷ 4 ∷ 5 ∷ 6 ∷ 7 ∷ [])

unfoldable pub nine_levels : List ℕ
nine_levels = deep_file 1160 (0 ∷ 1 ∷ 2 ∷ 3 ∷ 4 ∷ 5 ∷ 6 ∷ 7 ∷ 8 ∷ [])
