-- A name that was put last in a table, and then took the number of another one.
use Rattle.std.proofs.Common.{◌≡◌, ℕ, ◌-◌, ◌<◌, List, [], ◌∷◌, ◌++◌, length, take, get_or, ap, ◌∙◌, arith}
use Rattle.std.proofs.lemmas.List.{length-append, length-set, set-append_left, take_at}
use Rattle.std.proofs.Math.Seq.{get_or-append_seam}
use Rattle.std.specs.Prelude.{slice_set}
use Rattle.cdf_names.specs.Names.{last_to}

pub last_moved : (names : List (List ℕ)) (to : List ℕ) (n : ℕ) → n < length names → last_to (names ++ to ∷ []) n ≡ slice_set names n to
last_moved names to n lt =
    let long : length (names ++ to ∷ []) - 1 ≡ length names = omega (arith, length-append names (to ∷ [])) in
    let last : get_or (names ++ to ∷ []) (length names) [] ≡ to = get_or-append_seam names to [] [] in
    let set = set-append_left names (to ∷ []) n to lt in
    ap (λ (k : ℕ). take k (slice_set (names ++ to ∷ []) n (get_or (names ++ to ∷ []) k []))) long
    ∙ ap (λ (x : List ℕ). take (length names) (slice_set (names ++ to ∷ []) n x)) last
    ∙ ap (take (length names)) set
    ∙ take_at (slice_set names n to) (to ∷ []) (length names) (length-set names n to)
