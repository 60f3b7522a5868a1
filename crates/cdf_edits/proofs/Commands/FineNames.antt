-- What a name has that is not bad.
use Rattle.cdf_edits.proofs.Common.{All, List, [], eq-eqb, false, is_bad_name, length, list_any, ltb-false, name_limit, nat_lt, sym, true≢false, ℕ, ◌==◌, ◌∙◌, ◌∷◌, ◌≡◌, ◌≢◌, ◌≤◌, or_parts}
use Rattle.std.proofs.Common.{◌||◌}
use Rattle.std.proofs.lemmas.List.Elements.{All-nil, All-cons}

pub fine_is_some : (name : List ℕ) → is_bad_name name ≡ false → (length name == 0) ≡ false
fine_is_some name e = (or_parts (length name == 0) (nat_lt name_limit (length name)) (or_parts ((length name == 0) || nat_lt name_limit (length name)) (list_any (λ b. b == 0) name) e).0).0

pub fine_is_short : (name : List ℕ) → is_bad_name name ≡ false → length name ≤ 256
fine_is_short name e =
    let p = or_parts ((length name == 0) || nat_lt name_limit (length name)) (list_any (λ b. b == 0) name) e in
    ltb-false 256 (length name) (or_parts (length name == 0) (nat_lt name_limit (length name)) p.0).1

not_zero : (x : ℕ) → (x == 0) ≡ false → x ≢ 0
not_zero x e same = absurd (true≢false (sym (eq-eqb x 0 same) ∙ e))

no_zeros : (name : List ℕ) → list_any (λ b. b == 0) name ≡ false → All (λ byte. byte ≢ 0) name
no_zeros [] e = All-nil (λ byte. byte ≢ 0)
no_zeros (x ∷ name) e = let p = or_parts (x == 0) (list_any (λ b. b == 0) name) e in All-cons (λ byte. byte ≢ 0) x name (not_zero x p.0) (no_zeros name p.1)

pub fine_has_no_zeros : (name : List ℕ) → is_bad_name name ≡ false → All (λ byte. byte ≢ 0) name
fine_has_no_zeros name e = no_zeros name (or_parts ((length name == 0) || nat_lt name_limit (length name)) (list_any (λ b. b == 0) name) e).1
