-- What a byte at the end changes about a last 0 without a count.
use Rattle.std.proofs.Common.{◌≡◌, ◌∙◌, ℕ, zero, suc, ◌-◌, ◌+◌, ◌<◌, ◌≤◌, List, [], ◌∷◌, ◌++◌, length, take, get_or, Bool, true, false, ap, refl, arith}
use Rattle.std.specs.Prelude.{not, if◌then◌else◌}
use Rattle.std.proofs.lemmas.List.{take_more}
use Rattle.cdf_model.specs.RunLengths.{is_cut}

is_cut-zero : (xs : List ℕ) → is_cut (xs ++ 0 ∷ []) ≡ not (is_cut xs)
is_cut-zero [] = refl
is_cut-zero (suc b ∷ xs) = is_cut-zero xs
is_cut-zero (zero ∷ []) = refl
is_cut-zero (zero ∷ n ∷ xs) = is_cut-zero xs

is_cut-other : (xs : List ℕ) (b : ℕ) → is_cut (xs ++ suc b ∷ []) ≡ false
is_cut-other [] b = refl
is_cut-other (suc a ∷ xs) b = is_cut-other xs b
is_cut-other (zero ∷ []) b = refl
is_cut-other (zero ∷ n ∷ xs) b = is_cut-other xs b

pub is_cut-more_zero : (xs : List ℕ) (end : ℕ) → 0 < end → end ≤ length xs → get_or xs (end - 1) 0 ≡ 0 → is_cut (take end xs) ≡ not (is_cut (take (end - 1) xs))
is_cut-more_zero xs end some within is_zero =
    let last = take_more xs (end - 1) 0 (omega arith) in
    let next : end - 1 + 1 ≡ end = omega arith in
    let same : take end xs ≡ take (end - 1) xs ++ 0 ∷ [] = rw next at last ∙ ap (λ (b : ℕ). take (end - 1) xs ++ b ∷ []) is_zero in
    ap is_cut same ∙ is_cut-zero (take (end - 1) xs)

other-cases : (xs : List ℕ) (b : ℕ) → 0 < b → is_cut (xs ++ b ∷ []) ≡ false
other-cases xs zero some = absurd (omega arith)
other-cases xs (suc b) some = is_cut-other xs b

pub is_cut-more_other : (xs : List ℕ) (end : ℕ) → 0 < end → end ≤ length xs → 0 < get_or xs (end - 1) 0 → is_cut (take end xs) ≡ false
is_cut-more_other xs end some within is_other =
    let last = take_more xs (end - 1) 0 (omega arith) in
    let next : end - 1 + 1 ≡ end = omega arith in
    let same : take end xs ≡ take (end - 1) xs ++ get_or xs (end - 1) 0 ∷ [] = rw next at last in
    ap is_cut same ∙ other-cases (take (end - 1) xs) (get_or xs (end - 1) 0) is_other

-- one more zero that is taken off, where `odd` says whether their number is odd so far
pub flips : (cut odd before after : Bool) → cut ≡ (if odd then not before else before) → before ≡ not after → cut ≡ (if not odd then not after else after)
flips cut true before true same flip = cc
flips cut true before false same flip = cc
flips cut false before after same flip = cc

pub stops : (cut odd before : Bool) → cut ≡ (if odd then not before else before) → before ≡ false → odd ≡ cut
stops cut true before same none = cc
stops cut false before same none = cc
