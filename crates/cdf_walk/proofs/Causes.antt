-- What a count of faults says where an error is passed on.
use Rattle.std.proofs.Common.{◌≡◌, ℕ, Result, Ok, Err, IsErrAnd, subst, sym}
use Rattle.cdf_base.specs.Causes.{HasCauseOf}

-- the count did not rise before it
pub passed_on : {T E : Type 0} (fault : E) (first before now : ℕ) (e : E) (r : Result T E) → before ≡ first → HasCauseOf {T = T} fault before now (Err e) → IsErrAnd r (λ x. x ≡ e) → HasCauseOf fault first now r
passed_on fault first before now e (Ok x) same cause is = absurd is
passed_on {T} {E} fault first before now e (Err x) same cause is =
    subst (λ (y : E). HasCauseOf {T = T} fault first now (Err y)) (sym is) (subst (λ n. HasCauseOf {T = T} fault n now (Err e)) same cause)
