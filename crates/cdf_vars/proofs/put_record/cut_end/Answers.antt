use Rattle.cdf_vars.proofs.Common.{AreaError, Bool, Err, IfOk, Ok, Result, true, ◌≡◌}
use Rattle.cdf_vars.proofs.put_record.cut_end.Goals as goal

-- where it is known, it is so whatever is said
whatever : {P : Type 0} (result : Result Bool AreaError) → P → IfOk result (λ stays. stays ≡ true → P)
whatever (Ok stays) p = λ e. p
whatever (Err error) p = tt

pub returns-then-end-clause-tidy : goal.returns-then-end-clause-tidy
returns-then-end-clause-tidy g c = whatever c.trim_past.result c.if-end.true
