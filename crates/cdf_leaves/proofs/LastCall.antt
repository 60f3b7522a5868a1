-- The last call of a function, whose answer is its own.
use Rattle.cdf_leaves.proofs.Common.{Edits, Frame, Keeps, subst, ℕ, ◌∙◌}
use Rattle.std.specs.declared.result.Result.{Result}
use Rattle.cdf_base.specs.Causes.{HasCauseOf}
use Rattle.cdf_area.specs.declared.area.AreaError.{AreaError}
use Rattle.cdf_area.specs.declared.area.AreaError.TheVariants.{Fault}

pub edit_last : {A U T : Type 0} {frame_of : A → Frame U} {faults_of : A → ℕ} {old mid new : A} {r : Result T AreaError} → Keeps frame_of faults_of old mid → Edits frame_of faults_of mid new r → Edits frame_of faults_of old new r
edit_last {faults_of = faults_of} {new = new} {r = r} k e = record { frame = e.frame ∙ k.frame; cause = subst (λ (n : ℕ). HasCauseOf Fault n (faults_of new) r) k.faults e.cause }
