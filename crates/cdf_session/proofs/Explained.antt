-- Why no session began, by the count of the area's faults.
use Rattle.cdf_session.proofs.Common.{AreaError, Begins, Err, Explains, Frame, List, Ok, Result, arith, refl, subst, ℕ, ◌<◌, ◌∙◌, ◌≡◌, ◌≤◌}
use Rattle.cdf_area.specs.declared.area.AreaError.TheVariants as areas
use Rattle.cdf_base.specs.Causes.{HasCauseOf}
use Rattle.cdf_session.specs.declared.refusal.AdoptError.TheVariants as errors
use Rattle.cdf_session.specs.declared.refusal.Refusal.{Refusal}

-- by the error of a call over the area
pub explained : {T : Type 0} (error : AreaError) (before now : ℕ) → HasCauseOf {T = T} areas.Fault before now (Err error) → Explains (errors.Failed error) before now
explained areas.Fault before now cause = cause.failed refl
explained areas.NoMemory before now cause =
    let later : before ≤ now = cause.later in
    let not_less : before < now → ⊥ = λ less. cc (cause.counted less) in
    omega (arith, later, not_less)

-- after a call that read the area and saw no fault
pub begins_after : {A U : Type 0} (image_of : A → List ℕ) (frame_of : A → Frame U) (faults_of : A → ℕ) (area mid : A) → image_of mid ≡ image_of area → frame_of mid ≡ frame_of area → faults_of mid ≡ faults_of area
    → (r : Result A (Refusal A)) → Begins image_of frame_of faults_of mid r → Begins image_of frame_of faults_of area r
begins_after image_of frame_of faults_of area mid same frame faults (Ok session) b = record { frame = b.frame ∙ frame; counted = b.counted ∙ faults; image = tt; frame_back = tt; cause = tt }
begins_after image_of frame_of faults_of area mid same frame faults (Err e) b = record { frame = tt; counted = tt; image = b.image ∙ same; frame_back = b.frame_back ∙ frame; cause = subst (λ (n : ℕ). Explains e.why n (faults_of e.area)) faults b.cause }
