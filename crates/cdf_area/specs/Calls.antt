-- What a call over an area says of the area, beside what it is for (own).
use Rattle.std.specs.Prelude.{◌≡◌, ℕ, Bool, List, Result, length, OnErr}
use Rattle.cdf_base.specs.Causes.{HasCauseOf}
use Rattle.cdf_area.specs.Frame.{Frame}
use Rattle.cdf_area.specs.declared.area.AreaError.{AreaError}
use Rattle.cdf_area.specs.declared.area.AreaError.TheVariants.{Fault}

-- a call that may change the image: the frame stays, and a fault has its cause
pub record Edits {A U T : Type 0} (frame_of : A → Frame U) (faults_of : A → ℕ) (old new : A) (result : Result T AreaError) : Type 0 where
  pub frame : frame_of new ≡ frame_of old
  pub cause : HasCauseOf Fault (faults_of old) (faults_of new) result

-- a call that writes over bytes of the image, or leaves it as it was
pub record Overwrites {A U T : Type 0} (image_of : A → List ℕ) (frame_of : A → Frame U) (faults_of : A → ℕ) (old new : A) (result : Result T AreaError) : Type 0 where
  pub stays : OnErr result (image_of new ≡ image_of old)
  pub size : length (image_of new) ≡ length (image_of old)
  pub frame : frame_of new ≡ frame_of old
  pub cause : HasCauseOf Fault (faults_of old) (faults_of new) result

-- a call that leaves the image as it was, and is no edit
pub record Reads {A U T : Type 0} (image_of : A → List ℕ) (frame_of : A → Frame U) (faults_of : A → ℕ) (edited_of : A → Bool) (old new : A) (result : Result T AreaError) : Type 0 where
  pub image : image_of new ≡ image_of old
  pub edited : edited_of new ≡ edited_of old
  pub frame : frame_of new ≡ frame_of old
  pub cause : HasCauseOf Fault (faults_of old) (faults_of new) result

-- the frame stays, and there was no fault, as after calls of which none failed
pub record Keeps {A U : Type 0} (frame_of : A → Frame U) (faults_of : A → ℕ) (old new : A) : Type 0 where
  pub frame : frame_of new ≡ frame_of old
  pub faults : faults_of new ≡ faults_of old

-- the same of calls of which each reads
pub record Stays {A U : Type 0} (image_of : A → List ℕ) (frame_of : A → Frame U) (faults_of : A → ℕ) (edited_of : A → Bool) (old new : A) : Type 0 where
  pub image : image_of new ≡ image_of old
  pub edited : edited_of new ≡ edited_of old
  pub frame : frame_of new ≡ frame_of old
  pub faults : faults_of new ≡ faults_of old
