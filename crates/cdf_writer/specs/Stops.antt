-- What calls say that append records to an area: how many bytes there are afterwards, and why they stopped (own).
use Rattle.std.specs.Prelude.{◌≡◌, ◌<◌, ◌≤◌, ℕ, ◌+◌, List, ◌∷◌, ◌++◌, length, OnOk, IfErr}
use Rattle.std.specs.declared.result.Result.{Result}
use Rattle.cdf_area.specs.Frame.{Frame}
use Rattle.cdf_area.specs.declared.area.AreaError.{AreaError}
use Rattle.cdf_area.specs.declared.area.AreaError.TheVariants as areas
use Rattle.cdf_base.specs.Causes.{HasCauseOf}
use Rattle.cdf_writer.specs.Bodies.{whole_record}
use Rattle.cdf_writer.specs.Laying.{laid_size}
use Rattle.cdf_writer.specs.declared.appending.WriteStop.{WriteStop}
use Rattle.cdf_writer.specs.declared.appending.WriteStop.TheVariants.{TooLarge, Fault, NoMemory}

abbrev pub stop_of : AreaError → WriteStop
stop_of areas.Fault = Fault
stop_of areas.NoMemory = NoMemory

-- the first of these records that passes the limit, where they are to stand one behind the other from a size on
pub record Passes (limit size : ℕ) (bodies : List (List ℕ)) (eof need : ℕ) : Type 0 where
  pub done : List (List ℕ)
  pub next : List ℕ
  pub rest : List (List ℕ)
  pub are : bodies ≡ done ++ next ∷ rest
  pub eof_is : eof ≡ size + laid_size done
  pub need_is : need ≡ length (whole_record next)
  pub within : eof ≤ limit
  pub past : limit < eof + need

-- a record is too large only where it passes the limit
abbrev pub CutAt : ℕ → ℕ → List (List ℕ) → WriteStop → Type 0
CutAt limit size bodies (TooLarge eof need) = Passes limit size bodies eof need
CutAt limit size bodies Fault = Unit {0}
CutAt limit size bodies NoMemory = Unit {0}

-- a record that is too large was to stand behind so many bytes
abbrev pub EndsAt : ℕ → WriteStop → Type 0
EndsAt long (TooLarge eof need) = long ≡ eof
EndsAt long Fault = Unit {0}
EndsAt long NoMemory = Unit {0}

-- These records were to be appended behind so many bytes: the frame stays, a fault has its cause, and no other answer but want of memory comes where they fit.
pub record Writes {A U T : Type 0} (image_of : A → List ℕ) (frame_of : A → Frame U) (faults_of : A → ℕ) (size : ℕ) (old new : A) (bodies : List (List ℕ)) (result : Result T WriteStop) : Type 0 where
  pub frame : frame_of new ≡ frame_of old
  pub cause : HasCauseOf Fault (faults_of old) (faults_of new) result
  pub long : OnOk result (length (image_of new) ≡ size + laid_size bodies)
  pub fits : OnOk result (length (image_of new) ≤ (frame_of old).limit)
  pub cut : IfErr result (CutAt (frame_of old).limit size bodies)
  pub ends : IfErr result (EndsAt (length (image_of new)))
