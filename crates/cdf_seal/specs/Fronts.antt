-- The first bytes of an area as an area of their own, and what stands beneath it.
use Rattle.std.specs.Prelude.{ℕ, List, Bool, take, if◌then◌else◌, Some, None}
use Rattle.cdf_area.specs.Frame.{Frame}

-- the area that is read: its name, its image and its frame
pub record Beneath (U : Type 0) : Type 0 where
  pub name : ℕ
  pub image : List ℕ
  pub frame : Frame U

-- so many bytes of it, with a mark at them or none; such an area does not grow
abbrev pub front_frame : {U : Type 0} → ℕ → Bool → Beneath U → Frame (Beneath U)
front_frame size marked beneath = record { base = if marked then Some (take size beneath.image) else None; limit = 0; under = beneath }
