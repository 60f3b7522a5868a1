-- What a walk over the data set of an image gave, and what a dump and a report leave of the area and of the sink (own).
use Rattle.std.specs.Prelude.{◌≡◌, ◌+◌, ℕ, Bool, List, Result, Some, None}
use Rattle.std.specs.declared.option.Option.{Option}
use Rattle.cdf_area.specs.Frame.{Frame}
use Rattle.cdf_base.specs.Causes.{HasCauseOf}
use Rattle.cdf_format.specs.Content.{content}
use Rattle.cdf_model.specs.declared.event.Event.{Event}
use Rattle.cdf_model.specs.declared.event.Event.TheVariants as events
use Rattle.cdf_model.specs.Walks.{Gave}
use Rattle.cdf_walk.specs.declared.error.WalkError.{WalkError}
use Rattle.cdf_walk.specs.declared.error.WalkError.TheVariants.{Fault, SinkFault}
use Rattle.cdf_walk.specs.declared.parts.Found.{Found}
use Rattle.cdf_walk.specs.declared.walk.Walk.{Walk}
use Rattle.cdf_walk.specs.Walks.{Stands}

-- a walk has given the first so many events of the data set of an image
pub record GaveBy (b : List ℕ) (walk : Walk) (k : ℕ) : Type 0 where
  pub gave : Gave (content b) walk.spot k
  pub stands : Stands (content b) walk

-- it has given some number of them
abbrev pub GaveSome : List ℕ → Walk → Type 0
GaveSome b walk = (k : ℕ) × GaveBy b walk k

-- one more, where there is an event
abbrev pub counted_with : ℕ → Option Event → ℕ
counted_with k (Some event) = k + 1
counted_with k None = k

-- the event of a record, with its number
abbrev pub found_in : Event → Option Found
found_in (events.Rec num t elems bytes) = Some (record { num = num; event = events.Rec num t elems bytes })
found_in other = None

-- The image stays, and this is no edit. A fault of the area comes only where its count rose, and a fault of the sink only where that one's did.
pub record Walks {A U : Type 0} (image_of : A → List ℕ) (frame_of : A → Frame U) (faults_of : A → ℕ) (edited_of : A → Bool) (old new : A) (before now : ℕ) (result : Result (Unit {0}) WalkError) : Type 0 where
  pub image : image_of new ≡ image_of old
  pub edited : edited_of new ≡ edited_of old
  pub frame : frame_of new ≡ frame_of old
  pub cause : HasCauseOf Fault (faults_of old) (faults_of new) result
  pub sink : HasCauseOf SinkFault before now result
