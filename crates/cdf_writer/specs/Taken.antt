-- What a writer took (own).
use Rattle.std.specs.Prelude.{◌≡◌, ◌≤◌, ℕ, List, ◌++◌, length}
use Rattle.cdf_area.specs.Frame.{Frame}
use Rattle.cdf_model.specs.declared.event.Event.{Event}
use Rattle.cdf_model.specs.DataSet.{DataSet}
use Rattle.cdf_model.specs.Events.{events_of}
use Rattle.cdf_model.specs.Limits.{image_limit}
use Rattle.cdf_writer.specs.Fine.{Fine}
use Rattle.cdf_writer.specs.Progress.{run}
use Rattle.cdf_writer.specs.Shown.{Shows}
use Rattle.cdf_writer.specs.declared.writer.Writer.{Writer}

abbrev pub area_of : {A : Type 0} → Writer A → A
area_of w = w.area

-- a writer that took these events, into an area with room for the first two records at least
pub record Took {A U : Type 0} (image_of : A → List ℕ) (frame_of : A → Frame U) (w : Writer A) (taken : List Event) : Type 0 where
  pub shows : Shows (image_of w.area) w.file w.part (run taken)
  pub within : length (image_of w.area) ≤ (frame_of w.area).limit
  pub least : 404 ≤ (frame_of w.area).limit
  pub most : (frame_of w.area).limit ≤ image_limit

-- those with which a data set begins that a content may be
pub record BeginsFine (taken : List Event) : Type 0 where
  pub whole : DataSet
  pub fine : Fine whole
  pub rest : List Event
  pub are : events_of whole ≡ taken ++ rest
