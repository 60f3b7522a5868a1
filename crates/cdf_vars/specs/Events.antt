-- The variables and their records as events, and what is kept of the variable whose records were read last (own).
use Rattle.std.specs.Prelude.{◌≡◌, ◌≤◌, ◌<◌, ◌+◌, ◌^◌, ℕ, List, [], ◌∷◌, length, Some, None, IfSome}
use Rattle.std.specs.declared.option.Option.{Option}
use Rattle.std.specs.List.{slice_get}
use Rattle.cdf_format.specs.Content.{content}
use Rattle.cdf_format.specs.Shape.{Each}
use Rattle.cdf_model.specs.declared.event.Event.{Event}
use Rattle.cdf_model.specs.declared.kinds.Kind.{Kind}
use Rattle.cdf_model.specs.DataSet.{DataSet, Variable}
use Rattle.cdf_model.specs.Events.{record_event}
use Rattle.cdf_model.specs.Names.{variables_of}
use Rattle.cdf_model.specs.Spots.{from_number}
use Rattle.cdf_model.specs.Whole.{IsWhole}
use Rattle.cdf_var_records.specs.Next.{IsReader}
use Rattle.cdf_var_records.specs.Records.{variable_at}
use Rattle.cdf_var_records.specs.Unpacked.{IsUnpacked}
use Rattle.cdf_var_records.specs.declared.next.RecordReader.{RecordReader}
use Rattle.cdf_vars.specs.declared.record_view.RecordView.{RecordView}
use Rattle.cdf_vars.specs.declared.vars.VarId.{VarId}

-- ---- the next record

-- an event shows the first record of a variable from a number on
pub record ShowsNext (v : Variable) (from : ℕ) (event : Event) : Type 0 where
  pub num : ℕ
  pub bytes : List ℕ
  pub left : from_number from v.recs ≡ (num, bytes) ∷ from_number (num + 1) v.recs
  pub event_is : event ≡ record_event v (num, bytes)
  pub few : num < 0xffffffff

-- it does, or there is none
abbrev pub IsNext : Variable → ℕ → Option Event → Type 0
IsNext v from (Some event) = ShowsNext v from event
IsNext v from None = from_number from v.recs ≡ []

-- nor is there one where there is no variable
abbrev pub IsNextOf : Option Variable → ℕ → Option Event → Type 0
IsNextOf (Some v) from event = IsNext v from event
IsNextOf None from event = event ≡ None

-- ---- what is kept

-- the variable of a kind and a number
abbrev pub variable_of_id : List ℕ → VarId → Option Variable
variable_of_id b id = slice_get (variables_of (content b) id.kind) id.num

-- a reader is right of an image, and is of this variable
pub record ReadsFrom (b : List ℕ) (id : VarId) (reader : RecordReader) : Type 0 where
  pub reads : IsReader b reader
  pub of : variable_of_id b id ≡ Some (variable_at b reader.form.place.vdr)

-- there is a reader where there is a variable
abbrev pub FindsReader : List ℕ → VarId → Option RecordReader → Type 0
FindsReader b id (Some reader) = ReadsFrom b id reader
FindsReader b id None = variable_of_id b id ≡ None

-- what is kept of the records that were read last is right of an image
pub record KnowsView (b : List ℕ) (view : RecordView) : Type 0 where
  pub last : IfSome view.last (λ last. ReadsFrom b last.id last.reader)
  pub unpacked : IsUnpacked b view.unpacked

-- ---- what holds of each variable

-- its records and its pad value are whole, and its records are at most as many as there are record numbers
pub record IsWholeVariable (v : Variable) : Type 0 where
  pub records : Each (λ (pair : ℕ × List ℕ). IsWhole v.type v.elems pair.1) v.recs
  pub pad : IfSome v.pad (IsWhole v.type v.elems)
  pub few : length v.recs ≤ 2 ^ 31

pub record HasWholeVariables (d : DataSet) (kind : Kind) : Type 0 where
  pub each : Each IsWholeVariable (variables_of d kind)
  pub few : length (variables_of d kind) < 2 ^ 31
