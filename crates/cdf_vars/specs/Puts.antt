-- How a command puts a record of a variable: the variable that it finds, and what it asks for (own).
use Rattle.std.specs.Prelude.{◌≡◌, ◌⊎◌, ◌≤◌, ◌<◌, ℕ, ◌+◌, List, length, false, Some, None}
use Rattle.std.specs.declared.option.Option.{Option}
use Rattle.cdf_edits.specs.Answers.{Answers}
use Rattle.cdf_edits.specs.Commands.Room.{put_room}
use Rattle.cdf_edits.specs.Edits.Standing.{StandsAmong}
use Rattle.cdf_format.specs.Content.{content, variable_of}
use Rattle.cdf_format.specs.Fields.{number}
use Rattle.cdf_format.specs.Records.{vdr_vxr_head}
use Rattle.cdf_format.specs.Shape.{VariableShape, shape, variables, vdrs}
use Rattle.cdf_format.specs.Stored.{is_little}
use Rattle.cdf_format.specs.Tiles.{In}
use Rattle.cdf_format.specs.VariableFields.{max_rec_at, record_bytes, type_of_variable}
use Rattle.cdf_format.specs.WellFormed.{Good}
use Rattle.cdf_model.specs.declared.answer.Outcome.TheVariants as outcomes
use Rattle.cdf_model.specs.declared.answer.Reply.TheVariants as replies
use Rattle.cdf_model.specs.declared.command.Command.{Command}
use Rattle.cdf_model.specs.declared.command.Command.TheVariants as commands
use Rattle.cdf_model.specs.declared.kinds.Kind.{Kind}
use Rattle.cdf_model.specs.Answers.{Go}
use Rattle.cdf_model.specs.ByteOrder.{turned}
use Rattle.cdf_model.specs.DataSet.{extent}
use Rattle.cdf_model.specs.Names.{Found, variable_named}
use Rattle.cdf_model.specs.Reading.{pad_record}
use Rattle.cdf_model.specs.RecordSteps.{cannot_be_put, with_record}
use Rattle.cdf_model.specs.Step.{ByStep, step}
use Rattle.cdf_model.specs.VariableSteps.{with_variable}
use Rattle.cdf_index.specs.Finding.{index_at}
use Rattle.cdf_puts.specs.declared.putting.NewRecord.{NewRecord}
use Rattle.cdf_puts.specs.Putting.{most_in_block}
use Rattle.cdf_puts.specs.Steps.{MaxRecRaised}
use Rattle.cdf_puts.specs.TidyIndex.{IsTidy}
use Rattle.cdf_vars.specs.declared.puts.Target.{Target}
use Rattle.cdf_vars.specs.declared.puts.PutRequest.{PutRequest}
use Rattle.cdf_vars.specs.declared.puts.PutRequest.TheVariants.{Put, Refused}
use Rattle.cdf_var_records.specs.Records.{IsForm, variable_at}

-- ---- the variable

-- the variable as the data set has it
abbrev pub target_found : List ℕ → Target → Found
target_found b t = record { kind = t.id.kind; number = t.id.num; variable = variable_at b t.form.place.vdr }

-- this variable is one of a good image
pub record IsTarget (b : List ℕ) (t : Target) : Type 0 where
  pub before : List VariableShape
  pub own : VariableShape
  pub after : List VariableShape
  pub among : StandsAmong b t.id.kind before own after
  pub number_is : length before ≡ t.id.num
  pub vdr_is : own.vdr ≡ t.form.place.vdr
  pub variable_is : variable_at b t.form.place.vdr ≡ variable_of b own
  pub is_form : IsForm b t.form

-- the variable of a name
pub record HasTarget (b name : List ℕ) (t : Target) : Type 0 where
  pub is : IsTarget b t
  pub named : variable_named (content b) name ≡ Some (target_found b t)

abbrev pub SeesTarget : List ℕ → List ℕ → Option Target → Type 0
SeesTarget b name (Some t) = HasTarget b name t
SeesTarget b name None = variable_named (content b) name ≡ None

-- ---- what a command asks for

-- a command that puts record r of the variable of a name
abbrev pub PutsAs : List ℕ → ℕ → Command → Type 0
PutsAs name r (commands.PutRec var rec words) = (var ≡ name) × (rec ≡ r)
PutsAs name r (commands.PutVal var rec index words) = (var ≡ name) × (rec ≡ r)
PutsAs name r c = ⊥

-- these bytes, in network order, can become record r of a variable
pub record CanPut (b : List ℕ) (r : ℕ) (t : Target) (bytes : List ℕ) : Type 0 where
  pub is : IsTarget b t
  pub can : cannot_be_put (variable_at b t.form.place.vdr) r ≡ false
  pub long : length bytes ≡ record_bytes b t.form.place.vdr

-- a command goes by putting them so
pub record PutsSo (b : List ℕ) (c : Command) (name : List ℕ) (r : ℕ) (t : Target) (bytes : List ℕ) : Type 0 where
  pub named : variable_named (content b) name ≡ Some (target_found b t)
  pub puts : PutsAs name r c
  pub goes : step (content b) c ≡ ByStep (Go (with_variable (content b) (target_found b t) (with_record (variable_at b t.form.place.vdr) r bytes)) replies.Plain)

pub record MayPut (b : List ℕ) (c : Command) (name : List ℕ) (r : ℕ) (t : Target) (bytes : List ℕ) : Type 0 where
  pub can : CanPut b r t bytes
  pub so : PutsSo b c name r t bytes

abbrev pub IsPutRequest : List ℕ → Command → List ℕ → ℕ → PutRequest → Type 0
IsPutRequest b c name r (Put t bytes) = MayPut b c name r t bytes.items
IsPutRequest b c name r (Refused reason) = (limit : ℕ) → Answers limit b c (outcomes.Refused reason) b

-- ---- MaxRec

-- MaxRec of a variable is written, and rMaxRec follows
abbrev pub MaxRecWrites : List ℕ → List ℕ → Kind → ℕ → ℕ → Type 0
MaxRecWrites now last kind vdr r = (own : VariableShape) → own.vdr ≡ vdr → MaxRecRaised now last kind own r

-- MaxRec is raised where a record is past it, else nothing is done
abbrev pub MaxRecRaises : List ℕ → List ℕ → Kind → ℕ → ℕ → Type 0
MaxRecRaises now last kind vdr r = (own : VariableShape) → own.vdr ≡ vdr → ((extent (max_rec_at now vdr) ≤ r) × MaxRecRaised now last kind own r) ⊎ ((r < extent (max_rec_at now vdr)) × (last ≡ now))

-- ---- putting

-- what is put as record r of a variable, as it is stored, and as each record before it that is not stored
pub record IsNewRecord (b : List ℕ) (t : Target) (r : ℕ) (bytes : List ℕ) (put : NewRecord) : Type 0 where
  pub vdr_is : put.vdr ≡ t.form.place.vdr
  pub rec_is : put.rec ≡ r
  pub raw_is : put.raw.items ≡ turned (type_of_variable b t.form.place.vdr) (is_little b) bytes
  pub pad_is : put.pad.items ≡ turned (type_of_variable b t.form.place.vdr) (is_little b) (pad_record (variable_at b t.form.place.vdr))
  pub most_is : put.most ≡ most_in_block (variable_at b t.form.place.vdr) r

-- there is room for it under a limit
abbrev pub HasRoom : List ℕ → Target → ℕ → ℕ → Type 0
HasRoom b t r limit = length b + put_room (variable_at b t.form.place.vdr) (index_at b (number b t.form.place.vdr vdr_vxr_head)) r ≤ limit

-- a good image has this variable, and no node of its index is empty
pub record HasTidyIndex (b : List ℕ) (vdr : ℕ) : Type 0 where
  pub good : Good b
  pub is_there : In vdr (vdrs (variables (shape b)))
  pub tidy : IsTidy (index_at b (number b vdr vdr_vxr_head))
