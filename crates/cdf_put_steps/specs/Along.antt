-- A put, leaf by leaf, where each image on the way goes on to the next one (own).
use Rattle.std.specs.Prelude.{◌≡◌, ℕ, List, [], ◌∷◌, false}
use Rattle.std.specs.List.{flat_map}
use Rattle.cdf_edits.specs.Commands.PutSteps.{Put, Stage, PutsLeaves, PutsUpTo}
use Rattle.cdf_edits.specs.Edits.Standing.{StandsAmong}
use Rattle.cdf_edits.specs.Index.Blocks.{cuts_before_put, first_written}
use Rattle.cdf_edits.specs.Space.Acts.{Act}
use Rattle.cdf_format.specs.Content.{variable_of}
use Rattle.cdf_format.specs.Shape.{VariableShape}
use Rattle.cdf_format.specs.Stored.{is_little}
use Rattle.cdf_format.specs.WellFormed.{Good}
use Rattle.cdf_model.specs.ByteOrder.{turned}
use Rattle.cdf_model.specs.Reading.{pad_record}
use Rattle.cdf_model.specs.declared.kinds.Kind.{Kind}
use Rattle.cdf_puts.specs.Going.{GoesOn, found_in}

-- record n of the variable that stands behind these is put
abbrev pub put_in : List ℕ → Kind → List VariableShape → VariableShape → ℕ → List ℕ → Put
put_in b kind before own n raw = record { found = found_in b kind before own; rec = n; raw = raw }

-- a put begins with the first record that it writes
abbrev pub at_start : List ℕ → Put → VariableShape → Stage
at_start b p own = record { image = b; own = own; acts = []; next = first_written p.found.variable p.rec }

-- each image goes on to the next one while the variable between these changes
abbrev pub GoAlong : Kind → List VariableShape → List VariableShape → Stage → List Stage → Type 0
GoAlong kind before after from [] = Unit {0}
GoAlong kind before after from (next ∷ more) = GoesOn from.image next.image kind before from.own next.own after next.acts × GoAlong kind before after next more

-- By these acts a put went from one image to another.
pub record LeavesAlong (p : Put) (kind : Kind) (before after : List VariableShape) (from to : Stage) (acts : List Act) : Type 0 where
  pub stages : List Stage
  pub puts : PutsLeaves p from stages to
  pub acts_are : acts ≡ flat_map (λ stage. stage.acts) stages
  pub go : GoAlong kind before after from stages

-- By these acts a put of which nothing is cut first went as far as this image.
pub record PutsAlong (b : List ℕ) (kind : Kind) (before : List VariableShape) (own : VariableShape) (after : List VariableShape) (n : ℕ) (raw : List ℕ) (to : Stage) (acts : List Act) : Type 0 where
  pub good : Good b
  pub among : StandsAmong b kind before own after
  pub uncut : cuts_before_put (variable_of b own) n ≡ false
  pub puts : PutsUpTo b (put_in b kind before own n raw) own to acts
  pub go : GoAlong kind before after puts.start puts.stages

-- By these acts a put of which nothing is left to be cut went as far as this image.
pub record LeavesPut (b : List ℕ) (kind : Kind) (before : List VariableShape) (own : VariableShape) (after : List VariableShape) (n : ℕ) (raw : List ℕ) (to : Stage) (acts : List Act) : Type 0 where
  pub good : Good b
  pub among : StandsAmong b kind before own after
  pub along : LeavesAlong (put_in b kind before own n raw) kind before after (at_start b (put_in b kind before own n raw) own) to acts

-- the pad, as it is stored
abbrev pub stored_pad : List ℕ → VariableShape → List ℕ
stored_pad b own = turned (variable_of b own).type (is_little b) (pad_record (variable_of b own))
