-- How a script leads from one image to another, line by line (own).
use Rattle.std.specs.Prelude.{◌≡◌, ℕ, List, [], ◌∷◌, map, Bool, true, false}
use Rattle.std.specs.declared.option.Option.{Option}
use Rattle.std.specs.List.{fold}
use Rattle.cdf_model.specs.declared.command.Command.{Command}
use Rattle.cdf_model.specs.Grammar.{Parsed, Blank, Asks, Faulty, parse}
use Rattle.cdf_model.specs.Lines.{lines}
use Rattle.cdf_model.specs.Step.{Route, ByStep, step}
use Rattle.cdf_session.specs.Built.{built}
use Rattle.cdf_format.specs.Content.{content}
use Rattle.cdf_edits.specs.Answers.{StepLeads}

abbrev pub Unmoved : List ℕ → Bool → List ℕ → Type 0
Unmoved b full now = (full ≡ false) × (now ≡ b)

abbrev pub RouteLeads : Route → ℕ → List ℕ → Command → Bool → List ℕ → Type 0
RouteLeads (ByStep answer) limit b c full now = StepLeads limit b c answer full now
RouteLeads other limit b c full now = Unmoved b full now

-- a command that there is not yet leaves the image
abbrev pub CommandLeads : Bool → ℕ → List ℕ → Command → Bool → List ℕ → Type 0
CommandLeads true limit b c full now = RouteLeads (step (content b) c) limit b c full now
CommandLeads false limit b c full now = Unmoved b full now

abbrev pub LineLeads : ℕ → List ℕ → Parsed → Bool → List ℕ → Type 0
LineLeads limit b Blank full now = Unmoved b full now
LineLeads limit b (Asks c) full now = CommandLeads (built c) limit b c full now
LineLeads limit b (Faulty fault) full now = Unmoved b full now

-- a line of a script, whether the file was full for its command, and the image after it
pub record Moment : Type 0 where
  pub line : Option (List ℕ)
  pub full : Bool
  pub image : List ℕ

-- these moments follow from an image one after the other
abbrev pub LinesLead : ℕ → List ℕ → List Moment → Type 0
LinesLead limit b [] = Unit {0}
LinesLead limit b (m ∷ more) = LineLeads limit b (parse m.line) m.full m.image × LinesLead limit m.image more

abbrev pub last_image : List ℕ → List Moment → List ℕ
last_image b moments = fold (λ before m. m.image) b moments

-- A script leads from one image to another; the flags say for each line whether the file was full for its command.
pub record History (limit : ℕ) (b script : List ℕ) (full : List Bool) (end : List ℕ) : Type 0 where
  pub moments : List Moment
  pub lines_are : map (λ m. m.line) moments ≡ lines script
  pub flags_are : map (λ m. m.full) moments ≡ full
  pub steps : LinesLead limit b moments
  pub end_is : last_image b moments ≡ end
