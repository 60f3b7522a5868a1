-- What a session holds, how it begins, and what it answers (own).
use Rattle.std.specs.Prelude.{◌≡◌, ◌≤◌, ℕ, List, length, Bool, true, false, None, Result, IfOk, IfErr}
use Rattle.cdf_area.specs.declared.area.AreaError.TheVariants as areas
use Rattle.cdf_area.specs.Frame.{Frame}
use Rattle.cdf_base.specs.Causes.{Rose}
use Rattle.cdf_attrs.specs.Known.{Known, Knows}
use Rattle.cdf_vars.specs.Known.{Known as KnownVariables, Knows as KnowsVariables}
use Rattle.cdf_edits.specs.Answers.{Answers}
use Rattle.cdf_format.specs.NotRead.{IsRead}
use Rattle.cdf_format.specs.Sealed.{image_of}
use Rattle.cdf_format.specs.WellFormed.{Good, WellFormed, Breaks}
use Rattle.cdf_model.specs.declared.answer.LineError.TheVariants.{UnknownWord}
use Rattle.cdf_model.specs.declared.answer.Outcome.{Outcome}
use Rattle.cdf_model.specs.declared.answer.Outcome.TheVariants.{Refused}
use Rattle.cdf_model.specs.declared.answer.Reason.TheVariants.{BadLine}
use Rattle.cdf_model.specs.declared.command.Command.{Command}
use Rattle.cdf_model.specs.Limits.{image_limit}
use Rattle.cdf_session.specs.declared.refusal.AdoptError.{AdoptError}
use Rattle.cdf_session.specs.declared.refusal.AdoptError.TheVariants as errors
use Rattle.cdf_session.specs.declared.refusal.Refusal.{Refusal}

-- between two commands: a good image within the limit, of which all is read so far, no mark, and what is known of its attributes and of its variables
pub record IsOpen {U : Type 0} (b : List ℕ) (frame : Frame U) (attributes : Known) (variables : KnownVariables) : Type 0 where
  pub good : Good b
  pub read : IsRead b
  pub fits : length b ≤ frame.limit
  pub limited : frame.limit ≤ image_limit
  pub unmarked : frame.base ≡ None
  pub knows : Knows b attributes
  pub knows_variables : KnowsVariables b variables

-- a well-formed file was taken up, without its trailer
pub record Adopts (f b : List ℕ) : Type 0 where
  pub well_formed : WellFormed f
  pub image_is : b ≡ image_of f
  pub good : Good b

-- the file breaks the rule that was named
abbrev pub Rejects : List ℕ → AdoptError → Type 0
Rejects f (errors.Rejected broken) = Breaks f broken.phase broken.rule broken.at
Rejects f other = Unit {0}

-- no rule was named
abbrev pub IsNoVerdict : AdoptError → Type 0
IsNoVerdict (errors.Rejected broken) = ⊥
IsNoVerdict other = Unit {0}

-- the count of the faults of an area over which no session began rose where the area is blamed, and else it stays
abbrev pub Explains : AdoptError → ℕ → ℕ → Type 0
Explains (errors.Failed areas.Fault) before now = Rose before now
Explains other before now = now ≡ before

-- A session begins over an area, with its frame and its count of faults, and with the image that the call says; or none does, and the area comes back as it was.
pub record Begins {A U : Type 0} (image_of : A → List ℕ) (frame_of : A → Frame U) (faults_of : A → ℕ) (area : A) (result : Result A (Refusal A)) : Type 0 where
  pub frame : IfOk result (λ session. frame_of session ≡ frame_of area)
  pub counted : IfOk result (λ session. faults_of session ≡ faults_of area)
  pub image : IfErr result (λ r. image_of r.area ≡ image_of area)
  pub frame_back : IfErr result (λ r. frame_of r.area ≡ frame_of area)
  pub cause : IfErr result (λ r. Explains r.why (faults_of area) (faults_of r.area))

-- A command that there is by now is answered by its step. One that there is not yet is a word that is not known, and leaves the image.
abbrev pub AnswersBuilt : Bool → ℕ → List ℕ → Command → Outcome → List ℕ → Type 0
AnswersBuilt true limit b c o now = Answers limit b c o now
AnswersBuilt false limit b c o now = (o ≡ Refused (BadLine (UnknownWord 0))) × (now ≡ b)
