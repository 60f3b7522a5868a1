-- What a writer shows once it took one event more, and what stops it.
use Rattle.std.proofs.Common.{List, [], ap, length, refl, subst, sym, ℕ, ◌++◌, ◌∙◌, ◌∷◌, ◌≡◌, ◌≤◌}
use Rattle.std.specs.Prelude.{IfErr, OnOk, Ok, Err}
use Rattle.std.specs.declared.result.Result.{Result}
use Rattle.cdf_area.specs.Frame.{Frame}
use Rattle.cdf_model.specs.declared.event.Event.{Event}
use Rattle.cdf_model.specs.declared.event.Event.TheVariants as events
use Rattle.cdf_model.specs.DataSet.{DataSet, head_of}
use Rattle.cdf_model.specs.Events.{events_of}
use Rattle.cdf_model.specs.Limits.{image_limit}
use Rattle.cdf_writer.specs.Compact.{bodies}
use Rattle.cdf_writer.specs.Fine.{Fine}
use Rattle.cdf_writer.specs.Progress.{State, begins, begun, image_in, run, step_in}
use Rattle.cdf_writer.specs.Stops.{CutAt}
use Rattle.cdf_writer.specs.Shown.{IsStarted, Shows, begin_bodies}
use Rattle.cdf_writer.specs.Taken.{Took}
use Rattle.cdf_writer.specs.declared.appending.WriteStop.{WriteStop}
use Rattle.cdf_writer.specs.declared.progress.FileState.{FileState}
use Rattle.cdf_writer.specs.declared.progress.Part.{Part}
use Rattle.cdf_writer.specs.declared.progress.Part.TheVariants as parts
use Rattle.cdf_writer.specs.declared.writer.Writer.{Writer}
use Rattle.cdf_writer.proofs.Finished.{all_of}
use Rattle.cdf_writer.proofs.StepSizes.{begun_sound, run_sound}
use Rattle.cdf_writer.proofs.TakenEvents.{cut_in_first, took_next}
use Rattle.cdf_writer.proofs.Writing.{on_ok_both}

pub if_err_weaker : {T E : Type 0} (r : Result T E) (P Q : E → Type 0) → ((e : E) → P e → Q e) → IfErr r P → IfErr r Q
if_err_weaker (Ok x) P Q weaker h = tt
if_err_weaker (Err e) P Q weaker h = weaker e h

pub empty_at_start : (b : List ℕ) (file : FileState) (part : Part) (s : State) → Shows b file part s → part ≡ parts.Start → b ≡ []
empty_at_start b file part s h start = h.image_is ∙ ap (λ (p : Part). image_in p (all_of s)) (sym h.part_is ∙ start)

pub started_unless : (part : Part) → (part ≡ parts.Start → ⊥) → IsStarted part
started_unless parts.Start ne = ne refl
started_unless parts.Between ne = tt
started_unless (parts.Attribute a) ne = tt
started_unless (parts.Variable v) ne = tt

pub first_next : (taken : List Event) (e : Event) → (run taken).part ≡ parts.Start → run (taken ++ e ∷ []) ≡ begins (run taken) e
first_next taken e start = took_next taken e ∙ ap (λ (p : Part). step_in p (run taken) e) start

-- what stops the first event stops the compact image of each data set that it begins
pub cut_at_start : (limit : ℕ) (d : DataSet) (taken : List Event) (e : Event) (rest : List Event) (stop : WriteStop) → Fine d → events_of d ≡ taken ++ e ∷ rest → (run taken).part ≡ parts.Start
    → CutAt limit 8 (begin_bodies e) stop → CutAt limit 8 (bodies d) stop
cut_at_start limit d [] e rest stop fine are start cut = cut_in_first limit d e rest stop fine are cut
cut_at_start limit d (x ∷ taken) e rest stop fine are start cut =
    let first : events.Head (head_of d) ≡ x = cc are in
    let sound = run_sound (begun (head_of d)) taken (begun_sound (head_of d)) in
    absurd (subst IsStarted (ap (λ (y : Event). (run (y ∷ taken)).part) first ∙ start) sound.started)

module _ {A U : Type 0} (image_of : A → List ℕ) (frame_of : A → Frame U) where
  pub took_again : (old new : Writer A) (taken : List Event) (e : Event) (s : State) (r : Result (Unit {0}) WriteStop) → Took image_of frame_of old taken → run (taken ++ e ∷ []) ≡ s → frame_of new.area ≡ frame_of old.area
      → OnOk r (Shows (image_of new.area) new.file new.part s) → OnOk r (length (image_of new.area) ≤ (frame_of old.area).limit) → OnOk r (Took image_of frame_of new (taken ++ e ∷ []))
  took_again old new taken e s r took ran same shows fits =
      on_ok_both r shows fits (λ h le. record {
        shows = subst (λ (x : State). Shows (image_of new.area) new.file new.part x) (sym ran) h;
        within = subst (λ (f : Frame U). length (image_of new.area) ≤ f.limit) (sym same) le;
        least = subst (λ (f : Frame U). 404 ≤ f.limit) (sym same) took.least;
        most = subst (λ (f : Frame U). f.limit ≤ image_limit) (sym same) took.most;
      })
