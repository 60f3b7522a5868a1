-- What a writer took so far of the events of a data set.
use Rattle.std.proofs.Common.{List, [], ap, append_assoc, append-nil, subst, sym, ℕ, ◌++◌, ◌∙◌, ◌∷◌, ◌≡◌}
use Rattle.cdf_area.specs.Frame.{Frame}
use Rattle.cdf_model.specs.declared.event.Event.{Event}
use Rattle.cdf_model.specs.declared.spot.Spot.{Spot}
use Rattle.cdf_model.specs.declared.spot.Spot.TheVariants as spots
use Rattle.cdf_model.specs.DataSet.{DataSet}
use Rattle.cdf_model.specs.Events.{events_of}
use Rattle.cdf_model.specs.Spots.{rest}
use Rattle.cdf_writer.specs.Fine.{Fine}
use Rattle.cdf_writer.specs.Taken.{BeginsFine, Took}
use Rattle.cdf_writer.specs.declared.writer.Writer.{Writer}

-- it took those before the spot
pub record TookBefore {A U : Type 0} (image_of : A → List ℕ) (frame_of : A → Frame U) (w : Writer A) (d : DataSet) (spot : Spot) : Type 0 where
  pub taken : List Event
  pub all : events_of d ≡ taken ++ rest d spot
  pub took : Took image_of frame_of w taken

module _ {A U : Type 0} (image_of : A → List ℕ) (frame_of : A → Frame U) (w : Writer A) (d : DataSet) (spot : Spot) where
  pub none_taken : spot ≡ spots.Head → Took image_of frame_of w [] → TookBefore image_of frame_of w d spot
  unfolding rest
  none_taken at took = record { taken = []; all = sym (ap (rest d) at); took = took }

  module _ (t : TookBefore image_of frame_of w d spot) where
    pub all_taken : rest d spot ≡ [] → Took image_of frame_of w (events_of d)
    all_taken none = subst (λ (l : List Event). Took image_of frame_of w l) (sym (t.all ∙ ap (λ (l : List Event). t.taken ++ l) none ∙ append-nil t.taken)) t.took

    module _ (next : Spot) (e : Event) (more : rest d spot ≡ e ∷ rest d next) where
      pub next_are : events_of d ≡ t.taken ++ e ∷ rest d next
      next_are = t.all ∙ ap (λ (l : List Event). t.taken ++ l) more

      all_are : events_of d ≡ (t.taken ++ e ∷ []) ++ rest d next
      all_are = next_are ∙ sym (append_assoc t.taken (e ∷ []) (rest d next))

      pub next_begins : Fine d → BeginsFine (t.taken ++ e ∷ [])
      next_begins fine = record { whole = d; fine = fine; rest = rest d next; are = all_are }

      pub one_taken : (after : Writer A) → Took image_of frame_of after (t.taken ++ e ∷ []) → TookBefore image_of frame_of after d next
      one_taken after took = record { taken = t.taken ++ e ∷ []; all = all_are; took = took }
