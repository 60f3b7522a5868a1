-- What a walk over a good image's data set gave.
use Rattle.std.proofs.Common.{Err, List, None, Ok, Option, Result, Some, arith, subst, sym, ℕ, ◌≡◌}
use Rattle.std.proofs.lemmas.Option.{slice_get_past}
use Rattle.std.specs.List.{slice_get}
use Rattle.std.specs.Prelude.{IfOk}
use Rattle.cdf_format.specs.Content.{content}
use Rattle.cdf_model.proofs.Giving.{gave_all, gave_more, gave_none}
use Rattle.cdf_model.specs.declared.event.Event.{Event}
use Rattle.cdf_model.specs.declared.spot.Spot.{Spot}
use Rattle.cdf_model.specs.declared.spot.Spot.TheVariants as spots
use Rattle.cdf_model.specs.DataSet.{DataSet}
use Rattle.cdf_model.specs.Events.{events_of}
use Rattle.cdf_model.specs.Walks.{Gave, Gives}
use Rattle.cdf_session.specs.Walking.{GaveBy, counted_with}
use Rattle.cdf_walk.specs.Walks.{Stands}
use Rattle.cdf_walk.specs.declared.walk.Walk.{Walk}

-- a new walk
pub gave_nothing : (b : List ℕ) (walk : Walk) → walk.spot ≡ spots.Head → Stands (content b) walk → GaveBy b walk 0
gave_nothing b walk head stands = record { gave = subst (λ (s : Spot). Gave (content b) s 0) (sym head) (gave_none (content b)); stands = stands }

-- the event of a number, if there is one
pub gives_event : {E : Type 0} (d : DataSet) (spot after : Spot) (k : ℕ) (r : Result (Option Event) E) → Gave d spot k → IfOk r (λ o. Gives d spot o after) → IfOk r (λ o. o ≡ slice_get (events_of d) k)
gives_event d spot after k (Ok (Some event)) gave gives = sym (gave_more d spot after k event gave gives).1
gives_event d spot after k (Ok None) gave gives = let all = gave_all d spot k gave gives.0 in sym (slice_get_past (events_of d) k (omega (arith, all)))
gives_event d spot after k (Err error) gave gives = tt

-- and so many more were given
given_more : {E : Type 0} (d : DataSet) (spot after : Spot) (k : ℕ) (r : Result (Option Event) E) → Gave d spot k → IfOk r (λ o. Gives d spot o after) → IfOk r (λ o. Gave d after (counted_with k o))
given_more d spot after k (Ok (Some event)) gave gives = (gave_more d spot after k event gave gives).0
given_more d spot after k (Ok None) gave gives = subst (λ (s : Spot). Gave d s k) (sym gives.1) gave
given_more d spot after k (Err error) gave gives = tt

pub gave_next : {E : Type 0} (b now : List ℕ) (walk after : Walk) (k : ℕ) (r : Result (Option Event) E) → now ≡ b → GaveBy b walk k → IfOk r (λ o. Gives (content b) walk.spot o after.spot) → Stands (content now) after → IfOk r (λ o. GaveBy now after (counted_with k o))
gave_next b now walk after k (Ok o) same gave gives stands = record { gave = subst (λ (x : List ℕ). Gave (content x) after.spot (counted_with k o)) (sym same) (given_more {E = ⊥} (content b) walk.spot after.spot k (Ok o) gave.gave gives); stands = stands }
gave_next b now walk after k (Err error) same gave gives stands = tt
