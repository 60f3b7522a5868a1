-- A walk gives the events in turn, and ends behind the last.
use Rattle.std.proofs.Common.{◌≡◌, ◌∙◌, ◌+◌, ◌<◌, ℕ, zero, suc, List, [], ◌∷◌, Some, None, add-one, ap, arith, drop, length, refl, slice_get, sym, length-drop}
use Rattle.cdf_model.specs.declared.event.Event.{Event}
use Rattle.cdf_model.specs.DataSet.{DataSet}
use Rattle.cdf_model.specs.Events.{events_of}
use Rattle.cdf_model.specs.declared.spot.Spot.{Spot}
use Rattle.cdf_model.specs.declared.spot.Spot.TheVariants as spots
use Rattle.cdf_model.specs.Spots.{rest}
use Rattle.cdf_model.specs.Walks.{Gave}

module _ {A : Type 0} where
  same_tail : (x y : A) (xs ys : List A) → x ∷ xs ≡ y ∷ ys → (Some x ≡ Some y) × (xs ≡ ys)
  same_tail x y xs ys e = (ap first e, ap later e)
    where
      first : List A → Rattle.std.specs.declared.option.Option.Option A
      first [] = None
      first (z ∷ zs) = Some z

      later : List A → List A
      later [] = []
      later (z ∷ zs) = zs

  one_on : (k : ℕ) (xs : List A) (x : A) (more : List A) → drop k xs ≡ x ∷ more → (slice_get xs k ≡ Some x) × (drop (suc k) xs ≡ more) × (k < length xs)
  one_on zero [] x more e = absurd (let n = ap length e in omega (arith, n))
  one_on zero (y ∷ ys) x more e = let s = same_tail y x ys more e in (s.0, s.1, omega arith)
  one_on (suc k) [] x more e = absurd (let n = ap length e in omega (arith, n))
  one_on (suc k) (y ∷ ys) x more e = let s = one_on k ys x more e in (s.0, s.1, omega (arith, s.2))

module _ (d : DataSet) where
  pub gave_none : Gave d spots.Head 0
  unfolding rest
  gave_none = record { enough = omega arith; left = refl }

  pub gave_more : (spot after : Spot) (k : ℕ) (event : Event) → Gave d spot k → rest d spot ≡ event ∷ rest d after → Gave d after (k + 1) × (slice_get (events_of d) k ≡ Some event)
  gave_more spot after k event g e =
      let s = one_on k (events_of d) event (rest d after) (sym g.left ∙ e) in
      (record { enough = omega (arith, s.2); left = sym (ap (λ n. drop n (events_of d)) (add-one k) ∙ s.1) }, s.0)

  pub gave_all : (spot : Spot) (k : ℕ) → Gave d spot k → rest d spot ≡ [] → k ≡ length (events_of d)
  gave_all spot k g e = let n = ap length (sym g.left ∙ e) in omega (arith, n, g.enough, length-drop k (events_of d))
