-- A tap sees the shortest part from the front of the events, of at least one, behind which its state is final, or else all of them.
use Rattle.std.proofs.Common.{ℕ, zero, suc, ◌≡◌, ◌<◌, ◌≤◌, List, [], ◌∷◌, Bool, true, false, length, take, refl, arith, fold}
use Rattle.cdf_model.specs.declared.event.Event.{Event}
use Rattle.cdf_model.specs.Taps.{Tap, seen, shown_to, state_after}

module _ (tap : Tap) where
  ended : (state : List ℕ) (shown : List Event) → fold (seen tap) (state, true) shown ≡ (state, true)
  ended state [] = refl
  ended state (event ∷ more) = ended state more

  -- whether the state behind so many events is final
  abbrev Final : List ℕ → List Event → ℕ → Bool → Type 0
  Final state shown k is = tap.is_final (fold tap.after state (take k shown)) ≡ is

  stops : (state : List ℕ) (shown : List Event) (k : ℕ) → suc k ≤ length shown → Final state shown (suc k) true → ((j : ℕ) → j < k → Final state shown (suc j) false)
      → fold (seen tap) (state, false) shown ≡ (fold tap.after state (take (suc k) shown), true)
  stops state [] k few is not_yet = absurd (omega (arith, few))
  stops state (event ∷ more) zero few is not_yet = rw is (ended (tap.after state event) more)
  stops state (event ∷ more) (suc k) few is not_yet =
      rw (not_yet zero (omega arith)) (stops (tap.after state event) more k (omega (arith, few)) is (λ j less. not_yet (suc j) (omega (arith, less))))

  goes_through : (state : List ℕ) (shown : List Event) → ((j : ℕ) → j < length shown → Final state shown (suc j) false)
      → fold (seen tap) (state, false) shown ≡ (fold tap.after state shown, false)
  goes_through state [] not_yet = refl
  goes_through state (event ∷ more) not_yet =
      rw (not_yet zero (omega arith)) (goes_through (tap.after state event) more (λ j less. not_yet (suc j) (omega (arith, less))))

pub ends : (tap : Tap) (shown : List Event) (k : ℕ) → k < length shown → tap.is_final (state_after tap (take (suc k) shown)) ≡ true → ((j : ℕ) → j < k → tap.is_final (state_after tap (take (suc j) shown)) ≡ false)
    → shown_to tap shown ≡ (state_after tap (take (suc k) shown), true)
ends tap shown k few is not_yet = stops tap tap.first shown k (omega (arith, few)) is not_yet

pub sees_all : (tap : Tap) (shown : List Event) → ((j : ℕ) → j < length shown → tap.is_final (state_after tap (take (suc j) shown)) ≡ false) → shown_to tap shown ≡ (state_after tap shown, false)
sees_all tap shown not_yet = goes_through tap tap.first shown not_yet
