-- What taps of code say and which are left is what a report of the data set tells and leaves.
use Rattle.std.proofs.Common.{◌≡◌, ◌∙◌, inl, inr, ℕ, List, [], ◌∷◌, ◌++◌, Bool, true, false, map, fold, refl, ap, if◌then◌else◌}
use Rattle.cdf_model.specs.declared.event.Event.{Event}
use Rattle.cdf_model.specs.DataSet.{DataSet}
use Rattle.cdf_model.specs.Events.{events_of}
use Rattle.cdf_model.specs.Taps.{comes_to_end, left_after, seen, state_at_end, told}
use Rattle.cdf_tap.specs.Meanings.{Meaning, cleared, has_name, kinds_of, left_of, others_of, shown_one, texts_of, with_state}
use Rattle.cdf_tap.specs.Reports.{after_all, begun}
use Rattle.cdf_tap.proofs.Lists.{either}

module _ (name : List ℕ) where
  abbrev all : List Event → Meaning × Bool → Meaning × Bool
  all events tap = fold (λ one event. shown_one name event one) tap events

  other_stays : (m : Meaning) (b : Bool) (events : List Event) → has_name name m ≡ false → all events (m, b) ≡ (m, b)
  other_stays m b [] n = refl
  other_stays m b (event ∷ more) n = ap (all more) (rw n refl) ∙ other_stays m b more n

  abbrev with : Meaning → List ℕ × Bool → Meaning × Bool
  with m s = (with_state m s.0, s.1)

  named_one : (m : Meaning) (s : List ℕ × Bool) (event : Event) → has_name name m ≡ true → shown_one name event (with m s) ≡ with m (seen m.own s event)
  named_one m (state, true) event n = rw n refl
  named_one m (state, false) event n = rw n refl

  named_goes : (m : Meaning) (s : List ℕ × Bool) (events : List Event) → has_name name m ≡ true → all events (with m s) ≡ with m (fold (seen m.own) s events)
  named_goes m s [] n = refl
  named_goes m s (event ∷ more) n = ap (all more) (named_one m s event n) ∙ named_goes m (seen m.own s event) more n

  module _ (d : DataSet) where
    -- a tap of the list, and whether it came to its end
    abbrev gone : Meaning → Meaning × Bool
    gone m = all (events_of d) (if has_name name m then cleared m else m, false)

    at_end : (m : Meaning) → has_name name m ≡ true → gone m ≡ (with_state m (state_at_end d m.own), comes_to_end d m.own)
    at_end m n =
        ap (λ (x : Meaning). all (events_of d) (x, false)) (rw n refl)
        ∙ named_goes m (m.own.first, false) (events_of d) n

    left_out : (m : Meaning) → has_name name m ≡ false → gone m ≡ (m, false)
    left_out m n = ap (λ (x : Meaning). all (events_of d) (x, false)) (rw n refl) ∙ other_stays m false (events_of d) n

    abbrev end : List Meaning → List (Meaning × Bool)
    end ms = after_all name (events_of d) (begun name ms)

    -- the texts of a tap and those behind it
    abbrev texts : Meaning × Bool → List (Meaning × Bool) → List ℕ
    texts tap taps = texts_of name (map (λ t. t.0) (tap ∷ taps))

    pub told_is : (ms : List Meaning) → texts_of name (map (λ t. t.0) (end ms)) ≡ told (kinds_of ms) name d
    unfolding after_all
    told_is [] = refl
    told_is (m ∷ ms) = elim (either (has_name name m)) [
      | inl n ↦ ap (λ g. texts g (end ms)) (at_end m n) ∙ rw n (ap (λ l. m.own.text (state_at_end d m.own) ++ l) (told_is ms))
      | inr n ↦ ap (λ g. texts g (end ms)) (left_out m n) ∙ rw n (told_is ms)
    ]

    pub left_is : (ms : List Meaning) → kinds_of (left_of (end ms)) ≡ left_after (kinds_of ms) name d
    unfolding after_all
    left_is [] = refl
    left_is (m ∷ ms) = elim (either (has_name name m)) [
      | inl n ↦ ap (λ g. kinds_of (left_of (g ∷ end ms))) (at_end m n) ∙ elim (either (comes_to_end d m.own)) [
        | inl f ↦ rw (n, f) (left_is ms)
        | inr f ↦ rw (n, f) (ap (λ l. m.own ∷ l) (left_is ms))
      ]
      | inr n ↦ ap (λ g. kinds_of (left_of (g ∷ end ms))) (left_out m n) ∙ rw n (ap (λ l. m.own ∷ l) (left_is ms))
    ]

    pub others_are : (ms : List Meaning) → others_of name (left_of (end ms)) ≡ others_of name ms
    unfolding after_all
    others_are [] = refl
    others_are (m ∷ ms) = elim (either (has_name name m)) [
      | inl n ↦ ap (λ g. others_of name (left_of (g ∷ end ms))) (at_end m n) ∙ elim (either (comes_to_end d m.own)) [
        | inl f ↦ rw (n, f) (others_are ms)
        | inr f ↦ rw (n, f) (rw n (others_are ms))
      ]
      | inr n ↦ ap (λ g. others_of name (left_of (g ∷ end ms))) (left_out m n) ∙ rw n (ap (λ l. m ∷ l) (others_are ms))
    ]
