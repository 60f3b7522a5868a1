-- Events are shown to taps, one call after the other.
use Rattle.std.proofs.Common.{◌≡◌, ◌∙◌, inl, inr, ℕ, zero, suc, List, [], ◌∷◌, Bool, false, length, map, fold, replicate, refl, sym, ap, arith}
use Rattle.std.proofs.lemmas.Slice.Zip.{firsts-zip}
use Rattle.std.specs.List.{zip}
use Rattle.cdf_model.specs.declared.event.Event.{Event}
use Rattle.cdf_model.specs.declared.spot.Spot.{Spot}
use Rattle.cdf_model.specs.declared.spot.Spot.TheVariants as spots
use Rattle.cdf_model.specs.DataSet.{DataSet}
use Rattle.cdf_model.specs.Events.{events_of}
use Rattle.cdf_model.specs.Spots.{rest}
use Rattle.cdf_tap.specs.Meanings.{Meaning, cleared_named, has_name, kinds_of, left_of, others_of, shown, shown_one, texts_of}
use Rattle.cdf_tap.specs.Reports.{after_all, begun}
use Rattle.cdf_tap.proofs.Lists.{either}
use Rattle.cdf_tap.proofs.Told.{told_is, left_is, others_are}
use Rattle.cdf_model.specs.Taps.{left_after, told}

pub all_left : (d : DataSet) → rest d spots.Head ≡ events_of d
unfolding rest
all_left d = refl

one_shown : (name : List ℕ) (event : Event) (more : List Event) (taps : List (Meaning × Bool)) → after_all name more (shown name event taps) ≡ after_all name (event ∷ more) taps
unfolding after_all
one_shown name event more [] = refl
one_shown name event more (tap ∷ taps) = ap (λ l. fold (λ one e. shown_one name e one) (shown_one name event tap) more ∷ l) (one_shown name event more taps)

pub none_shown : (name : List ℕ) (taps : List (Meaning × Bool)) → after_all name [] taps ≡ taps
unfolding after_all
none_shown name [] = refl
none_shown name (tap ∷ taps) = ap (λ l. tap ∷ l) (none_shown name taps)

-- behind a call that showed an event
pub shows_one : (d : DataSet) (name : List ℕ) (spot after : Spot) (event : Event) (taps next : List (Meaning × Bool)) → rest d spot ≡ event ∷ rest d after → next ≡ shown name event taps
    → after_all name (rest d after) next ≡ after_all name (rest d spot) taps
shows_one d name spot after event taps next goes is =
    ap (after_all name (rest d after)) is ∙ one_shown name event (rest d after) taps ∙ ap (λ l. after_all name l taps) (sym goes)

-- no flag is set
pub none_set : (ms : List Meaning) (n : ℕ) → n ≡ length ms → zip ms (replicate n false) ≡ map (λ m. (m, false)) ms
none_set [] zero e = refl
none_set [] (suc n) e = absurd (omega (arith, e))
none_set (m ∷ ms) zero e = absurd (omega (arith, e))
none_set (m ∷ ms) (suc n) e = ap (λ l. (m, false) ∷ l) (none_set ms n (omega (arith, e)))

-- taps that begin anew keep their kinds, and others stay
pub cleared_kinds : (name : List ℕ) (ms : List Meaning) → kinds_of (cleared_named name ms) ≡ kinds_of ms
cleared_kinds name [] = refl
cleared_kinds name (m ∷ ms) = elim (either (has_name name m)) [
  | inl n ↦ rw n (ap (λ l. m.own ∷ l) (cleared_kinds name ms))
  | inr n ↦ rw n (ap (λ l. m.own ∷ l) (cleared_kinds name ms))
]

pub cleared_others : (name : List ℕ) (ms : List Meaning) → others_of name (cleared_named name ms) ≡ others_of name ms
cleared_others name [] = refl
cleared_others name (m ∷ ms) = elim (either (has_name name m)) [
  | inl n ↦ rw n (rw n (cleared_others name ms))
  | inr n ↦ rw n (rw n (ap (λ l. m ∷ l) (cleared_others name ms)))
]

-- what the taps come to that were shown all events
module _ (name : List ℕ) (d : DataSet) (ms now : List Meaning) (ended : List Bool) (is : zip now ended ≡ after_all name (events_of d) (begun name ms)) where
  pub all_told : length ended ≡ length now → texts_of name now ≡ told (kinds_of ms) name d
  all_told long = ap (texts_of name) (sym (firsts-zip now ended long)) ∙ ap (λ taps. texts_of name (map (λ tap. tap.0) taps)) is ∙ told_is name d ms

  pub all_left_of : kinds_of (left_of (zip now ended)) ≡ left_after (kinds_of ms) name d
  all_left_of = ap (λ taps. kinds_of (left_of taps)) is ∙ left_is name d ms

  pub all_others : others_of name (left_of (zip now ended)) ≡ others_of name ms
  all_others = ap (λ taps. others_of name (left_of taps)) is ∙ others_are name d ms
