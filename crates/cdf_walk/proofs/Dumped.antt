-- What was written so far of a dump.
use Rattle.std.proofs.Common.{◌≡◌, ◌∙◌, ℕ, List, [], ◌∷◌, ◌++◌, Option, append_assoc, append-nil, refl, subst, sym, ap}
use Rattle.std.proofs.lemmas.List.Elements.{All-head, All-tail}
use Rattle.std.specs.List.{All}
use Rattle.std.specs.Io.KnownBytes.{Appends}
use Rattle.cdf_model.specs.declared.event.Event.{Event}
use Rattle.cdf_model.specs.declared.spot.Spot.{Spot}
use Rattle.cdf_model.specs.declared.spot.Spot.TheVariants as spots
use Rattle.cdf_model.specs.DataSet.{DataSet}
use Rattle.cdf_model.specs.Events.{events_of}
use Rattle.cdf_model.specs.EventTexts.{dump_text, event_line, lines_of}
use Rattle.cdf_model.specs.Spots.{rest}
use Rattle.cdf_model.specs.Whole.{CanBeShown}
use Rattle.cdf_store.proofs.Fronts.{front_longer}
use Rattle.cdf_store.specs.Written.{AppendsFront}
use Rattle.cdf_walk.proofs.GatheredTexts.{gathered_cut, gathered_in_part, gathered_written, gathers_more, gathers_nothing}
use Rattle.cdf_walk.specs.Gathering.{Gathers}

-- events were shown before the spot, and their lines were written or are gathered
pub record Dumped (d : DataSet) (spot : Spot) (was now : Option (List ℕ)) (held : List ℕ) : Type 0 where
  pub shown : List Event
  pub all : events_of d ≡ shown ++ rest d spot
  pub gathers : Gathers was (lines_of shown) now held

lines_both : (xs ys : List Event) → lines_of (xs ++ ys) ≡ lines_of xs ++ lines_of ys
lines_both [] ys = refl
lines_both (x ∷ xs) ys = ap (λ l. event_line x ++ l) (lines_both xs ys) ∙ sym (append_assoc (event_line x) (lines_of xs) (lines_of ys))

pub all_left : (d : DataSet) (spot : Spot) → spot ≡ spots.Head → rest d spot ≡ events_of d
unfolding rest
all_left d spot e = ap (rest d) e

pub none_dumped : (d : DataSet) (spot : Spot) (was : Option (List ℕ)) (held : List ℕ) → spot ≡ spots.Head → held ≡ [] → Dumped d spot was was held
none_dumped d spot was held at empty = record { shown = []; all = sym (all_left d spot at); gathers = gathers_nothing was held empty }

-- the event that comes next, and those behind it, can be shown
pub all_shown : (d : DataSet) (spot next : Spot) (event : Event) → rest d spot ≡ event ∷ rest d next → All CanBeShown (rest d spot) → CanBeShown event × All CanBeShown (rest d next)
all_shown d spot next event more shown =
    let here : All CanBeShown (event ∷ rest d next) = subst (λ l. All CanBeShown l) more shown in
    (All-head CanBeShown event (rest d next) here, All-tail CanBeShown event (rest d next) here)

module _ (d : DataSet) (spot : Spot) (was now : Option (List ℕ)) (held : List ℕ) (dumped : Dumped d spot was now held) where
  text_is : dump_text d ≡ lines_of dumped.shown ++ lines_of (rest d spot)
  text_is = ap lines_of dumped.all ∙ lines_both dumped.shown (rest d spot)

  -- what was written is a part of the dump
  pub dumped_in_part : AppendsFront was now (dump_text d)
  dumped_in_part =
      let g = dumped.gathers in
      (g.0, (held ++ lines_of (rest d spot), sym (append_assoc g.0 held (lines_of (rest d spot))) ∙ ap (λ l. l ++ lines_of (rest d spot)) g.1 ∙ sym text_is), g.2)

  pub last_dumped : (after : Option (List ℕ)) → rest d spot ≡ [] → Appends now after held → Appends was after (dump_text d)
  last_dumped after none writes = subst (λ l. Appends was after l) (sym (text_is ∙ ap (λ l. lines_of dumped.shown ++ lines_of l) none ∙ append-nil (lines_of dumped.shown))) (gathered_written was now (lines_of dumped.shown) held dumped.gathers after writes)

  pub last_cut : (after : Option (List ℕ)) → AppendsFront now after held → AppendsFront was after (dump_text d)
  last_cut after part = front_longer was after (lines_of dumped.shown) (dump_text d) (lines_of (rest d spot), sym text_is) (gathered_cut was now (lines_of dumped.shown) held dumped.gathers after part)

  -- one more event is shown
  module _ (next : Spot) (event : Event) (more : rest d spot ≡ event ∷ rest d next) (after : Option (List ℕ)) where
    pub one_dumped : (held' : List ℕ) → Gathers now (held ++ event_line event) after held' → Dumped d next was after held'
    one_dumped held' gathers = record {
      shown = dumped.shown ++ event ∷ [];
      all = dumped.all ∙ ap (λ l. dumped.shown ++ l) more ∙ sym (append_assoc dumped.shown (event ∷ []) (rest d next));
      gathers = subst (λ l. Gathers was l after held') (sym (lines_both dumped.shown (event ∷ []) ∙ ap (λ l. lines_of dumped.shown ++ l) (append-nil (event_line event)))) (gathers_more was now (lines_of dumped.shown) held dumped.gathers after (event_line event) held' gathers);
    }

    pub one_cut : AppendsFront now after (held ++ event_line event) → AppendsFront was after (dump_text d)
    one_cut part =
        let longer : (lines_of dumped.shown ++ event_line event) ++ lines_of (rest d next) ≡ dump_text d = append_assoc (lines_of dumped.shown) (event_line event) (lines_of (rest d next)) ∙ sym (text_is ∙ ap (λ l. lines_of dumped.shown ++ lines_of l) more) in
        front_longer was after (lines_of dumped.shown ++ event_line event) (dump_text d) (lines_of (rest d next), longer) (gathered_in_part was now (lines_of dumped.shown) held dumped.gathers after (event_line event) part)
