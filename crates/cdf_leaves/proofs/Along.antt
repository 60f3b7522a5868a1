-- The nodes on a way are widened one by one, the last one first.
use Rattle.cdf_leaves.proofs.Common.{Touched, touched, AreTiles, WidenedAlong, drop, map, step_pair, ◌+◌, ◌-◌, Each, Each-map, In, List, NodeFits, NodeInside, Step, StepStands, WayStands, Widened, arith, cases_eq, inl, inr, length, node_head, room_at, slice_index_or, suc, sym, used_count, zero, ℕ, ◌<◌, ◌∙◌, ◌∷◌, ◌≡◌, []}
use Rattle.std.proofs.lemmas.List.{drop_more}
use Rattle.cdf_leaves.proofs.Spares.{Spares, fits_still, node_inside, spares_kept, spares_widened}

-- ---- one of them

-- it alone is written, and behind its used entries it stays too
pub record OneWider (mid now records : List ℕ) (x : ℕ) : Type 0 where
  pub touches : Touched mid now records x
  pub still : (m : ℕ) → In m records → NodeFits mid m → Spares mid now m

pub one_wider : {mid now records : List ℕ} {x i last : ℕ} → AreTiles mid 8 (length mid) records → In x records → NodeFits mid x → i < used_count mid x → Widened mid now x i last → OneWider mid now records x
one_wider {mid = mid} {now = now} {records = records} {x = x} {i = i} {last = last} tiled there fits used w =
    let t = touched tiled there (omega arith) fits.0 w.changed w.as_long in
    let lies = node_head (node_inside mid records x tiled there fits) in
    record { touches = t; still = λ m j f. elim (cases_eq m x) [ inl q ↦ rw q (spares_widened mid now x i last w lies used) | inr ne ↦ spares_kept mid now m (t.others m j ne) f ] }

-- ---- what the next one asks for

each_at : {A : Type 0} (P : A → Type 0) (xs : List A) (k : ℕ) (none : A) → Each P xs → k < length xs → P (slice_index_or xs k none)
each_at P [] k none e lt = absurd (omega arith)
each_at P (x ∷ xs) zero none e lt = e.0
each_at P (x ∷ xs) (suc k) none e lt = each_at P xs k none e.1 (omega arith)

-- so many of the steps were taken, the last one first
pub record Widening (b now : List ℕ) (last : ℕ) (steps : List Step) (turn : ℕ) : Type 0 where
  pub stands : WayStands now steps
  pub widened : WidenedAlong b now last (map step_pair (drop (length steps - turn) steps))
  pub as_long : length now ≡ length b

module _ {b mid : List ℕ} {last turn : ℕ} {steps : List Step} (w : Widening b mid last steps turn) (none : Step) (lt : turn < length steps) where
  abbrev step : Step
  step = slice_index_or steps (length steps - 1 - turn) none

  here : StepStands mid w.stands.records step
  here = each_at (StepStands mid w.stands.records) steps (length steps - 1 - turn) none w.stands.stand (omega arith)

  pub next_inside : NodeInside mid step.place
  next_inside = node_inside mid w.stands.records step.place w.stands.tiled here.there here.fits

  pub next_room : step.room ≡ room_at mid step.place
  next_room = here.room_is

  pub next_below : step.entry < step.room
  next_below = omega (arith, here.room_is, here.within, here.fits.1)

  pub widen_more : {now : List ℕ} → Widened mid now step.place step.entry last → Widening b now last steps (turn + 1)
  widen_more {now = now} write =
      let o = one_wider w.stands.tiled here.there here.fits here.within write in
      let less : length steps - 1 - turn < length steps = omega arith in
      let back : length steps - (turn + 1) ≡ length steps - 1 - turn = omega arith in
      let on : length steps - turn ≡ length steps - 1 - turn + 1 = omega arith in
      record {
        stands = record {
          records = w.stands.records;
          tiled = o.touches.tiled;
          stand = Each-map (StepStands mid w.stands.records) (StepStands now w.stands.records) (λ step s. let x = o.still step.place s.there s.fits in record { there = s.there; fits = fits_still mid now step.place x s.fits; room_is = s.room_is ∙ sym x.room_is; within = omega (arith, x.used_is, s.within) }) steps w.stands.stand;
        };
        widened = rw (back, drop_more steps (length steps - 1 - turn) none less) (mid, (rw on at w.widened, write));
        as_long = write.as_long ∙ w.as_long;
      }
