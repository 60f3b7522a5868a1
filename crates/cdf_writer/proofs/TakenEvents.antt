-- What the calls that take an event owe, as lemmas on states.
use Rattle.std.proofs.Common.{List, [], ap, ap₂, append_assoc, append-nil, arith, length, refl, replicate, subst, sym, ℕ, ◌++◌, ◌+◌, ◌∙◌, ◌∷◌, ◌≡◌, ◌≤◌}
use Rattle.std.proofs.lemmas.List.{length-replicate}
use Rattle.cdf_format.specs.NewFile.{magic}
use Rattle.cdf_format.specs.Shape.{Each}
use Rattle.cdf_model.specs.declared.event.Event.{Event}
use Rattle.cdf_model.specs.declared.event.Event.TheVariants as events
use Rattle.cdf_model.specs.DataSet.{DataSet, head_of}
use Rattle.cdf_model.specs.Events.{events_of}
use Rattle.cdf_writer.specs.Compact.{bodies}
use Rattle.cdf_writer.specs.Fine.{Fine}
use Rattle.cdf_writer.specs.Laying.{laid, laid_size}
use Rattle.cdf_writer.specs.Progress.{State, adr_rest, begun, finish, goes_on, records, run, run_from, size, start, step, vdr_rest}
use Rattle.cdf_writer.specs.Stops.{CutAt}
use Rattle.cdf_writer.specs.Shown.{HasRoom, IsHead, IsPlaced, IsStarted, RoomAt, IsWhole, Shows, begin_bodies, event_bodies, finished_image}
use Rattle.cdf_writer.specs.Taken.{BeginsFine}
use Rattle.cdf_writer.specs.declared.appending.WriteStop.{WriteStop}
use Rattle.cdf_writer.specs.declared.progress.FileState.{FileState}
use Rattle.cdf_writer.specs.declared.progress.Part.{Part}
use Rattle.cdf_writer.specs.declared.progress.Part.TheVariants as parts
use Rattle.cdf_writer.proofs.AttributesTaken.{run_append, started_step}
use Rattle.cdf_writer.proofs.EventsTaken.{events_make_bodies}
use Rattle.cdf_writer.proofs.Finished.{all_long, all_of, finished_is, image_is}
use Rattle.cdf_writer.proofs.Sizes.{cut_whole, laid_total, lengths, total}
use Rattle.cdf_writer.proofs.Stands.{laid-append, size-append, size-cons, whole_size}
use Rattle.cdf_writer.proofs.StepSizes.{Sound, begun_sound, goes_sizes, goes_sound, run_grows, run_sound}
use Rattle.cdf_writer.proofs.WholeEvents.{each_here, events_whole}

-- ---- what is shown of a state that began

pub sound_of : {b : List ℕ} {file : FileState} {part : Part} {s : State} → Shows b file part s → IsStarted part → Sound s
sound_of {part = part} {s = s} h started =
    let now : IsStarted s.part = subst IsStarted h.part_is started in
    record { started = now; placed = h.placed; cdr_is = (h.gdr_long now).0; gdr_is = (h.gdr_long now).1 }

pub bytes_are : {b : List ℕ} {file : FileState} {part : Part} {s : State} → Shows b file part s → IsStarted part → b ≡ all_of s
bytes_are {s = s} h started = h.image_is ∙ image_is s (subst IsStarted h.part_is started)

pub shown_size : {b : List ℕ} {file : FileState} {part : Part} {s : State} → Shows b file part s → IsStarted part → length b ≡ size s
shown_size {s = s} h started = ap length (bytes_are h started) ∙ all_long s

pub shown_again : {b : List ℕ} {file : FileState} {part : Part} (s : State) → b ≡ all_of s → file ≡ s.file → part ≡ s.part → Sound s → Shows b file part s
shown_again s b file part h = record { image_is = b ∙ sym (image_is s h.started); file_is = file; part_is = part; placed = h.placed; gdr_long = λ started. (h.cdr_is, h.gdr_is) }

-- the bytes once the open part is finished
pub finished_bytes : (b : List ℕ) (file : FileState) (part : Part) (s : State) → Shows b file part s → IsStarted part → finished_image file part b ≡ all_of (finish s)
finished_bytes b file part s h started =
    let sound = sound_of h started in
    (λ i. finished_image (h.file_is i) (h.part_is i) (bytes_are h started i)) ∙ finished_is s sound.placed sound.started

-- with one record more behind, for which room is kept, and others
pub opened_bytes : (f : State) (zeros : List ℕ) (more : List (List ℕ)) → f.room ≡ [] → f.behind ≡ [] → all_of f ++ laid (zeros ∷ more) ≡ magic ++ laid ((f.cdr ∷ f.gdr ∷ f.finished) ++ ((zeros ∷ []) ++ more))
opened_bytes f zeros more room behind =
    let front = f.cdr ∷ f.gdr ∷ f.finished in
    ap₂ (λ (r b : List (List ℕ)). (magic ++ laid (front ++ (r ++ b))) ++ laid (zeros ∷ more)) room behind
    ∙ ap (λ (l : List (List ℕ)). (magic ++ laid l) ++ laid (zeros ∷ more)) (append-nil front)
    ∙ append_assoc magic (laid front) (laid (zeros ∷ more))
    ∙ ap (λ (l : List ℕ). magic ++ l) (sym (laid-append front (zeros ∷ more)))

pub behind_bytes : (s : State) (more : List (List ℕ)) → all_of s ++ laid more ≡ magic ++ laid ((s.cdr ∷ s.gdr ∷ s.finished) ++ (s.room ++ (s.behind ++ more)))
behind_bytes s more =
    let front = s.cdr ∷ s.gdr ∷ s.finished in
    append_assoc magic (laid (front ++ (s.room ++ s.behind))) (laid more)
    ∙ ap (λ (l : List ℕ). magic ++ l) (sym (laid-append (front ++ (s.room ++ s.behind)) more) ∙ ap laid (append_assoc front (s.room ++ s.behind) more ∙ ap (λ (l : List (List ℕ)). front ++ l) (append_assoc s.room s.behind more)))

-- the room of the open part lies within the bytes
room_ends : (s : State) (place rest : ℕ) → RoomAt s place rest → place + (8 + rest) ≤ size s
room_ends s place rest at =
    let front = s.cdr ∷ s.gdr ∷ s.finished in
    let zeros : List ℕ = replicate rest 0 in
    omega (arith, at.place_is, size-append front (s.room ++ s.behind), ap (λ (r : List (List ℕ)). laid_size (r ++ s.behind)) at.room_is, size-cons zeros s.behind, whole_size zeros, length-replicate {A = ℕ} rest 0)

pub room_within : (b : List ℕ) (file : FileState) (part : Part) (s : State) → Shows b file part s → HasRoom (length b) part
room_within b file part s h = subst (λ (p : Part). HasRoom (length b) p) (sym h.part_is) (of s.part refl h.placed)
  where
    long : IsStarted s.part → length b ≡ size s
    long started = ap length (h.image_is ∙ image_is s started) ∙ all_long s

    of : (p : Part) → s.part ≡ p → IsPlaced p s → HasRoom (length b) p
    of parts.Start e placed = tt
    of parts.Between e placed = tt
    of (parts.Attribute a) e placed = omega (arith, room_ends s a.place (adr_rest a.name) placed, long (subst IsStarted (sym e) tt))
    of (parts.Variable v) e placed = omega (arith, room_ends s v.place (vdr_rest v.tail) placed, long (subst IsStarted (sym e) tt))

-- the room of the GDR too
pub gdr_within : (b : List ℕ) (file : FileState) (part : Part) (s : State) → Shows b file part s → IsStarted part → 404 + length file.dims ≤ length b
gdr_within b file part s h started =
    let sound = sound_of h started in
    let front = s.finished ++ (s.room ++ s.behind) in
    omega (arith, shown_size h started, size-cons s.cdr (s.gdr ∷ front), size-cons s.gdr front, whole_size s.cdr, whole_size s.gdr, sound.cdr_is, sound.gdr_is, ap (λ (f : FileState). length f.dims) h.file_is, ap laid_size (append_assoc (s.cdr ∷ s.gdr ∷ []) s.finished (s.room ++ s.behind)))

-- ---- all of them lead to the data set that they begin

pub took_next : (taken : List Event) (e : Event) → run (taken ++ e ∷ []) ≡ step (run taken) e
took_next taken e = run_append start taken (e ∷ [])

pub goes_next : (taken : List Event) (e : Event) → IsStarted (run taken).part → run (taken ++ e ∷ []) ≡ goes_on (run taken) e
goes_next taken e started = took_next taken e ∙ started_step (run taken) e started

next_of : (d : DataSet) (taken : List Event) (e : Event) (rest : List Event) → events_of d ≡ (taken ++ e ∷ []) ++ rest → events_of d ≡ taken ++ e ∷ rest
next_of d taken e rest are = are ∙ append_assoc taken (e ∷ []) rest

-- the event is whole
pub event_whole : (taken : List Event) (e : Event) → BeginsFine (taken ++ e ∷ []) → IsWhole e
event_whole taken e b = each_here IsWhole taken e b.rest (subst (Each IsWhole) (next_of b.whole taken e b.rest b.are) (events_whole b.whole b.fine))

-- only the head comes first, and after it the file began
pub starts_with_head : (taken : List Event) (e : Event) → BeginsFine (taken ++ e ∷ []) → (run taken).part ≡ parts.Start → IsHead e
starts_with_head [] e b start = subst IsHead first tt
  where
    first : events.Head (head_of b.whole) ≡ e
    first = cc (next_of b.whole [] e b.rest b.are)
starts_with_head (x ∷ taken) e b start =
    let first : events.Head (head_of b.whole) ≡ x = cc (next_of b.whole (x ∷ taken) e b.rest b.are) in
    let sound = run_sound (begun (head_of b.whole)) taken (begun_sound (head_of b.whole)) in
    absurd (subst IsStarted (ap (λ (y : Event). (run (y ∷ taken)).part) first ∙ start) sound.started)

-- what stops an event stops the compact image of each data set that it begins
pub cut_in_whole : (limit : ℕ) (d : DataSet) (taken : List Event) (e : Event) (rest : List Event) (long : ℕ) (stop : WriteStop) → Fine d → events_of d ≡ taken ++ e ∷ rest → Sound (run taken) → long ≡ size (run taken)
    → CutAt limit long (event_bodies long (run taken).part (run taken).file.little e) stop → CutAt limit 8 (bodies d) stop
cut_in_whole limit d taken e rest long stop fine are sound same cut =
    let s = run taken in
    let own = event_bodies (size s) s.part s.file.little e in
    let grows = run_grows (goes_on s e) rest (goes_sound s e sound) in
    let ran : run (events_of d) ≡ run_from (goes_on s e) rest = ap run are ∙ run_append start taken (e ∷ rest) ∙ ap (λ (x : State). run_from x rest) (started_step s e sound.started) in
    let sizes : lengths (bodies d) ≡ lengths (records s) ++ (lengths own ++ grows.more) =
    ap lengths (sym (events_make_bodies d fine) ∙ ap records ran) ∙ grows.are ∙ ap (λ (l : List ℕ). l ++ grows.more) (goes_sizes s e sound) ∙ append_assoc (lengths (records s)) (lengths own) grows.more in
    let place : size s ≡ 8 + total (lengths (records s)) = omega (arith, laid_total (records s)) in
    cut_whole limit (bodies d) (lengths (records s)) own grows.more stop sizes
    (subst (λ (n : ℕ). CutAt limit n own stop) place (subst (λ (n : ℕ). CutAt limit n (event_bodies n s.part s.file.little e) stop) same cut))

-- the same of the first event
pub cut_in_first : (limit : ℕ) (d : DataSet) (e : Event) (rest : List Event) (stop : WriteStop) → Fine d → events_of d ≡ e ∷ rest → CutAt limit 8 (begin_bodies e) stop → CutAt limit 8 (bodies d) stop
cut_in_first limit d e rest stop fine are cut =
    let h = head_of d in
    let first : events.Head h ≡ e = cc are in
    let others : run (events_of d) ≡ run_from (begun h) rest = ap run are ∙ ap (λ (x : Event). run (x ∷ rest)) (sym first) in
    let grows = run_grows (begun h) rest (begun_sound h) in
    let sizes : lengths (bodies d) ≡ [] ++ (lengths (begin_bodies (events.Head h)) ++ grows.more) = ap lengths (sym (events_make_bodies d fine) ∙ ap records others) ∙ grows.are in
    cut_whole limit (bodies d) [] (begin_bodies (events.Head h)) grows.more stop sizes (subst (λ (x : Event). CutAt limit 8 (begin_bodies x) stop) (sym first) cut)
