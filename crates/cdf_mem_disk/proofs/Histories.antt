-- The calls of a disk in memory, one call more.
use Rattle.std.proofs.Common.{Bool, List, [], ap, ap₂, arith, drop, get_or, length, map, refl, subst, sym, take, ℕ, zero, suc, ◌++◌, ◌+◌, ◌<◌, ◌∙◌, ◌∷◌, ◌≡◌, ◌≤◌}
use Rattle.std.proofs.Math.Seq.{drop-append_seam}
use Rattle.std.proofs.lemmas.List.{drop-append-le, length-append, length-drop, map-append, take-append-le, take-map, take_all}
use Rattle.cdf_journal.specs.declared.disk.Part.{Part}
use Rattle.cdf_mem_disk.specs.declared.history.Call.{Call}
use Rattle.cdf_mem_disk.specs.declared.history.Call.TheVariants as call
use Rattle.cdf_mem_disk.specs.Events.{Event, Wrote}
use Rattle.cdf_mem_disk.specs.History.{AreWithin, IsWithin, event_of}

same_event : (bytes more : List ℕ) (c : Call) → IsWithin (length bytes) c → event_of (bytes ++ more) c ≡ event_of bytes c
same_event bytes more (call.Write part place start count done) within =
    let front : drop start (bytes ++ more) ≡ drop start bytes ++ more = drop-append-le start bytes more (omega (arith, within)) in
    let same : take count (drop start (bytes ++ more)) ≡ take count (drop start bytes) = ap (λ (l : List ℕ). take count l) front ∙ take-append-le count (drop start bytes) more (omega (arith, within, length-drop start bytes)) in
    ap (λ (l : List ℕ). Wrote part place l done) same
same_event bytes more (call.Cut part size done) within = refl
same_event bytes more call.Store within = refl

-- other bytes behind change nothing
pub same_events : (bytes more : List ℕ) (calls : List Call) → AreWithin (length bytes) calls → map (event_of (bytes ++ more)) calls ≡ map (event_of bytes) calls
same_events bytes more [] within = refl
same_events bytes more (c ∷ calls) within = ap₂ (λ (e : Event) (es : List Event). e ∷ es) (same_event bytes more c within.0) (same_events bytes more calls within.1)

longer_within : (n m : ℕ) (c : Call) → n ≤ m → IsWithin n c → IsWithin m c
longer_within n m (call.Write part place start count done) le within = omega (arith, le, within)
longer_within n m (call.Cut part size done) le within = tt
longer_within n m call.Store le within = tt

pub still_within : (n m : ℕ) (calls : List Call) → n ≤ m → AreWithin n calls → AreWithin m calls
still_within n m [] le within = tt
still_within n m (c ∷ calls) le within = (longer_within n m c le within.0, still_within n m calls le within.1)

pub within_push : (n : ℕ) (calls : List Call) (c : Call) → AreWithin n calls → IsWithin n c → AreWithin n (calls ++ c ∷ [])
within_push n [] c within one = (one, tt)
within_push n (d ∷ calls) c within one = (within.0, within_push n calls c within.1 one)

pub within_at : (n : ℕ) (calls : List Call) (i : ℕ) (d : Call) → AreWithin n calls → i < length calls → IsWithin n (get_or calls i d)
within_at n [] i d within lt = absurd (omega (arith, lt))
within_at n (c ∷ calls) zero d within lt = within.0
within_at n (c ∷ calls) (suc i) d within lt = within_at n calls i d within.1 (omega (arith, lt))

-- a call more
pub call_noted : (bytes : List ℕ) (calls : List Call) (c : Call) → map (event_of bytes) (calls ++ c ∷ []) ≡ map (event_of bytes) calls ++ event_of bytes c ∷ []
call_noted bytes calls c = map-append (event_of bytes) calls (c ∷ [])

-- a write more, with its bytes behind the others
pub write_noted : (kept bytes : List ℕ) (calls : List Call) (part : Part) (place : ℕ) (done : Bool) → AreWithin (length kept) calls
    → map (event_of (kept ++ bytes)) (calls ++ call.Write part place (length kept) (length bytes) done ∷ []) ≡ map (event_of kept) calls ++ Wrote part place bytes done ∷ []
write_noted kept bytes calls part place done within =
    let c : Call = call.Write part place (length kept) (length bytes) done in
    let same : take (length bytes) (drop (length kept) (kept ++ bytes)) ≡ bytes = ap (λ (l : List ℕ). take (length bytes) l) (drop-append_seam kept bytes) ∙ take_all (length bytes) bytes (omega arith) in
    call_noted (kept ++ bytes) calls c ∙ ap₂ (λ (es : List Event) (b : List ℕ). es ++ Wrote part place b done ∷ []) (same_events kept bytes calls within) same

-- its bytes are among those that are kept
pub write_within : (kept bytes : List ℕ) (calls : List Call) (part : Part) (place : ℕ) (done : Bool) → AreWithin (length kept) calls
    → AreWithin (length (kept ++ bytes)) (calls ++ call.Write part place (length kept) (length bytes) done ∷ [])
write_within kept bytes calls part place done within =
    within_push (length (kept ++ bytes)) calls (call.Write part place (length kept) (length bytes) done) (still_within (length kept) (length (kept ++ bytes)) calls (omega (arith, length-append kept bytes)) within) (omega (arith, length-append kept bytes))

-- only bytes more
pub bytes_within : (kept bytes : List ℕ) (calls : List Call) → AreWithin (length kept) calls → AreWithin (length (kept ++ bytes)) calls
bytes_within kept bytes calls within = still_within (length kept) (length (kept ++ bytes)) calls (omega (arith, length-append kept bytes)) within

-- ---- the same of what was read of the history

-- bytes more
pub bytes_more : (kept bytes kept' : List ℕ) (calls calls' : List Call) (value : List Event) → kept' ≡ kept ++ bytes → calls' ≡ calls → AreWithin (length kept) calls → map (event_of kept) calls ≡ value
    → AreWithin (length kept') calls' × (map (event_of kept') calls' ≡ value)
bytes_more kept bytes kept' calls calls' value more same within view = (
  subst (λ (bs : List ℕ). AreWithin (length bs) calls') (sym more) (subst (λ (cs : List Call). AreWithin (length (kept ++ bytes)) cs) (sym same) (bytes_within kept bytes calls within)),
  ap₂ (λ (bs : List ℕ) (cs : List Call). map (event_of bs) cs) more same ∙ same_events kept bytes calls within ∙ view,
)

-- a write more
pub write_more : (kept bytes kept' : List ℕ) (calls calls' : List Call) (value : List Event) (part : Part) (place start : ℕ) (done : Bool) → kept' ≡ kept ++ bytes → start ≡ length kept
    → calls' ≡ calls ++ call.Write part place start (length bytes) done ∷ [] → AreWithin (length kept) calls → map (event_of kept) calls ≡ value
    → AreWithin (length kept') calls' × (map (event_of kept') calls' ≡ value ++ Wrote part place bytes done ∷ [])
write_more kept bytes kept' calls calls' value part place start done more at same within view =
    let whole : calls' ≡ calls ++ call.Write part place (length kept) (length bytes) done ∷ [] = same ∙ ap (λ (n : ℕ). calls ++ call.Write part place n (length bytes) done ∷ []) at in (
      subst (λ (bs : List ℕ). AreWithin (length bs) calls') (sym more) (subst (λ (cs : List Call). AreWithin (length (kept ++ bytes)) cs) (sym whole) (write_within kept bytes calls part place done within)),
      ap₂ (λ (bs : List ℕ) (cs : List Call). map (event_of bs) cs) more whole ∙ write_noted kept bytes calls part place done within ∙ ap (λ (es : List Event). es ++ Wrote part place bytes done ∷ []) view,
    )

-- the event of the next call
pub drop_next : (f : Call → Event) (calls : List Call) (i : ℕ) (d : Call) → i < length calls → drop i (map f calls) ≡ f (get_or calls i d) ∷ drop (i + 1) (map f calls)
drop_next f [] i d lt = absurd (omega (arith, lt))
drop_next f (c ∷ calls) zero d lt = refl
drop_next f (c ∷ calls) (suc i) d lt =
    let e : suc (i + 1) ≡ suc i + 1 = omega arith in
    drop_next f calls i d (omega (arith, lt)) ∙ ap (λ (n : ℕ). f (get_or calls i d) ∷ drop n (map f (c ∷ calls))) e

pub next_event : (f : Call → Event) (calls items : List Call) (value : List Event) (i : ℕ) (d : Call) → items ≡ calls → map f calls ≡ value → i < length items → drop i value ≡ f (get_or items i d) ∷ drop (i + 1) value
next_event f calls items value i d same view lt =
    subst (λ (v : List Event). drop i v ≡ f (get_or items i d) ∷ drop (i + 1) v) view
    (subst (λ (l : List Call). drop i (map f calls) ≡ f (get_or l i d) ∷ drop (i + 1) (map f calls)) (sym same)
    (drop_next f calls i d (subst (λ (l : List Call). i < length l) same lt)))

within_take : (n : ℕ) (calls : List Call) (k : ℕ) → AreWithin n calls → AreWithin n (take k calls)
within_take n [] zero within = tt
within_take n [] (suc k) within = tt
within_take n (c ∷ calls) zero within = tt
within_take n (c ∷ calls) (suc k) within = (within.0, within_take n calls k within.1)

pub redo_within : (kept kept' : List ℕ) (calls calls' : List Call) (count : ℕ) → kept' ≡ kept → calls' ≡ calls → AreWithin (length kept) calls → AreWithin (length kept') (take count calls')
redo_within kept kept' calls calls' count k cs within =
    subst (λ (bs : List ℕ). AreWithin (length bs) (take count calls')) (sym k) (subst (λ (l : List Call). AreWithin (length kept) (take count l)) (sym cs) (within_take (length kept) calls count within))

pub redo_events : (kept kept' : List ℕ) (calls calls' : List Call) (value : List Event) (count : ℕ) → kept' ≡ kept → calls' ≡ calls → map (event_of kept) calls ≡ value → map (event_of kept') (take count calls') ≡ take count value
redo_events kept kept' calls calls' value count k cs view =
    ap₂ (λ (bs : List ℕ) (l : List Call). map (event_of bs) (take count l)) k cs ∙ sym (take-map (event_of kept) count calls) ∙ ap (λ (es : List Event). take count es) view
