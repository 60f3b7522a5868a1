-- What a crash may leave of a disk in memory, one event more.
use Rattle.std.proofs.Common.{Bool, List, [], ap, arith, append_assoc, false, inl, inr, length, refl, subst, sym, take, true, ℕ, ◌++◌, ◌+◌, ◌-◌, ◌∙◌, ◌∷◌, ◌≡◌, ◌≤◌, ◌⊎◌, ◌<◌}
use Rattle.std.proofs.lemmas.Bool.{and_from, and_parts, cases_lt, leb-true}
use Rattle.std.proofs.lemmas.List.{append-nil, length-append, length_push, take-append-le, take_all, take_at}
use Rattle.std.specs.Prelude.{if◌then◌else◌, nat_lt, ◌&&◌}
use Rattle.cdf_journal.specs.Crashes.{Elapses, Follows, InPart, Parts, Shortened, Torn, part_of}
use Rattle.cdf_journal.specs.declared.disk.Part.{Part}
use Rattle.cdf_mem_disk.specs.Events.{Cut, Event, LeftSince, Stored, Wrote, after_event, after_events, are_made, crashed, fits_parts, is_change, is_stored, kept_end, leaves_event, leaves_events, may_leave_after}
use Rattle.cdf_journal.proofs.Untorn.{uncut, untorn}
use Rattle.cdf_mem_disk.proofs.Done.{shortened, torn}

-- what reads give
pub after_one : (parts : Parts) (events : List Event) (event : Event) → after_events parts (events ++ event ∷ []) ≡ after_event (after_events parts events) event
after_one parts [] event = refl
after_one parts (e ∷ events) event = after_one (after_event parts e) events event

-- no write left a gap
pub made_one : (parts : Parts) (events : List Event) (event : Event) → are_made parts events ≡ true → fits_parts (after_events parts events) event ≡ true → are_made parts (events ++ event ∷ []) ≡ true
made_one parts [] event made fits = and_from _ _ fits refl
made_one parts (e ∷ events) event made fits =
    let m = and_parts (fits_parts parts e) (are_made (after_event parts e) events) made in
    and_from _ _ m.0 (made_one (after_event parts e) events event m.1 fits)

pub made_front : (parts : Parts) (events more : List Event) → are_made parts (events ++ more) ≡ true → are_made parts events ≡ true
made_front parts [] more made = refl
made_front parts (e ∷ events) more made =
    let m = and_parts (fits_parts parts e) (are_made (after_event parts e) (events ++ more)) made in
    and_from _ _ m.0 (made_front (after_event parts e) events more m.1)

-- what a crash may leave
pub leaves_one : (leaves : Parts → Type 0) (parts : Parts) (events : List Event) (event : Event) (c : Parts) → leaves_events leaves parts (events ++ event ∷ []) c → leaves_event (leaves_events leaves parts events) (after_events parts events) event c
leaves_one leaves parts [] event c left = left
leaves_one leaves parts (e ∷ events) event c left = leaves_one (leaves_event leaves parts e) (after_event parts e) events event c left

pub one_leaves : (leaves : Parts → Type 0) (parts : Parts) (events : List Event) (event : Event) (c : Parts) → leaves_event (leaves_events leaves parts events) (after_events parts events) event c → leaves_events leaves parts (events ++ event ∷ []) c
one_leaves leaves parts [] event c left = left
one_leaves leaves parts (e ∷ events) event c left = one_leaves (leaves_event leaves parts e) (after_event parts e) events event c left

-- what reads give is one of the outcomes
done_left : (leaves : Parts → Type 0) (parts : Parts) (event : Event) → fits_parts parts event ≡ true → leaves parts → leaves_event leaves parts event (after_event parts event)
done_left leaves parts (Wrote part place bytes true) fits here = (parts, here, torn part place bytes parts (leb-true place (length (part_of parts part)) fits))
done_left leaves parts (Wrote part place bytes false) fits here = (parts, here, untorn part place (length bytes) parts)
done_left leaves parts (Cut part n true) fits here = (parts, here, shortened part n parts)
done_left leaves parts (Cut part n false) fits here = (parts, here, uncut part n parts)
done_left leaves parts Stored fits here = refl

reads_left : (leaves : Parts → Type 0) (parts : Parts) (events : List Event) → are_made parts events ≡ true → leaves parts → leaves_events leaves parts events (after_events parts events)
reads_left leaves parts [] made here = here
reads_left leaves parts (e ∷ events) made here =
    let m = and_parts (fits_parts parts e) (are_made (after_event parts e) events) made in
    reads_left (leaves_event leaves parts e) (after_event parts e) events m.1 (done_left leaves parts e m.0 here)

pub now_left : (base : Parts) (events : List Event) → are_made base events ≡ true → may_leave_after base events (after_events base events)
now_left base events made = reads_left (λ d. d ≡ base) base events made refl

-- ---- time

-- nothing happened
pub elapses_none : (base : Parts) (events : List Event) → Elapses (length events) (length events) (LeftSince base events) (LeftSince base events) (may_leave_after base events)
elapses_none base events = record { later = omega arith; nothing_else = λ t c le s. inl s; keeps = λ t c le s. s }

-- time goes on by one
pub elapses_one : (base : Parts) (events : List Event) (event : Event) → Elapses (length events) (length (events ++ event ∷ [])) (LeftSince base events) (LeftSince base (events ++ event ∷ [])) (may_leave_after base (events ++ event ∷ []))
elapses_one base events event = record {
  later = omega (arith, length-append events (event ∷ []));
  nothing_else = λ t c le s. by c s (cases_lt (length events) s.moment);
  keeps = λ t c le s. record { moment = s.moment; from = s.from; within = (let w = s.within in omega (arith, w, length-append events (event ∷ []))); left = subst (λ (es : List Event). may_leave_after base es c) (sym (take-append-le s.moment events (event ∷ []) s.within)) s.left };
}
  where
    by : {t : ℕ} (c : Parts) → (s : LeftSince base (events ++ event ∷ []) t c) → (length events < s.moment) ⊎ (s.moment ≤ length events) → LeftSince base events t c ⊎ may_leave_after base (events ++ event ∷ []) c
    by c s (inl now) =
        let w = s.within in
        let whole : take s.moment (events ++ event ∷ []) ≡ events ++ event ∷ [] = take_all s.moment (events ++ event ∷ []) (omega (arith, now, length-append events (event ∷ []))) in
        inr (subst (λ (es : List Event). may_leave_after base es c) whole s.left)
    by c s (inr past) = inl (record { moment = s.moment; from = s.from; within = past; left = subst (λ (es : List Event). may_leave_after base es c) (take-append-le s.moment events (event ∷ []) past) s.left })

-- ---- one call

pub elapses_noted : (base : Parts) (old new : List Event) (event : Event) → (new ≡ old) ⊎ (new ≡ old ++ event ∷ []) → Elapses (length old) (length new) (LeftSince base old) (LeftSince base new) (may_leave_after base new)
elapses_noted base old new event (inl same) = subst (λ (es : List Event). Elapses (length old) (length es) (LeftSince base old) (LeftSince base es) (may_leave_after base es)) (sym same) (elapses_none base old)
elapses_noted base old new event (inr one) = subst (λ (es : List Event). Elapses (length old) (length es) (LeftSince base old) (LeftSince base es) (may_leave_after base es)) (sym one) (elapses_one base old event)

pub follows_write : (base : Parts) (old new : List Event) (part : Part) (place : ℕ) (bytes : List ℕ) (done : Bool) → (new ≡ old) ⊎ (new ≡ old ++ Wrote part place bytes done ∷ [])
    → Follows (InPart part (Torn place (length bytes))) (may_leave_after base old) (may_leave_after base new)
follows_write base old new part place bytes done (inl same) c left = (c, subst (λ (es : List Event). may_leave_after base es c) same left, untorn part place (length bytes) c)
follows_write base old new part place bytes done (inr one) c left = leaves_one (λ d. d ≡ base) base old (Wrote part place bytes done) c (subst (λ (es : List Event). may_leave_after base es c) one left)

pub follows_cut : (base : Parts) (old new : List Event) (part : Part) (n : ℕ) (done : Bool) → (new ≡ old) ⊎ (new ≡ old ++ Cut part n done ∷ [])
    → Follows (InPart part (Shortened n)) (may_leave_after base old) (may_leave_after base new)
follows_cut base old new part n done (inl same) c left = (c, subst (λ (es : List Event). may_leave_after base es c) same left, uncut part n c)
follows_cut base old new part n done (inr one) c left = leaves_one (λ d. d ≡ base) base old (Cut part n done) c (subst (λ (es : List Event). may_leave_after base es c) one left)

-- once the parts were stored, a crash leaves them alone, which it might leave before
pub stored_only : (base : Parts) (old new : List Event) (c : Parts) → new ≡ old ++ Stored ∷ [] → may_leave_after base new c → c ≡ after_events base old
stored_only base old new c one left = leaves_one (λ d. d ≡ base) base old Stored c (subst (λ (es : List Event). may_leave_after base es c) one left)

pub stored_left : (base : Parts) (old new : List Event) (c : Parts) → are_made base old ≡ true → new ≡ old ++ Stored ∷ [] → may_leave_after base new c → may_leave_after base old c
stored_left base old new c made one left = subst (λ (d : Parts). may_leave_after base old d) (sym (stored_only base old new c one left)) (now_left base old made)

-- ---- a crash that keeps some writes and cuts

-- what was an outcome is one behind a write or a cut
stays_left : (leaves : Parts → Type 0) (parts : Parts) (event : Event) (c : Parts) → is_stored event ≡ false → leaves c → leaves_event leaves parts event c
stays_left leaves parts (Wrote part place bytes done) c unstored here = (c, here, untorn part place (length bytes) c)
stays_left leaves parts (Cut part n done) c unstored here = (c, here, uncut part n c)
stays_left leaves parts Stored c unstored here = absurd (differ unstored)
  where
    differ : true ≡ false → ⊥
    differ e = cc

picked : (P : ℕ → Type 0) (first second : Bool) (x y z : ℕ) → P x → P y → (first ≡ false → P z) → P (if first then x else (if second then y else z))
picked P true second x y z p q r = p
picked P false true x y z p q r = q
picked P false false x y z p q r = r refl

kept_left : (keep : ℕ) (base : Parts) (events : List Event) (at end left : ℕ) (done rest : List Event) → length done ≡ at → events ≡ done ++ rest → are_made base events ≡ true → may_leave_after base done (after_events base (take end events))
    → may_leave_after base events (after_events base (take (kept_end keep at end left rest) events))
kept_left keep base events at end left done [] long split made here =
    subst (λ (es : List Event). may_leave_after base es (after_events base (take end events))) (sym (split ∙ append-nil done)) here
kept_left keep base events at end left done (event ∷ rest) long split made here =
    let next : List Event = done ++ event ∷ [] in
    let splits : events ≡ next ++ rest = split ∙ sym (append_assoc done (event ∷ []) rest) in
    let longer : length next ≡ at + 1 = length_push done event ∙ ap (λ n. n + 1) long in
    let front : take (at + 1) events ≡ next = ap (λ (es : List Event). take (at + 1) es) splits ∙ take_at next rest (at + 1) longer in
    let fresh : may_leave_after base next (after_events base (take (at + 1) events)) =
    subst (λ (es : List Event). may_leave_after base next (after_events base es)) (sym front) (now_left base next (made_front base next rest (subst (λ (es : List Event). are_made base es ≡ true) splits made))) in
    picked (λ n. may_leave_after base events (after_events base (take n events))) (is_stored event) (is_change event && nat_lt 0 left)
    (kept_end keep (at + 1) (at + 1) keep rest) (kept_end keep (at + 1) (at + 1) (left - 1) rest) (kept_end keep (at + 1) end left rest)
    (kept_left keep base events (at + 1) (at + 1) keep next rest longer splits made fresh)
    (kept_left keep base events (at + 1) (at + 1) (left - 1) next rest longer splits made fresh)
    (λ unstored. kept_left keep base events (at + 1) end left next rest longer splits made
    (one_leaves (λ d. d ≡ base) base done event (after_events base (take end events)) (stays_left (leaves_events (λ d. d ≡ base) base done) (after_events base done) event (after_events base (take end events)) unstored here)))

pub crash_left : (keep : ℕ) (base : Parts) (events : List Event) → are_made base events ≡ true → may_leave_after base events (crashed keep base events)
crash_left keep base events made = kept_left keep base events 0 0 keep [] events refl refl made refl
