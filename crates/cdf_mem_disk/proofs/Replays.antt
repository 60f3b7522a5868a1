-- What one call more makes of the parts that were stored.
use Rattle.std.proofs.Common.{List, [], ap, drop, inl, inr, subst, sym, take, true, ℕ, ◌++◌, ◌∙◌, ◌∷◌, ◌≡◌, ◌⊎◌}
use Rattle.std.proofs.lemmas.Bool.{and_parts}
use Rattle.std.proofs.lemmas.List.{take-append-drop}
use Rattle.std.specs.Prelude.{Ok, Err, OnErr, OnOk}
use Rattle.std.specs.declared.result.Result.{Result}
use Rattle.cdf_journal.specs.Crashes.{Parts}
use Rattle.cdf_mem_disk.specs.Events.{Event, after_event, after_events, are_made, fits_parts}
use Rattle.cdf_mem_disk.proofs.MemMoments.{after_one, made_front, made_one}

pub replays : (base parts : Parts) (old new : List Event) (event : Event) → parts ≡ after_events base old → new ≡ old ++ event ∷ [] → after_event parts event ≡ after_events base new
replays base parts old new event same one =
    ap (λ (p : Parts). after_event p event) same ∙ sym (ap (λ (es : List Event). after_events base es) one ∙ after_one base old event)

pub stays_made : (base parts : Parts) (old new : List Event) (event : Event) → are_made base old ≡ true → parts ≡ after_events base old → fits_parts parts event ≡ true → new ≡ old ++ event ∷ [] → are_made base new ≡ true
stays_made base parts old new event made same fits one =
    subst (λ (es : List Event). are_made base es ≡ true) (sym one) (made_one base old event made (subst (λ (p : Parts). fits_parts p event ≡ true) same fits))

-- it may be one call more, or none
pub noted : {T E : Type 0} (r : Result T E) (old new : List Event) (event : Event) → OnOk r (new ≡ old ++ event ∷ []) → OnErr r (new ≡ old) → (new ≡ old) ⊎ (new ≡ old ++ event ∷ [])
noted (Ok x) old new event ok err = inr ok
noted (Err e) old new event ok err = inl err

pub still_replayed : (base parts : Parts) (old new : List Event) (event : Event) → parts ≡ after_events base old → after_event parts event ≡ parts → (new ≡ old) ⊎ (new ≡ old ++ event ∷ []) → parts ≡ after_events base new
still_replayed base parts old new event same idle (inl stays) = same ∙ sym (ap (λ (es : List Event). after_events base es) stays)
still_replayed base parts old new event same idle (inr one) = sym idle ∙ replays base parts old new event same one

pub still_made : (base parts : Parts) (old new : List Event) (event : Event) → are_made base old ≡ true → parts ≡ after_events base old → fits_parts parts event ≡ true → (new ≡ old) ⊎ (new ≡ old ++ event ∷ []) → are_made base new ≡ true
still_made base parts old new event made same fits (inl stays) = subst (λ (es : List Event). are_made base es ≡ true) (sym stays) made
still_made base parts old new event made same fits (inr one) = stays_made base parts old new event made same fits one

-- ---- done again

pub made_take : (parts : Parts) (events : List Event) (n : ℕ) → are_made parts events ≡ true → are_made parts (take n events) ≡ true
made_take parts events n made = made_front parts (take n events) (drop n events) (subst (λ (es : List Event). are_made parts es ≡ true) (sym (take-append-drop n events)) made)

-- the first of some events
pub first_fits : (parts : Parts) (events rest : List Event) (e : Event) → events ≡ e ∷ rest → are_made parts events ≡ true → fits_parts parts e ≡ true
first_fits parts events rest e next made = (and_parts (fits_parts parts e) (are_made (after_event parts e) rest) (subst (λ (es : List Event). are_made parts es ≡ true) next made)).0

pub rest_made : (parts parts' : Parts) (events rest : List Event) (e : Event) → events ≡ e ∷ rest → are_made parts events ≡ true → parts' ≡ after_event parts e → are_made parts' rest ≡ true
rest_made parts parts' events rest e next made done =
    subst (λ (p : Parts). are_made p rest ≡ true) (sym done) (and_parts (fits_parts parts e) (are_made (after_event parts e) rest) (subst (λ (es : List Event). are_made parts es ≡ true) next made)).1

pub rest_done : (parts parts' whole : Parts) (events rest : List Event) (e : Event) → events ≡ e ∷ rest → parts' ≡ after_event parts e → after_events parts events ≡ whole → after_events parts' rest ≡ whole
rest_done parts parts' whole events rest e next done so_far = ap (λ (p : Parts). after_events p rest) done ∙ sym (ap (λ (es : List Event). after_events parts es) next) ∙ so_far

pub none_left : (parts whole : Parts) (events : List Event) → events ≡ [] → after_events parts events ≡ whole → parts ≡ whole
none_left parts whole events none so_far = sym (ap (λ (es : List Event). after_events parts es) none) ∙ so_far

-- ---- results

pub on_ok : {T E : Type 0} (r : Result T E) (P Q : Type 0) → (P → Q) → OnOk r P → OnOk r Q
on_ok (Ok x) P Q f p = f p
on_ok (Err e) P Q f p = tt

pub on_err : {T E : Type 0} (r : Result T E) (P : Type 0) → P → OnErr r P
on_err (Ok x) P p = tt
on_err (Err e) P p = p
