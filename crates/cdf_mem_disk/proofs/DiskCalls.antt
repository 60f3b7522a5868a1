-- What a call of a disk in memory may leave, and what it writes.
use Rattle.std.proofs.Common.{Bool, List, [], ap, arith, drop, length, max, subst, sym, take, true, ℕ, ◌++◌, ◌+◌, ◌∙◌, ◌∷◌, ◌≡◌, ◌≤◌, ◌⊎◌}
use Rattle.std.proofs.lemmas.List.{take-append-drop}
use Rattle.std.specs.Prelude.{Some}
use Rattle.cdf_base.specs.Bytes.{put}
use Rattle.cdf_journal.specs.Crashes.{Elapses, Follows, InPart, Parts, Shortened, Torn, part_of, with_part}
use Rattle.cdf_journal.specs.declared.disk.Part.{Part}
use Rattle.cdf_journal.specs.declared.disk.Part.TheVariants.{Log, Main}
use Rattle.cdf_journal.proofs.FilledAgain.{grown}
use Rattle.cdf_mem_disk.specs.Events.{Cut, Event, LeftSince, Stored, Wrote, after_events, are_made, may_leave_after}
use Rattle.cdf_mem_disk.proofs.MemMoments.{elapses_noted, follows_cut, follows_write, stored_left, stored_only}

-- ---- what a crash may leave, from parts that were stored and stayed so

pub time_passes : (base base' : Parts) (old new : List Event) (event : Event) → base' ≡ base → (new ≡ old) ⊎ (new ≡ old ++ event ∷ [])
    → Elapses (length old) (length new) (LeftSince base old) (LeftSince base' new) (may_leave_after base' new)
time_passes base base' old new event same more =
    subst (λ (b : Parts). Elapses (length old) (length new) (LeftSince base old) (LeftSince b new) (may_leave_after b new)) (sym same) (elapses_noted base old new event more)

pub write_follows : (base base' : Parts) (old new : List Event) (part : Part) (place : ℕ) (bytes : List ℕ) (done : Bool) → base' ≡ base → (new ≡ old) ⊎ (new ≡ old ++ Wrote part place bytes done ∷ [])
    → Follows (InPart part (Torn place (length bytes))) (may_leave_after base old) (may_leave_after base' new)
write_follows base base' old new part place bytes done same more =
    subst (λ (b : Parts). Follows (InPart part (Torn place (length bytes))) (may_leave_after base old) (may_leave_after b new)) (sym same) (follows_write base old new part place bytes done more)

pub cut_follows : (base base' : Parts) (old new : List Event) (part : Part) (n : ℕ) (done : Bool) → base' ≡ base → (new ≡ old) ⊎ (new ≡ old ++ Cut part n done ∷ [])
    → Follows (InPart part (Shortened n)) (may_leave_after base old) (may_leave_after base' new)
cut_follows base base' old new part n done same more =
    subst (λ (b : Parts). Follows (InPart part (Shortened n)) (may_leave_after base old) (may_leave_after b new)) (sym same) (follows_cut base old new part n done more)

pub store_only : (base base' parts : Parts) (old new : List Event) (c : Parts) → base' ≡ base → new ≡ old ++ Stored ∷ [] → parts ≡ after_events base old → may_leave_after base' new c → c ≡ parts
store_only base base' parts old new c same one replayed left = stored_only base old new c one (subst (λ (b : Parts). may_leave_after b new c) same left) ∙ sym replayed

pub store_left : (base base' : Parts) (old new : List Event) (c : Parts) → base' ≡ base → are_made base old ≡ true → new ≡ old ++ Stored ∷ [] → may_leave_after base' new c → may_leave_after base old c
store_left base base' old new c same made one left = stored_left base old new c made one (subst (λ (b : Parts). may_leave_after b new c) same left)

-- ---- what is written

put_none : (b : List ℕ) (place : ℕ) (bytes : List ℕ) → place ≤ length b → put b place (take 0 bytes) ≡ b
unfolding put
put_none b place bytes le =
    let e : place + 0 ≡ place = omega arith in
    ap (λ (n : ℕ). take place b ++ drop n b) e ∙ take-append-drop place b

put_nothing : (part : Part) (place : ℕ) (bytes : List ℕ) (parts : Parts) → place ≤ length (part_of parts part) → with_part parts part (put (part_of parts part) place (take 0 bytes)) ≡ parts
put_nothing Main place bytes parts le = ap (λ (l : List ℕ). with_part parts Main l) (put_none parts.main place bytes le)
put_nothing Log place bytes parts le = ap (λ (l : List ℕ). with_part parts Log l) (put_none parts.log place bytes le)

-- nothing was written, which is a front of the bytes
pub wrote_nothing : (parts parts' : Parts) (part : Part) (place : ℕ) (bytes : List ℕ) → place ≤ length (part_of parts part) → parts' ≡ parts
    → (n : ℕ) × (n ≤ length bytes) × (Some parts' ≡ Some (with_part parts part (put (part_of parts part) place (take n bytes))))
wrote_nothing parts parts' part place bytes le same = (0, omega arith, ap (λ (p : Parts). Some p) (same ∙ sym (put_nothing part place bytes parts le)))

pub written_length : (parts parts' : Parts) (part : Part) (place : ℕ) (bytes : List ℕ) → place ≤ length (part_of parts part) → parts' ≡ with_part parts part (put (part_of parts part) place bytes)
    → length (part_of parts' part) ≡ max (length (part_of parts part)) (place + length bytes)
written_length parts parts' Main place bytes le same = ap (λ (p : Parts). length p.main) same ∙ grown parts.main place bytes le
written_length parts parts' Log place bytes le same = ap (λ (p : Parts). length p.log) same ∙ grown parts.log place bytes le
