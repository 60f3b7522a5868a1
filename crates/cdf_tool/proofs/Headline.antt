-- What a run with status 0 or 1 comes to, over devices that tell their bytes.
use Rattle.cdf_tool.proofs.Common.{Accepts, Appends, Asked, Bool, Completes, Consumes, Disk, EndsNamed, EndsUnread, EndsWithout, Finishes, Goes, IfIdle, IfSome, IsAtEnd, IsDone, IsUnmoved, List, Moment, None, Opens, Option, Outlets, Runs, Some, State, Status, [], all_idle, all_idle_over, ap, append-nil, append_assoc, content, false, flagged, flagged_line, image_limit, inl, inr, last_line, length, line_of_moment, lines, map, refl, run_of, run_on, script_limit, start, subst, sym, tale, true, ℕ, ◌++◌, ◌↔◌, ◌∙◌, ◌∷◌, ◌≡◌, ◌≤◌}
use Rattle.cdf_saving.specs.declared.status.Status.TheVariants as statuses
use Rattle.cdf_tool.specs.Accepts.{Accepted}
use Rattle.cdf_tool.proofs.IdleLemmas.{moments_idle}
use Rattle.cdf_tool.proofs.Moments.{tale_stands}

-- what was taken to the end was all that was left
all_taken : (script taken : List ℕ) (left : Option (List ℕ)) → Consumes (Some script) left taken → IsAtEnd left → (left ≡ Some []) × (taken ≡ script)
all_taken script taken None took end = absurd took
all_taken script taken (Some rest) took end = (ap (λ (l : List ℕ). Some l) end, sym (took ∙ ap (λ (l : List ℕ). taken ++ l) end ∙ append-nil taken))

-- one text and then another
appended : (written text line : List ℕ) (then now : Option (List ℕ)) → Appends (Some written) then text → Appends then now line → now ≡ Some (written ++ (text ++ line))
appended written text line None now first next = absurd first
appended written text line (Some after) None first next = absurd next
appended written text line (Some after) (Some all) first next = ap (λ (l : List ℕ). Some l) (next ∙ ap (λ (l : List ℕ). l ++ line) first ∙ append_assoc written text line)

abbrev flag_of : Moment → Bool
flag_of m = m.full

flagged_moments : (ms : List Moment) → flagged (map line_of_moment ms) (map flag_of ms) ≡ map flagged_line ms
flagged_moments [] = refl
flagged_moments (m ∷ ms) = ap (λ l. (m.line, m.full) ∷ l) (flagged_moments ms)

module _ {U : Type 0} (a : Asked) (file image : List ℕ) (d d' : Disk U) (script written : List ℕ) (left : Option (List ℕ)) (first now : Outlets) (refused : Bool) (tells : first.written ≡ Some written) (opens : Opens a.new file image) (c : Completes a file image d d' (Some script) left first now refused) where
  abbrev f : Finishes image_limit image (Some script) left first c.end refused c.finishes.then
  f = c.finishes.finishes

  abbrev g : Goes image_limit image first.taps 0 (lines f.taken) c.end c.finishes.then.taps refused f.replies.text
  g = f.replies.goes

  all : (left ≡ Some []) × (f.taken ≡ script)
  all = all_taken script f.taken left f.consumed f.over

  abbrev full : List Bool
  full = map flag_of g.moments

  these : map line_of_moment g.moments ≡ lines script
  these = g.lines_are ∙ ap lines all.1

  run : run_of (content image) first.taps script full ≡ tale image first.taps 0 g.moments
  run = ap (λ l. run_on (start (content image) first.taps) (flagged l full)) (sym these) ∙ ap (λ l. run_on (start (content image) first.taps) l) (flagged_moments g.moments)

  refuses : refused ≡ (run_of (content image) first.taps script full).refused
  refuses = g.refused_is ∙ ap (λ (s : State). s.refused) (sym run)

  means : content c.end ≡ (run_of (content image) first.taps script full).data_set
  means = ap content g.end_is ∙ sym (tale_stands image_limit image first.taps 0 g.moments g.steps).data_set ∙ ap (λ (s : State). s.data_set) (sym run)

  -- lines that are idle with their flags are idle over the image
  idle_over : all_idle (content image) (flagged (lines script) full) ≡ true → all_idle_over image_limit image (lines script) ≡ true
  idle_over all =
      let same : flagged (lines script) full ≡ map flagged_line g.moments = ap (λ l. flagged l full) (sym these) ∙ flagged_moments g.moments in
      sym (ap (all_idle_over image_limit image) these) ∙ moments_idle image_limit g.moments image g.steps (sym (ap (all_idle (content image)) same) ∙ all)

  accepted : (status : Status) → (a.new ≡ false → IfIdle image_limit image (Some script) (IsUnmoved d d' status)) → (status ≡ statuses.SomeRefused) ↔ ((run_of (content image) first.taps script full).refused ≡ true) → Accepted a d d' script left written first.taps now status
  accepted status idle so = record {
    file = file;
    image = image;
    end = c.end;
    full = full;
    opens = opens;
    history = record { moments = g.moments; lines_are = these; flags_are = refl; steps = g.steps; end_is = sym g.end_is };
    limit = subst (λ (t : List ℕ). length t ≤ script_limit) all.1 f.short;
    read = all.0;
    replies = appended written f.replies.text (last_line a.space c.end) c.finishes.then.written now.written (subst (λ (w : Option (List ℕ)). Appends w c.finishes.then.written f.replies.text) tells f.replies.written) c.finishes.line
        ∙ ap (λ (t : List ℕ). Some (written ++ (t ++ last_line a.space c.end))) (g.text_is ∙ ap (λ (s : State). s.text) (sym run));
    refused = so;
    well_formed = c.well_formed;
    means = means;
    taps_left = c.finishes.taps ∙ g.taps_are ∙ ap (λ (s : State). s.taps) (sym run);
    stored = c.stored;
    idle = λ old all. idle old (idle_over all);
  }

accepted_done : {U : Type 0} (a : Asked) (file image : List ℕ) (d d' : Disk U) (script written : List ℕ) (left : Option (List ℕ)) (first now : Outlets) → first.written ≡ Some written → Opens a.new file image → Completes a file image d d' (Some script) left first now false → (a.new ≡ false → IfIdle image_limit image (Some script) (IsUnmoved d d' statuses.Done)) → Accepted a d d' script left written first.taps now statuses.Done
accepted_done a file image d d' script written left first now tells opens c idle =
    accepted a file image d d' script written left first now false tells opens c statuses.Done idle (λ is. absurd (cc is), λ is. absurd (cc (refuses a file image d d' script written left first now false tells opens c ∙ is)))

accepted_some : {U : Type 0} (a : Asked) (file image : List ℕ) (d d' : Disk U) (script written : List ℕ) (left : Option (List ℕ)) (first now : Outlets) → first.written ≡ Some written → Opens a.new file image → Completes a file image d d' (Some script) left first now true → (a.new ≡ false → IfIdle image_limit image (Some script) (IsUnmoved d d' statuses.SomeRefused)) → Accepted a d d' script left written first.taps now statuses.SomeRefused
accepted_some a file image d d' script written left first now tells opens c idle =
    accepted a file image d d' script written left first now true tells opens c statuses.SomeRefused idle (λ is. sym (refuses a file image d d' script written left first now true tells opens c), λ is. refl)

runs_accepted : {U : Type 0} (a : Asked) (file image : List ℕ) (d d' : Disk U) (script written : List ℕ) (left : Option (List ℕ)) (first now : Outlets) (status : Status) → first.written ≡ Some written → Opens a.new file image → Runs a file image d d' (Some script) left first now status → (a.new ≡ false → IfIdle image_limit image (Some script) (IsUnmoved d d' status)) → IsDone status → Accepted a d d' script left written first.taps now status
runs_accepted a file image d d' script written left first now statuses.Done tells opens r idle is = accepted_done a file image d d' script written left first now tells opens r idle
runs_accepted a file image d d' script written left first now statuses.SomeRefused tells opens r idle is = accepted_some a file image d d' script written left first now tells opens r idle
runs_accepted a file image d d' script written left first now statuses.Usage tells opens r idle is = absurd is
runs_accepted a file image d d' script written left first now statuses.BadJournal tells opens r idle is = absurd is
runs_accepted a file image d d' script written left first now statuses.NoFile tells opens r idle is = absurd is
runs_accepted a file image d d' script written left first now statuses.Rejected tells opens r idle is = absurd is
runs_accepted a file image d d' script written left first now statuses.StoreReadFault tells opens r idle is = absurd is
runs_accepted a file image d d' script written left first now statuses.StoreWriteFault tells opens r idle is = absurd is
runs_accepted a file image d d' script written left first now statuses.OutputFault tells opens r idle is = absurd is
runs_accepted a file image d d' script written left first now statuses.NoMemory tells opens r idle is = absurd is
runs_accepted a file image d d' script written left first now statuses.ScriptFault tells opens r idle is = absurd is
runs_accepted a file image d d' script written left first now statuses.ScriptTooLong tells opens r idle is = absurd is

pub without_not_done : (a : Asked) (files : Option (List (List ℕ × List ℕ))) (first now : Option (List ℕ)) (status : Status) → EndsWithout a files first now status → IsDone status → ⊥
without_not_done a files first now statuses.Done ends is = ends
without_not_done a files first now statuses.SomeRefused ends is = ends
without_not_done a files first now statuses.Usage ends is = is
without_not_done a files first now statuses.BadJournal ends is = is
without_not_done a files first now statuses.NoFile ends is = is
without_not_done a files first now statuses.Rejected ends is = is
without_not_done a files first now statuses.StoreReadFault ends is = is
without_not_done a files first now statuses.StoreWriteFault ends is = is
without_not_done a files first now statuses.OutputFault ends is = is
without_not_done a files first now statuses.NoMemory ends is = is
without_not_done a files first now statuses.ScriptFault ends is = is
without_not_done a files first now statuses.ScriptTooLong ends is = is

pub unread_not_done : (new : Bool) (file : List ℕ) (first now : Option (List ℕ)) (status : Status) → EndsUnread new file first now status → IsDone status → ⊥
unread_not_done new file first now statuses.Done ends is = ends
unread_not_done new file first now statuses.SomeRefused ends is = ends
unread_not_done new file first now statuses.Usage ends is = is
unread_not_done new file first now statuses.BadJournal ends is = is
unread_not_done new file first now statuses.NoFile ends is = is
unread_not_done new file first now statuses.Rejected ends is = is
unread_not_done new file first now statuses.StoreReadFault ends is = is
unread_not_done new file first now statuses.StoreWriteFault ends is = is
unread_not_done new file first now statuses.OutputFault ends is = is
unread_not_done new file first now statuses.NoMemory ends is = is
unread_not_done new file first now statuses.ScriptFault ends is = is
unread_not_done new file first now statuses.ScriptTooLong ends is = is

named_accepted : {U : Type 0} (a : Asked) (d d' : Disk U) (script written : List ℕ) (left : Option (List ℕ)) (first now : Outlets) (status : Status) → first.written ≡ Some written → EndsNamed a d d' (Some script) left first now status → IsDone status → Accepted a d d' script left written first.taps now status
named_accepted a d d' script written left first now status tells (inl (same, w)) is = absurd (without_not_done a d.files first.written now.written status w.ends is)
named_accepted a d d' script written left first now status tells (inr (inl (same, u))) is = absurd (unread_not_done a.new u.file first.written now.written status u.ends is)
named_accepted a d d' script written left first now status tells (inr (inr r)) is = runs_accepted a r.file r.image d d' script written left first now status tells r.opens r.runs r.idle is

pub accepts : {U : Type 0} (a : Asked) (d d' : Disk U) (before left : Option (List ℕ)) (first now : Outlets) (status : Status) → EndsNamed a d d' before left first now status → Accepts (Some a) d d' before left first now status
accepts a d d' None left first now status ends = tt
accepts a d d' (Some script) left first now status ends = told first.written refl
  where
    told : (held : Option (List ℕ)) → first.written ≡ held → IfSome held (λ written. a.check ≡ false → IsDone status → Accepted a d d' script left written first.taps now status)
    told None tells = tt
    told (Some written) tells = λ unchecked. named_accepted a d d' script written left first now status tells ends
