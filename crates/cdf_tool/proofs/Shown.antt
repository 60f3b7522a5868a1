-- A reply that shows the data set is written in parts.
use Rattle.cdf_tool.proofs.Common.{Appends, Appends-trans, AppendsFront, Counted, CountedIn, Counts, Err, IsFront, List, Ok, OnOk, Option, Result, Status, StopsReply, Tap, WrotePart, Wrote, Outlets, [], ap, append-nil, append_assoc, arith, codes, counts, end_text, framed, inl, inr, refl, status_of_walk, subst, sym, ℕ, ◌++◌, ◌<◌, ◌∙◌, ◌≡◌}
use Rattle.std.specs.Fmt.{decimal}
use Rattle.std.specs.Prelude.{IfErr, OnErr}
use Rattle.cdf_base.specs.Causes.{HasCauseOf}
use Rattle.cdf_model.specs.Texts.{done_text, newline}
use Rattle.cdf_model.specs.declared.answer.Reply.TheVariants.{Plain}
use Rattle.cdf_store.proofs.Fronts.{IsFront-refl, IsFront-trans, front_after}
use Rattle.cdf_saving.specs.declared.status.Status.TheVariants as statuses
use Rattle.cdf_walk.specs.declared.error.WalkError.{WalkError}
use Rattle.cdf_walk.specs.declared.error.WalkError.TheVariants as errors
use Rattle.cdf_tool.proofs.CountLemmas.{counts_stay}

abbrev first_line : ℕ → List ℕ
first_line n = done_text n Plain

framed_is : (n : ℕ) (text : List ℕ) → first_line n ++ (text ++ end_text n) ≡ framed n text
framed_is n text =
    let rest = text ++ end_text n in
    append_assoc (decimal n) (codes " ok" ++ newline) rest ∙ ap (λ l. decimal n ++ l) (append_assoc (codes " ok") newline rest)

first_is_front : (n : ℕ) (text : List ℕ) → IsFront (first_line n) (framed n text)
first_is_front n text = (text ++ end_text n, framed_is n text)

-- a front of a text, behind the first line
front_within : (n : ℕ) (part text : List ℕ) → IsFront part text → IsFront (first_line n ++ part) (framed n text)
front_within n part text (rest, is) =
    (rest ++ end_text n, append_assoc (first_line n) part (rest ++ end_text n) ∙ ap (λ l. first_line n ++ l) (sym (append_assoc part rest (end_text n)) ∙ ap (λ l. l ++ end_text n) is) ∙ framed_is n text)

-- the whole reply behind what was gathered
all_is : (held text : List ℕ) (n : ℕ) → ((held ++ first_line n) ++ text) ++ end_text n ≡ held ++ framed n text
all_is held text n =
    append_assoc (held ++ first_line n) text (end_text n) ∙ append_assoc held (first_line n) (text ++ end_text n) ∙ ap (λ l. held ++ l) (framed_is n text)

-- ---- the first line

module _ (was now : Option (List ℕ)) (held reply : List ℕ) where
  -- what was gathered was written in part
  pub held_cut : AppendsFront was now held → WrotePart was now held reply statuses.OutputFault
  held_cut part = ([], (reply, refl), subst (λ l. AppendsFront was now l) (sym (append-nil held)) part)

  -- or whole, and then there was no memory
  pub held_only : Appends was now held → WrotePart was now held reply statuses.NoMemory
  held_only writes = ([], (reply, refl), subst (λ l. Appends was now l) (sym (append-nil held)) writes)

  -- and then a part of the line
  pub line_cut : (then : Option (List ℕ)) → Appends was then held → AppendsFront then now reply → WrotePart was now held reply statuses.OutputFault
  line_cut then writes part = (reply, IsFront-refl reply, front_after was then now held reply writes part)

-- what was written of the first line was written of the reply
pub begun_part : (was now : Option (List ℕ)) (held text : List ℕ) (n : ℕ) (status : Status) → WrotePart was now held (first_line n) status → WrotePart was now held (framed n text) status
begun_part was now held text n status (part, front, wrote) = (part, IsFront-trans part (first_line n) (framed n text) front (first_is_front n text), wrote)

-- ---- the text

module _ (was then now : Option (List ℕ)) (held text : List ℕ) (n : ℕ) (begun : Appends was then (held ++ first_line n)) where
  text_wrote : (part : List ℕ) → Appends then now part → Appends was now (held ++ (first_line n ++ part))
  text_wrote part writes = subst (λ l. Appends was now l) (append_assoc held (first_line n) part) (Appends-trans was then now (held ++ first_line n) part begun writes)

  -- a front of it was written
  pub text_part : (error : WalkError) (status : Status) → status ≡ status_of_walk error → AppendsFront then now text → WrotePart was now held (framed n text) status
  text_part error status is (part, front, writes) = subst (λ (s : Status). WrotePart was now held (framed n text) s) (sym is) (first_line n ++ part, front_within n part text front, by error)
    where
      all : Appends was now (held ++ (first_line n ++ part))
      all = text_wrote part writes

      by : (e : WalkError) → Wrote was now (held ++ (first_line n ++ part)) (status_of_walk e)
      by errors.SinkFault = (held ++ (first_line n ++ part), IsFront-refl (held ++ (first_line n ++ part)), all)
      by errors.Fault = all
      by errors.NoMemory = all

  -- ---- the last line

  module _ (after : Option (List ℕ)) (last : List ℕ) (is : last ≡ end_text n) (shown : Appends then now text) where
    before_last : Appends was now ((held ++ first_line n) ++ text)
    before_last = Appends-trans was then now (held ++ first_line n) text begun shown

    pub all_written : {T E : Type 0} (r : Result T E) → OnOk r (Appends now after last) → OnOk r (Appends was after (held ++ framed n text))
    all_written (Ok value) writes = subst (λ l. Appends was after l) (ap (λ l. ((held ++ first_line n) ++ text) ++ l) is ∙ all_is held text n) (Appends-trans was now after ((held ++ first_line n) ++ text) last before_last writes)
    all_written (Err error) writes = tt

    pub last_cut : {T : Type 0} (r : Result T Status) → OnErr r (AppendsFront now after last) → IfErr r (λ status. status ≡ statuses.OutputFault) → IfErr r (Wrote was after (held ++ framed n text))
    last_cut (Ok value) part status = tt
    last_cut (Err error) part status =
        subst (λ (s : Status). Wrote was after (held ++ framed n text) s) (sym status)
        (subst (λ l. AppendsFront was after l) (ap (λ l. ((held ++ first_line n) ++ text) ++ l) is ∙ all_is held text n) (front_after was now after ((held ++ first_line n) ++ text) last before_last part))

    -- then the whole reply is the part that was written
    pub last_part : {T : Type 0} (r : Result T Status) → OnErr r (AppendsFront now after last) → IfErr r (λ status. status ≡ statuses.OutputFault) → IfErr r (WrotePart was after held (framed n text))
    last_part (Ok value) part status = tt
    last_part (Err error) part status = (framed n text, IsFront-refl (framed n text), last_cut {T = Unit {0}} (Err error) part status)

-- ---- a report

-- it stopped before its last line
pub report_part : (first now : Outlets) (held reply : List ℕ) (kept : List Tap) (status : Status) → now.taps ≡ first.taps → WrotePart first.written now.written held reply status → StopsReply first now held kept reply status
report_part first now held reply kept status same wrote = inl (same, wrote)

-- or at it
pub report_last : {T : Type 0} (first now : Outlets) (held reply : List ℕ) (kept : List Tap) (r : Result T Status) → now.taps ≡ kept → IfErr r (Wrote first.written now.written (held ++ reply)) → IfErr r (StopsReply first now held kept reply)
report_last first now held reply kept (Ok value) left wrote = tt
report_last first now held reply kept (Err status) left wrote = inr (left, wrote)

-- ---- what it counts

pub walk_counted : {T : Type 0} (error : WalkError) (status : Status) (r o s r' o' : ℕ) → status ≡ status_of_walk error → HasCauseOf {T = T} errors.Fault r r' (Err error) → HasCauseOf {T = T} errors.SinkFault o o' (Err error) → Counted (counts r 0 o s) (counts r' 0 o' s) status
walk_counted {T} error status r o s r' o' is area sink = subst (λ (x : Status). Counted (counts r 0 o s) (counts r' 0 o' s) x) (sym is) (by error area sink)
  where
    by : (e : WalkError) → HasCauseOf {T = T} errors.Fault r r' (Err e) → HasCauseOf {T = T} errors.SinkFault o o' (Err e) → Counted (counts r 0 o s) (counts r' 0 o' s) (status_of_walk e)
    by errors.SinkFault a k = (refl, a.later, k.failed refl)
    by errors.Fault a k =
        let later = k.later in
        let not_less : o < o' → ⊥ = λ less. cc (k.counted less) in
        let same : o' ≡ o = omega (arith, later, not_less) in
        (λ i. counts r' 0 (same i) s, a.failed refl)
    by errors.NoMemory a k =
        let later = a.later in
        let more = k.later in
        let not_less : r < r' → ⊥ = λ less. cc (a.counted less) in
        let not_more : o < o' → ⊥ = λ less. cc (k.counted less) in
        counts_stay r 0 o s r' 0 o' s (omega (arith, later, not_less)) refl (omega (arith, more, not_more)) refl

-- no count rose before
pub counted_in_on : {T : Type 0} (c c' now : Counts) (r : Result T Status) → c' ≡ c → CountedIn c' now r → CountedIn c now r
counted_in_on c c' now r same counted = subst (λ (x : Counts). CountedIn x now r) same counted
