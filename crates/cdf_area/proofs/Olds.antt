-- The flat form of the old bytes: spans, and the bytes of all of them joined end to end.
use Rattle.std.proofs.Common.{◌≡◌, ◌∙◌, ℕ, ◌+◌, ◌-◌, ◌≤◌, List, [], ◌∷◌, ◌++◌, length, take, drop, sym, ap, ap₂, arith, Some}
use Rattle.cdf_base.specs.Bytes.{put}
use Rattle.std.specs.List.{sum_by}
use Rattle.std.proofs.lemmas.List.{take_all, take-append-le, drop-append-le, take-append-drop, length-take-le, length-drop, nil_from_length}
use Rattle.std.proofs.lemmas.List.Elements.{All-pop}
use Rattle.std.proofs.lemmas.List.Sums.{sum_by-cons, sum_by_push}
use Rattle.cdf_area.specs.declared.undo_log.Span.{Span}
use Rattle.cdf_area.specs.OldBytes.{Old, olds_of, AllLieBelow, LiesBelow, back}
use Rattle.cdf_area.proofs.Backs.{back-push}

-- how many bytes the spans have
abbrev pub total : List Span → ℕ
total spans = sum_by (λ span. span.count) spans

-- one more span, and its bytes
pub olds_of-push : (spans : List Span) (saved : List ℕ) (span : Span) (bytes : List ℕ) → total spans ≡ length saved → span.count ≡ length bytes
    → olds_of (spans ++ span ∷ []) (saved ++ bytes) ≡ olds_of spans saved ++ record { place = span.place; bytes = bytes } ∷ []
unfolding olds_of
olds_of-push [] saved span bytes whole same =
    let none : saved ≡ [] = nil_from_length saved (sym whole) in
    let all : take span.count bytes ≡ bytes = take_all span.count bytes (omega arith) in
    rw none (ap (λ (l : List ℕ). record { place = span.place; bytes = l } ∷ []) all)
olds_of-push (first ∷ spans) saved span bytes whole same =
    let sums : total (first ∷ spans) ≡ first.count + total spans = sum_by-cons (λ s. s.count) first spans in
    let fits : first.count ≤ length saved = omega arith in
    let rest : total spans ≡ length (drop first.count saved) = omega (arith, length-drop first.count saved) in
    ap₂ (λ (l : List ℕ) (olds : List Old). record { place = first.place; bytes = l } ∷ olds)
    (take-append-le first.count saved bytes fits)
    (ap (olds_of (spans ++ span ∷ [])) (drop-append-le first.count saved bytes fits) ∙ olds_of-push spans (drop first.count saved) span bytes rest same)

-- the last span is put back with these bytes, and then the others
pub record LastPutBack (spans less : List Span) (span : Span) (saved : List ℕ) (from n : ℕ) (bytes : List ℕ) : Type 0 where
  pub whole : total less ≡ length (take from saved)
  pub room : span.place + length bytes ≤ n
  pub below : AllLieBelow n (olds_of less (take from saved))
  pub leads : (b : List ℕ) → back (olds_of less (take from saved)) (put b span.place bytes) ≡ back (olds_of spans saved) b

-- `slice` is `saved`, as a slice is taken of it
pub olds_of-pop : (spans less : List Span) (span : Span) (saved slice : List ℕ) (from n : ℕ) → spans ≡ less ++ span ∷ [] → slice ≡ saved → from ≡ length saved - span.count
    → total spans ≡ length saved → AllLieBelow n (olds_of spans saved) → LastPutBack spans less span saved from n (take (length slice - from) (drop from slice))
olds_of-pop spans less span saved slice from n e same start joined below =
    let sums : total spans ≡ total less + span.count = ap total e ∙ sum_by_push (λ s. s.count) less span in
    let bytes = take (length slice - from) (drop from slice) in
    let all : bytes ≡ drop from saved = rw same (take_all (length saved - from) (drop from saved) (omega (arith, length-drop from saved))) in
    let front : total less ≡ length (take from saved) = omega (arith, length-take-le from saved (omega arith)) in
    let last : span.count ≡ length bytes = omega (arith, ap length all, length-drop from saved) in
    let old : Old = record { place = span.place; bytes = bytes } in
    let parts : olds_of spans saved ≡ olds_of less (take from saved) ++ old ∷ [] =
    ap₂ olds_of e (sym (take-append-drop from saved) ∙ ap (λ (l : List ℕ). take from saved ++ l) (sym all)) ∙ olds_of-push less (take from saved) span bytes front last in
    let lie = All-pop (LiesBelow n) (olds_of spans saved) (olds_of less (take from saved)) (Some old) parts below in
    record {
      whole = front;
      room = lie.1;
      below = lie.0;
      leads = λ b. sym (ap (λ (olds : List Old). back olds b) parts ∙ back-push (olds_of less (take from saved)) old b);
    }
