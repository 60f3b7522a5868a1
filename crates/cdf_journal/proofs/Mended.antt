-- What a crash leaves while an open log is written into its file and shut.
use Rattle.std.proofs.Common.{List, [], ap, arith, drop, false, inl, inr, length, subst, sym, true, ℕ, ◌<◌, ◌∙◌, ◌∷◌, ◌≡◌, ◌≤◌, slice_index}
use Rattle.std.proofs.lemmas.Bool.{and_parts, cases_eq, eqb-true, ltb-true}
use Rattle.std.proofs.lemmas.Bool.Decides.{nat_tests}
use Rattle.std.specs.Prelude.{nat_lt, replicate, ◌&&◌, ◌==◌, Bool}
unfoldable use Rattle.cdf_base.specs.Bytes.{put}
use Rattle.cdf_journal.specs.Crashes.{InPart, Parts, Torn}
use Rattle.cdf_journal.specs.Log.{Body, PartlyFilled, filled, fits, is_open, recovered}
use Rattle.cdf_journal.specs.Stages.{IsOpen}
use Rattle.cdf_journal.specs.declared.disk.Part.TheVariants.{Log}
use Rattle.cdf_journal.proofs.FilledAgain.{again, fits_again, partly_all}
use Rattle.cdf_journal.proofs.Journalled.{never_open, recovers_again, recovers_open, recovers_shut}

module _ (main log : List ℕ) (body : Body) (o : IsOpen body log) (fit : fits (length main) body.new_length body.members ≡ true) where
  long : 8 < length log
  long = ltb-true 8 (length log) (and_parts (nat_lt 8 (length log)) (slice_index log 0 == 1) o.opened).0

  first : slice_index log 0 ≡ 1
  first = eqb-true (slice_index log 0) 1 (and_parts (nat_lt 8 (length log)) (slice_index log 0 == 1) o.opened).1

  pub says : recovered main log ≡ filled main body
  says = recovers_open main log body o fit

  pub while_filling : (c : Parts) → (c.log ≡ log) × PartlyFilled main body c.main → recovered c.main c.log ≡ recovered main log
  while_filling c p =
      let same = subst (IsOpen body) (sym p.0) o in
      recovers_again main c.main c.log body same.opened same.says fit p.1 ∙ sym says

  -- a log of which the first byte alone may be another
  same_log : (log c : List ℕ) → 8 < length log → Torn 0 1 log c → slice_index c 0 ≡ slice_index log 0 → c ≡ log
  same_log [] c lt t e = absurd (omega (arith, lt))
  same_log (y ∷ log) [] lt t e = let n = t.no_shorter in absurd (omega (arith, n))
  same_log (y ∷ log) (x ∷ c) lt t e = (λ i. e i ∷ t.after i)

  pub while_shutting : (c : Parts) → InPart Log (Torn 0 1) (record { main = filled main body; log = log }) c → recovered c.main c.log ≡ recovered main log
  while_shutting c t = elim (cases_eq (slice_index c.log 0) 1) [
    | inl e ↦
        let same = same_log log c.log long t.0 (e ∙ sym first) in
        let refit = fits_again main (filled main body) body fit (partly_all main body fit) in
        recovers_open c.main c.log body (subst (IsOpen body) (sym same) o) (subst (λ (m : List ℕ). fits (length m) body.new_length body.members ≡ true) (sym t.1) refit) ∙ ap (λ (m : List ℕ). filled m body) t.1 ∙ again main body fit ∙ sym says
    | inr ne ↦ recovers_shut c.main c.log (never_open c.log (λ e. absurd (ne e))) ∙ t.1 ∙ sym says
  ]

  pub shut_now : slice_index (put log 0 (0 ∷ [])) 0 ≡ 1 → ⊥
  unfolding put
  shut_now e = absurd (omega (arith, e))

  pub long_now : 8 ≤ length (put log 0 (0 ∷ []))
  unfolding put
  long_now = by log long
    where
      by : (log : List ℕ) → 8 < length log → 8 ≤ length (0 ∷ drop 1 log)
      by [] lt = absurd (omega (arith, lt))
      by (y ∷ log) lt = omega (arith, lt)

-- while a short log is made ready it is not open
pub while_readying : (log c : List ℕ) → length log ≤ 8 → Torn 0 8 log c → is_open c ≡ false
while_readying log c le t =
    let short : nat_lt 8 (length c) ≡ false = le-ltb' 8 (length c) (let n = t.no_longer in omega (arith, n, le)) in
    ap (λ (q : Bool). q && (slice_index c 0 == 1)) short
  where
    le-ltb' : (m n : ℕ) → n ≤ m → nat_lt m n ≡ false
    le-ltb' m n h = grind (arith, nat_tests)

-- and it is closed behind it
pub zeros_shut : (log : List ℕ) → slice_index (put log 0 (replicate 8 0)) 0 ≡ 1 → ⊥
unfolding put
zeros_shut log e = absurd (omega (arith, e))

pub zeros_long : (log : List ℕ) → 8 ≤ length (put log 0 (replicate 8 0))
unfolding put
zeros_long log = omega arith
