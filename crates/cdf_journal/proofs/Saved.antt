-- What a crash leaves at each step of a saving, as it is recovered.
use Rattle.std.proofs.Common.{List, ap, arith, inl, inr, length, subst, sym, true, ℕ, ◌∙◌, ◌≡◌}
use Rattle.std.specs.declared.option.Option.{Option}
use Rattle.cdf_journal.specs.Crashes.{Parts}
use Rattle.cdf_journal.specs.Log.{Body, PartlyFilled, filled, fits}
use Rattle.cdf_journal.specs.Stages.{AtRest, IsLog, IsOldOrNew, IsShut, IsShutOrOpen, IsSmall, Lies}
use Rattle.cdf_journal.proofs.FilledAgain.{again, fits_again, partly_all}
use Rattle.cdf_journal.proofs.Journalled.{first_is, is_long, recovers_again, recovers_open, recovers_shut, says_open}

module _ (main : List ℕ) (body : Body) (fit : fits (length main) body.new_length body.members ≡ true) where
  pub after_laying : (c : Parts) → IsShut main c → IsOldOrNew main (filled main body) c
  after_laying c s = inl (recovers_shut c.main c.log s.1 ∙ s.0)

  pub after_arming : (c : Parts) → IsShutOrOpen main body c → IsOldOrNew main (filled main body) c
  after_arming c s = elim s.1 [
    | inl shut ↦ inl (recovers_shut c.main c.log shut ∙ s.0)
    | inr opened ↦ inr (recovers_open c.main c.log body opened (subst (λ (m : List ℕ). fits (length m) body.new_length body.members ≡ true) (sym s.0) fit) ∙ ap (λ (m : List ℕ). filled m body) s.0)
  ]

  pub after_filling : (log : List ℕ) → IsSmall body → IsLog body 1 log → (c : Parts) → (c.log ≡ log) × PartlyFilled main body c.main → IsOldOrNew main (filled main body) c
  after_filling log small has c p =
      let o = says_open body c.log small (subst (IsLog body 1) (sym p.0) has) in
      inr (recovers_again main c.main c.log body o.opened o.says fit p.1)

  pub after_disarming : (c : Parts) → IsShutOrOpen (filled main body) body c → IsOldOrNew main (filled main body) c
  after_disarming c s = elim s.1 [
    | inl shut ↦ inr (recovers_shut c.main c.log shut ∙ s.0)
    | inr opened ↦
        let refit = fits_again main (filled main body) body fit (partly_all main body fit) in
        inr (recovers_open c.main c.log body opened (subst (λ (m : List ℕ). fits (length m) body.new_length body.members ≡ true) (sym s.0) refit) ∙ ap (λ (m : List ℕ). filled m body) s.0 ∙ again main body fit)
  ]

pub at_rest : {D : Type 0} (seen : D → Option Parts) (may_leave : D → Parts → Type 0) (disk : D) (main : List ℕ) (body : Body) → (lies : Lies seen may_leave disk main body 0) → AtRest seen may_leave disk (record { main = main; log = lies.log })
at_rest seen may_leave disk main body lies = record {
  settled = lies.settled;
  closed = λ e. let zero = first_is body 0 lies.log lies.has in absurd (omega (arith, e, zero));
  long = is_long body 0 lies.log lies.has;
}
