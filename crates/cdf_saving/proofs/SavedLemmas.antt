-- What a saving comes to.
use Rattle.std.proofs.Common.{Bool, Err, IsTrue, List, None, Option, ap, arith, false, inl, inr, length, length-append, refl, subst, sym, true, ℕ, ◌++◌, ◌+◌, ◌∙◌, ◌≡◌, ◌≤◌}
use Rattle.std.proofs.Math.Path.{transport}
use Rattle.std.specs.Prelude.{◌≢◌}
use Rattle.cdf_format.specs.Sealed.{sealed, trailer}
use Rattle.cdf_pages.proofs.Between.{between_same}
use Rattle.cdf_pages.proofs.Touched.{touches_weaker}
use Rattle.cdf_pages.specs.Saving.{Differs, FailsSaving, Holds, HoldsBetween, IsBetween, IsChangedRange, Touches, tail_bytes}
use Rattle.cdf_pages.specs.declared.save_error.SaveError.{SaveError}
use Rattle.cdf_pages.specs.declared.save_error.SaveError.TheVariants as errors
use Rattle.cdf_saving.specs.Saved.{EndsSaving, IsRewritten, Rewrites, TellsLeft}
use Rattle.cdf_saving.specs.Statuses.{status_of}
use Rattle.cdf_saving.specs.declared.notes.Left.{Left}
use Rattle.cdf_saving.specs.declared.status.Status.{Status}
use Rattle.cdf_saving.specs.declared.status.Status.TheVariants as statuses
use Rattle.cdf_store.specs.Disk.{Disk, file_of}

between_new : (old new : List ℕ) → IsBetween old new new
between_new old new = record { long = inr (omega arith); short = inr (omega arith); each = λ i lt. inr (lt, refl); grown = λ lt. absurd (omega (arith, lt)) }

module _ {U : Type 0} (end : List ℕ) (seal : Option (List ℕ)) (d d' now : Disk U) (is : tail_bytes seal ≡ trailer end) (same : d' ≡ now) where
  bytes_are : end ++ tail_bytes seal ≡ sealed end
  bytes_are = ap (λ (t : List ℕ). end ++ t) is

  -- only changed pages were written, which differ, and the checksum
  pub rewrites : (changed : ℕ → Bool) → ((number : ℕ) → IsTrue (changed number) → Differs (file_of d) end number) → Touches (IsChangedRange changed (length end) (length (tail_bytes seal))) d.touched now.touched → Rewrites (file_of d) end d d'
  rewrites changed differs written =
      subst (λ (x : Disk U). Rewrites (file_of d) end d x) (sym same) (touches_weaker (IsChangedRange changed (length end) (length (tail_bytes seal))) (IsRewritten (file_of d) end) d.touched now.touched each written)
    where
      long : length end + length (tail_bytes seal) ≡ length (sealed end)
      long = sym (length-append end (tail_bytes seal)) ∙ ap (λ (l : List ℕ). length l) bytes_are

      each : (range : ℕ × ℕ) → IsChangedRange changed (length end) (length (tail_bytes seal)) range → IsRewritten (file_of d) end range
      each range (inl page) = inl (page.0, differs page.0 page.1, page.2)
      each range (inr tail) = inr (tail.0, subst (λ (n : ℕ). range.0 + range.1 ≤ n) long tail.1)

  pub saved_done : (refused : Bool) (status : Status) → status ≡ status_of refused → Holds d (end ++ tail_bytes seal) now → Rewrites (file_of d) end d d' → EndsSaving refused end d d' status
  saved_done true status ends holds written = subst (λ (s : Status). EndsSaving true end d d' s) (sym ends) (refl, transport (λ i. Holds d (bytes_are i) (sym same i)) holds, written)
  saved_done false status ends holds written = subst (λ (s : Status). EndsSaving false end d d' s) (sym ends) (refl, transport (λ i. Holds d (bytes_are i) (sym same i)) holds, written)

  pub saved_in_part : HoldsBetween d (end ++ tail_bytes seal) now → HoldsBetween d (sealed end) d'
  saved_in_part holds = transport (λ i. HoldsBetween d (bytes_are i) (sym same i)) holds

  -- all was written
  pub saved_whole : Holds d (end ++ tail_bytes seal) now → HoldsBetween d (sealed end) d'
  saved_whole holds = record { bytes = sealed end; between = between_new (file_of d) (sealed end); holds = transport (λ i. Holds d (bytes_are i) (sym same i)) holds }

  -- and nothing
  pub saved_none : Holds d (file_of d) now → HoldsBetween d (sealed end) d'
  saved_none holds = record { bytes = file_of d; between = between_same (file_of d) (sealed end); holds = subst (Holds d (file_of d)) (sym same) holds }

  pub failed_between : (was_kept : Bool) (error : SaveError) → error ≡ errors.Failed was_kept → FailsSaving {T = Unit {0}} d (end ++ tail_bytes seal) now (Err error) → HoldsBetween d (sealed end) d'
  failed_between true error e fails = saved_none (subst (λ (x : SaveError). FailsSaving {T = Unit {0}} d (end ++ tail_bytes seal) now (Err x)) e fails)
  failed_between false error e fails = saved_in_part (subst (λ (x : SaveError). FailsSaving {T = Unit {0}} d (end ++ tail_bytes seal) now (Err x)) e fails)

-- ---- what is told of a saving that failed

pub none_left : (what : Option Left) (old new now : List ℕ) (status : Status) → TellsLeft what old new now status → status ≢ statuses.StoreWriteFault → what ≡ None
none_left what old new now statuses.StoreWriteFault told no_six = absurd (no_six refl)
none_left what old new now statuses.Done told no_six = told
none_left what old new now statuses.SomeRefused told no_six = told
none_left what old new now statuses.Usage told no_six = told
none_left what old new now statuses.BadJournal told no_six = told
none_left what old new now statuses.NoFile told no_six = told
none_left what old new now statuses.Rejected told no_six = told
none_left what old new now statuses.StoreReadFault told no_six = told
none_left what old new now statuses.OutputFault told no_six = told
none_left what old new now statuses.NoMemory told no_six = told
none_left what old new now statuses.ScriptFault told no_six = told
none_left what old new now statuses.ScriptTooLong told no_six = told
