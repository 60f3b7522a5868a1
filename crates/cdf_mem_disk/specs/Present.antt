-- The laws of a disk in memory on time: the present moment is one of those since an earlier one, and since now there is no other.
use Rattle.std.proofs.Common.{List, length, subst, sym, ℕ, ◌≤◌}
use Rattle.std.proofs.Math.Nat.{le_refl}
use Rattle.std.proofs.lemmas.List.{take_all}
use Rattle.cdf_journal.specs.Crashes.{Parts}
use Rattle.cdf_mem_disk.specs.Events.{Event, LeftSince, may_leave_after}

pub counts_present : (base : Parts) (events : List Event) (t : ℕ) (c : Parts) → t ≤ length events → may_leave_after base events c → LeftSince base events t c
counts_present base events t c le left = record {
  moment = length events;
  from = le;
  within = le_refl (length events);
  left = subst (λ (es : List Event). may_leave_after base es c) (sym (take_all (length events) events (le_refl (length events)))) left;
}

pub only_present : (base : Parts) (events : List Event) (c : Parts) → LeftSince base events (length events) c → may_leave_after base events c
only_present base events c s = subst (λ (es : List Event). may_leave_after base es c) (take_all s.moment events s.from) s.left
