-- Where a run writes its replies, and the taps that it reports to (own).
use Rattle.std.specs.Prelude.{ℕ, List}
use Rattle.std.specs.declared.option.Option.{Option}
use Rattle.cdf_model.specs.Taps.{Tap}
use Rattle.cdf_tap.specs.Meanings.{Meaning, kinds_of}

-- what the sink holds, where it tells that, and what never changes of the taps
pub record Outlets : Type 0 where
  pub written : Option (List ℕ)
  pub taps : List Tap

-- the same, with the taps of a list
abbrev pub with_taps : Option (List ℕ) → List Meaning → Outlets
with_taps written taps = record { written = written; taps = kinds_of taps }
