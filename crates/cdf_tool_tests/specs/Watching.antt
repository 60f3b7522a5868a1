-- A tap that marks each event that it is shown (own).
use Rattle.std.specs.Prelude.{ℕ, List, [], ◌∷◌, ◌++◌, ◌==◌, length}
use Rattle.cdf_model.specs.Taps.{Tap}

-- its text has one byte for each event, and it comes to its end at the event of a number
abbrev pub watcher : List ℕ → ℕ → ℕ → Tap
watcher name mark last = record {
  name = name;
  first = [];
  after = λ state event. state ++ mark ∷ [];
  text = λ state. state;
  is_final = λ state. length state == last;
}
