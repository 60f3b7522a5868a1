-- How lines wait.
use Rattle.std.specs.Prelude.{ℕ, ◌+◌, ◌-◌, ◌≤◌, List, ◌∷◌, ◌++◌, map, length, take, drop, Some}
use Rattle.std.specs.declared.option.Option.{Option}
use Rattle.std.specs.List.{flat_map}
use Rattle.cdf_model.specs.Lines.{split}
use Rattle.cdf_lines.specs.declared.block.Place.{Place}
use Rattle.cdf_lines.specs.declared.block.Place.TheVariants.{Front, Behind}
use Rattle.cdf_lines.specs.Pending.{last_of}

-- a line, and the lines behind it
pub record Standing : Type 0 where
  pub line : Option (List ℕ)
  pub others : List (Option (List ℕ))

-- the lines that a newline ends, where none of them is too long
abbrev pub short_lines : List ℕ → List (Option (List ℕ))
short_lines text = map Some (split text).0

-- the line at a place
abbrev pub line_at : Option (List ℕ) → List ℕ → Place → Option (List ℕ)
line_at front behind Front = front
line_at front behind (Behind start end) = Some (take (end - start) (drop start behind))

-- how many bytes are in front of a place and its line
abbrev pub start_of : Place → ℕ
start_of Front = 0
start_of (Behind start end) = start

-- how many bytes end with the line at a place
abbrev pub end_of : Place → ℕ
end_of Front = 0
end_of (Behind start end) = end

-- how many bytes end with its newline
abbrev pub next_of : Place → ℕ
next_of Front = 0
next_of (Behind start end) = end + 1

-- the place is one of these bytes
pub record IsPlaceIn (behind : List ℕ) (place : Place) : Type 0 where
  pub order : start_of place ≤ end_of place
  pub inside : next_of place ≤ length behind

-- the line where a block stands, and then the others
abbrev pub lines_of : Standing → List (Option (List ℕ))
lines_of block = block.line ∷ block.others

-- the lines that are left of one block, and then those that wait
abbrev pub ready_of : Standing → List Standing → List (Option (List ℕ))
ready_of block waiting = block.others ++ flat_map lines_of waiting

-- There is room for what waits and for the line that has not ended. Each line took a byte, so that it has a number.
pub record HasRoom (given : ℕ) (ready : List (Option (List ℕ))) (rest : Option (List ℕ)) (taken waiting room : ℕ) : Type 0 where
  pub places : waiting + length (last_of rest) ≤ room
  pub bytes : given + length ready + length (last_of rest) ≤ taken
