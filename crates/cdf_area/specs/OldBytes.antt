-- Old bytes that are kept, so that writes can be taken back.
use Rattle.std.specs.Prelude.{ℕ, List, [], ◌∷◌, ◌+◌, ◌≤◌, length, take, drop}
use Rattle.std.specs.List.{All}
use Rattle.cdf_area.specs.declared.undo_log.Span.{Span}
use Rattle.cdf_base.specs.Bytes.{put}

-- bytes that stood at a place
pub record Old : Type 0 where
  pub place : ℕ
  pub bytes : List ℕ

-- what stood in each span, where the old bytes of all spans are joined end to end
unfoldable pub olds_of : List Span → List ℕ → List Old
olds_of [] saved = []
olds_of (span ∷ spans) saved = record { place = span.place; bytes = take span.count saved } ∷ olds_of spans (drop span.count saved)

-- the bytes after all that is kept was put back, the last first
unfoldable pub back : List Old → List ℕ → List ℕ
back [] bytes = bytes
back (old ∷ olds) bytes = put (back olds bytes) old.place old.bytes

-- it stood in the first n bytes
abbrev pub LiesBelow : ℕ → Old → Type 0
LiesBelow n old = old.place + length old.bytes ≤ n

abbrev pub AllLieBelow : ℕ → List Old → Type 0
AllLieBelow n olds = All (LiesBelow n) olds
