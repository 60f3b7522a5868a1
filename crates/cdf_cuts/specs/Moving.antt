-- Bytes that are moved to the front of an image, and the records of a block that close up so (own).
use Rattle.std.specs.Prelude.{◌≡◌, ◌⊎◌, ◌<◌, ◌≤◌, ℕ, ◌+◌, ◌-◌, ◌*◌, max, List, length, Some, None}
use Rattle.std.specs.declared.option.Option.{Option}
use Rattle.cdf_edits.specs.Edits.Standing.{IsOneOf, record_place}
use Rattle.cdf_edits.specs.Index.Blocks.{fallen}
use Rattle.cdf_format.specs.Bytes.{byte}
use Rattle.cdf_format.specs.Fields.{size_at}
use Rattle.cdf_format.specs.Index.{Leaf}
use Rattle.cdf_format.specs.Records.{vvr_place}
use Rattle.cdf_index.specs.Sight.{seen}
use Rattle.cdf_index.specs.declared.nodes.Leaf.{Leaf as FoundLeaf}

-- so many bytes from a place on stand at another one by now, which is no later, and all others stay
pub record Moved (b now : List ℕ) (from to n : ℕ) : Type 0 where
  pub as_long : length now ≡ length b
  pub moved : (i : ℕ) → i < n → byte now (to + i) ≡ byte b (from + i)
  pub others : (i : ℕ) → i < length b → (i < to) ⊎ (to + n ≤ i) → byte now i ≡ byte b i

-- a leaf has a record, or begins behind it, and has later ones
pub record HasLater (last : ℕ) (l : Leaf) : Type 0 where
  pub reaches : l.first ≤ last
  pub later : last < l.last

-- it was found, or none has
abbrev pub IsLater : ℕ → List Leaf → Option FoundLeaf → Type 0
IsLater last leaves None = (l : Leaf) → IsOneOf leaves l → HasLater last l → ⊥
IsLater last leaves (Some found) = IsOneOf leaves (seen found) × HasLater last (seen found)

-- the later records of a block join those before the first one that goes, or stand at its front
abbrev pub JoinsFront : List ℕ → List ℕ → ℕ → ℕ → ℕ → Leaf → Type 0
JoinsFront b now size first last l = Moved b now (l.place + vvr_place ((last + 1 - l.first) * size)) (l.place + vvr_place ((max first l.first - l.first) * size)) ((l.last - last) * size)

-- so it is in the one block that has later records; where there is none, no byte changes
pub record OneJoins (b now : List ℕ) (size first last : ℕ) (l : Leaf) : Type 0 where
  pub has_later : HasLater last l
  pub joins : JoinsFront b now size first last l

abbrev pub ClosesUp : List ℕ → List ℕ → ℕ → ℕ → ℕ → List Leaf → Type 0
ClosesUp b now size first last leaves = ((now ≡ b) × ((l : Leaf) → IsOneOf leaves l → HasLater last l → ⊥)) ⊎ ((l : Leaf) × (IsOneOf leaves l × OneJoins b now size first last l))

-- Of a block that stays, a record that stays is read by now where it fell to; the bytes before all records stay, and so do those behind them, and all bytes where no record goes.
pub record LeafStays (b now : List ℕ) (size first last : ℕ) (l : Leaf) : Type 0 where
  pub head : (i : ℕ) → i < vvr_place 0 → byte now (l.place + i) ≡ byte b (l.place + i)
  pub fallen_there : (j : ℕ) → l.first ≤ j → j ≤ l.last → (j < first) ⊎ (last < j) → (i : ℕ) → i < size → byte now (l.place + vvr_place ((fallen first last j - fallen first last l.first) * size) + i) ≡ byte b (record_place l size j + i)
  pub spare : (i : ℕ) → vvr_place ((fallen first last (l.last + 1) - fallen first last l.first) * size) ≤ i → i < size_at b l.place → byte now (l.place + i) ≡ byte b (l.place + i)
  pub apart : (l.last < first) ⊎ (last < l.first) → (i : ℕ) → i < size_at b l.place → byte now (l.place + i) ≡ byte b (l.place + i)
