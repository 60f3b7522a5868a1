-- How many bytes a record may take in blocks that keep all rules.
use Rattle.std.specs.Prelude.{◌≡◌, ◌≤◌, ℕ, List, Bool, true}
use Rattle.std.specs.List.{flat_map}
use Rattle.cdf_format.specs.Rules.{Hold, Row}
use Rattle.cdf_structure.specs.Indexes.{block_rows, plain_rows}
use Rattle.cdf_structure.specs.declared.index_walk.Block.{Block}
use Rattle.cdf_structure.specs.declared.room.Room.{Room}
use Rattle.cdf_structure.specs.declared.room.Room.TheVariants.{AtMost, Just}

-- records of so many bytes fit, of a variable that is compressed or not
abbrev pub Fits : Room → Bool → ℕ → Type 0
Fits (AtMost most) compressed bytes = bytes ≤ most
Fits (Just size) compressed bytes = (compressed ≡ true) × (bytes ≡ size)

-- where something fits both, just what does fits this one
abbrev pub IsBoth : Room → Room → Room → Type 0
IsBoth one two both = (compressed : Bool) (bytes : ℕ) → Fits one compressed bytes → Fits two compressed bytes
    → Fits both compressed bytes × ((other : Bool) (more : ℕ) → Fits both other more → Fits one other more × Fits two other more)

-- a block that is not packed has room for its records where each takes at most so many bytes, as these do
abbrev pub IsPlainRoom : List ℕ → Block → ℕ → ℕ → Type 0
IsPlainRoom b block bytes most = (bytes ≤ most) × ((more : ℕ) → more ≤ most → Hold (plain_rows b more block))

-- where records fit, such rows hold; and these records fit
abbrev pub IsRoomOf : (Bool → ℕ → List Row) → Bool → ℕ → Room → Type 0
IsRoomOf rows compressed bytes room = Fits room compressed bytes × ((other : Bool) (more : ℕ) → Fits room other more → Hold (rows other more))

-- the room of a block
abbrev pub HasRoom : List ℕ → List ℕ → Block → Bool → ℕ → Room → Type 0
HasRoom b records block compressed bytes room = IsRoomOf (λ other more. block_rows b records other more block) compressed bytes room

-- the room of these blocks
abbrev pub HaveRoom : List ℕ → List ℕ → List Block → Bool → ℕ → Room → Type 0
HaveRoom b records blocks compressed bytes room = IsRoomOf (λ other more. flat_map (block_rows b records other more) blocks) compressed bytes room
