-- An entry that is put into a node or into a new one behind it, step by step (CDF Internal Format Description, "Variable Index Record"; own: where it goes).
use Rattle.std.specs.Prelude.{◌≡◌, ◌⊎◌, ◌<◌, ◌≤◌, ℕ, ◌+◌, ◌-◌, ◌^◌, max, List, [], ◌∷◌, length}
use Rattle.cdf_edits.specs.Space.Placing.{Fills}
use Rattle.cdf_edits.specs.Index.Grown.{new_entries}
use Rattle.cdf_format.specs.Chains.{next_of}
use Rattle.cdf_format.specs.Fields.{type_at, with_field}
use Rattle.cdf_format.specs.Index.{room_at, used_count}
use Rattle.cdf_format.specs.Records.{vdr_vxr_head, vdr_vxr_tail, vxr_vxr_next, vxr_bytes}
use Rattle.cdf_format.specs.RecordTypes.{vxr_type}
use Rattle.cdf_format.specs.Shape.{shape}
use Rattle.cdf_format.specs.Sound.{IsSound, NodeFits}
use Rattle.cdf_format.specs.Tiles.{In}
use Rattle.cdf_index.specs.Writing.{EntriesRead, Inserted, NodeWritten, Shortened}
use Rattle.cdf_index.specs.declared.descending.Spot.{Spot}
use Rattle.cdf_index.specs.declared.entries.Entry.{Entry}

-- A record was taken, and it is a node with these entries.
pub record NodeMade (b now : List ℕ) (room next : ℕ) (entries : List Entry) (at : ℕ) : Type 0 where
  pub taken : List ℕ
  pub fills : Fills b taken now (shape b) (shape now).records (shape now).unused (vxr_bytes room) at vxr_type
  pub longest : length now ≤ length b + vxr_bytes room
  pub written : NodeWritten taken now at room next entries

-- an entry may be put into a node, which was seen like this
pub record MayPut (b : List ℕ) (seen : Spot) : Type 0 where
  pub sound : IsSound b (shape b)
  pub there : In seen.place (shape b).records
  pub typed : type_at b seen.place ≡ vxr_type
  pub fits : NodeFits b seen.place
  pub room_is : seen.room ≡ room_at b seen.place
  pub used_is : seen.used ≡ used_count b seen.place
  pub next_is : seen.next ≡ next_of b seen.place
  pub most : seen.begun ≤ seen.used

-- the entries from a number on stand in a new node behind the full one, which ends with the new entry
pub record SplitMade (b now : List ℕ) (seen : Spot) (new : Entry) (at : ℕ) : Type 0 where
  pub behind : List Entry
  pub read : EntriesRead b seen.place seen.begun seen.used behind
  pub roomy : List ℕ
  pub made : NodeMade b roomy (max new_entries (seen.used - seen.begun)) seen.next behind at
  pub shortened : Shortened roomy now seen.place seen.used seen.begun new.first new.last new.place at

-- the new entry stands alone in a new node behind the full one
pub record ChainMade (b now : List ℕ) (seen : Spot) (new : Entry) (at : ℕ) : Type 0 where
  pub roomy : List ℕ
  pub made : NodeMade b roomy new_entries seen.next (new ∷ []) at
  pub linked : now ≡ with_field roomy seen.place vxr_vxr_next at
  pub small : at < 256 ^ vxr_vxr_next.width

-- the entry was put, and this is the new node, 0 for none
abbrev pub EntryPut : List ℕ → List ℕ → Spot → Entry → ℕ → Type 0
EntryPut b now seen new at =
    ((seen.used < seen.room) × (at ≡ 0) × Inserted b now seen.place seen.used seen.begun new.first new.last new.place)
    ⊎ ((seen.room ≤ seen.used) × (((seen.begun < seen.used) × SplitMade b now seen new at) ⊎ ((seen.used ≤ seen.begun) × ChainMade b now seen new at)))

-- An index has its first node, with one entry.
pub record IndexStarted (b now : List ℕ) (vdr : ℕ) (new : Entry) : Type 0 where
  pub at : ℕ
  pub roomy : List ℕ
  pub made : NodeMade b roomy new_entries 0 (new ∷ []) at
  pub linked : now ≡ with_field (with_field roomy vdr vdr_vxr_head at) vdr vdr_vxr_tail at
  pub small : at < 256 ^ vdr_vxr_head.width
