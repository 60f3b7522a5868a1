-- What was planned, done in an image (own).
use Rattle.std.specs.Prelude.{◌≡◌, ◌<◌, ◌≤◌, ℕ, List, length}
use Rattle.cdf_format.specs.Chains.{next_of}
use Rattle.cdf_format.specs.Fields.{number}
use Rattle.cdf_format.specs.Index.{room_at, used_count}
use Rattle.cdf_format.specs.Records.{vxr_n_used_entries}
use Rattle.cdf_format.specs.IndexOf.{SaysEntry}
use Rattle.cdf_index.specs.Writing.{SaysUnused, entry_in}
use Rattle.cdf_cuts.specs.Planning.{Doing, rewrite, relink, release, discard, Rewrite}

-- a node says what it was to say, and -1 in the other entries that were used
pub record NodeSays (now : List ℕ) (r : Rewrite) : Type 0 where
  pub room_is : room_at now r.place ≡ r.room
  pub used_is : used_count now r.place ≡ length r.entries
  pub count_is : number now r.place vxr_n_used_entries ≡ length r.entries
  pub gone : (j : ℕ) → length r.entries ≤ j → j < r.used → j < r.room → SaysUnused now r.place j
  pub says : (j : ℕ) → j < length r.entries → SaysEntry now r.place j (entry_in r.entries j).first (entry_in r.entries j).last (entry_in r.entries j).place

-- of a record that is to be freed nothing is said
abbrev pub Done : List ℕ → Doing → Type 0
Done now (rewrite r) = NodeSays now r
Done now (relink place next) = next_of now place ≡ next
Done now (release place) = Unit {0}
Done now (discard place) = Unit {0}
