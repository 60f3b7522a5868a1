-- One node whose record stays, and the entries behind those that it has.
use Rattle.cdf_index.proofs.Common.{Entry, Kept, List, NodeFits, StillSays, arith, entry_in, length, next_of, number, refl, room_at, size_at, unused_entry, used_count, vxr_n_used_entries, ℕ, ◌<◌, ◌≡◌, ◌≤◌}
use Rattle.std.proofs.lemmas.Option.{slice_get_past}

pub record SameNode (b now : List ℕ) (m : ℕ) : Type 0 where
  pub size_is : size_at now m ≡ size_at b m
  pub room_is : room_at now m ≡ room_at b m
  pub used_is : used_count now m ≡ used_count b m
  pub count_is : number now m vxr_n_used_entries ≡ number b m vxr_n_used_entries
  pub next_is : next_of now m ≡ next_of b m
  pub entries : (j : ℕ) → j < room_at b m → StillSays b now m j j

pub same_node : (b now : List ℕ) (m : ℕ) → Kept b now m → NodeFits b m → SameNode b now m
same_node b now m k fits = grind (arith, k, fits)

pub entry_past : (entries : List Entry) (i : ℕ) → length entries ≤ i → entry_in entries i ≡ unused_entry
entry_past entries i le = rw (slice_get_past entries i le) refl
