-- Nodes that stay but for their used entries.
use Rattle.cdf_leaves.proofs.Common.{AreTiles, FieldSet, In, Kept, List, NodeFits, NodeInside, StillSays, Widened, arith, counts, entries_beside, front_stays, inl, inr, length, number, room_at, room_beside, room_stays, same_node, size_at, size_beside, tile_lies, used_count, used_stays, vxr_n_used_entries, vxr_vxr_next, ℕ, ◌*◌, ◌+◌, ◌<◌, ◌≡◌, ◌≤◌}

-- a node is as it was but for its used entries
pub record Spares (mid now : List ℕ) (m : ℕ) : Type 0 where
  pub size_is : size_at now m ≡ size_at mid m
  pub room_is : room_at now m ≡ room_at mid m
  pub used_is : used_count now m ≡ used_count mid m
  pub count_is : number now m vxr_n_used_entries ≡ number mid m vxr_n_used_entries
  pub spare : (i : ℕ) → used_count mid m ≤ i → i < room_at mid m → StillSays mid now m i i

pub spares_then : (b mid now : List ℕ) (m : ℕ) → Spares b mid m → Spares mid now m → Spares b now m
spares_then b mid now m p q =
    let spare : (i : ℕ) → used_count b m ≤ i → i < room_at b m → StillSays b now m i i = λ i le lt f l o s. q.spare i (omega (arith, p.used_is)) (omega (arith, p.room_is)) f l o (p.spare i le lt f l o s) in
    grind (arith, spare)

pub fits_still : (mid now : List ℕ) (m : ℕ) → Spares mid now m → NodeFits mid m → NodeFits now m
fits_still mid now m s fits = (omega (arith, fits.0), omega (arith, fits.1))

pub spares_kept : (mid now : List ℕ) (m : ℕ) → Kept mid now m → NodeFits mid m → Spares mid now m
spares_kept mid now m k fits = let n = same_node mid now m k fits in record { size_is = n.size_is; room_is = n.room_is; used_is = n.used_is; count_is = n.count_is; spare = λ i le. n.entries i }

-- of which VXRnext was written
pub spares_linked : {b now : List ℕ} {m next : ℕ} → FieldSet b now m vxr_vxr_next next → Spares b now m
spares_linked {m = m} set =
    let size = size_beside set (omega arith) (omega arith) (inl (omega arith)) in
    let room = room_beside set (omega arith) (omega arith) (inl (omega arith)) in
    let count = set.past (m + 24) 4 (inr (omega arith)) in
    record { size_is = size; room_is = room; used_is = λ i. counts (count i) (room i) (size i); count_is = count; spare = λ i le lt. entries_beside set (omega arith) (omega arith) (inl (omega arith)) i }

-- one of whose used entries another Last was written
pub spares_widened : (mid now : List ℕ) (m i last : ℕ) → Widened mid now m i last → m + 28 ≤ length mid → i < used_count mid m → Spares mid now m
spares_widened mid now m i last w lies used = record {
  size_is = front_stays mid now m 28 (16 * room_at mid m) w.changed lies 0 8 (omega arith);
  room_is = room_stays mid now m (16 * room_at mid m) w.changed lies;
  used_is = used_stays mid now m (16 * room_at mid m) w.changed lies;
  count_is = front_stays mid now m 28 (16 * room_at mid m) w.changed lies 24 4 (omega arith);
  spare = λ j le lt. w.others j lt (λ e. absurd (omega arith));
}

-- where it stands
pub node_inside : (b records : List ℕ) (m : ℕ) → AreTiles b 8 (length b) records → In m records → NodeFits b m → NodeInside b m
node_inside b records m tiled i fits =
    let l = tile_lies b 8 (length b) records m tiled i in
    record { low = l.low; inside = l.high; room = omega (arith, l.high, fits.0); entries = fits.0; fits = fits.1 }
