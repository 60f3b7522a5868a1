-- The block of a leaf of a variable of a good image: its type, and that no other leaf has its place.
use Rattle.cdf_blocks.proofs.Common.{Bool, In, IsOneOf, Leaf, List, arith, false, inl, inr, of_each, places_of, refl, suc, true, ℕ, ◌+◌, ◌-◌, ◌*◌, ◌==◌, ◌≡◌, ◌≢◌}
unfoldable use Rattle.cdf_blocks.proofs.Common.{leaves_of}
use Rattle.cdf_edits.proofs.Common.{Good, Kind, VariableShape, cvvr_type, plain_size, record_bytes, record_number_limit, shape, type_at, vvr_type}
use Rattle.cdf_edits.proofs.Edits.Common.{StandsAmong, behind_in, fits, has, no_block}
use Rattle.cdf_edits.proofs.Edits.LeafPieces.{InOrder, in_order, one_place, place_in}
use Rattle.cdf_edits.proofs.Edits.LeafRecords.{count_is}
use Rattle.cdf_edits.proofs.Edits.PlainLeaves.{leaves_apart, leaves_ascend}
use Rattle.cdf_edits.proofs.Edits.VariableCopied.{block_behind}
use Rattle.cdf_index.proofs.OwnRecords.{block_type}
use Rattle.cdf_index.proofs.PlainBlocks.{Named, leaves_named}
use Rattle.cdf_blocks.specs.Blocks.{LiesIn, type_of_block}

typed_by : (t : ℕ) (packed : Bool) → ((t ≡ vvr_type) × ((t == cvvr_type) ≡ packed)) → t ≡ type_of_block packed
typed_by t true (e, p) = absurd (clash t e p)
  where
    clash : (t : ℕ) → t ≡ vvr_type → (t == cvvr_type) ≡ true → ⊥
    clash t e p = let q = rw e at p in absurd cc
typed_by t false (e, p) = e

typed_packed : (t : ℕ) (packed : Bool) → t ≡ cvvr_type → (t == cvvr_type) ≡ packed → t ≡ type_of_block packed
typed_packed t true e p = e
typed_packed t false e p = let q = rw e at p in absurd cc

module _ {b : List ℕ} {kind : Kind} {before : List VariableShape} {own : VariableShape} {after : List VariableShape} (good : Good b) (at : StandsAmong b kind before own after) (l : Leaf) (one : IsOneOf (leaves_of own.index) l) where
  pub in_places : In l.place (places_of (leaves_of own.index))
  in_places = place_in (leaves_of own.index) l one

  pub block_in : In l.place (shape b).records
  block_in = behind_in good at l.place (block_behind own l.place in_places)

  pub block_typed : type_at b l.place ≡ type_of_block l.packed
  block_typed =
      let named = of_each (Named b (shape b).records) (leaves_of own.index) l (leaves_named b (shape b).records 8 own.index (has good at).indexed.has_nodes) one in
      elim (block_type b (shape b).records own.vdr (leaves_of own.index) (fits good at).2 l.place in_places) [
        | inl e ↦ typed_by (type_at b l.place) l.packed (e, named.1)
        | inr e ↦ typed_packed (type_at b l.place) l.packed e named.1
      ]

  pub no_vdr : l.place ≢ own.vdr
  no_vdr e = no_block good at (rw (← e) in_places)

  pub range_of : InOrder 0 (suc record_number_limit) l
  range_of = in_order 0 (suc record_number_limit) (leaves_of own.index) (leaves_ascend good at) l one

  -- some of its records have so many bytes
  pub size_is : (new : Leaf) → LiesIn l new.first new.last → plain_size b own.vdr new ≡ (new.last + 1 - new.first) * record_bytes b own.vdr
  size_is new lies = rw (count_is new (omega (arith, range_of.before, lies.ends)) lies.ordered) refl

  pub apart : (other : Leaf) → IsOneOf (leaves_of own.index) other → (other ≡ l → ⊥) → other.place ≢ l.place
  apart other i ne e = ne (one_place (leaves_of own.index) (leaves_apart good at) other l i one e)
