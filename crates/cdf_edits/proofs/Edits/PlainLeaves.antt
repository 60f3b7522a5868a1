-- The leaves of a variable of a good image that is not compressed: no block is packed, each has room for its records, and no two stand at one place.
use Rattle.cdf_edits.proofs.Common.{BlockFits, Each, Each-split, Good, Kind, Leaf, LeafFits, List, Shape, VariableShape, [], ap, arith, false, flat_map, good_by_its_shape, is_a-type, is_compressed, leaves_of, record_bytes, record_number_limit, shape, size_at, subst, suc, times, type_at, variable_records, variables, vdrs, vvr_type, ℕ, ◌*◌, ◌+◌, ◌-◌, ◌∙◌, ◌∷◌, ◌≡◌, ◌≤◌}
use Rattle.cdf_edits.proofs.Edits.Common.{Ascending, IsRuled, StandsAmong, all_ruled, count_is, fits, has, kind_times, of_kind, owned-times, places_of, sound, times-append, times-three}
use Rattle.cdf_edits.proofs.Edits.LeafPieces.{IsOneOf, PlacedApart, in_order, of_each}
use Rattle.cdf_edits.proofs.Edits.LeavesOrder.{index_ascends}
use Rattle.cdf_edits.proofs.Edits.PlainVariables.{IsPlainBlock, IsUncompressed, is_uncompressed}

-- a block with its records
pub record PlainLeaf (b : List ℕ) (size : ℕ) (l : Leaf) : Type 0 where
  pub plain : l.packed ≡ false
  pub typed : type_at b l.place ≡ vvr_type
  pub ordered : l.first ≤ l.last
  pub small : l.last ≤ record_number_limit
  pub room : 12 + (l.last + 1 - l.first) * size ≤ size_at b l.place

module _ {b : List ℕ} {kind : Kind} {before : List VariableShape} {own : VariableShape} {after : List VariableShape} (good : Good b) (at : StandsAmong b kind before own after) where
  abbrev s : Shape
  s = shape b

  pub own_rules : IsRuled b s.records own
  own_rules =
      let image = good_by_its_shape b good in
      let all = all_ruled b s.records (vdrs (variables s)) (variables s) image.of_variables image.indexes in
      (Each-split (IsRuled b s.records) before (own ∷ after) (subst (Each (IsRuled b s.records)) at.was (of_kind (IsRuled b s.records) kind s all))).1.0

  pub leaves_ascend : Ascending 0 (suc record_number_limit) (leaves_of own.index)
  leaves_ascend = index_ascends b s.records own.vdr own.index own_rules.1

  pub uncompressed : is_compressed b own.vdr ≡ false → IsUncompressed b s.records own
  uncompressed loose = is_uncompressed own (has good at) (fits good at) own_rules.1 loose

  pub plain_leaf : is_compressed b own.vdr ≡ false → (l : Leaf) → IsOneOf (leaves_of own.index) l → PlainLeaf b (record_bytes b own.vdr) l
  plain_leaf loose l i =
      let leaves = leaves_of own.index in
      let is = of_each (IsPlainBlock b s.records) leaves l (uncompressed loose).plain_blocks i in
      let o = in_order 0 (suc record_number_limit) leaves leaves_ascend l i in
      let small : l.last ≤ record_number_limit = omega (arith, o.before) in
      let fit : BlockFits b own.vdr l false = subst (BlockFits b own.vdr l) is.1 (of_each (LeafFits b s.records own.vdr) leaves l (fits good at).2 i).1 in
      record { plain = is.1; typed = is_a-type b s.records vvr_type l.place is.0; ordered = o.ordered; small = small; room = subst (λ (n : ℕ). 12 + n * record_bytes b own.vdr ≤ size_at b l.place) (count_is l small o.ordered) fit }

  -- ---- that no two stand at one place

  blocks_times : (m : ℕ) → times m (places_of (leaves_of own.index)) ≤ times m (flat_map variable_records (own ∷ []))
  blocks_times m = grind (arith, times-append)

  pub leaves_apart : PlacedApart (leaves_of own.index)
  leaves_apart m =
      let parts = ap (λ (vs : List VariableShape). times m (flat_map variable_records vs)) at.was ∙ times-three variable_records m before (own ∷ []) after in
      omega (arith, blocks_times m, parts, kind_times kind s m, owned-times b s m, (sound good at).not_twice m)
