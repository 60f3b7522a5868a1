-- What the reads come to by which the room of `del-recs` is found.
use Rattle.cdf_cuts.proofs.Common.{List, None, Option, Some, ap, arith, image_limit, index_at, leaves_of, length, number, option_map, sym, ℕ, ◌*◌, ◌+◌, ◌∙◌, ◌≡◌, ◌≤◌}
use Rattle.cdf_model.specs.declared.kinds.Sparse.TheVariants.{NoRule}
use Rattle.cdf_edits.proofs.Common.{Good, Kind, VariableShape, record_bytes, variable_of, vdr_vxr_head}
use Rattle.cdf_edits.proofs.Edits.Common.{StandsAmong}
use Rattle.cdf_edits.proofs.Edits.PlainLeaves.{leaves_ascend}
use Rattle.cdf_edits.specs.Commands.Room.{cut_room, widest}
use Rattle.cdf_index.proofs.Common.{leaf_of}
use Rattle.cdf_index.specs.Sight.{seen}
use Rattle.cdf_index.specs.declared.nodes.Leaf.{Leaf as FoundLeaf}
use Rattle.cdf_puts.proofs.PutBytes.{found_covering}
use Rattle.cdf_cuts.proofs.ClosingRoom.{room_is}
use Rattle.cdf_cuts.proofs.SmallLeaves.{leaf_in_order, records_small}
use Rattle.cdf_cuts.proofs.CutCalls as by
use Rattle.cdf_cuts.specs.ClosingRoom.{IsSmall, back_room, front_room}

module _ {b : List ℕ} (good : Good b) {kind : Kind} {before : List VariableShape} {own : VariableShape} {after : List VariableShape} {vdr : ℕ} (among : StandsAmong b kind before own after) (is : own.vdr ≡ vdr) {x : List ℕ} {head : ℕ} (same : x ≡ b) (head_is : head ≡ number b vdr vdr_vxr_head) {rec_bytes : ℕ} (size : rec_bytes ≡ record_bytes b vdr) where
  index_same : index_at x head ≡ own.index
  index_same = (λ i. index_at (same i) (head_is i)) ∙ (by.index_is b good among is).1

  size_own : rec_bytes ≡ record_bytes b own.vdr
  size_own = size ∙ ap (record_bytes b) (sym is)

  pub small : (short : length b ≤ image_limit) (rec : ℕ) (found : Option FoundLeaf) → option_map seen found ≡ leaf_of rec (leaves_of (index_at x head)) → IsSmall rec_bytes found
  small short rec None e = tt
  small short rec (Some l) e =
      let i = (found_covering rec (leaves_of own.index) (seen l) (sym (rw index_same at e))).0 in
      let o = leaf_in_order good among (seen l) i in
      (o.ordered, omega (arith, o.before), rw size_own (records_small good among (seen l) i short))

  pub room_read : {first last wide front back : ℕ} (found found' : Option FoundLeaf) → (variable_of b own).sparse ≡ NoRule → first ≤ last → wide ≡ widest (index_at x head) → option_map seen found ≡ leaf_of first (leaves_of (index_at x head)) → option_map seen found' ≡ leaf_of last (leaves_of (index_at x head))
      → front ≡ front_room first last rec_bytes (option_map seen found) → back ≡ back_room first last rec_bytes (option_map seen found') → 28 + 16 * wide + (front + back) ≡ cut_room (variable_of b own) own.index first last
  room_read {first} {last} found found' free order wide_is found_is found_is' front_is back_is =
      let one = wide_is ∙ ap widest index_same in
      let two = front_is ∙ (λ i. front_room first last (size_own i) (found_is i)) ∙ ap (λ n. front_room first last (record_bytes b own.vdr) (leaf_of first (leaves_of n))) index_same in
      let three = back_is ∙ (λ i. back_room first last (size_own i) (found_is' i)) ∙ ap (λ n. back_room first last (record_bytes b own.vdr) (leaf_of last (leaves_of n))) index_same in
      (λ i. 28 + 16 * one i + (two i + three i)) ∙ sym (room_is (variable_of b own) free first last order own.index (leaves_ascend good among))
