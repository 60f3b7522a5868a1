-- What the reads come to by which the room of `del-recs` is found under a rule for missing records.
use Rattle.cdf_cuts.proofs.Common.{Bool, Leaf, List, Nodes, Option, ap, index_at, leaves_of, number, sym, true, ℕ, ◌*◌, ◌+◌, ◌∙◌, ◌≡◌, ◌≤◌}
use Rattle.cdf_edits.proofs.Common.{Good, Kind, VariableShape, is_sparse, record_bytes, variable_of, vdr_vxr_head}
use Rattle.cdf_edits.proofs.Edits.Common.{StandsAmong}
use Rattle.cdf_edits.proofs.Edits.PlainLeaves.{leaves_ascend}
use Rattle.cdf_edits.specs.Commands.Room.{cut_room, widest}
use Rattle.cdf_edits.specs.Index.Blocks.{extent_after}
use Rattle.cdf_index.proofs.Common.{leaf_of}
use Rattle.cdf_cuts.proofs.CutCalls as by
use Rattle.cdf_sparse_reads.proofs.OpeningRoom.{room_is}
use Rattle.cdf_sparse_reads.specs.OpeningRoom.{found_room, opens_in_part, without_record}

module _ {b : List ℕ} (good : Good b) {kind : Kind} {before : List VariableShape} {own : VariableShape} {after : List VariableShape} {vdr : ℕ} (among : StandsAmong b kind before own after) (is : own.vdr ≡ vdr) {x : List ℕ} {head : ℕ} (same : x ≡ b) (head_is : head ≡ number b vdr vdr_vxr_head) {rec_bytes : ℕ} (size : rec_bytes ≡ record_bytes b vdr) where
  index_same : index_at x head ≡ own.index
  index_same = (λ i. index_at (same i) (head_is i)) ∙ (by.index_is b good among is).1

  -- the room of one that was found
  of_found : (rec : ℕ) (in_part : Leaf → Bool) (out : Option Leaf → Option Leaf) (found : Option Leaf) {n : ℕ} → found ≡ out (leaf_of rec (leaves_of (index_at x head))) → n ≡ found_room in_part rec_bytes found → n ≡ found_room in_part (record_bytes b own.vdr) (out (leaf_of rec (leaves_of own.index)))
  of_found rec in_part out found found_is n_is =
      let size_own = size ∙ ap (record_bytes b) (sym is) in
      n_is ∙ (λ i. found_room in_part (size_own i) (found_is i)) ∙ ap (λ (nodes : Nodes). found_room in_part (record_bytes b own.vdr) (out (leaf_of rec (leaves_of nodes)))) index_same

  pub room_read : {first last end wide one two three : ℕ} (front back past : Option Leaf) → is_sparse (variable_of b own).sparse ≡ true → end ≡ extent_after (variable_of b own) first last → first ≤ last → wide ≡ widest (index_at x head)
      → front ≡ leaf_of first (leaves_of (index_at x head)) → back ≡ without_record first (leaf_of last (leaves_of (index_at x head))) → past ≡ without_record first (without_record last (leaf_of end (leaves_of (index_at x head))))
      → one ≡ found_room (opens_in_part first last end) rec_bytes front → two ≡ found_room (opens_in_part first last end) rec_bytes back → three ≡ found_room (opens_in_part first last end) rec_bytes past
      → 28 + 16 * wide + (one + two + three) ≡ cut_room (variable_of b own) own.index first last
  room_read {first} {last} {end} front back past rule end_is order wide_is front_is back_is past_is one_is two_is three_is =
      let in_part = opens_in_part first last end in
      let wide = wide_is ∙ ap widest index_same in
      let one = of_found first in_part (λ (o : Option Leaf). o) front front_is one_is in
      let two = of_found last in_part (without_record first) back back_is two_is in
      let three = of_found end in_part (λ (o : Option Leaf). without_record first (without_record last o)) past past_is three_is in
      (λ i. 28 + 16 * wide i + (one i + two i + three i)) ∙ sym (room_is (variable_of b own) rule first last order end end_is own.index (leaves_ascend good among))
