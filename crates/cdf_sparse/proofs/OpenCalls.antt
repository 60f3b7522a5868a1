-- What the calls by which records go come to, where later ones keep their numbers.
use Rattle.cdf_cuts.proofs.Common.{In, Leaf, List, None, Option, Some, [], ap, arith, refl, false, image_limit, index_at, inl, inr, leaves_of, length, lt-ltb, number, subst, suc, sym, ℕ, ◌*◌, ◌+◌, ◌-◌, ◌<◌, ◌∙◌, ◌≡◌, ◌≤◌, ◌∷◌, ◌++◌}
use Rattle.std.proofs.Common.{drop}
use Rattle.std.proofs.lemmas.List.{length-drop, length-take-le}
use Rattle.std.specs.Prelude.{max}
use Rattle.cdf_edits.proofs.Common.{Good, Kind, VariableShape, gave, record_bytes, shape, variables, vdr_vxr_head, vdrs, vvr_place, vxr_bytes}
use Rattle.cdf_edits.proofs.Edits.Common.{StandsAmong, fits, has}
use Rattle.cdf_edits.proofs.Edits.LeafPieces.{IsOneOf, find_covering, times_le}
use Rattle.cdf_edits.proofs.Edits.PlainLeaves.{leaves_ascend}
use Rattle.cdf_edits.proofs.Edits.StandsAmong.{in_middle}
use Rattle.cdf_edits.specs.Commands.Room.{widest}
use Rattle.cdf_edits.specs.Index.Grown.{new_room, with_leaf}
use Rattle.cdf_format.specs.Index.{leaf}
use Rattle.cdf_index.proofs.OneVariable.{among_all}
use Rattle.cdf_index.specs.Adding.{AddsLeaf, NodeTaken, leaf_acts}
use Rattle.cdf_index.specs.Order.{leaf_of}
use Rattle.cdf_index.specs.Replacing.{with_index}
use Rattle.cdf_index.specs.Sight.{seen}
use Rattle.cdf_index.specs.declared.nodes.Leaf.{Leaf as FoundLeaf}
use Rattle.cdf_model.specs.Limits.{record_number_limit}
use Rattle.cdf_puts.proofs.LeafCounts.{new_room_widest}
use Rattle.cdf_puts.proofs.LeafEdit.{body_long, plain_leaf}
use Rattle.cdf_puts.specs.Going.{GoesOn}
use Rattle.cdf_puts.specs.Steps.{IsBlockBody}
use Rattle.cdf_cuts.proofs.BlocksMoved.{times_add}
use Rattle.cdf_cuts.proofs.CutCalls as calls
use Rattle.cdf_cuts.proofs.LaterFound.{found_room}
use Rattle.cdf_cuts.specs.Cut.{IsCut}
use Rattle.cdf_cuts.specs.Moving.{IsLater, JoinsFront}
use Rattle.cdf_cuts.specs.Planning.{opening}
use Rattle.cdf_sparse.proofs.OpenCut.{goes_cut, long_cut}
use Rattle.cdf_sparse.proofs.OpenFirsts.{wide_left}
use Rattle.cdf_sparse.proofs.OpenNone.{opened_none}
use Rattle.cdf_sparse.proofs.OpenOne.{opened_one}
use Rattle.cdf_sparse.specs.Opening.{CutOpen, freed_opening, index_opened, later_records, opening_room}
use Rattle.cdf_format.specs.Shape.{is_compressed}

node_long : (b now : List ℕ) (room at wide : ℕ) → NodeTaken b now room at → room ≤ wide → length now ≤ length b + vxr_bytes wide
node_long b now room at wide n le = grind (arith, n, le)

-- a variable with another index stands where it stood
pub vdr_goes : {now : List ℕ} {kind : Kind} {before : List VariableShape} {own' : VariableShape} {after : List VariableShape} {vdr : ℕ} → StandsAmong now kind before own' after → own'.vdr ≡ vdr → In vdr (vdrs (variables (shape now)))
vdr_goes {now = now} {kind = kind} {before = before} {own' = own'} {after = after} {vdr = vdr} at is =
    let g = among_all now kind before own' after at.was in
    subst (λ (vs : List VariableShape). In vdr (vdrs vs)) (sym g.all) (subst (λ (v : ℕ). In v (vdrs (g.front ++ own' ∷ g.rest))) is (in_middle g.front own' g.rest))

-- what was found in an image that is the same is found in this one
pub found_there : (vdr last : ℕ) (later : Option FoundLeaf) {b x : List ℕ} {head : ℕ} → x ≡ b → head ≡ number b vdr vdr_vxr_head → IsLater last (leaves_of (index_at x head)) later → IsLater last (leaves_of (index_at b (number b vdr vdr_vxr_head))) later
found_there vdr last later same head_is found = subst (λ (ls : List Leaf). IsLater last ls later) (λ i. leaves_of (index_at (same i) (head_is i))) found

-- a leaf that was found in an image that is the same is found in this one
pub found_some : (vdr last : ℕ) (later : Option FoundLeaf) (leaf : FoundLeaf) → later ≡ Some leaf → {b x : List ℕ} {head : ℕ} → x ≡ b → head ≡ number b vdr vdr_vxr_head → IsLater last (leaves_of (index_at x head)) later → IsLater last (leaves_of (index_at b (number b vdr vdr_vxr_head))) (Some leaf)
found_some vdr last later leaf e {b = b} same head_is found = subst (IsLater last (leaves_of (index_at b (number b vdr vdr_vxr_head)))) e (found_there vdr last later same head_is found)

module _ {b : List ℕ} (good : Good b) {kind : Kind} {before : List VariableShape} {own : VariableShape} {after : List VariableShape} {vdr : ℕ} (among : StandsAmong b kind before own after) (is : own.vdr ≡ vdr) (unpacked : is_compressed b vdr ≡ false) where
  loose : is_compressed b own.vdr ≡ false
  loose = ap (is_compressed b) is ∙ unpacked

  index_there : index_at b (number b vdr vdr_vxr_head) ≡ own.index
  index_there = (calls.index_is b good among is).1

  size_own : {rec_bytes : ℕ} → rec_bytes ≡ record_bytes b vdr → rec_bytes ≡ record_bytes b own.vdr
  size_own size = size ∙ ap (record_bytes b) (sym is)

  module _ (last : ℕ) {later : Option FoundLeaf} (found : IsLater last (leaves_of (index_at b (number b vdr vdr_vxr_head))) later) where
    of_own : (o : Option FoundLeaf) → later ≡ o → IsLater last (leaves_of own.index) o
    of_own o e = subst (IsLater last (leaves_of own.index)) e (rw index_there at found)

    pub block_there : {rec_bytes : ℕ} → rec_bytes ≡ record_bytes b vdr → (leaf : FoundLeaf) → later ≡ Some leaf → leaf.at + (12 + (leaf.last + 1 - leaf.first) * rec_bytes) ≤ length b
    block_there size leaf e = rw (size_own size) (found_room good among loose leaf (of_own (Some leaf) e).0)

    -- the block and the node of a leaf that is divided have room
    module _ {rec_bytes first : ℕ} (size : rec_bytes ≡ record_bytes b vdr) (order : first ≤ last) (leaf : FoundLeaf) (e : later ≡ Some leaf) (begins : leaf.first < first) where
      old : Leaf
      old = seen leaf

      one : IsOneOf (leaves_of own.index) (seen leaf)
      one = (of_own (Some leaf) e).0

      ends : last < leaf.last
      ends = (of_own (Some leaf) e).1.later

      records_long : length (later_records b rec_bytes last (seen leaf)) ≡ (leaf.last - last) * rec_bytes
      records_long =
          let t = ends in
          let all = times_add (last + 1 - leaf.first) (leaf.last - last) rec_bytes in
          let fit = times_le (last + 1 - leaf.first + (leaf.last - last)) (leaf.last + 1 - leaf.first) rec_bytes (omega arith) in
          length-take-le ((leaf.last - last) * rec_bytes) (drop (leaf.at + vvr_place ((last + 1 - leaf.first) * rec_bytes)) b) (omega (arith, length-drop (leaf.at + vvr_place ((last + 1 - leaf.first) * rec_bytes)) b, block_there size leaf e))

      room_is : opening_room first last rec_bytes own.index ≡ max 28 (12 + (leaf.last - last) * rec_bytes) + vxr_bytes (widest own.index)
      room_is =
          let t = ends in
          let here : leaf_of last (leaves_of own.index) ≡ Some (seen leaf) = find_covering last 0 (suc record_number_limit) (leaves_of own.index) (leaves_ascend good among) (seen leaf) one (omega (arith, begins, order)) (omega arith) in
          rw (here, lt-ltb leaf.first first begins, lt-ltb last leaf.last t) refl

      module _ {mid body : List ℕ} {limit : ℕ} (room : length b + opening_room first last rec_bytes (index_at b (number b vdr vdr_vxr_head)) ≤ limit) (upto : limit ≤ image_limit) (short : length b ≤ image_limit) (c : IsCut b mid kind own (opening first last)) (says : IsBlockBody body (later_records b rec_bytes last (seen leaf))) where
        goes : GoesOn b mid kind before own (with_index own (index_opened own first last)) after (gave b (freed_opening own first last))
        goes = goes_cut good among order short c loose

        pub part_good : Good mid
        part_good = goes.good

        pub part_vdr : In vdr (vdrs (variables (shape mid)))
        part_vdr = vdr_goes goes.among is

        index_mid : index_at mid (number mid vdr vdr_vxr_head) ≡ index_opened own first last
        index_mid = (calls.index_is mid goes.good goes.among is).1

        enough : length mid + (8 + length body) + vxr_bytes (widest (index_opened own first last)) ≤ limit
        enough =
            let whole : length b + opening_room first last rec_bytes own.index ≤ limit = rw index_there at room in
            omega (arith, whole, room_is, long_cut good among order short c loose, body_long body (later_records b rec_bytes last (seen leaf)) says, records_long, wide_left first last own.index)

        pub part_room : length mid + (8 + length body) + vxr_bytes (widest (index_at mid (number mid vdr vdr_vxr_head))) ≤ limit
        part_room = rw index_mid enough

        pub open_divided : {now : List ℕ} → ((kind : Kind) (before : List VariableShape) (own : VariableShape) (after : List VariableShape) → StandsAmong mid kind before own after → own.vdr ≡ vdr → AddsLeaf mid now own (last + 1) leaf.last body) → CutOpen b now kind before own after first last
        open_divided {now = now} adds =
            let a = adds kind before (with_index own (index_opened own first last)) after goes.among is in
            let narrow = new_room_widest mid (shape mid).records 8 (last + 1) (index_opened own first last) (has goes.good goes.among).indexed.has_nodes (fits goes.good goes.among).1 in
            let short_now : length now ≤ image_limit = omega (arith, a.added.as_long, a.added.block.longest, node_long a.added.filled a.added.roomy (new_room (last + 1) (index_opened own first last)) a.at (widest (index_opened own first last)) a.added.node narrow, enough, upto) in
            let says_own = subst (λ (n : ℕ). IsBlockBody body (later_records b n last (seen leaf))) (size_own size) says in
            record {
              own' = with_index own (with_leaf (record { first = last + 1; last = leaf.last; place = a.place; packed = false }) a.at (index_opened own first last));
              takes = leaf_acts a.place (8 + length body) (new_room (last + 1) (index_opened own first last)) a.at;
              opened = opened_one good among order short c loose one (record { begins = begins; ends = ends }) says_own (plain_leaf a says_own) short_now;
            }

    -- the records of the block that was found, or nothing, where no leaf is divided
    module _ {first rec_bytes : ℕ} {mid : List ℕ} (size : rec_bytes ≡ record_bytes b vdr) (order : first ≤ last) (short : length b ≤ image_limit) (c : IsCut b mid kind own (opening first last)) where
      pub join_room : (leaf : FoundLeaf) → later ≡ Some leaf → leaf.at + (12 + (leaf.last + 1 - leaf.first) * rec_bytes) ≤ length mid
      join_room leaf e = omega (arith, block_there size leaf e, long_cut good among order short c loose)

      pub open_joined : {now : List ℕ} (leaf : FoundLeaf) → later ≡ Some leaf → first ≤ leaf.first → JoinsFront mid now rec_bytes first last (seen leaf) → CutOpen b now kind before own after first last
      open_joined {now = now} leaf e from joins =
          let o = of_own (Some leaf) e in
          record {
            own' = with_index own (index_opened own first last);
            takes = [];
            opened = opened_none good among order short c loose (inr (seen leaf, (o.0, (from, record { has_later = o.1; joins = subst (λ (n : ℕ). JoinsFront mid now n first last (seen leaf)) (size_own size) joins }))));
          }

      pub open_none : {now : List ℕ} → later ≡ None → now ≡ mid → CutOpen b now kind before own after first last
      open_none e still = record { own' = with_index own (index_opened own first last); takes = []; opened = opened_none good among order short c loose (inl (still, of_own None e)) }
