-- Records were cut out of the index of a variable, and later ones join in their block: all that a command leaves of the image but MaxRec.
use Rattle.cdf_cuts.proofs.Common.{Each, In, Kept, Leaf, List, arith, false, image_limit, inl, inr, leaves_of, length, nat_tests, number, places_of, true, size_at, subst, suc, sym, tile_lies, ℕ, ◌*◌, ◌+◌, ◌-◌, ◌<◌, ◌∙◌, ◌≡◌, ◌≢◌, ◌≤◌, ◌⊎◌}
use Rattle.std.specs.Prelude.{max}
use Rattle.cdf_edits.proofs.Common.{Good, Kind, VariableShape, record_bytes, record_number_limit, shape, tiles_lie_apart, vvr_place}
use Rattle.cdf_edits.proofs.Edits.Common.{StandsAmong, sound, times-in}
use Rattle.cdf_edits.proofs.Edits.LeafPieces.{IsOneOf, each_of, place_in, times_le}
use Rattle.cdf_edits.proofs.Edits.PlainLeaves.{PlainLeaf, leaves_apart, leaves_ascend, own_rules, plain_leaf}
use Rattle.cdf_edits.proofs.Edits.VariableCopied.{block_behind}
use Rattle.cdf_format.proofs.BytesLemmas.{type_kept}
use Rattle.cdf_index.proofs.Common.{behind_in, size_kept}
use Rattle.cdf_index.proofs.LeafRules.{index_order}
use Rattle.cdf_index.specs.Order.{InOrder}
use Rattle.cdf_cuts.proofs.BlocksMoved.{leaf_stays, times_add}
use Rattle.cdf_cuts.proofs.ClosedUp.{fallen_high, fallen_rises}
use Rattle.cdf_cuts.proofs.CutFreed.{own_most, plain_left}
use Rattle.cdf_cuts.proofs.CutGoes.{block_stays, cut_goes, freed_now, long_now, max_rec_now, nodes_follow, r_max_rec_now, sizes_now, tail_now}
use Rattle.cdf_cuts.proofs.KeptLeaf.{IsPlainOrWhole}
use Rattle.cdf_cuts.proofs.CutStay.{nodes_left, to_left}
use Rattle.cdf_cuts.proofs.CutWhole.{meets, rest_order}
use Rattle.cdf_cuts.proofs.CutWords.{cut}
use Rattle.cdf_cuts.proofs.LeavesKept.{ends, some_left}
use Rattle.cdf_cuts.proofs.PlanPlaces.{plan_frees}
use Rattle.cdf_cuts.proofs.WritesThen.{index_then, moved_max_rec, moved_r_max_rec, moved_writes}
use Rattle.cdf_cuts.specs.Closing.{BlockStays, IndexClosed, RecordsClosed, closed, freed_closing}
use Rattle.cdf_cuts.specs.Cut.{IsCut}
use Rattle.cdf_cuts.specs.Moving.{ClosesUp, HasLater}
use Rattle.cdf_cuts.specs.Planning.{closing}
use Rattle.cdf_edits.specs.Index.Blocks.{fallen}
use Rattle.cdf_edits.specs.Commands.GreatestRecord.{r_max_rec}
use Rattle.cdf_format.specs.Records.{vdr_max_rec}
use Rattle.cdf_format.specs.Bytes.{byte}
use Rattle.cdf_format.proofs.BytesLemmas.{word_kept}
use Rattle.cdf_format.specs.Shape.{is_compressed}

module _ {b mid : List ℕ} {kind : Kind} {before : List VariableShape} {own : VariableShape} {after : List VariableShape} {first last : ℕ} (good : Good b) (at : StandsAmong b kind before own after) (order : first ≤ last) (short : length b ≤ image_limit) (c : IsCut b mid kind own (closing first last)) (loose : is_compressed b own.vdr ≡ false) where
  abbrev leaves : List Leaf
  leaves = leaves_of own.index

  abbrev size : ℕ
  size = record_bytes b own.vdr

  abbrev freed : List ℕ
  freed = freed_closing own first last

  plain : (l : Leaf) → IsOneOf leaves l → PlainLeaf b size l
  plain l i = plain_leaf good at loose l i

  unpacked : Each (IsPlainOrWhole leaves) (leaves_of (cut (closing first last) own.index))
  unpacked = plain_left (closing first last) own.index (each_of (λ (l : Leaf). l.packed ≡ false) leaves (λ l i. (plain l i).plain))

  in_order : InOrder 0 record_number_limit (cut (closing first last) own.index)
  in_order = rest_order first last true own.index order (index_order b (shape b).records own.vdr own.index (own_rules good at).1)

  pub index_cut : IndexClosed b mid kind before own after first last
  index_cut = record {
    goes = cut_goes good at order c.is_linked short mid c.given in_order unpacked;
    long = long_now good at order c.is_linked short mid c.given;
    short = short;
    tail = tail_now good at order c.is_linked short mid c.given;
    nodes = nodes_follow good at order c.is_linked short mid c.given;
    sizes = sizes_now good at order c.is_linked short mid c.given;
    cuts = λ v. meets b v first last true own.index (own_most good at order c.is_linked) order (index_order b (shape b).records own.vdr own.index (own_rules good at).1);
    freed = freed_now good at order c.is_linked short mid c.given;
  }

  kept_block : (l : Leaf) → IsOneOf leaves l → (In l.place freed → ⊥) → Kept b mid l.place
  kept_block l i out = block_stays good at order c.is_linked short mid c.given l.place (place_in leaves l i) out

  there : (l : Leaf) → IsOneOf leaves l → In l.place (shape b).records
  there l i = behind_in good at l.place (block_behind own l.place (place_in leaves l i))

  inside : (l : Leaf) → IsOneOf leaves l → l.place + size_at b l.place ≤ length b
  inside l i = (tile_lies b 8 (length b) (shape b).records l.place (sound good at).has_shape.tiled (there l i)).high

  apart : (l l' : Leaf) → IsOneOf leaves l → IsOneOf leaves l' → l.place ≢ l'.place → (l.place + size_at b l.place ≤ l'.place) ⊎ (l'.place + size_at b l'.place ≤ l.place)
  apart l l' i i' ne = tiles_lie_apart b 8 (length b) (shape b).records l.place l'.place (sound good at).has_shape.tiled (there l i) (there l' i') ne

  -- a leaf of which a record stays is in the index that is left
  stays_left : (l : Leaf) → IsOneOf leaves l → fallen first last l.first < fallen first last (l.last + 1) → In l.place (places_of (leaves_of (closed own first last).index))
  stays_left l i less =
      let z : l.last + 1 ≡ suc l.last = omega arith in
      let k = to_left (closing first last) leaves (leaves_of (cut (closing first last) own.index)) (nodes_left (closing first last) own.index) l i (some_left first last order l (rw z at less)) in
      subst (λ (p : ℕ). In p (places_of (leaves_of (closed own first last).index))) (ends first last order l k.0 k.1.1).place_is (place_in (leaves_of (cut (closing first last) own.index)) k.0 k.1.0)

  -- and it is not freed
  left_kept : (l : Leaf) → IsOneOf leaves l → fallen first last l.first < fallen first last (l.last + 1) → In l.place freed → ⊥
  left_kept l i less j = absurd (omega (arith, own_most good at order c.is_linked l.place, plan_frees l.place (closing first last) 0 own.index, times-in l.place (places_of (leaves_of (closed own first last).index)) (stays_left l i less), times-in l.place freed j))

  later_stays : (l : Leaf) → HasLater last l → fallen first last l.first < fallen first last (l.last + 1)
  later_stays l h =
      let r = h.reaches in
      let t = h.later in
      omega (arith, fallen_rises first last order l.first last r, fell_last, fallen_high first last order (l.last + 1) (omega arith))
    where
      fell_last : fallen first last last ≡ first
      fell_last = grind (arith, nat_tests)

  module _ {now : List ℕ} (up : ClosesUp mid now size first last leaves) where
    head_byte : (l : Leaf) (p : ℕ) → l.place ≤ p → p < l.place + 12 → ((i : ℕ) → i < 12 → byte now (l.place + i) ≡ byte b (l.place + i)) → byte now p ≡ byte b p
    head_byte l p low high f = let z : l.place + (p - l.place) ≡ p = omega arith in rw z at (f (p - l.place) (omega arith))

    block_now : (l : Leaf) → IsOneOf leaves l → fallen first last l.first < fallen first last (l.last + 1) → BlockStays b now size first last l
    block_now l i less =
        let s = leaf_stays first last order leaves (leaves_ascend good at) (leaves_apart good at) plain index_cut.long inside apart up l i (kept_block l i (left_kept l i less)) in
        record { size_stays = word_kept b now l.place (l.place + 12) (record { each = λ p low high. head_byte l p low high s.head }) (l.place + 0) 8 (omega arith) (omega arith); stays = s }

    pub records_closed : RecordsClosed b now kind before own after first last
    records_closed = elim up [
      | inl none ↦ record {
        loose = loose;
        index = subst (λ (y : List ℕ). IndexClosed b y kind before own after first last) (sym none.0) index_cut;
        blocks = block_now;
        max_rec_is = subst (λ (y : List ℕ). number y own.vdr vdr_max_rec ≡ number b own.vdr vdr_max_rec) (sym none.0) (max_rec_now good at order c.is_linked short mid c.given);
        r_max_rec_is = subst (λ (y : List ℕ). r_max_rec y ≡ r_max_rec b) (sym none.0) (r_max_rec_now good at order c.is_linked short mid c.given in_order unpacked);
      }
      | inr one ↦
          let l = one.0 in
          let i = one.1.0 in
          let h = one.1.1.has_later in
          let r = h.reaches in
          let t = h.later in
          let from = l.place + vvr_place ((last + 1 - l.first) * size) in
          let to = vvr_place ((max first l.first - l.first) * size) in
          let many = (l.last - last) * size in
          let x = plain l i in
          let less = later_stays l h in
          let k = kept_block l i (left_kept l i less) in
          let typed = type_kept b mid l.place k.same k.long ∙ x.typed in
          let long = size_kept b mid l.place k.same (omega (arith, k.long)) in
          let sum = times_add (max first l.first - l.first) (l.last - last) size in
          let most = times_le (max first l.first - l.first + (l.last - last)) (l.last + 1 - l.first) size (omega arith) in
          let room : 12 + (max first l.first - l.first) * size + (l.last - last) * size ≤ size_at mid l.place = omega (arith, long, x.room, sum, most) in
          let writes = moved_writes l.place from to many index_cut.goes.good index_cut.goes.among (stays_left l i less) typed (omega arith) room one.1.1.joins in
          record {
            loose = loose;
            index = index_then good at index_cut writes;
            blocks = block_now;
            max_rec_is = moved_max_rec l.place from to many index_cut.goes.good index_cut.goes.among (stays_left l i less) typed (omega arith) room one.1.1.joins ∙ max_rec_now good at order c.is_linked short mid c.given;
            r_max_rec_is = moved_r_max_rec l.place from to many index_cut.goes.good index_cut.goes.among (stays_left l i less) typed (omega arith) room one.1.1.joins ∙ r_max_rec_now good at order c.is_linked short mid c.given in_order unpacked;
          }
    ]
