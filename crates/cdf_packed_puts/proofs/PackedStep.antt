-- Once the records of one leaf of a packed variable are put, there is room for what is left, each node of the top chain stays one, and the image is longer by no more than was taken.
use Rattle.std.proofs.Common.{List, None, Option, Some, [], ap, ap₂, arith, inl, inr, length, max, refl, subst, suc, sym, zero, ℕ, ◌*◌, ◌+◌, ◌-◌, ◌∙◌, ◌∷◌, ◌≡◌, ◌≤◌}
use Rattle.std.proofs.Common.{if◌then◌else◌, ◌==◌}
use Rattle.cdf_edits.proofs.Common.{Act, ActsFollow, Gave, Range, Took, VariableShape, either, leaves_of, range, record_number_limit, shape, size_at, vxr_bytes}
use Rattle.cdf_edits.proofs.Edits.Common.{fits, has}
use Rattle.cdf_edits.proofs.Edits.PlainLeaves.{leaves_ascend}
use Rattle.cdf_edits.proofs.Index.OneDescent.{grown_is}
use Rattle.cdf_edits.specs.Commands.PutSteps.{Put, PutsLeaf, leaf_at, leaf_step}
use Rattle.cdf_edits.specs.Commands.Room.{entries_in, widest}
use Rattle.cdf_edits.specs.Index.Blocks.{firsts_of, new_range, ranges_before_put, ranges_of, record_length}
use Rattle.cdf_edits.specs.Index.Grown.{new_room, with_leaf, with_place}
use Rattle.cdf_edits.specs.Index.Written.{block_need, stays_put}
use Rattle.cdf_edits.specs.Space.Acts.{OnlyTakes}
use Rattle.cdf_format.specs.Index.{Leaf, Nodes, leaf}
use Rattle.cdf_format.specs.Tiles.{In}
use Rattle.cdf_index.specs.Adding.{leaf_acts}
use Rattle.cdf_leaves.proofs.Own.{own_order}
use Rattle.cdf_model.specs.DataSet.{Variable}
use Rattle.cdf_model.specs.declared.kinds.Kind.{Kind}
use Rattle.cdf_puts.proofs.KnownStarts.{top_kept}
use Rattle.cdf_puts.proofs.LeafCounts.{new_room_widest}
use Rattle.cdf_puts.proofs.PlacedAnew.{entries_stay, firsts_stay, ranges_stay, top_stays_placed, widest_stays}
use Rattle.cdf_puts.proofs.PutBytes.{found_covering}
use Rattle.cdf_puts.proofs.PutRoom.{leaf_bytes, longer_by, longer_moved}
use Rattle.cdf_puts.specs.Covering.{block_bytes, new_last, node_bytes}
use Rattle.cdf_puts.specs.SoFar.{TopStays, taken_bytes}
use Rattle.cdf_puts.specs.declared.putting.NewRecord.{NewRecord}
use Rattle.cdf_blocks.specs.Reading.{block_size}
use Rattle.cdf_packed_puts.specs.Putting.{RoomLeft}
use Rattle.cdf_packed_puts.specs.Rewriting.{LeafPut, PutsInto}
use Rattle.cdf_packed_puts.proofs.AddedGoes.{node_acts_are}
use Rattle.cdf_packed_puts.proofs.RoomSteps.{new_put, old_put}

new_first : (v : Variable) (fs : List ℕ) (k : ℕ) → (new_range v fs k).first ≡ k
new_first v fs k = grind arith

only_taken : (place need room at : ℕ) → OnlyTakes (leaf_acts place need room at)
only_taken place need zero at = tt
only_taken place need (suc room) at = tt

moved_bytes : (place need old size : ℕ) → taken_bytes (Took place need ∷ Gave old size ∷ []) ≡ need
moved_bytes place need old size = omega arith

-- so many bytes more are no more than those of a record with the plain bytes
moved_fits : (was acts need bytes : ℕ) → acts ≡ need → need ≤ max 28 (12 + bytes) → was + acts ≤ was + (28 + bytes)
moved_fits was acts need bytes is most = omega arith

added_fits : (was acts need node bytes : ℕ) → acts ≡ need + node → need ≤ max 28 (12 + bytes) → was + acts ≤ was + max 28 (12 + bytes) + node
added_fits was acts need node bytes is most = omega arith

module _ {b now : List ℕ} {p : Put} {new : NewRecord} {kind : Kind} {before : List VariableShape} {own : VariableShape} {after : List VariableShape} {k next : ℕ} (x : PutsInto p new b kind before own after) (lp : LeafPut b now p new kind before own after k next) where
  abbrev own' : VariableShape
  own' = lp.own'

  abbrev v : Variable
  v = p.found.variable

  abbrev put : PutsLeaf p (record { image = b; own = own; acts = []; next = k }) (record { image = now; own = own'; acts = lp.acts; next = next })
  put = lp.leaf []

  abbrev made : Leaf
  made = put.new

  abbrev need : ℕ
  need = block_need now own'.vdr made

  size_is : length new.raw.items ≡ record_length v
  size_is = x.raw_long ∙ sym x.size_is

  need_most : need ≤ max 28 (12 + block_size made (length new.raw.items))
  need_most = lp.needs made put.has

  module _ {index : Nodes} {was : ℕ} (r : RoomLeft v index own.index p.rec k was) (same : ranges_before_put v index p.rec ≡ ranges_of index) (small : p.rec ≤ record_number_limit) where
    abbrev To : Type 0
    To = RoomLeft v index own'.index p.rec next (was + taken_bytes lp.acts) × (TopStays own.index own'.index × (length now ≤ length b + taken_bytes lp.acts))

    -- ---- a leaf that was there

    module _ (old : Leaf) (e : leaf_at k own.index ≡ Some old) (range_is : range made.first made.last ≡ range old.first old.last) where
      first_is : made.first ≡ old.first
      first_is = ap (λ (y : Range). y.first) range_is

      last_is : made.last ≡ old.last
      last_is = ap (λ (y : Range). y.last) range_is

      next_is : old.last + 1 ≡ next
      next_is = sym (put.next_is ∙ ap (λ (n : ℕ). n + 1) last_is)

      bytes_are : block_size made (length new.raw.items) ≡ (old.last + 1 - old.first) * record_length v
      bytes_are = ap₂ (λ (f t : ℕ). (t + 1 - f) * length new.raw.items) first_is last_is ∙ ap (λ (n : ℕ). (old.last + 1 - old.first) * n) size_is

      still : own'.index ≡ own.index → lp.acts ≡ [] → To
      still index_is none =
          let bytes : taken_bytes lp.acts ≡ 0 = ap taken_bytes none in
          let longer : length now ≤ length b + taken_bytes lp.acts = longer_by b now lp.acts lp.goes_on.follow (subst OnlyTakes (sym none) tt) in
          let left = old_put r small put.more old e own'.index (own_order lp.goes_on.good lp.goes_on.among) (ap ranges_of index_is) (ap firsts_of index_is) (ap widest index_is) (ap entries_in index_is) (was + taken_bytes lp.acts) (omega arith) in
          (subst (λ (n : ℕ). RoomLeft v index own'.index p.rec n (was + taken_bytes lp.acts)) next_is left, (subst (λ (y : Nodes). TopStays own.index y) (sym index_is) (λ m i. i), longer))

      moved : own'.index ≡ with_place made own.index → lp.acts ≡ Took made.place need ∷ Gave old.place (size_at b old.place) ∷ [] → To
      moved index_is acts_are =
          let bytes : taken_bytes lp.acts ≡ need = ap taken_bytes acts_are ∙ moved_bytes made.place need old.place (size_at b old.place) in
          let longer : length now ≤ length b + need = longer_moved b now made.place need old.place (size_at b old.place) (subst (ActsFollow b now) acts_are lp.goes_on.follow) in
          let enough = moved_fits was (taken_bytes lp.acts) need ((old.last + 1 - old.first) * record_length v) bytes (subst (λ (n : ℕ). need ≤ max 28 (12 + n)) bytes_are need_most) in
          let one = (found_covering k (leaves_of own.index) old e).0 in
          let ranges = ranges_stay made old own.index (leaves_ascend x.good x.among) one first_is last_is in
          let left = old_put r small put.more old e own'.index (own_order lp.goes_on.good lp.goes_on.among) (ap ranges_of index_is ∙ ranges) (ap firsts_of index_is ∙ firsts_stay made own.index) (ap widest index_is ∙ widest_stays made own.index) (ap entries_in index_is ∙ entries_stay made own.index) (was + taken_bytes lp.acts) enough in
          let tops : TopStays own.index (with_place made own.index) = λ m i. subst (λ (ms : List ℕ). In m ms) (sym (top_stays_placed made own.index)) i in
          (subst (λ (n : ℕ). RoomLeft v index own'.index p.rec n (was + taken_bytes lp.acts)) next_is left, (subst (λ (y : Nodes). TopStays own.index y) (sym index_is) tops, subst (λ (n : ℕ). length now ≤ length b + n) (sym bytes) longer))

      old_step : (own'.index, lp.acts) ≡ leaf_step b now v.rle own'.vdr own.index (Some old) made put.at → To
      old_step step = elim (either (stays_put b now v.rle own'.vdr old made)) [
        | inl t ↦ (let q : (own'.index, lp.acts) ≡ (own.index, []) = rw t at step in still (ap (λ (y : Nodes × List Act). y.0) q) (ap (λ (y : Nodes × List Act). y.1) q))
        | inr t ↦ (let q : (own'.index, lp.acts) ≡ (with_place made own.index, Took made.place need ∷ Gave old.place (size_at b old.place) ∷ []) = rw t at step in moved (ap (λ (y : Nodes × List Act). y.0) q) (ap (λ (y : Nodes × List Act). y.1) q))
      ]

    -- ---- one that is added

    module _ (e : leaf_at k own.index ≡ None) (range_is : range made.first made.last ≡ new_range v (firsts_of own.index) k) (step : (own'.index, lp.acts) ≡ leaf_step b now v.rle own'.vdr own.index None made put.at) where
      from_is : made.first ≡ k
      from_is = ap (λ (y : Range). y.first) range_is ∙ new_first v (firsts_of own.index) k

      upto_is : made.last ≡ new_last v own.index k
      upto_is = ap (λ (y : Range). y.last) range_is

      index_is : own'.index ≡ with_leaf made put.at own.index
      index_is = ap (λ (y : Nodes × List Act). y.0) step ∙ ap (λ (y : Nodes × ℕ). y.0) (grown_is made put.at own.index)

      acts_are : lp.acts ≡ leaf_acts made.place need (new_room made.first own.index) put.at
      acts_are =
          ap (λ (y : Nodes × List Act). y.1) step
          ∙ ap (λ (y : Nodes × ℕ). Took made.place need ∷ (if y.1 == 0 then [] else Took put.at (vxr_bytes y.1) ∷ [])) (grown_is made put.at own.index)
          ∙ ap (λ (more : List Act). Took made.place need ∷ more) (sym (node_acts_are (new_room made.first own.index) put.at))

      bytes_so : block_size made (length new.raw.items) ≡ (new_last v own.index k + 1 - k) * record_length v
      bytes_so = ap₂ (λ (f t : ℕ). (t + 1 - f) * length new.raw.items) from_is upto_is ∙ ap (λ (n : ℕ). (new_last v own.index k + 1 - k) * n) size_is

      taken_is : taken_bytes lp.acts ≡ need + node_bytes k own.index
      taken_is = ap taken_bytes acts_are ∙ leaf_bytes made.place need (new_room made.first own.index) put.at ∙ ap (λ (f : ℕ). need + node_bytes f own.index) from_is

      few : was + taken_bytes lp.acts ≤ was + block_bytes v k (new_last v own.index k) + node_bytes k own.index
      few = added_fits was (taken_bytes lp.acts) need (node_bytes k own.index) ((new_last v own.index k + 1 - k) * record_length v) taken_is (subst (λ (n : ℕ). need ≤ max 28 (12 + n)) bytes_so need_most)

      longer : length now ≤ length b + taken_bytes lp.acts
      longer = longer_by b now lp.acts lp.goes_on.follow (subst OnlyTakes (sym acts_are) (only_taken made.place need (new_room made.first own.index) put.at))

      new_step : To
      new_step =
          let wide = new_room_widest b (shape b).records 8 k own.index (has x.good x.among).indexed.has_nodes (fits x.good x.among).1 in
          let left = new_put r small put.more same e made.place put.at made.packed wide (was + taken_bytes lp.acts) few in
          let made_is : leaf k (new_last v own.index k) made.place made.packed ≡ made = λ i. leaf (sym from_is i) (sym upto_is i) made.place made.packed in
          let there : with_leaf (leaf k (new_last v own.index k) made.place made.packed) put.at own.index ≡ own'.index = ap (λ (y : Leaf). with_leaf y put.at own.index) made_is ∙ sym index_is in
          let next_is : new_last v own.index k + 1 ≡ next = sym (put.next_is ∙ ap (λ (n : ℕ). n + 1) upto_is) in
          (subst (λ (y : Nodes × ℕ). RoomLeft v index y.0 p.rec y.1 (was + taken_bytes lp.acts)) (λ i. (there i, next_is i)) left, (subst (λ (y : Nodes). TopStays own.index y) (sym index_is) (top_kept made put.at own.index), longer))

    -- ---- either

    by : (o : Option Leaf) → leaf_at k own.index ≡ o → range made.first made.last ≡ (elim o as (λ y. Range) [ None ↦ new_range v (firsts_of own.index) k | Some old ↦ range old.first old.last ]) → (own'.index, lp.acts) ≡ leaf_step b now v.rle own'.vdr own.index o made put.at → To
    by None e range_is step = new_step e range_is step
    by (Some old) e range_is step = old_step old e range_is step

    pub stepped : RoomLeft v index lp.own'.index p.rec next (was + taken_bytes lp.acts) × (TopStays own.index lp.own'.index × (length now ≤ length b + taken_bytes lp.acts))
    stepped = by (leaf_at k own.index) refl put.range_is put.step
