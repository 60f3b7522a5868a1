-- Records were cut out of the index of a variable of which no block is packed, and later ones keep their numbers: what the image has before a block is moved or added.
use Rattle.cdf_cuts.proofs.Common.{Each, In, Kept, Leaf, List, [], arith, false, image_limit, inl, inr, leaves_of, length, nodes_of, number, places_of, size_at, subst, tile_lies, times, times-append, ℕ, ◌+◌, ◌<◌, ◌∙◌, ◌∷◌, ◌≡◌, ◌≢◌, ◌≤◌, ◌⊎◌, ap, flat_map}
use Rattle.cdf_edits.proofs.Common.{Good, Kind, Variable, VariableShape, gave, record_bytes, record_number_limit, shape, tiles_lie_apart, variable_of, variable_records, vdr_max_rec}
use Rattle.cdf_edits.proofs.Edits.Common.{StandsAmong, kind_times, owned-times, sound, times-in, times-three}
use Rattle.cdf_edits.proofs.Edits.LeafPieces.{IsOneOf, each_of, of_each, place_in}
use Rattle.cdf_edits.proofs.Edits.PlainLeaves.{PlainLeaf, own_rules, plain_leaf}
use Rattle.cdf_edits.proofs.Edits.VariableCopied.{block_behind}
use Rattle.cdf_edits.specs.Commands.GreatestRecord.{r_max_rec}
use Rattle.cdf_edits.specs.Index.Cut.{CutsIndex, IsPart, StaysWhole, is_whole}
use Rattle.cdf_edits.specs.Index.Grown.{kept_open}
use Rattle.cdf_index.proofs.Common.{behind_in, size_kept}
use Rattle.cdf_index.proofs.LeafRules.{index_order}
use Rattle.cdf_index.specs.Order.{InOrder}
use Rattle.cdf_index.specs.Replacing.{with_index}
use Rattle.cdf_puts.proofs.GoesThen.{later_size}
use Rattle.cdf_puts.specs.Going.{GoesOn}
use Rattle.cdf_cuts.proofs.CutFreed.{own_most, plain_left}
use Rattle.cdf_cuts.proofs.CutGoes.{block_stays, cut_goes, long_now, max_rec_now, r_max_rec_now}
use Rattle.cdf_cuts.proofs.CutLeaves.{IsLeft}
use Rattle.cdf_cuts.proofs.KeptLeaf.{IsPlainOrWhole}
use Rattle.cdf_cuts.proofs.CutStay.{from_left, nodes_left, to_left}
use Rattle.cdf_cuts.proofs.CutWhole.{meets, rest_order}
use Rattle.cdf_cuts.proofs.CutWords.{cut}
use Rattle.cdf_cuts.proofs.PastFollows.{or_true}
use Rattle.cdf_cuts.proofs.PlanPlaces.{plan_frees}
use Rattle.cdf_cuts.specs.Cut.{IsCut}
use Rattle.cdf_cuts.specs.Planning.{opening}
use Rattle.cdf_sparse.proofs.OpenBlocks.{BlockStill, Within}
use Rattle.cdf_sparse.proofs.OpenLeaves.{Back, Front, kept_some, not_none}
use Rattle.cdf_sparse.specs.Opening.{freed_opening, index_opened}
use Rattle.cdf_format.specs.Shape.{is_compressed}

-- ---- a record of the index of a variable is there once

module _ {b : List ℕ} {kind : Kind} {before : List VariableShape} {own : VariableShape} {after : List VariableShape} (good : Good b) (at : StandsAmong b kind before own after) where
  index_times : (m : ℕ) → times m (nodes_of own.index) + times m (places_of (leaves_of own.index)) ≤ times m (flat_map variable_records (own ∷ []))
  index_times m = grind (arith, times-append)

  pub own_once : (m : ℕ) → times m (nodes_of own.index) + times m (places_of (leaves_of own.index)) ≤ 1
  own_once m =
      let parts = ap (λ (vs : List VariableShape). times m (flat_map variable_records vs)) at.was ∙ times-three variable_records m before (own ∷ []) after in
      omega (arith, index_times m, parts, kind_times kind (shape b) m, owned-times b (shape b) m, (sound good at).not_twice m)

-- ---- a leaf and what is left of it

-- one leaf is what stays of another in its block: its records before those that go, or else those behind them
pub record LeftIn (first last : ℕ) (order : first ≤ last) (old new : Leaf) : Type 0 where
  pub within : Within old new
  pub side : Front first last order old new ⊎ Back first last order old new

pub left_in : (first last : ℕ) (order : first ≤ last) (old new : Leaf) → old.first ≤ old.last → new.place ≡ old.place → Front first last order old new ⊎ Back first last order old new → LeftIn first last order old new
left_in first last order old new le e (inl f) =
    let r = f.reaches in
    record { within = record { place_is = e; from = omega (arith, f.first_is); some = omega (arith, f.first_is, f.last_is); upto = omega (arith, f.last_is) }; side = inl f }
left_in first last order old new le e (inr k) =
    let r = k.ends in
    record { within = record { place_is = e; from = omega (arith, k.first_is); some = omega (arith, k.first_is, k.last_is); upto = omega (arith, k.last_is) }; side = inr k }

module _ {b mid : List ℕ} {kind : Kind} {before : List VariableShape} {own : VariableShape} {after : List VariableShape} {first last : ℕ} (good : Good b) (at : StandsAmong b kind before own after) (order : first ≤ last) (short : length b ≤ image_limit) (c : IsCut b mid kind own (opening first last)) (loose : is_compressed b own.vdr ≡ false) where
  abbrev leaves : List Leaf
  leaves = leaves_of own.index

  abbrev size : ℕ
  size = record_bytes b own.vdr

  abbrev freed : List ℕ
  freed = freed_opening own first last

  abbrev left : VariableShape
  left = with_index own (index_opened own first last)

  abbrev leaves' : List Leaf
  leaves' = leaves_of (index_opened own first last)

  pub plain : (l : Leaf) → IsOneOf leaves l → PlainLeaf b size l
  plain l i = plain_leaf good at loose l i

  unpacked : Each (IsPlainOrWhole leaves) (leaves_of (cut (opening first last) own.index))
  unpacked = plain_left (opening first last) own.index (each_of (λ (l : Leaf). l.packed ≡ false) leaves (λ l i. (plain l i).plain))

  pub was_order : InOrder 0 record_number_limit own.index
  was_order = index_order b (shape b).records own.vdr own.index (own_rules good at).1

  pub in_order : InOrder 0 record_number_limit (cut (opening first last) own.index)
  in_order = rest_order first last false own.index order was_order

  pub goes_cut : GoesOn b mid kind before own (with_index own (index_opened own first last)) after (gave b (freed_opening own first last))
  goes_cut = cut_goes good at order c.is_linked short mid c.given in_order unpacked

  pub long_cut : length mid ≡ length b
  long_cut = long_now good at order c.is_linked short mid c.given

  pub max_cut : number mid own.vdr vdr_max_rec ≡ number b own.vdr vdr_max_rec
  max_cut = max_rec_now good at order c.is_linked short mid c.given

  pub r_max_cut : r_max_rec mid ≡ r_max_rec b
  r_max_cut = r_max_rec_now good at order c.is_linked short mid c.given in_order unpacked

  pub cuts_cut : (v : Variable) → CutsIndex v (kept_open first last) own.index (index_opened own first last) (index_opened own first last) (gave b (freed_opening own first last))
  cuts_cut v = meets b v first last false own.index (own_most good at order c.is_linked) order was_order

  pub size_cut : record_bytes mid own.vdr ≡ record_bytes b own.vdr
  size_cut = later_size good at goes_cut

  -- ---- the leaves that are left

  left_by : (l m : Leaf) → IsOneOf leaves l → IsLeft (opening first last) l m → LeftIn first last order l m
  left_by l m i x = left_in first last order l m (plain l i).ordered x.place_is (kept_some first last order l m x.more x.kept_is)

  pub from_cut : (m : Leaf) → IsOneOf (leaves_of (index_opened own first last)) m → (l : Leaf) × (IsOneOf (leaves_of own.index) l × LeftIn first last order l m)
  from_cut m j = let r = from_left (opening first last) leaves leaves' (nodes_left (opening first last) own.index) m j in (r.0, (r.1.0, left_by r.0 m r.1.0 r.1.1))

  pub to_cut : (l : Leaf) → IsOneOf (leaves_of own.index) l → (l.first < first) ⊎ (last < l.last) → (m : Leaf) × (IsOneOf (leaves_of (index_opened own first last)) m × LeftIn first last order l m)
  to_cut l i side = let r = to_left (opening first last) leaves leaves' (nodes_left (opening first last) own.index) l i (not_none first last order l side) in (r.0, (r.1.0, left_by l r.0 i r.1.1))

  pub part_cut : (old new : Leaf) → IsOneOf (leaves_of own.index) old → IsOneOf (leaves_of (index_opened own first last)) new → IsPart (kept_open first last) old new → LeftIn first last order old new
  part_cut old new i j part =
      let v = variable_of b own in
      let s = of_each (StaysWhole v (kept_open first last) (gave b freed) old) leaves' new (of_each (λ (o : Leaf). Each (StaysWhole v (kept_open first last) (gave b freed) o) leaves') leaves old (cuts_cut v).stay i) j part (rw loose (or_true (is_whole old new))) in
      left_in first last order old new (plain old i).ordered s.0 (kept_some first last order old new [] part)

  -- ---- their blocks

  pub there : (l : Leaf) → IsOneOf (leaves_of own.index) l → In l.place (shape b).records
  there l i = behind_in good at l.place (block_behind own l.place (place_in leaves l i))

  pub inside : (l : Leaf) → IsOneOf (leaves_of own.index) l → l.place + size_at b l.place ≤ length b
  inside l i = (tile_lies b 8 (length b) (shape b).records l.place (sound good at).has_shape.tiled (there l i)).high

  pub beside : (l l' : Leaf) → IsOneOf (leaves_of own.index) l → IsOneOf (leaves_of own.index) l' → l.place ≢ l'.place → (l.place + size_at b l.place ≤ l'.place) ⊎ (l'.place + size_at b l'.place ≤ l.place)
  beside l l' i i' ne = tiles_lie_apart b 8 (length b) (shape b).records l.place l'.place (sound good at).has_shape.tiled (there l i) (there l' i') ne

  pub place_left : (l : Leaf) → IsOneOf (leaves_of own.index) l → (l.first < first) ⊎ (last < l.last) → In l.place (places_of (leaves_of (index_opened own first last)))
  place_left l i side = let r = to_cut l i side in subst (λ (p : ℕ). In p (places_of leaves')) r.1.1.within.place_is (place_in leaves' r.0 r.1.0)

  not_freed : (l : Leaf) → IsOneOf leaves l → (l.first < first) ⊎ (last < l.last) → In l.place freed → ⊥
  not_freed l i side j = absurd (omega (arith, own_most good at order c.is_linked l.place, plan_frees l.place (opening first last) 0 own.index, times-in l.place (places_of leaves') (place_left l i side), times-in l.place freed j))

  -- a block of which a record stays is not written
  pub kept_cut : (l : Leaf) → IsOneOf (leaves_of own.index) l → (l.first < first) ⊎ (last < l.last) → Kept b mid l.place
  kept_cut l i side = block_stays good at order c.is_linked short mid c.given l.place (place_in leaves l i) (not_freed l i side)

  pub still_cut : (l : Leaf) → IsOneOf (leaves_of own.index) l → (l.first < first) ⊎ (last < l.last) → BlockStill b mid l
  still_cut l i side n lt = (kept_cut l i side).same.each (l.place + n) (omega arith) (omega (arith, lt))

  pub sized_cut : (l : Leaf) → IsOneOf (leaves_of own.index) l → (l.first < first) ⊎ (last < l.last) → size_at mid l.place ≡ size_at b l.place
  sized_cut l i side = let k = kept_cut l i side in size_kept b mid l.place k.same (omega (arith, k.long))
