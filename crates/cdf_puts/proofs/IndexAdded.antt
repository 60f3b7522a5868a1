-- A leaf is added while records are put: the blocks of the variable, which leaves were put by then, which ranges are new, the top chain and the nodes.
use Rattle.cdf_puts.proofs.Common.{Act, Ascending, BlockRecords, BlocksSoFar, Bool, Good, InOrder, IndexSoFar, IsBlockBody, IsOneOf, IsVacant, Kind, Leaf, LeafAdded, List, NewBlock, NodeTaken, Nodes, NodesSoFar, None, PutsBefore, Range, Same, SoFar, Some, StandsAmong, VariableShape, [], ap, apart, arith, before_limit, behind_in, block_behind, block_need, bytes_eq, bytes_eq-same, cases_lt, count_is, covers, drop, extent, false, filled, filter, find, find_covering, first_written, firsts_of, fold-append, has, if◌then◌else◌, in_order, index_order, indexes_with, inl, inr, is_in-true, is_taken_at, last_node, last_or, leaf, leaf_acts, leaves_ascend, leaves_more, leaves_of, length, list_any, max_rec_at, min, nat_tests, new_range, new_ranges, new_room, node_behind, nodes_of, number, of_each, or_from, or_left, or_right, outline, own_rules, place_in, plain_bytes, plain_piece, range, ranges_of, record_alike, record_bytes, record_number_limit, refl, room, same_Some, shape, size_at, sound, subst, suc, sym, take, taken_places, tile_lies, top_chain, true, true≢false, uir_type, unwrap_or, uses_entry, variable_of, vdr_alike, vdr_vxr_tail, vvr_type, was_put, with_leaf, with_new, with_ranges, zero, ℕ, ◌*◌, ◌++◌, ◌+◌, ◌-◌, ◌<◌, ◌||◌, ◌∙◌, ◌∷◌, ◌≡◌, ◌≤◌, ◌⊎◌, byte, record_of, rules, In, OldBlock}
use Rattle.cdf_puts.proofs.CoveringRanges.{of_leaves}
use Rattle.cdf_puts.proofs.LeafCounts.{one_of_leaves}
use Rattle.cdf_puts.proofs.LeafEdit.{blocks_go_on, body_long, file, new_index, node_taken, nodes_step, used_apart}
use Rattle.cdf_index.proofs.NewIndex.{index_edit}
use Rattle.cdf_puts.proofs.PutBytes.{beside_one, blocks_then, now_whole, size_now}
use Rattle.std.proofs.Math.Bool.{or-false}
use Rattle.cdf_puts.proofs.PutNodes.{NodesStep, bytes_longer, nodes_then, place_outside, same_uses, same_with_leaf, taken_both, through_goes, top_grows}
use Rattle.cdf_puts.proofs.SoFarStarts.{covers_own, none_begins, put_new, puts_new, ranges_more}
use Rattle.cdf_puts.proofs.KnownStarts.{top_kept}

-- ---- the ranges that are new

none_covers : (k : ℕ) (leaves : List Leaf) → ((l : Leaf) → IsOneOf leaves l → (l.last < k) ⊎ (k < l.first)) → list_any (covers k) (of_leaves leaves) ≡ false
none_covers k [] f = refl
none_covers k (x ∷ more) f = grind (arith, nat_tests, none_covers k more (λ l i. f l (inr i)), f x (inl refl))

-- ---- the top chain

abbrev last_of : List ℕ → ℕ
last_of xs = unwrap_or (last_or None xs) 0

tail_then : (x y z : List ℕ) (first mid last : ℕ) → (y ≡ x) ⊎ (length x < length y) → (z ≡ y) ⊎ (length y < length z) → mid ≡ (if bytes_eq x y then first else last_of y) → last ≡ (if bytes_eq y z then mid else last_of z) → last ≡ (if bytes_eq x z then first else last_of z)
tail_then x y z first mid last f g p q = grind (arith, f, g, bytes_longer x y, bytes_longer x z, bytes_longer y z, bytes_eq-same x, bytes_eq-same y)

outside_by : (acts acts' : List Act) (at room : ℕ) → (room ≡ 0 → at ≡ 0) → (1 ≤ room → is_taken_at acts' at ≡ true) → place_outside (taken_places (acts ++ acts')) at ≡ 0
outside_by acts acts' at room none some = grind (arith, none, some, taken_both acts acts' at)

top_then : (x y z : List ℕ) → (y ≡ x) ⊎ (length x < length y) → (z ≡ y) ⊎ (length y < length z) → (z ≡ x) ⊎ (length x < length z)
top_then x y z f g = grind (arith, f, g)

no_node_zero : (filled roomy : List ℕ) (room at : ℕ) → NodeTaken filled roomy room at → room ≡ 0 → at ≡ 0
no_node_zero filled roomy zero at t e = t.1
no_node_zero filled roomy (suc room) at t e = absurd (omega arith)

module _ {b now now' : List ℕ} {kind : Kind} {before : List VariableShape} {own own' : VariableShape} {after : List VariableShape} {raw pad : List ℕ} {r k last place at : ℕ} {acts : List Act} {body records : List ℕ} (so : SoFar b now kind before own own' after raw pad r k acts) (more : k ≤ r) (is : last ≡ (new_range (variable_of b own) (firsts_of own'.index) k).last) (vacant : IsVacant own' k last)
    (holds : IsBlockBody body records) (says : BlockRecords raw pad r k last (record_bytes b own.vdr) records) (w : LeafAdded now now' own' (leaf k last place false) body at)
    (good' : Good now') (among' : StandsAmong now' kind before (record own' { index = with_leaf (leaf k last place false) at own'.index }) after) where
  abbrev new : Leaf
  new = leaf k last place false

  abbrev own'' : VariableShape
  own'' = record own' { index = with_leaf new at own'.index }

  abbrev first : ℕ
  first = first_written (variable_of b own) r

  abbrev leaves : List Leaf
  leaves = leaves_of own'.index

  abbrev upto : ℕ
  upto = min (last + 1) (r + 1)

  abbrev step : List Act
  step = leaf_acts place (8 + length body) (new_room k own'.index) at

  order : InOrder 0 record_number_limit own'.index
  order = index_order now (shape now).records own'.vdr own'.index (own_rules so.goes.good so.goes.among).1

  ascend : Ascending 0 (suc record_number_limit) leaves
  ascend = leaves_ascend so.goes.good so.goes.among

  ordered : (l : Leaf) → IsOneOf leaves l → l.first ≤ l.last
  ordered l i = (in_order 0 (suc record_number_limit) leaves ascend l i).ordered

  small : last ≤ record_number_limit
  small = before_limit k last (firsts_of own'.index) vacant.before_next

  in_new : (l : Leaf) → IsOneOf leaves l → IsOneOf (leaves_of own''.index) l
  in_new l i = (one_of_leaves new at 0 record_number_limit own'.index order l).1 (inr i)

  new_in : IsOneOf (leaves_of own''.index) new
  new_in = (one_of_leaves new at 0 record_number_limit own'.index order new).1 (inl refl)

  found_at : (j : ℕ) (l : Leaf) → IsOneOf (leaves_of own''.index) l → l.first ≤ j → j ≤ l.last → find (λ (leaf : Leaf). covers j (range leaf.first leaf.last)) (leaves_of own''.index) ≡ Some l
  found_at j l i f t = find_covering j 0 (suc record_number_limit) (leaves_of own''.index) (leaves_ascend good' among') l i f t

  -- a leaf that was there ends before the new one, or begins behind it
  beside_new : (l : Leaf) → IsOneOf leaves l → (l.last < k) ⊎ (last < l.first)
  beside_new l i = elim (beside_one k 0 (suc record_number_limit) leaves ascend l i (λ e. grind (arith, e, vacant.uncovered))) [
    | inl lt ↦ inl lt
    | inr lt ↦ elim (cases_lt last l.first) [ inl u ↦ inr u | inr u ↦ absurd (omega (arith, ap (λ (y : Leaf). y.first) (same_Some l new (sym (found_at l.first l (in_new l i) (omega arith) (ordered l i)) ∙ found_at l.first new new_in (omega arith) u)))) ]
  ]

  -- ---- their bytes

  size_after : record_bytes now' own'.vdr ≡ record_bytes b own.vdr
  size_after = record_alike (file so.goes.good so.goes.among w) (vdr_alike so.goes.good so.goes.among (index_edit so.goes.good so.goes.among (new_index so.goes.good so.goes.among w))) ∙ size_now so

  plain_is : plain_bytes now' own'.vdr new ≡ records
  plain_is = ap (λ (n : ℕ). take n (drop (place + 12) now')) ((λ i. (count_is new small vacant.ordered) i * size_after i) ∙ sym says.as_long) ∙ (blocks_go_on so.goes.good so.goes.among w holds).records_are

  new_block : NewBlock now' raw pad r k (extent (max_rec_at b own.vdr)) upto (record_bytes b own.vdr) step new
  new_block =
      let written : (j : ℕ) → k ≤ j → j ≤ last → take (record_bytes b own.vdr) (drop (place + (12 + (j - k) * record_bytes b own.vdr)) now') ≡ record_of raw pad r j =
      λ j f t. sym (plain_piece now' own'.vdr (record_bytes b own.vdr) j new refl small size_after f t) ∙ ap (λ (xs : List ℕ). take (record_bytes b own.vdr) (drop ((j - k) * (record_bytes b own.vdr)) xs)) plain_is ∙ says.written j f t in
      let spare = λ (i : ℕ). subst (λ (n : ℕ). 12 + n ≤ i → i < size_at now' place → byte now' (place + i) ≡ 0) says.as_long ((blocks_go_on so.goes.good so.goes.among w holds).spare i) in
      let alone : min last (extent (max_rec_at b own.vdr)) ≤ r = grind (arith, nat_tests, is) in
      grind (arith, alone, is_in-true place (taken_places step) (inl refl), written, spare)

  pub blocks_added : BlocksSoFar b now' own own'' raw pad r first upto (acts ++ step) []
  blocks_added =
      let go = blocks_go_on so.goes.good so.goes.among w holds in
      let apart : (l : Leaf) → IsOneOf leaves l → is_taken_at step l.place ≡ false =
      λ l i. used_apart so.goes.good so.goes.among w l.place (behind_in so.goes.good so.goes.among l.place (block_behind own' l.place (place_in leaves l i))) (λ e. absurd (apart vvr_type uir_type refl (sym (now_whole so l i).leaf.typed ∙ e))) in
      let old : (l : Leaf) → IsOneOf leaves l → OldBlock now now' raw pad r k upto (record_bytes b own.vdr) l =
      λ l i. record { written = λ j from low f t. absurd (omega (arith, beside_new l i)); kept = λ p low high out. (of_each (λ (l : Leaf). Same now now' l.place (l.place + size_at now l.place)) leaves l go.old i).each p low high } in
      let other : (l : Leaf) → IsOneOf (leaves_of own''.index) l → IsOneOf leaves l ⊎ NewBlock now' raw pad r k (extent (max_rec_at b own.vdr)) upto (record_bytes b own.vdr) step l =
      λ l i. elim ((one_of_leaves new at 0 record_number_limit own'.index order l).0 i) [ inl q ↦ inr (subst (NewBlock now' raw pad r k (extent (max_rec_at b own.vdr)) upto (record_bytes b own.vdr) step) (sym q) new_block) | inr j ↦ inl j ] in
      let has : (j : ℕ) → k ≤ j → j < upto → (l : Leaf) × (IsOneOf (leaves_of own''.index) l × ((l.first ≤ j) × (j ≤ l.last))) = λ j from low. (new, (new_in, (from, omega arith))) in
      let loud : ((m : ℕ) → is_taken_at step m ≡ false) → ⊥ = λ none. true≢false (sym new_block.was_taken ∙ none place) in
      blocks_then so (omega (arith, vacant.ordered)) (omega arith) refl (search (rules, (file so.goes.good so.goes.among w).longer, in_new, apart, old, other, has, loud))

  -- ---- the index

  abbrev n : NodesSoFar b now own own' (new_ranges (ranges_of own.index) (ranges_of own'.index)) acts
  n = so.index.nodes

  leaves_are : leaves_of own''.index ≡ with_new new leaves
  leaves_are = leaves_more new at 0 record_number_limit own'.index order

  -- ---- the leaves that were put

  needs : (end : List ℕ) → record_bytes end own.vdr ≡ record_bytes b own.vdr → 8 + length body ≡ block_need end own.vdr new
  needs end same = grind (arith, count_is new small vacant.ordered, same, says.as_long, body_long body records holds)

  puts_added : PutsBefore b own own'' (filter (was_put first upto) (leaves_of own''.index)) (acts ++ step)
  puts_added =
      let one = put_new first k upto 0 (suc record_number_limit) leaves new (subst (Ascending 0 (suc record_number_limit)) leaves_are (leaves_ascend good' among')) (subst (λ (ls : List Leaf). IsOneOf ls new) leaves_are new_in) refl so.covers.from (omega (arith, vacant.ordered)) (omega arith) in
      subst (λ (ls : List Leaf). PutsBefore b own own'' ls (acts ++ step)) (sym (ap (filter (was_put first upto)) leaves_are ∙ one))
      (puts_new b own own' (filter (was_put first k) leaves) acts new (8 + length body) at so.index.puts (none_begins k 0 (suc record_number_limit) leaves ascend vacant.uncovered) needs (no_node_zero w.filled w.roomy (new_room k own'.index) at w.node))

  -- ---- the ranges

  abbrev rs : List Range
  rs = new_ranges (ranges_of own.index) (ranges_of own'.index)

  one_new : new_ranges (ranges_of own.index) (ranges_of own''.index) ≡ rs ++ range k last ∷ []
  one_new = ap (λ (ls : List Leaf). new_ranges (ranges_of own.index) (of_leaves ls)) leaves_are ∙ ranges_more (ranges_of own.index) 0 (suc record_number_limit) leaves new ascend (none_covers k (leaves_of own.index) (λ l i. elim (beside_new l (so.blocks.stay l i)) [ inl lt ↦ inl lt | inr lt ↦ inr (omega (arith, vacant.ordered)) ]))
      (λ l i lt. elim (so.blocks.new l i) [ inl o ↦ covers_own (leaves_of own.index) l o (ordered l i) | inr x ↦ absurd (omega (arith, x.ends, ordered l i)) ])

  -- ---- the nodes

  s : NodesStep now now' own'.index (nodes_of own''.index) step
  s = nodes_step so.goes.good so.goes.among w

  -- a node that is taken stands at a new place, and else none does
  outside : place_outside (taken_places (acts ++ step)) at ≡ 0
  outside = outside_by acts step at (new_room k own'.index) (no_node_zero w.filled w.roomy (new_room k own'.index) at w.node) (node_taken place (8 + length body) (new_room k own'.index) at)

  nodes_added : NodesSoFar b now' own own'' (rs ++ range k last ∷ []) (acts ++ step)
  nodes_added = record {
    stay = λ m i. s.stay m (n.stay m i);
    apart = λ m i. taken_both acts step m ∙ or_from _ _ (n.apart m i) (s.apart m (n.stay m i));
    come = λ m i. elim (s.come m i) [ inl j ↦ elim (n.come m j) [ inl k ↦ inl k | inr t ↦ inr (taken_both acts step m ∙ or_left _ _ t) ] | inr t ↦ inr (taken_both acts step m ∙ or_right _ _ t) ];
    sizes = λ m i. s.sizes m (n.stay m i) ∙ n.sizes m i;
    outlined =
        same_with_leaf (taken_places acts) (taken_places (acts ++ step)) new at own'.index (with_ranges own.index rs) n.outlined (λ m i. taken_both acts step m ∙ ap (λ (p : Bool). is_taken_at acts m || p) (s.apart m i) ∙ or-false (is_taken_at acts m)) outside
        ∙ ap (outline []) (sym (fold-append (λ (nodes : Nodes) (r : Range). with_leaf (leaf r.first r.last 0 false) 0 nodes) own.index rs (range k last ∷ [])));
    follow = nodes_then b now now' (indexes_with own.index rs) (indexes_with own.index (rs ++ range k last ∷ [])) (nodes_of own.index) (nodes_of own''.index) own'.index acts step n.follow s n.stay n.sizes n.come
        (λ m i e. through_goes (uses_entry m i) own.index rs (range k last) (inr e))
        (λ m i j e. through_goes (uses_entry m i) own.index rs (range k last) (inl (sym (same_uses (taken_places acts) m i own'.index (with_ranges own.index rs) n.outlined (n.apart m j) (λ zero. absurd (omega (arith, tile_lies now 8 (length now) (shape now).records m (sound so.goes.good so.goes.among).has_shape.tiled (behind_in so.goes.good so.goes.among m (node_behind own' m (n.stay m j))))))) ∙ e)))
        (shape now).records 8 (has so.goes.good so.goes.among).indexed.has_nodes;
  }

  pub index_added : IndexSoFar b now' own own'' first upto (acts ++ step)
  index_added =
      let top = top_grows new at own'.index in
      let tail = subst (λ (v : ℕ). number now' v vdr_vxr_tail ≡ (if bytes_eq (top_chain own'.index) (top_chain own''.index) then number now v vdr_vxr_tail else last_node own''.index)) so.goes.vdr_is w.tail in
      let tail' = tail_then (top_chain own.index) (top_chain own'.index) (top_chain own''.index) (number b own.vdr vdr_vxr_tail) (number now own.vdr vdr_vxr_tail) (number now' own.vdr vdr_vxr_tail) so.index.top top so.index.tail tail in
      let top' = top_then (top_chain own.index) (top_chain own'.index) (top_chain own''.index) so.index.top top in
      let tops = λ (m : ℕ) (i : In m (top_chain own.index)). top_kept new at own'.index m (so.index.tops m i) in
      search (rules, puts_added, tail', top', tops, subst (λ (xs : List Range). NodesSoFar b now' own own'' xs (acts ++ step)) (sym one_new) nodes_added)
