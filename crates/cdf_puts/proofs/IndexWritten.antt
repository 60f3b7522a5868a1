-- A record is written in a block: the record holds its bytes, no other byte changes, and the index stays; of the leaves that were put the one of the record is the last by then.
use Rattle.cdf_puts.proofs.Common.{Act, BlocksSoFar, Changed, Each-in, Good, HasShape, In, IndexSoFar, IsOneOf, Kind, Leaf, LeavesGoOn, List, NodeFits, NodesSoFar, OldBlock, Outside-append, PutsBefore, RecordIs, RecordsWritten, Same, SoFar, StandsAmong, Touch, VariableShape, WritesRecords, [], ap, apart, append-nil, arith, behind_in, block_behind, block_kept, byte, cases_eq, cast_signed, changed_part, drop, either, extent, file, filter, find_covering, find_first, first_written, fits, gdr_in, gdr_long, gdr_r_max_rec, gdr_type, gdr_typed, inl, inr, integer4, is_max_rec, leaves_apart, leaves_ascend, leaves_of, length, length-put, long, max_rec_at, max_rec_touches, new_ranges, no_block, node_kept, nodes_of, number, one_place, own_rules, part, place_in, places_of, r_max_rec, ranges_of, record_bytes, record_number_limit, record_of, record_place, refl, same_Some, shape, size_at, size_kept, sound, subst, suc, sym, take, tile, touch, type_at, variable_of, vdr_max_rec, vdr_vxr_tail, vvr_type, w32, was_put, word_kept, ℕ, ◌*◌, ◌+◌, ◌-◌, ◌<◌, ◌∙◌, ◌∷◌, ◌≡◌, ◌≢◌, ◌≤◌, ◌⊎◌, ◌++◌, rules, Beside, Outside, is_taken_at, false, NewBlock, changed_put, is_compressed}
use Rattle.cdf_puts.proofs.PutBytes.{Whole, blocks_then, found_covering, loose_now, put_there, size_now, whole}
use Rattle.cdf_puts.proofs.SoFarStarts.{put_next, puts_old}
use Rattle.cdf_puts.proofs.PutNodes.{nodes_same, unless_true}

-- the leaf has the record
found_leaf : {b now : List ℕ} {own : VariableShape} {l : Leaf} {k : ℕ} {raw : List ℕ} → RecordsWritten b now own l k raw → IsOneOf (leaves_of own.index) l × ((l.first ≤ k) × (k ≤ l.last))
found_leaf {own = own} {l = l} {k = k} w = found_covering k (leaves_of own.index) l w.found

module _ {b now : List ℕ} {kind : Kind} {before : List VariableShape} {own : VariableShape} {after : List VariableShape} {l : Leaf} {k : ℕ} {bytes : List ℕ} (good : Good b) (at : StandsAmong b kind before own after) (w : RecordsWritten b now own l k bytes) (loose : is_compressed b own.vdr ≡ false) where
  abbrev leaves : List Leaf
  leaves = leaves_of own.index

  abbrev size : ℕ
  size = record_bytes b own.vdr

  abbrev ts : List Touch
  ts = touch l.place (12 + (k - l.first) * size) (length bytes) ∷ []

  h : HasShape b (shape b)
  h = (sound good at).has_shape

  here : Whole b size l
  here = whole good at loose l (found_leaf w).0

  block : In l.place (places_of leaves)
  block = place_in leaves l (found_leaf w).0

  fits_in : 12 + (k - l.first) * size + length bytes ≤ size_at b l.place
  fits_in = omega (arith, w.within, here.leaf.room)

  changed_here : Changed b now ts
  changed_here = rw w.written (changed_put b l.place (12 + (k - l.first) * size) (length bytes) bytes refl (omega (arith, fits_in, here.inside)))

  -- another record stays
  stays : (m lo hi : ℕ) → In m (shape b).records → m ≢ l.place → hi ≤ size_at b m → Same b now (m + lo) (m + hi)
  stays m lo hi i other fit = changed_part b now (shape b).records (length b) h.tiled (omega arith) ts changed_here (inl (behind_in good at l.place (block_behind own l.place block), fits_in), tt) m lo hi i fit ((λ e. absurd (other e)), tt)

  pub max_rec_kept : number now own.vdr vdr_max_rec ≡ number b own.vdr vdr_max_rec
  max_rec_kept = word_kept b now (own.vdr + 24) (own.vdr + 28) (stays own.vdr 24 28 (tile good at) (λ e. no_block good at (subst (λ (x : ℕ). In x (places_of leaves)) (sym e) block)) (let n = long good at in omega arith)) (own.vdr + 24) 4 (omega arith) (omega arith)

  pub writes : WritesRecords b now kind own ts
  writes =
      let changed : Changed b now (max_rec_touches b kind own.vdr ++ ts) = record { longer = changed_here.longer; same = λ place lt out. changed_here.same place lt (Outside-append (max_rec_touches b kind own.vdr) ts place out).1 } in
      search (rules, changed, ap length w.written ∙ length-put b (record_place l size k) bytes (omega (arith, fits_in, here.inside)), block, here.leaf.typed, fits_in, ap is_max_rec max_rec_kept ∙ (own_rules good at).0.1.1.1.1.1.1.1.0)

  pub r_max_rec_stays : r_max_rec now ≡ r_max_rec b
  r_max_rec_stays =
      let same = stays (shape b).gdr 52 56 (gdr_in b (shape b) h) (λ e. apart gdr_type vvr_type refl (sym (gdr_typed b (shape b) h) ∙ ap (type_at b) e ∙ here.leaf.typed)) (omega (arith, gdr_long b (shape b) h)) in
      let field : integer4 now (shape b).gdr gdr_r_max_rec ≡ integer4 b (shape b).gdr gdr_r_max_rec = ap (cast_signed w32) (word_kept b now ((shape b).gdr + 52) ((shape b).gdr + 56) same ((shape b).gdr + 52) 4 (omega arith) (omega arith)) in
      ap (λ (x : ℕ). integer4 now x gdr_r_max_rec) (file good at writes).gdr_is ∙ subst (λ (x : ℕ). integer4 now x gdr_r_max_rec ≡ integer4 b x gdr_r_max_rec) (sym h.gdr_is) field

  -- ---- the record is put

  beside : length bytes ≡ size → (place : ℕ) → place < length b → (place < record_place l size k) ⊎ (record_place l size k + size ≤ place) → byte now place ≡ byte b place
  beside as_long place lt side = changed_here.same place lt (subst (λ (n : ℕ). (place < record_place l size k) ⊎ (record_place l size k + n ≤ place)) (sym as_long) side, tt)

  there : length bytes ≡ size → take size (drop (record_place l size k) now) ≡ bytes
  there as_long = (let long = sym as_long in λ i. take (long i) (drop (record_place l size k) (w.written i))) ∙ put_there b (record_place l size k) bytes (omega (arith, fits_in, here.inside))

  module _ {raw pad : List ℕ} {r : ℕ} (is : bytes ≡ record_of raw pad r k) (as_long : length bytes ≡ size) where
    block_of : OldBlock b now raw pad r k (k + 1) size l
    block_of = record { written = λ j from upto f t. subst (λ (n : ℕ). RecordIs now size l n (record_of raw pad r n)) (omega arith) (there as_long ∙ is); kept = λ p low high out. beside as_long p (omega (arith, here.inside)) (out k (omega arith) (omega arith) (found_leaf w).1.0 (found_leaf w).1.1) }

    each_block : (l' : Leaf) → IsOneOf leaves l' → OldBlock b now raw pad r k (k + 1) size l'
    each_block l' i = elim (cases_eq l'.place l.place) [
      | inl e ↦ subst (OldBlock b now raw pad r k (k + 1) size) (one_place leaves (leaves_apart good at) l l' (found_leaf w).0 i (sym e)) block_of
      | inr ne ↦ record {
        written = λ j from upto f t. absurd (ne (ap (λ (y : Leaf). y.place) (same_Some l' l (sym (find_covering k 0 (suc record_number_limit) leaves (leaves_ascend good at) l' i (omega arith) (omega arith)) ∙ w.found))));
        kept = λ p low high out. (block_kept good at writes l'.place (place_in leaves l' i) (λ j. elim j [ inl e ↦ ne e | inr none ↦ none ])).same.each p low high;
      }
    ]

    pub leaves_written : {most : ℕ} → LeavesGoOn b now leaves leaves raw pad r k most (k + 1) size [] []
    leaves_written {most} =
        let here = found_leaf w in
        let new : (l : Leaf) → IsOneOf leaves l → IsOneOf leaves l ⊎ NewBlock now raw pad r k most (k + 1) size [] l = λ l i. inl i in
        let has : (j : ℕ) → k ≤ j → j < k + 1 → (l : Leaf) × (IsOneOf leaves l × ((l.first ≤ j) × (j ≤ l.last))) = λ j from upto. (l, (here.0, (omega (arith, here.1.0), omega (arith, here.1.1)))) in
        let quiet = λ (none : (m : ℕ) → is_taken_at [] m ≡ false) (p : ℕ) (lt : p < length b) (out : Outside [] p) (side : (l : Leaf) → IsOneOf leaves l → Beside k (k + 1) size l p). beside as_long p lt (side l here.0 k (omega arith) (omega arith) here.1.0 here.1.1) in
        search (rules, changed_here.longer, each_block, new, has, quiet)

-- ---- while records are put

-- where the records of the variable are written, or MaxRec, no node changes, and VXRtail stays
module _ {b now now' : List ℕ} {kind : Kind} {before : List VariableShape} {own own' : VariableShape} {after : List VariableShape} {raw pad : List ℕ} {r k : ℕ} {acts : List Act} {ts : List Touch} (so : SoFar b now kind before own own' after raw pad r k acts) (w : WritesRecords now now' kind own' ts) where
  pub tail_still : number now' own'.vdr vdr_vxr_tail ≡ number now own'.vdr vdr_vxr_tail
  tail_still = word_kept now now' (own'.vdr + 28) (own'.vdr + 44) (part so.goes.good so.goes.among w 28 44 (inr (omega arith)) (let n = long so.goes.good so.goes.among in omega arith)) (own'.vdr + 36) 8 (omega arith) (omega arith)

  pub nodes_still : NodesSoFar b now' own own' (new_ranges (ranges_of own.index) (ranges_of own'.index)) acts
  nodes_still =
      let n = so.index.nodes in
      let kept = node_kept so.goes.good so.goes.among w in
      let sizes = λ (m : ℕ) (i : In m (nodes_of own.index)). (let k = kept m (n.stay m i) in size_kept now now' m k.same (let l = k.long in omega arith) ∙ n.sizes m i) in
      let follow = nodes_same b now now' _ (nodes_of own.index) (nodes_of own'.index) acts (λ m i. Each-in (NodeFits now) (nodes_of own'.index) (fits so.goes.good so.goes.among).1 m i) kept (λ m j e. n.sizes m (unless_true (n.come m j) e)) n.follow in
      search (rules, n, sizes, follow)

module _ {b now now' : List ℕ} {kind : Kind} {before : List VariableShape} {own own' : VariableShape} {after : List VariableShape} {raw pad : List ℕ} {r k : ℕ} {acts : List Act} {l : Leaf} (so : SoFar b now kind before own own' after raw pad r k acts) (more : k ≤ r) (w : RecordsWritten now now' own' l k (record_of raw pad r k)) (as_long : length (record_of raw pad r k) ≡ record_bytes b own.vdr) where
  abbrev first : ℕ
  first = first_written (variable_of b own) r

  abbrev now_leaves : List Leaf
  now_leaves = leaves_of own'.index

  pub blocks_written : BlocksSoFar b now' own own' raw pad r first (k + 1) acts []
  blocks_written = blocks_then so (omega arith) (omega arith) (append-nil acts) (subst (λ (n : ℕ). LeavesGoOn now now' now_leaves now_leaves raw pad r k (extent (max_rec_at b own.vdr)) (k + 1) n [] []) (size_now so) (leaves_written so.goes.good so.goes.among w (loose_now so) refl (as_long ∙ sym (size_now so))))

  -- ---- the index

  puts_written : PutsBefore b own own' (filter (was_put first (k + 1)) now_leaves) acts
  puts_written =
      let ascend = leaves_ascend so.goes.good so.goes.among in
      let next = put_next first k (k + 1) 0 (suc record_number_limit) now_leaves ascend l (found_leaf w).0 so.covers.from (found_leaf w).1.0 (omega arith) (omega (arith, (found_leaf w).1.1)) in
      rw next (elim (either (was_put first k l)) [ inl t ↦ rw t so.index.puts | inr t ↦ rw t (puts_old b own own' (filter (was_put first k) now_leaves) acts l so.index.puts (find_first 0 (suc record_number_limit) now_leaves ascend l (found_leaf w).0)) ])

  pub index_written : IndexSoFar b now' own own' first (k + 1) acts
  index_written =
      let writing = writes so.goes.good so.goes.among w (loose_now so) in
      search (rules, puts_written, subst (λ (v : ℕ). number now' v vdr_vxr_tail ≡ number now v vdr_vxr_tail) so.goes.vdr_is (tail_still so writing) ∙ so.index.tail, so.index, nodes_still so writing)
