-- The bytes of the blocks while records are put: two steps are one, and in the last one none is put.
use Rattle.cdf_puts.proofs.Common.{Act, Ascending, Beside, Changed, Good, IsOneOf, Kind, Leaf, LeavesGoOn, List, OldBlock, PlainLeaf, RecordIs, Same, SoFar, Some, StandsAmong, Touch, VariableShape, [], ap, arith, behind_in, block_behind, cases_lt, covers, covers_within, drop, extent, false, find, find_covering, first_written, inl, inr, is_compressed, is_taken_at, leaves_of, length, long, max_rec_at, min, nat_tests, piece_kept, place_in, plain_leaf, put, range, record_bytes, record_of, record_place, refl, shape, size_at, sound, subst, suc, take, take_at, tile_lies, times_le, upto, variable_of, word_kept, ℕ, ◌*◌, ◌++◌, ◌+◌, ◌-◌, ◌<◌, ◌∙◌, ◌≡◌, ◌≤◌, ◌⊎◌}
use Rattle.cdf_edits.proofs.Edits.LeafPieces.{found_in}
use Rattle.cdf_fields.proofs.Writes.{drop-put_there}
use Rattle.cdf_puts.proofs.GoesThen.{later_loose, later_size}
use Rattle.cdf_puts.proofs.PutNodes.{taken_both}

-- a leaf that is not the one of a record ends before it, or begins behind it
pub beside_one : (k low upto : ℕ) (leaves : List Leaf) → Ascending low upto leaves → (l : Leaf) → IsOneOf leaves l → (find (λ (leaf : Leaf). covers k (range leaf.first leaf.last)) leaves ≡ Some l → ⊥) → (l.last < k) ⊎ (k < l.first)
beside_one k low upto leaves a l i out = grind (arith, nat_tests, out, find_covering k low upto leaves a l i)

-- the leaf that is found has the record
pub found_covering : (k : ℕ) (leaves : List Leaf) (l : Leaf) → find (λ (leaf : Leaf). covers k (range leaf.first leaf.last)) leaves ≡ Some l → IsOneOf leaves l × ((l.first ≤ k) × (k ≤ l.last))
found_covering k leaves l e = let is = found_in (λ (leaf : Leaf). covers k (range leaf.first leaf.last)) leaves l e in (is.0, covers_within k l is.1)

-- bytes are read where they were put
pub put_there : (b : List ℕ) (place : ℕ) (xs : List ℕ) → place ≤ length b → take (length xs) (drop place (put b place xs)) ≡ xs
put_there b place xs le = ap (take (length xs)) (drop-put_there b xs place le) ∙ take_at xs (drop (place + length xs) b) (length xs) refl

-- ---- where a record stands in its block

-- records of one block do not meet
pub records_apart : (j k f size : ℕ) → f ≤ j → j < k → 12 + (j - f) * size + size ≤ 12 + (k - f) * size
records_apart j k f size a lt = omega (arith, times_le (suc (j - f)) (k - f) size (omega arith))

-- what stands behind all records is beside each
pub behind_all : (first k size : ℕ) (l : Leaf) (place : ℕ) → l.place + (12 + (l.last + 1 - l.first) * size) ≤ place → Beside first k size l place
behind_all first k size l place le j from upto f t = inr (omega (arith, records_apart j (l.last + 1) l.first size f (omega arith)))

-- ---- a plain block that an image has whole

pub record Whole (b : List ℕ) (size : ℕ) (l : Leaf) : Type 0 where
  pub leaf : PlainLeaf b size l
  pub inside : l.place + size_at b l.place ≤ length b

pub whole : {b : List ℕ} {kind : Kind} {before : List VariableShape} {own : VariableShape} {after : List VariableShape} → Good b → StandsAmong b kind before own after → is_compressed b own.vdr ≡ false → (l : Leaf) → IsOneOf (leaves_of own.index) l → Whole b (record_bytes b own.vdr) l
whole {b = b} {own = own} good at loose l i = record { leaf = plain_leaf good at loose l i; inside = (tile_lies b 8 (length b) (shape b).records l.place (sound good at).has_shape.tiled (behind_in good at l.place (block_behind own l.place (place_in (leaves_of own.index) l i)))).high }

-- it keeps its size
pub old_size : {b now raw pad : List ℕ} {r first k size : ℕ} {l : Leaf} → OldBlock b now raw pad r first k size l → 12 ≤ size_at b l.place → size_at now l.place ≡ size_at b l.place
old_size {b = b} {now = now} {l = l} o long = word_kept b now l.place (l.place + 8) (record { each = λ p low high. o.kept p low (omega arith) (λ j from upto f t. inl (omega arith)) }) (l.place + 0) 8 (omega arith) (omega arith)

-- a record that is not put stays
pub piece_stays : {b now raw pad : List ℕ} {r first k size : ℕ} {l : Leaf} → OldBlock b now raw pad r first k size l → Whole b size l → length b ≤ length now → (j : ℕ) → l.first ≤ j → j ≤ l.last → (j < first) ⊎ (k ≤ j) → take size (drop (record_place l size j) now) ≡ take size (drop (record_place l size j) b)
piece_stays {b = b} {now = now} {first = first} {k = k} {size = size} {l = l} o w longer j f t side =
    let fit = records_apart j (l.last + 1) l.first size f (omega arith) in
    let kept = λ (p : ℕ) (low : record_place l size j ≤ p) (high : p < record_place l size j + size). o.kept p (omega arith) (omega (arith, w.leaf.room)) (λ n from upto f' t'. grind (arith, side, records_apart j n l.first size f, records_apart n j l.first size f')) in
    piece_kept b now (record_place l size j) (record_place l size j + size) (record { each = kept }) (record_place l size j) size (omega arith) (omega arith) (omega (arith, w.leaf.room, w.inside)) longer

-- ---- two steps are one

module _ {b mid now : List ℕ} {olds leaves leaves' : List Leaf} {raw pad : List ℕ} {r first most k k' size : ℕ} {acts acts' : List Act} {fields : List Touch} (was : (l : Leaf) → IsOneOf olds l → Whole b size l) (is : (l : Leaf) → IsOneOf leaves l → Whole mid size l) (from : first ≤ k) (upto : k ≤ k') (end : k' ≤ r + 1)
    (x : LeavesGoOn b mid olds leaves raw pad r first most k size acts []) (y : LeavesGoOn mid now leaves leaves' raw pad r k most k' size acts' fields) where
  -- a record that is not put again
  record_stays : (l : Leaf) → IsOneOf leaves l → (j : ℕ) → l.first ≤ j → j ≤ l.last → min (j + 1) (r + 1) ≤ k → RecordIs mid size l j (record_of raw pad r j) → RecordIs now size l j (record_of raw pad r j)
  record_stays l i j f t before e = piece_stays (y.old l i) (is l i) y.longer j f t (elim (cases_lt j k) [ inl lt ↦ inl lt | inr le ↦ inr (omega arith) ]) ∙ e

  old_then : (l : Leaf) → IsOneOf olds l → OldBlock b now raw pad r first k' size l
  old_then l i =
      let sized = old_size (x.old l i) (omega (arith, (was l i).leaf.room)) in
      grind (arith, cases_lt, x.stay l i, x.old l i, y.old l, record_stays l)

  pub leaves_then : LeavesGoOn b now olds leaves' raw pad r first most k' size (acts ++ acts') fields
  leaves_then =
      let neither : (m : ℕ) → is_taken_at (acts ++ acts') m ≡ false → (is_taken_at acts m ≡ false) × (is_taken_at acts' m ≡ false) = λ m e. grind (arith, e, taken_both acts acts' m) in
      let sized = λ (l : Leaf) (j : IsOneOf leaves l). old_size (y.old l j) (omega (arith, (is l j).leaf.room)) in
      record {
        longer = omega (arith, x.longer, y.longer);
        stay = λ l i. y.stay l (x.stay l i);
        apart = λ l i. grind (arith, taken_both acts acts' l.place, x.apart l i, y.apart l (x.stay l i));
        old = old_then;
        new = λ l i. grind (arith, y.new l i, x.new l, is l, sized l, record_stays l, y.old l, behind_all k k' size l, taken_both acts acts' l.place);
        has = λ j from' low. elim (cases_lt j k) [ inl lt ↦ let h = x.has j from' lt in (h.0, (y.stay h.0 h.1.0, h.1.1)) | inr le ↦ y.has j le low ];
        quiet = λ none p lt out beside. y.quiet (λ m. (neither m (none m)).1) p (omega (arith, x.longer)) out (λ l i n a. beside l i n (omega arith)) ∙ x.quiet (λ m. (neither m (none m)).0) p lt tt (λ l i n a c. beside l (y.stay l i) n a (omega arith));
      }

-- no record is put, and no byte of the blocks changes
pub none_is_put : {b now : List ℕ} {leaves : List Leaf} {raw pad : List ℕ} {r k most size : ℕ} {fields : List Touch} → Changed b now fields → ((l : Leaf) → IsOneOf leaves l → Same b now l.place (l.place + size_at b l.place)) → LeavesGoOn b now leaves leaves raw pad r k most k size [] fields
none_is_put c same = search (arith, c, c.same, same)

-- ---- the blocks of a variable in which records are put

module _ {b now : List ℕ} {kind : Kind} {before : List VariableShape} {own own' : VariableShape} {after : List VariableShape} {raw pad : List ℕ} {r k : ℕ} {acts : List Act} (so : SoFar b now kind before own own' after raw pad r k acts) where
  pub size_now : record_bytes now own'.vdr ≡ record_bytes b own.vdr
  size_now = later_size so.start.good so.start.among so.goes

  pub loose_now : is_compressed now own'.vdr ≡ false
  loose_now = later_loose so.start.good so.start.among so.goes so.start.loose

  pub now_whole : (l : Leaf) → IsOneOf (leaves_of own'.index) l → Whole now (record_bytes b own.vdr) l
  now_whole l i = subst (λ (n : ℕ). Whole now n l) size_now (whole so.goes.good so.goes.among loose_now l i)

  pub blocks_then : {now' : List ℕ} {leaves' : List Leaf} {k' : ℕ} {step acts' : List Act} {fields : List Touch} → k ≤ k' → k' ≤ r + 1 → acts ++ step ≡ acts' → LeavesGoOn now now' (leaves_of own'.index) leaves' raw pad r k (extent (max_rec_at b own.vdr)) k' (record_bytes b own.vdr) step fields
      → LeavesGoOn b now' (leaves_of own.index) leaves' raw pad r (first_written (variable_of b own) r) (extent (max_rec_at b own.vdr)) k' (record_bytes b own.vdr) acts' fields
  blocks_then {now' = now'} {leaves' = leaves'} {k' = k'} {fields = fields} more end same y =
      subst (λ (xs : List Act). LeavesGoOn b now' (leaves_of own.index) leaves' raw pad r (first_written (variable_of b own) r) (extent (max_rec_at b own.vdr)) k' (record_bytes b own.vdr) xs fields) same (leaves_then (whole so.start.good so.start.among so.start.loose) now_whole so.covers.from more end so.blocks y)
