-- The leaves that were put so far: which one more there is once a record is written or a leaf is added, that a put goes through them one after the other, and how that starts.
use Rattle.cdf_puts.proofs.Common.{Act, Ascending, BlocksSoFar, Bool, IndexSoFar, IsOneOf, Kind, Leaf, List, NodeSpareStays, Nodes, NodesFollow, NodesSoFar, None, PutStart, PutsBefore, PutsLeaves, Range, Some, TakesNode, UnusedEntries, VariableShape, [], ap, append_assoc, arith, block_need, bytes_eq-same, covers, each, false, filter, find, first_written, has, if◌then◌else◌, in_order, indexes_with, inl, inr, is_in-true, leaf_acts, leaves_ascend, leaves_of, list_any, nat_tests, ne_eqb, new_ranges, new_room, node_acts, nodes_of, of_le, range, ranges_of, record_bytes, record_number_limit, refl, room, subst, suc, sym, through, top_chain, true, upto, used_count, variable_of, was_put, with_leaf, with_new, zero, ℕ, ◌++◌, ◌+◌, ◌<◌, ◌==◌, ◌∷◌, ◌≡◌, ◌≤◌, rules}
use Rattle.cdf_puts.proofs.CoveringRanges.{of_leaves, written_upto}
use Rattle.cdf_puts.proofs.PutBytes.{none_is_put}

-- ---- which leaves were put

none_pass : (test : Leaf → Bool) (leaves : List Leaf) → ((l : Leaf) → IsOneOf leaves l → test l ≡ false) → filter test leaves ≡ []
none_pass test [] out = refl
none_pass test (x ∷ more) out = grind (arith, out x (inl refl), none_pass test more (λ l i. out l (inr i)))

-- one that does not pass makes no difference
none_more : (test : Leaf → Bool) (leaves : List Leaf) (new : Leaf) → test new ≡ false → filter test (with_new new leaves) ≡ filter test leaves
none_more test [] new out = rw out refl
none_more test (x ∷ more) new out = grind (arith, out, none_more test more new out)

-- the leaf that has record k, and those behind it up to k', was put, or it comes behind those that were
pub put_next : (first k k' low upto : ℕ) (leaves : List Leaf) → Ascending low upto leaves → (l : Leaf) → IsOneOf leaves l → first ≤ k → l.first ≤ k → k < k' → k' ≤ l.last + 1
    → filter (was_put first k') leaves ≡ (if was_put first k l then filter (was_put first k) leaves else filter (was_put first k) leaves ++ l ∷ [])
put_next first k k' low upto [] a l i from f more t = absurd i
put_next first k k' low upto (x ∷ xs) a l (inl q) from f more t =
    let below = λ (n : ℕ) (le : n ≤ k'). none_pass (was_put first n) xs (λ y j. grind (arith, nat_tests, ap (λ (y : Leaf). y.last) q, (in_order (suc x.last) upto xs a.3 y j).from)) in
    grind (arith, nat_tests, q, below k' (omega arith), below k (omega arith))
put_next first k k' low upto (x ∷ xs) a l (inr i) from f more t = grind (arith, nat_tests, (in_order (suc x.last) upto xs a.3 l i).from, put_next first k k' (suc x.last) upto xs a.3 l i from f more t)

-- a leaf that is added comes behind them
pub put_new : (first k k' low upto : ℕ) (leaves : List Leaf) (new : Leaf) → Ascending low upto (with_new new leaves) → IsOneOf (with_new new leaves) new → new.first ≡ k → first ≤ k → k < k' → k' ≤ new.last + 1 → filter (was_put first k') (with_new new leaves) ≡ filter (was_put first k) leaves ++ new ∷ []
put_new first k k' low upto leaves new a i is from more within =
    grind (arith, nat_tests, put_next first k k' low upto (with_new new leaves) a new i from (omega arith) more within, none_more (was_put first k) leaves new)

-- no other leaf begins where none has the record
pub none_begins : (k low upto : ℕ) (leaves : List Leaf) → Ascending low upto leaves → find (λ (leaf : Leaf). covers k (range leaf.first leaf.last)) leaves ≡ None → find (λ (old : Leaf). old.first == k) leaves ≡ None
none_begins k low upto [] a e = refl
none_begins k low upto (x ∷ more) a e = grind (arith, nat_tests, none_begins k (suc x.last) upto more a.3, a.1)

-- ---- a put goes through them

takes_node : (room at : ℕ) (Then : ℕ → List Act → Type 0) (rest : List Act) → (room ≡ 0 → at ≡ 0) → Then at rest → TakesNode room Then (node_acts room at ++ rest)
takes_node zero at Then rest none t = subst (λ (n : ℕ). Then n rest) (none refl) t
takes_node (suc room) at Then rest none t = rw (ne_eqb (suc room) 0 (λ e. absurd (omega arith)), TakesNode) (refl, t)

-- another leaf that was there
pub puts_old : (b : List ℕ) (own own' : VariableShape) (leaves : List Leaf) (acts : List Act) (l : Leaf) → PutsBefore b own own' leaves acts → find (λ (old : Leaf). old.first == l.first) (leaves_of own'.index) ≡ Some l → PutsBefore b own own' (leaves ++ l ∷ []) acts
puts_old b own own' leaves acts l so found last size more acts' end p = rw (append_assoc leaves (l ∷ []) more) (so last size (l ∷ more) acts' end (rw (found, PutsLeaves) (refl, p)))

-- a leaf that is added
pub puts_new : (b : List ℕ) (own own' : VariableShape) (leaves : List Leaf) (acts : List Act) (new : Leaf) (need at : ℕ) → PutsBefore b own own' leaves acts → find (λ (old : Leaf). old.first == new.first) (leaves_of own'.index) ≡ None
    → ((last : List ℕ) → record_bytes last own.vdr ≡ record_bytes b own.vdr → need ≡ block_need last own.vdr new) → (new_room new.first own'.index ≡ 0 → at ≡ 0)
    → PutsBefore b own (record own' { index = with_leaf new at own'.index }) (leaves ++ new ∷ []) (acts ++ leaf_acts new.place need (new_room new.first own'.index) at)
puts_new b own own' leaves acts new need at so none needs none_at last size more acts' end p =
    let room = new_room new.first own'.index in
    let step : PutsLeaves b last false own.vdr (new ∷ more) own'.index (leaf_acts new.place need room at ++ acts') end =
    rw (none, PutsLeaves) (needs last size, (refl, takes_node room at (λ at left. PutsLeaves b last false own.vdr more (with_leaf new at own'.index) left end) acts' none_at p)) in
    rw (append_assoc leaves (new ∷ []) more, append_assoc acts (leaf_acts new.place need room at) acts') (so last size (new ∷ more) (leaf_acts new.place need room at ++ acts') end step)

-- ---- nothing is put, and no range is new

pub covers_own : (leaves : List Leaf) (l : Leaf) → IsOneOf leaves l → l.first ≤ l.last → list_any (covers l.first) (of_leaves leaves) ≡ true
covers_own [] l i le = absurd i
covers_own (x ∷ more) l i le = grind (arith, nat_tests, i, covers_own more l)

pub none_new : (before : List Range) (leaves : List Leaf) → ((l : Leaf) → IsOneOf leaves l → list_any (covers l.first) before ≡ true) → new_ranges before (of_leaves leaves) ≡ []
none_new before [] has = refl
none_new before (x ∷ more) has = rw (has x (inl refl)) (none_new before more (λ l i. has l (inr i)))

-- one more is, and none past it: it comes behind those that are
pub ranges_more : (before : List Range) (low upto : ℕ) (leaves : List Leaf) (new : Leaf) → Ascending low upto leaves → list_any (covers new.first) before ≡ false → ((l : Leaf) → IsOneOf leaves l → new.first < l.first → list_any (covers l.first) before ≡ true)
    → new_ranges before (of_leaves (with_new new leaves)) ≡ new_ranges before (of_leaves leaves) ++ range new.first new.last ∷ []
ranges_more before low upto [] new a out late = rw out refl
ranges_more before low upto (x ∷ more) new a out late =
    grind (arith, nat_tests, out, λ (lt : new.first < x.first). none_new before (x ∷ more) (λ l i. late l i (omega (arith, (in_order x.first upto (x ∷ more) (omega arith, a.1, a.2, a.3) l i).from))), ranges_more before (suc x.last) upto more new a.3 out (λ l i. late l (inr i)))

-- ---- nodes

nodes_first : (b : List ℕ) (through : List Nodes) (nodes : List ℕ) → NodesFollow b b through nodes nodes []
nodes_first b through nodes = record {
  unused = each (UnusedEntries b b through nodes []) nodes (λ m i n from upto. inl (rw (is_in-true m nodes i, of_le (used_count b m) n from) (record { first_is = refl; last_is = refl; offset_is = refl })));
  spare = each (NodeSpareStays b b []) nodes (λ m i e. record { each = λ p low high. refl });
}

-- ---- where the writing begins

module _ {b : List ℕ} {kind : Kind} {before : List VariableShape} {own : VariableShape} {after : List VariableShape} {raw pad : List ℕ} {r : ℕ} (start : PutStart b kind before own after raw pad r) where
  abbrev first : ℕ
  first = first_written (variable_of b own) r

  pub starts_upto : first ≤ r
  starts_upto = written_upto (variable_of b own) r

  pub index_start : IndexSoFar b b own own first first []
  index_start =
      let puts = subst (λ (ls : List Leaf). PutsBefore b own own ls []) (sym (none_pass (was_put first first) (leaves_of own.index) (λ l i. grind (arith, nat_tests)))) (λ last size more acts' end p. p) in
      let nodes = subst (λ (rs : List Range). NodesSoFar b b own own rs []) (sym (none_new (ranges_of own.index) (leaves_of own.index) (λ l i. covers_own (leaves_of own.index) l i (in_order 0 (suc record_number_limit) (leaves_of own.index) (leaves_ascend start.good start.among) l i).ordered)))
      (record { stay = λ m i. i; apart = λ m i. refl; come = λ m i. inl i; sizes = λ m i. refl; outlined = refl; follow = nodes_first b (indexes_with own.index []) (nodes_of own.index) }) in
      search (rules, bytes_eq-same (top_chain own.index), puts, nodes)

  pub blocks_start : BlocksSoFar b b own own raw pad r first first [] []
  blocks_start = none_is_put (record { longer = omega arith; same = λ place lt out. refl }) (λ l i. record { each = λ p low high. refl })
