-- What is past MaxRec was cut, and then a record was put: the bytes of the blocks, and what is stored as each record that was not put, are as the command says.
use Rattle.cdf_puts.proofs.Common.{Act, Bool, Each, GoesOn, HoldsPads, Kind, Leaf, List, Nodes, PutsBytes, Range, SpareIs, Gave, Took, Stays, UnwrittenStay, Variable, VariableShape, [], ap, arith, block_end, byte, count_is, covers, cuts_before_put, each_of, extent, false, find, first_written, inl, inr, is_changed, is_little, is_rewritten, is_taken_at, leaves_of, list_any, lt-ltb, max_rec_at, pad_record, range, ranges_before_put, ranges_of, record_bytes, record_number_limit, refl, shape, shared, stays_in_place, stored_bytes, subst, sym, taken, true, true≢false, turned, type_of_variable, variable_of, was_leaf, ℕ, ◌&&◌, ◌*◌, ◌++◌, ◌+◌, ◌-◌, ◌<◌, ◌∙◌, ◌∷◌, ◌≡◌, ◌≤◌, ◌⊎◌, BlockFollows, or_parts, own_rules, index_order, cases_lt, map, is_in, StaysUnwritten, IsOneOf, PlainLeaf, nat_lt}
use Rattle.cdf_puts.proofs.CoveringRanges.{some_or_none}
use Rattle.cdf_puts.proofs.DoneBytes as putting
use Rattle.cdf_puts.proofs.PutBytes.{behind_all, found_covering}
use Rattle.cdf_edits.specs.Commands.Room.{uncovered}
use Rattle.cdf_edits.specs.Index.Written.{ReservedIs}
use Rattle.std.specs.Prelude.{not, ◌==◌}
use Rattle.cdf_edits.proofs.Edits.ActsThen.{taken-gave}
use Rattle.cdf_cuts.proofs.CutStay.{LeftOf, from_left, nodes_left, to_left}
use Rattle.cdf_cuts.proofs.PastContent.{stored_front}
use Rattle.cdf_cuts.proofs.PastFollows as cutting
use Rattle.cdf_cuts.proofs.PastKept.{front, same_index, some_left}
use Rattle.cdf_cuts.specs.Past.{cut_off, past_acts, past_span}
use Rattle.cdf_cuts.specs.Planning.{freed_of, plan_of}
use Rattle.cdf_gaps.proofs.CutThenPut.{CutThenPut, size_mid, variable_mid}
use Rattle.cdf_gaps.proofs.PastStart as start

-- ---- acts that only free records, and acts behind them

pub taken_behind : (xs ys : List Act) → taken xs ≡ [] → taken (xs ++ ys) ≡ taken ys
taken_behind [] ys e = refl
taken_behind (Took place need ∷ xs) ys e = absurd cc
taken_behind (Gave place size ∷ xs) ys e = taken_behind xs ys e

-- ---- a block that is not written or cut

-- all records of such a block are before the first record that is cut
unrewritten : (v : Variable) (r first : ℕ) (l : Leaf) → cuts_before_put v r ≡ true → first ≡ extent v.max_rec → l.first ≤ l.last → l.last ≤ record_number_limit → is_rewritten v r (range l.first l.last) ≡ false → l.last < first
unrewritten v r first l cuts is order small e = elim (cases_lt l.last first) [
  | inl lt ↦ lt
  | inr ge ↦
      let some : nat_lt 0 (shared (extent v.max_rec) record_number_limit (range l.first l.last)) ≡ true = lt-ltb 0 (shared (extent v.max_rec) record_number_limit (range l.first l.last)) (omega (arith, is)) in
      let none = (or_parts (nat_lt 0 (shared (first_written v r) r (range l.first l.last))) (cuts_before_put v r && nat_lt 0 (shared (extent v.max_rec) record_number_limit (range l.first l.last))) e).1 in
      absurd (true≢false (sym (rw (cuts, some) refl) ∙ none))
]

same_leaf : (l m : Leaf) → m.place ≡ l.place → m.packed ≡ l.packed → m.first ≡ l.first → m.last ≡ l.last → m ≡ l
same_leaf l m p q f t = λ i. record { first = f i; last = t i; place = p i; packed = q i }

-- only a packed block has a field rfuA
reserved_plain : (b now : List ℕ) (from : List Leaf) (l : Leaf) → l.packed ≡ false → (was_taken : Bool) → ReservedIs b now from l was_taken
reserved_plain b now from l e true = λ q. absurd (true≢false (sym q ∙ e))
reserved_plain b now from l e false = λ q. absurd (true≢false (sym q ∙ e))

not_all : (p q : Bool) → (p && (q && false)) ≡ false
not_all false q = refl
not_all true true = refl
not_all true false = refl

module _ {b mid now last : List ℕ} {kind : Kind} {before : List VariableShape} {own own' : VariableShape} {after : List VariableShape} {raw pad : List ℕ} {first r : ℕ} {acts : List Act} (t : CutThenPut b mid now last kind before own own' after raw pad first r acts) where
  abbrev v : Variable
  v = variable_of b own

  -- the variable once it is cut
  abbrev rest : VariableShape
  rest = cut_off own first

  abbrev v' : Variable
  v' = variable_of mid rest

  abbrev size : ℕ
  size = record_bytes b own.vdr

  abbrev olds : List Leaf
  olds = leaves_of own.index

  abbrev mids : List Leaf
  mids = leaves_of rest.index

  abbrev leaves : List Leaf
  leaves = leaves_of own'.index

  abbrev cut_acts : List Act
  cut_acts = past_acts b own first

  -- ---- the cut

  same : v' ≡ v
  same = variable_mid t

  cuts : cuts_before_put v r ≡ true
  cuts = start.cuts_was t.good t.among t.cut t.first_is t.rule r t.past

  begins : ranges_before_put v own.index r ≡ ranges_of rest.index
  begins = start.ranges_was t.good t.among t.cut t.first_is t.rule r t.past

  left : LeftOf (past_span first) olds mids
  left = subst (λ (y : Nodes). LeftOf (past_span first) olds (leaves_of y)) (same_index first own.index (index_order b (shape b).records own.vdr own.index (own_rules t.good t.among).1)) (nodes_left (past_span first) own.index)

  pub was_plain : (l : Leaf) → IsOneOf olds l → PlainLeaf b size l
  was_plain = cutting.plain t.good t.among t.cut

  -- a leaf that is left keeps the bytes of its block, and all its records are before the first record that is cut
  pub record Left (m : Leaf) : Type 0 where
    pub stays : Stays b mid m.place []
    pub ends : m.last < first

  pub is_left : (m : Leaf) → IsOneOf mids m → Left m
  is_left m i =
      let o = from_left (past_span first) olds mids left m i in
      let e = front first o.0 m (was_plain o.0 o.1.0).small o.1.1 in
      record { stays = subst (λ (p : ℕ). Stays b mid p []) (sym e.place_is) (cutting.block_stays t.good t.among t.cut o.0 o.1.0 e.reaches); ends = omega (arith, e.last_is, e.reaches) }

  -- a leaf of which no record is written or cut is left
  pub stays_left : (l : Leaf) → IsOneOf olds l → is_rewritten v r (range l.first l.last) ≡ false → IsOneOf mids l
  stays_left l i e =
      let p = was_plain l i in
      let ends = unrewritten v r first l cuts t.first_is p.ordered p.small e in
      let o = to_left (past_span first) olds mids left l i (some_left first l p.small (omega (arith, p.ordered, ends))) in
      let f = front first l o.0 p.small o.1.1 in
      subst (λ (m : Leaf). IsOneOf mids m) (same_leaf l o.0 f.place_is f.packed_is f.first_is (f.last_is ∙ omega (arith, ends))) o.1.0

  -- ---- what is stored as a record that was not put

  unwritten : UnwrittenStay b last v r own own'
  unwritten k c side =
      let found : list_any (covers k) (ranges_of rest.index) ≡ true = subst (λ (rs : List Range). list_any (covers k) rs ≡ true) begins c in
      elim (some_or_none (find (λ (leaf : Leaf). covers k (range leaf.first leaf.last)) mids)) [
        | inl x ↦
            let o = found_covering k mids x.0 x.1 in
            let stored = putting.stored_same t.so t.done k (λ e. absurd (true≢false (sym found ∙ putting.none_covered k mids e))) (subst (λ (w : Variable). (k < first_written w r) ⊎ (r < k)) (sym same) side) in
            ap (λ (n : ℕ). stored_bytes last n size leaves k) t.so.goes.vdr_is ∙ ap (λ (n : ℕ). stored_bytes last own.vdr n leaves k) (sym (size_mid t)) ∙ stored ∙ ap (λ (n : ℕ). stored_bytes mid own.vdr n mids k) (size_mid t)
            ∙ stored_front t.good t.among t.cut k (omega (arith, o.1.1, (is_left x.0 o.0).ends))
        | inr none ↦ absurd (true≢false (sym found ∙ putting.none_covered k mids none))
      ]

  -- ---- the blocks

  pub none_taken : taken cut_acts ≡ []
  none_taken = taken-gave b (freed_of (plan_of (past_span first) 0 own.index))

  pub taken_is : taken (cut_acts ++ acts) ≡ taken acts
  taken_is = taken_behind cut_acts acts none_taken

  takes_at : (m : ℕ) → is_taken_at (cut_acts ++ acts) m ≡ is_taken_at acts m
  takes_at m = ap (λ (xs : List (ℕ × ℕ)). is_in m (map (λ take. take.0) xs)) taken_is

  -- behind its records a block that is left is as it was before the cut
  old_spare : (l : Leaf) → IsOneOf mids l → SpareIs b last own'.vdr l false
  old_spare l o =
      let k = is_left l o in
      let x = putting.last_plain t.so t.done l ((putting.all t.so t.done).stay l o) in
      let end : block_end last own'.vdr l ≡ 12 + (l.last + 1 - l.first) * record_bytes mid rest.vdr = rw (x.plain, count_is l x.small x.ordered, putting.size_last t.so t.done) refl in
      let long = k.stays.size_is in
      record {
        each = λ p low high.
            let n : p ≡ l.place + (p - l.place) = omega (arith, low) in
            ((putting.all t.so t.done).old l o).kept p (omega (arith, low)) (omega (arith, high, long)) (behind_all (first_written v' r) (r + 1) (record_bytes mid rest.vdr) l p (omega (arith, low, end)))
            ∙ ap (byte mid) n ∙ k.stays.same (p - l.place) (omega (arith, low, high)) tt ∙ ap (byte b) (sym n);
      }

  blocks : (l : Leaf) → IsOneOf leaves l → BlockFollows b last v.rle own'.vdr (was_leaf olds l) (cut_acts ++ acts) l
  blocks l i =
      let x = putting.last_plain t.so t.done l i in
      let end : block_end last own'.vdr l ≡ 12 + (l.last + 1 - l.first) * record_bytes mid rest.vdr = rw (x.plain, count_is l x.small x.ordered, putting.size_last t.so t.done) refl in
      let spare : SpareIs b last own'.vdr l (is_taken_at acts l.place) = elim ((putting.all t.so t.done).new l i) [
        | inl o ↦ rw ((putting.all t.so t.done).apart l o) (old_spare l o)
        | inr n ↦ rw n.was_taken (λ p low high. n.spare p (omega (arith, low, end)) high)
      ] in
      record {
        packed = λ e. absurd (true≢false (sym e ∙ t.cut.loose));
        spare = subst (SpareIs b last own'.vdr l) (sym (takes_at l.place)) spare;
        reserved = reserved_plain b last (was_leaf olds l) l x.plain (is_taken_at (cut_acts ++ acts) l.place);
      }

  -- ---- pads

  module _ (pad_stored : extent (max_rec_at b own.vdr) ≤ r → pad ≡ turned (type_of_variable b own.vdr) (is_little b) (pad_record (variable_of b own))) where
    pad_mid : extent (max_rec_at mid rest.vdr) ≤ r → pad ≡ turned (type_of_variable mid rest.vdr) (is_little mid) (pad_record v')
    pad_mid le = let p = t.past in pad_stored (omega (arith, t.first_is, p)) ∙ (λ i. turned ((sym same) i).type ((sym t.cut.goes_on.file.little) i) (pad_record ((sym same) i)))

    padded : Each (HoldsPads last v own'.vdr r (ranges_before_put v own.index r)) leaves
    padded =
        let over_mid = (putting.bytes_done t.so t.done pad_mid).padded in
        subst (λ (w : Variable). Each (HoldsPads last w own'.vdr r (ranges_before_put v own.index r)) leaves) same
        (subst (λ (rs : List Range). Each (HoldsPads last v' own'.vdr r rs) leaves) (t.so.start.same_ranges ∙ sym begins) over_mid)

    -- ---- the bytes of the variable

    bytes_are : PutsBytes b last kind v r own own' (cut_acts ++ acts)
    bytes_are = record {
      in_place = λ e. absurd (true≢false (sym e ∙ not_in_place));
      others_stay = each_of (StaysUnwritten v r leaves) olds (λ l i e. (putting.all t.so t.done).stay l (stays_left l i e));
      unwritten_stay = unwritten;
      padded = padded;
      blocks = each_of (λ (l : Leaf). is_changed v r (ranges_of own.index) l ≡ true → BlockFollows b last v.rle own'.vdr (was_leaf olds l) (cut_acts ++ acts) l) leaves (λ l i changed. blocks l i);
    }
      where
        not_in_place : stays_in_place v own r ≡ false
        not_in_place = ap (λ (c : Bool). (uncovered v own.index r == 0) && (not v.rle && not c)) cuts ∙ not_all (uncovered v own.index r == 0) (not v.rle)

pub bytes_then : {b mid now last : List ℕ} {kind : Kind} {before : List VariableShape} {own own' : VariableShape} {after : List VariableShape} {raw pad : List ℕ} {first r : ℕ} {acts : List Act} (t : CutThenPut b mid now last kind before own own' after raw pad first r acts) → GoesOn b last kind before own own' after (past_acts b own first ++ acts)
    → (extent (max_rec_at b own.vdr) ≤ r → pad ≡ turned (type_of_variable b own.vdr) (is_little b) (pad_record (variable_of b own))) → PutsBytes b last kind (variable_of b own) r own own' (past_acts b own first ++ acts)
bytes_then t goes pad_stored = bytes_are t pad_stored
