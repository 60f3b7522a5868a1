-- All records are put: the index, what was taken for it and the bytes of the blocks are as the command says, and what is stored as each record. The image follows the command.
use Rattle.cdf_puts.proofs.Common.{UnwrittenStay, stays_in_place, found_in, ◌≢◌, ListedStay, LooseStay, NewBlock, OldBlock, size_at, Act, AllKeep, Allowance, Allowances, Ascending, Beside, BlockFollows, BlocksSoFar, Changed, CutsFirst, DataSet, Found, GoesOn, HoldsPads, In, In-append, IsOneOf, Keeps, Kind, Leaf, List, MaxRecDone, NewBlock, Nodes, None, OneVariable, Only, Option, Outside, Outside-append, PlainLeaf, Puts, PutsBytes, PutsIndex, PutsLeaves, RMaxRecFollows, Range, SoFar, Some, SpareIs, Unused, Variable, VariableShape, WritesRecords, [], anything_if, ap, append-nil, arith, behind_in, behind_kept, block_behind, block_end, both, bytes_eq, bytes_eq-same, cases_lt, content, count_is, covers, drop, drop-drop, drop_all, each_of, eq-eqb, eq_of, eqb-true, extent, false, false-is_in, filled, filter, filter-says, find, find_covering, first_written, greater, inl, inr, is_changed, is_little, is_rewritten, is_taken_at, is_written, keep_all, keep_attributes, keep_file, keep_kinds, keep_places, keep_variable_parts, keep_variables, keeps_stood, last_number, leaf_at, leaves_ascend, leaves_of, length, length-take, list_any, map, max, max_rec_at, max_rec_touches, min, nat_tests, ne_eqb, negsuc, nodes_of, option_map, other_kind, owned, pad_record, past, place_in, places_of, plain_bytes, plain_piece, pos, put_changes, put_fields, put_room, r_max_rec, r_max_rec_of_z, range, range_at, ranges_before_put, ranges_of, record_bytes, record_number_limit, record_of, record_place, records_in, records_of_leaf, refl, repeat, room, room_of_variable, same_Some, same_as_itself, same_of_bytes_eq, shape, shapes_of, shared, signed, sound, space_before, stays_alike, stays_all, stored_bytes, stored_in, subst, suc, sym, take, take-append-drop, times_le, top_chain, top_stays, touch, transport, true, true-is_in, true≢false, turned, type_alike, type_at, type_of_variable, uir_type, uncovered, unused_allowance, unused_in, unused_records, variable_named, variable_of, variable_records, variable_stays, vvr_place, was_leaf, with_record, with_sign, with_variable, written_in, zero, ℕ, ℤ, ◌*◌, ◌++◌, ◌+◌, ◌-◌, ◌<◌, ◌==◌, ◌∙◌, ◌∷◌, ◌≡◌, ◌≤◌, ◌⊎◌, is_sparse, either, cuts_before_put, is_compressed}
use Rattle.cdf_edits.proofs.Common.{ByStep, Command, Does, Follows, Go, allowances, only_reads, step, with_item}
use Rattle.cdf_edits.proofs.Edits.RecordsPut.{StoresPut, extent_last, filled_uncut, greater_is_first, greater_is_last, records_put}
use Rattle.cdf_puts.proofs.PutAlone.{StoresAlone, filled_ruled, none_past, records_put_alone}
use Rattle.cdf_puts.proofs.PutRules.{no_cpr}
use Rattle.cdf_puts.proofs.RaisedGoes.{greatest_follows, raise_writes}
use Rattle.cdf_puts.proofs.PutBytes.{behind_all, blocks_then, found_covering, none_is_put, old_size, piece_stays, whole}
use Rattle.cdf_puts.proofs.IndexWritten.{nodes_still, tail_still}
use Rattle.cdf_puts.proofs.CoveringRanges.{some_or_none, covering_done, written_from, written_upto}
use Rattle.cdf_puts.proofs.GoesThen.{goes_then, goes_written, later_loose, later_size, own_there, stays, variable_there, writes_nothing}
use Rattle.cdf_puts.proofs.PutRoom.{none_given, none_without_bytes, longer_by}
use Rattle.cdf_index.proofs.OwnRecords as of_own
use Rattle.cdf_leaves.proofs.TopChain.{chain_in}
use Rattle.cdf_puts.proofs.SoFarStarts.{covers_own}
use Rattle.cdf_model.specs.declared.answer.Reply.TheVariants as replies
use Rattle.cdf_model.specs.declared.command.Command.TheVariants as commands
use Rattle.cdf_edits.specs.Commands.Named.{OfVariable}

pub none_taken_in : (acts : List Act) (xs : List ℕ) → ((m : ℕ) → In m xs → is_taken_at acts m ≡ false) → list_any (is_taken_at acts) xs ≡ false
none_taken_in acts [] f = refl
none_taken_in acts (x ∷ xs) f = grind (arith, f, none_taken_in acts xs)

-- the top chain stays where its nodes are as they were, if none of them was taken
pub top_stays_by : (acts : List Act) (index index' : Nodes) → ((m : ℕ) → In m (nodes_of index) → is_taken_at acts m ≡ false) → top_stays acts index index index' ≡ bytes_eq (top_chain index) (top_chain index')
top_stays_by acts index index' apart =
    let none = λ (e : bytes_eq (top_chain index) (top_chain index') ≡ true). none_taken_in acts (top_chain index') (λ m i. apart m (chain_in index m (subst (In m) (sym (same_of_bytes_eq (top_chain index) (top_chain index') e)) i))) in
    grind (arith, bytes_eq-same (top_chain index), none)

-- what holds of the descriptor, of each node, of each block and of what a packed variable has holds of each of its records
pub each_own : (P : ℕ → Type 0) (v : VariableShape) → P v.vdr → ((m : ℕ) → In m (nodes_of v.index) → P m) → ((l : Leaf) → IsOneOf (leaves_of v.index) l → P l.place) → ((m : ℕ) → In m v.cpr → P m) → (m : ℕ) → In m (variable_records v) → P m
each_own P v own node block cpr m i =
    grind (arith, i, own, node, block, cpr, In-append m (nodes_of v.index ++ places_of (leaves_of v.index)) v.cpr, In-append m (nodes_of v.index) (places_of (leaves_of v.index)), leaf_at (leaves_of v.index) m)

pub none_covered : (k : ℕ) (leaves : List Leaf) → find (λ (leaf : Leaf). covers k (range leaf.first leaf.last)) leaves ≡ None → list_any (covers k) (map (λ (leaf : Leaf). range leaf.first leaf.last) leaves) ≡ false
none_covered k [] e = refl
none_covered k (x ∷ more) e = grind (arith, e, none_covered k more)

-- ---- pieces that are all the same

pub pieces_repeat : (n s size : ℕ) (pad xs : List ℕ) → length xs ≤ (s + n) * size → ((j : ℕ) → s ≤ j → j < s + n → take size (drop (j * size) xs) ≡ pad) → drop (s * size) xs ≡ repeat n pad
pieces_repeat zero s size pad xs e f = drop_all (s * size) xs (omega arith)
pieces_repeat (suc n) s size pad xs e f =
    let next : s * size + size ≡ suc s * size = omega arith in
    grind (arith, next, drop-drop size (s * size) xs, pieces_repeat n (suc s) size pad xs (omega arith) (λ j low high. f j (omega arith) (omega arith)), take-append-drop size (drop (s * size) xs), f s (omega arith) (omega arith))

-- what is stored as a record that the block of a leaf has
pub stored_in_leaf : (b : List ℕ) (vdr size j : ℕ) (leaves : List Leaf) → Ascending 0 (suc record_number_limit) leaves → record_bytes b vdr ≡ size → (l : Leaf) → IsOneOf leaves l → PlainLeaf b size l → l.first ≤ j → j ≤ l.last → stored_bytes b vdr size leaves j ≡ Some (take size (drop (record_place l size j) b))
stored_in_leaf b vdr size j leaves ascend is l i x f t = ap (option_map _) (find_covering j 0 (suc record_number_limit) leaves ascend l i f t) ∙ ap Some (plain_piece b vdr size j l x.plain x.small is f t)

-- a place outside what is written is beside each record
pub beside_written : (first r size : ℕ) (leaves : List Leaf) (place : ℕ) → Outside (map (λ (leaf : Leaf). touch leaf.place (vvr_place ((max first leaf.first - leaf.first) * size)) (shared first r (range leaf.first leaf.last) * size)) leaves) place → (l : Leaf) → IsOneOf leaves l → Beside first (r + 1) size l place
beside_written first r size [] place o l i = absurd i
beside_written first r size (x ∷ more) place o l i = λ j from upto f t.
    grind (arith, i, o.0, λ (k : IsOneOf more l). beside_written first r size more place o.1 l k j from upto f t, times_le (max first x.first - x.first) (j - x.first) size, times_le (suc (j - x.first)) (max first x.first - x.first + shared first r (range x.first x.last)) size)

-- a block that was there stays where none of its records was put
pub block_stays : {b last raw pad : List ℕ} {s size : ℕ} {l : Leaf} (v : Variable) (r : ℕ) → OldBlock b last raw pad s (first_written v r) (r + 1) size l → In l.place (shape last).records → size_at last l.place ≡ size_at b l.place → Keeps b last l.place (anything_if (is_rewritten v r (range l.first l.last)))
block_stays v r old stands sized = grind (arith, nat_tests, old, stands, sized)

-- an unused record keeps what it has to
pub unused_stays : {b last : List ℕ} (acts : List Act) → ListedStay b last acts → LooseStay b last → (m : ℕ) → In m (unused_records b (shape b)) → In m (shape b).records → Keeps b last m (unused_allowance b (shape b) acts m)
unused_stays {b = b} acts listed loose m i inside =
    let stays = loose m inside (eqb-true (type_at b m) uir_type (filter-says (λ place. type_at b place == uir_type) (shape b).records m i)) in
    grind (arith, listed m, stays, true-is_in m (shape b).unused, false-is_in m (shape b).unused)

-- as it is where it is not raised
pub last_of_extent : (z : ℤ) (r : ℕ) → r < extent z → last_number (extent z) ≡ z
last_of_extent (pos n) r lt = let e : n + 1 ≡ suc n = omega arith in ap last_number e
last_of_extent (negsuc n) r lt = absurd (omega arith)

module _ {b now last : List ℕ} {kind : Kind} {before : List VariableShape} {own own' : VariableShape} {after : List VariableShape} {raw pad : List ℕ} {r : ℕ} {acts : List Act} (so : SoFar b now kind before own own' after raw pad r (r + 1) acts) (done : MaxRecDone b now last kind own own' r) where
  abbrev v : Variable
  v = variable_of b own

  abbrev size : ℕ
  size = record_bytes b own.vdr

  abbrev first : ℕ
  first = first_written v r

  abbrev most : ℕ
  most = extent (max_rec_at b own.vdr)

  abbrev olds : List Leaf
  olds = leaves_of own.index

  abbrev leaves : List Leaf
  leaves = leaves_of own'.index

  -- ---- MaxRec

  pub last_writes : WritesRecords now last kind own' []
  last_writes = elim done [ inl x ↦ raise_writes so.goes.good so.goes.among x.1 so.start.small | inr x ↦ subst (λ (y : List ℕ). WritesRecords now y kind own' []) (sym x.1) (writes_nothing so.goes.good so.goes.among) ]

  pub put : GoesOn b last kind before own own' after acts
  put = subst (GoesOn b last kind before own own' after) (append-nil acts) (goes_then so.start.good so.start.among so.goes (goes_written so.goes.good so.goes.among last_writes so.short) so.takes tt)

  pub last_max_rec : max_rec_at last own.vdr ≡ last_number (greater most (r + 1))
  last_max_rec = elim done [
    | inl x ↦ ap (max_rec_at last) (sym so.goes.vdr_is) ∙ ap with_sign x.1.max_rec_is ∙ signed r so.start.small ∙ sym (ap last_number (greater_is_last most r x.0))
    | inr x ↦ ap (λ (y : List ℕ). max_rec_at y own.vdr) x.1 ∙ ap with_sign so.max_rec_is ∙ sym (last_of_extent (max_rec_at b own.vdr) r x.0) ∙ ap last_number (sym (greater_is_first most r x.0))
  ]

  pub last_r_max_rec : RMaxRecFollows b last
  last_r_max_rec =
      let is = ap (λ (x : ℕ). extent (max_rec_at last x)) put.vdr_is ∙ ap extent last_max_rec ∙ extent_last (greater most (r + 1)) in
      greatest_follows b last kind (length before) (variable_of b own) (variable_of last own') (variable_there so.start.good so.start.among) put.content_is (λ z. r_max_rec_of_z so.goes.good so.goes.among last_writes z ∙ so.r_max_rec_is)
      (elim done [ inl x ↦ inr ((let past = is ∙ greater_is_last most r x.0 in omega arith), x.1.greatest) | inr x ↦ inl (is ∙ greater_is_first most r x.0, ap r_max_rec x.1 ∙ so.r_max_rec_is) ])

  -- ---- the index

  pub size_last : record_bytes last own'.vdr ≡ size
  size_last = later_size so.start.good so.start.among put

  loose_last : is_compressed last own'.vdr ≡ false
  loose_last = later_loose so.start.good so.start.among put so.start.loose

  -- where nothing was cut before the put
  pub index_done : cuts_before_put v r ≡ false → PutsIndex b last v r own own' acts
  index_done uncut = record {
    ranges = covering_done so.covers (omega arith);
    middle = own.index;
    cut = [];
    put = acts;
    acts_are = refl;
    cuts = subst (CutsFirst b last v own own' own.index []) (sym uncut) (refl, refl);
    puts = transport (λ i. PutsLeaves b last ((sym so.start.loose) i) ((sym so.goes.vdr_is) i) ((append-nil (filter (is_written v r) leaves)) i) own.index ((append-nil acts) i) own'.index) (so.index.puts last (rw put.vdr_is at size_last) [] [] own'.index (refl, refl));
    tail = rw (top_stays_by acts own.index own'.index so.index.nodes.apart, tail_still so last_writes, so.goes.vdr_is) so.index.tail;
    nodes = (nodes_still so last_writes).follow;
    freed = (none_given b last acts acts so.takes).0;
    nodes_freed = (none_given b last acts acts so.takes).1;
  }

  -- ---- the bytes

  pub all : BlocksSoFar b last own own' raw pad r first (r + 1) acts (max_rec_touches now kind own'.vdr)
  all = blocks_then so (omega arith) (omega arith) (append-nil acts) (none_is_put (subst (Changed now last) (append-nil (max_rec_touches now kind own'.vdr)) last_writes.changed)
      (λ l i. (behind_kept so.goes.good so.goes.among last_writes l.place (block_behind own' l.place (place_in leaves l i)) (λ none. none)).same))

  pub last_plain : (l : Leaf) → IsOneOf leaves l → PlainLeaf last size l
  last_plain l i = subst (λ (n : ℕ). PlainLeaf last n l) size_last (whole put.good put.among loose_last l i).leaf

  -- ---- what is stored as a record

  pub stored_at : (j : ℕ) (l : Leaf) → IsOneOf leaves l → l.first ≤ j → j ≤ l.last → stored_bytes last own.vdr size leaves j ≡ Some (take size (drop (record_place l size j) last))
  stored_at j l i f t = stored_in_leaf last own.vdr size j leaves (leaves_ascend put.good put.among) (rw put.vdr_is at size_last) l i (last_plain l i) f t

  -- one that was put
  pub stored_put : (j : ℕ) → first ≤ j → j < r + 1 → stored_bytes last own.vdr size leaves j ≡ Some (record_of raw pad r j)
  stored_put j from low = let x = all.has j from low in stored_at j x.0 x.1.0 x.1.1.0 x.1.1.1 ∙ ap Some (grind (arith, all.new x.0 x.1.0, all.old x.0, x))

  -- one that a block had, and that was not put; so also where none had it, before the first that was put and up to MaxRec
  pub stored_same : (j : ℕ) → (find (λ (leaf : Leaf). covers j (range leaf.first leaf.last)) olds ≡ None → (j < first) ⊎ (j < most)) → (j < first) ⊎ (r < j) → stored_bytes last own.vdr size leaves j ≡ stored_bytes b own.vdr size olds j
  stored_same j few side = elim (some_or_none (find (λ (leaf : Leaf). covers j (range leaf.first leaf.last)) olds)) [
    | inl x ↦
        let o = found_covering j olds x.0 x.1 in
        let same = piece_stays (all.old x.0 o.0) (whole so.start.good so.start.among so.start.loose x.0 o.0) all.longer j o.1.0 o.1.1 (elim side [ inl lt ↦ inl lt | inr lt ↦ inr (omega arith) ]) in
        stored_at j x.0 (all.stay x.0 o.0) o.1.0 o.1.1 ∙ ap Some same ∙ sym (stored_in_leaf b own.vdr size j olds (leaves_ascend so.start.good so.start.among) refl x.0 o.0 (whole so.start.good so.start.among so.start.loose x.0 o.0).leaf o.1.0 o.1.1)
    | inr none ↦ elim (some_or_none (find (λ (leaf : Leaf). covers j (range leaf.first leaf.last)) leaves)) [
      | inr e ↦ ap (option_map _) e ∙ sym (ap (option_map _) none)
      | inl x ↦
          let g = found_covering j leaves x.0 x.1 in
          let was = λ (o : IsOneOf olds x.0). sym (find_covering j 0 (suc record_number_limit) olds (leaves_ascend so.start.good so.start.among) x.0 o g.1.0 g.1.1) ∙ none in
          absurd (elim (all.new x.0 g.0) [ inl o ↦ let e : Some x.0 ≡ None = was o in cc | inr n ↦ elim (few none) [ inl lt ↦ omega (arith, n.from) | inr lt ↦ omega (arith, n.from, n.alone) ] ])
    ]
  ]

  -- ---- as the content has it

  pub own_size : record_bytes last own.vdr ≡ size
  own_size = rw put.vdr_is at size_last

  pub last_type : type_of_variable last own.vdr ≡ type_of_variable b own.vdr
  last_type = type_alike put.file (stays_alike put.file (stays so.start.good so.start.among put.descriptor))

  pub last_extent : extent (max_rec_at last own.vdr) ≡ greater most (r + 1)
  last_extent = ap extent last_max_rec ∙ extent_last (greater most (r + 1))

  abbrev turn : List ℕ → List ℕ
  turn = turned (type_of_variable b own.vdr) (is_little b)

  module _ (bytes : List ℕ) (raw_is : turned (type_of_variable b own.vdr) (is_little b) raw ≡ bytes) where
    pub stored_is : option_map turn (stored_bytes last own.vdr size leaves r) ≡ Some bytes
    stored_is = ap (option_map turn) (stored_put r (written_upto v r) (omega arith)) ∙ ap Some (rw (eq-eqb r r refl) raw_is)

    kept : (k : ℕ) → k < most → k ≢ r → stored_bytes last own.vdr size leaves k ≡ stored_bytes b own.vdr size olds k
    kept k lt ne = stored_same k (λ e. inr lt) (elim (cases_lt r k) [ inl past ↦ inr past | inr le ↦ inl (omega (arith, written_from v r)) ])

    -- without a rule those before it are pads
    pub records_filled : is_sparse v.sparse ≡ false → (most < r → turned (type_of_variable b own.vdr) (is_little b) pad ≡ pad_record v) → records_in last own.vdr leaves ≡ with_item r bytes (filled v.sparse v r)
    records_filled free pad_stored =
        let first_is : first ≡ min r most = rw free refl in
        let padded : (k : ℕ) → most ≤ k → k < r → option_map turn (stored_bytes last own.vdr size leaves k) ≡ Some (pad_record v) =
        λ k le lt. ap (option_map turn) (stored_put k (omega arith) (omega arith)) ∙ ap Some (rw (ne_eqb k r (λ e. absurd (omega arith))) (pad_stored (omega arith))) in
        let stores : StoresPut b last own.vdr own.vdr olds leaves r bytes (pad_record v) = record { typed = last_type; little = put.file.little; as_long = own_size; ascend = leaves_ascend so.start.good so.start.among; ascend_now = leaves_ascend put.good put.among; upto = last_extent; stored = stored_is; padded = padded; kept = kept } in
        records_put stores ∙ ap (with_item r bytes) (sym (filled_uncut v r (rw free refl)))

    -- under a rule those before it that were missing stay so
    pub records_alone : is_sparse v.sparse ≡ true → records_in last own.vdr leaves ≡ with_item r bytes (filled v.sparse v r)
    records_alone rule =
        let first_is : first ≡ r = rw rule refl in
        let missing : (k : ℕ) → most ≤ k → k < r → stored_bytes last own.vdr size leaves k ≡ None =
        λ k le lt. stored_same k (λ e. inl (omega arith)) (inl (omega arith)) ∙ ap (option_map _) (none_past v own.index r k rule (omega arith) so.start.same_ranges (leaves_ascend so.start.good so.start.among) le) in
        let stores : StoresAlone b last own.vdr own.vdr olds leaves r bytes = record { typed = last_type; little = put.file.little; as_long = own_size; ascend = leaves_ascend so.start.good so.start.among; ascend_now = leaves_ascend put.good put.among; upto = last_extent; stored = stored_is; missing = missing; kept = kept } in
        records_put_alone stores ∙ ap (with_item r bytes) (sym (filled_ruled v r rule))

  pub put_content : (bytes : List ℕ) → turned (type_of_variable b own.vdr) (is_little b) raw ≡ bytes → (most < r → turned (type_of_variable b own.vdr) (is_little b) pad ≡ pad_record v) → content last ≡ with_variable (content b) (found_in b kind before own) (with_record v r bytes)
  put_content bytes raw_is pad_stored =
      let recs : records_in last own.vdr leaves ≡ with_item r bytes (filled v.sparse v r) = elim (either (is_sparse v.sparse)) [ inl rule ↦ records_alone bytes raw_is rule | inr free ↦ records_filled bytes raw_is free pad_stored ] in
      put.content_is ∙ ap (with_variable (content b) (found_in b kind before own)) (variable_stays put.file own own' (stays so.start.good so.start.among put.descriptor) put.vdr_is ∙ (λ i. record v { max_rec = last_max_rec i; recs = recs i }))

  -- ---- what each record keeps

  abbrev may : Allowances
  may = put_changes b (shape b) (found_in b kind before own) r

  abbrev own_may : ℕ → Allowance
  own_may m = may.variables kind (length before) m

  abbrev block_may : Range → Allowance
  block_may rg = anything_if (is_rewritten v r rg)

  allowed : (m : ℕ) (o : Option Range) → range_at (shape b) (found_in b kind before own) m ≡ o → own_may m ≡ of_own.by_range b kind put_fields block_may m o
  allowed m o e = let same = same_as_itself kind in let number = eq-eqb (length before) (length before) refl in rw (same, number, e)

  block_keeps : (l : Leaf) → IsOneOf olds l → Keeps b last l.place (anything_if (is_rewritten v r (range l.first l.last)))
  block_keeps l i = block_stays v r (all.old l i) (behind_in put.good put.among l.place (block_behind own' l.place (place_in leaves l (all.stay l i)))) (old_size (all.old l i) (omega (arith, (whole so.start.good so.start.among so.start.loose l i).leaf.room)))

  own_keeps : (m : ℕ) → In m (variable_records own) → Keeps b last m (own_may m)
  own_keeps = each_own (λ (m : ℕ). Keeps b last m (own_may m)) own (rw (of_own.descriptor_allowed (found_in b kind before own) so.start.good so.start.among refl put_fields block_may own_may allowed) put.descriptor)
      (λ m i. rw (of_own.node_allowed (found_in b kind before own) so.start.good so.start.among refl put_fields block_may own_may allowed m i) tt)
      (λ l i. rw (of_own.block_allowed (found_in b kind before own) so.start.good so.start.among refl put_fields block_may own_may allowed l i) (block_keeps l i))
      (λ m i. absurd (subst (In m) (no_cpr so.start.good so.start.among so.start.loose) i))

  pub keeps : AllKeep b last (put_changes b (shape b) (found_in b kind before own) r) acts (owned b (shape b))
  keeps =
      let front = keep_variables b last may acts kind 0 before (λ m i. put.stay m (inr (inr (inl i)))) in
      let back = keep_variables b last may acts kind (suc (length before)) after (λ m i. put.stay m (inr (inr (inr (inl i))))) in
      let others = keep_variables b last may acts (other_kind kind) 0 (shapes_of (shape b) (other_kind kind)) (λ m i. put.stay m (inr (inr (inr (inr i))))) in
      let both = keep_kinds b last may acts kind (keep_variable_parts b last may acts kind before own after so.start.among.was front (keep_places b last may acts (OneVariable kind (length before)) (variable_records own) own_keeps) back) others in
      keep_all b last may acts (keep_file b last may acts (sound so.start.good so.start.among) (keeps_stood b last 8 (put.stay 8 (inl refl)) (Only [])) put.gdr) (keep_attributes b last may acts 0 (shape b).attributes (λ m i. put.stay m (inr (inl i)))) both.0 both.1
      (keep_places b last may acts Unused (unused_records b (shape b)) (λ m i. unused_stays acts put.listed put.loose m i (unused_in b (shape b) (sound so.start.good so.start.among) m i)))

  -- ---- the blocks

  pub blocks : (l : Leaf) → IsOneOf leaves l → is_changed v r (ranges_of own.index) l ≡ true → BlockFollows b last v.rle own'.vdr (was_leaf olds l) acts l
  blocks l i changed =
      let x = last_plain l i in
      let end : block_end last own'.vdr l ≡ 12 + (l.last + 1 - l.first) * size = rw (x.plain, count_is l x.small x.ordered, size_last) refl in
      let spare : SpareIs b last own'.vdr l (is_taken_at acts l.place) = elim (all.new l i) [
        | inl o ↦ rw (all.apart l o) (record { each = λ p low high. (all.old l o).kept p (omega arith) high (behind_all first (r + 1) size l p (omega arith)) })
        | inr n ↦ rw n.was_taken (λ p low high. n.spare p (omega arith) high)
      ] in
      record { packed = λ e. absurd (true≢false (sym e ∙ so.start.loose)); spare = spare; reserved = grind (arith, x.plain) }

  -- ---- pads

  module _ (pad_stored : extent (max_rec_at b own.vdr) ≤ r → pad ≡ turned (type_of_variable b own.vdr) (is_little b) (pad_record v)) where
    pub new_pads : (l : Leaf) → IsOneOf leaves l → NewBlock last raw pad r first most (r + 1) size acts l → drop (stored_in v r l * size) (plain_bytes last own'.vdr l) ≡ repeat (records_of_leaf l - stored_in v r l) (turned v.type (is_little last) (pad_record v))
    new_pads l i n =
        let x = last_plain l i in
        let count = count_is l x.small x.ordered in
        let stored = stored_in v r l in
        let bytes = plain_bytes last own'.vdr l in
        let whole : bytes ≡ take ((l.last + 1 - l.first) * size) (drop (l.place + 12) last) = rw (x.plain, count, size_last) refl in
        let cut = length-take ((l.last + 1 - l.first) * size) (drop (l.place + 12) last) in
        let room = times_le (l.last + 1 - l.first) (stored + (records_of_leaf l - stored)) size (omega arith) in
        pieces_repeat (records_of_leaf l - stored) stored size (turned v.type (is_little last) (pad_record v)) bytes (omega (arith, ap length whole)) (λ j low high.
        let same : l.first + j - l.first ≡ j = omega arith in
        ap (λ (m : ℕ). take size (drop (m * size) bytes)) (sym same) ∙ plain_piece last own'.vdr size (l.first + j) l x.plain x.small size_last (omega arith) (omega arith) ∙ n.written (l.first + j) (omega arith) (omega arith)
        ∙ rw (ne_eqb (l.first + j) r (λ e. absurd (omega arith)), put.file.little) (pad_stored (omega (arith, n.alone))))

    -- ---- the bytes of the variable

    pub bytes_done : PutsBytes b last kind v r own own' acts
    bytes_done =
        let in_place : stays_in_place v own r ≡ true → Changed b last (max_rec_touches b kind own.vdr ++ written_in v first r olds) = λ e. record {
          longer = all.longer;
          same = λ place lt out.
              let room : put_room v own.index r ≡ 0 = rw (eq_of (uncovered v own.index r) 0 (both (uncovered v own.index r == 0) _ e).0, so.start.loose) refl in
              let none = none_without_bytes (space_before b) acts so.goes.follow.are so.takes (omega (arith, so.covers.fits)) in
              let quiet = λ (m : ℕ). ap (λ (xs : List Act). is_taken_at xs m) none in
              let p = Outside-append (max_rec_touches b kind own.vdr) (written_in v first r olds) place out in
              all.quiet quiet place lt (rw (so.goes.gdr_is, so.goes.vdr_is) p.0) (λ l i. elim (all.new l i) [ inl o ↦ beside_written first r size olds place p.1 l o | inr n ↦ absurd (true≢false (sym n.was_taken ∙ quiet l.place)) ]);
        } in
        let unwritten : UnwrittenStay b last v r own own' = λ k c side. ap (λ (x : ℕ). stored_bytes last x size leaves k) put.vdr_is ∙ stored_same k (λ e. absurd (true≢false (sym (rw so.start.same_ranges at c) ∙ none_covered k olds e))) side in
        let padded : (l : Leaf) → IsOneOf leaves l → HoldsPads last v own'.vdr r (ranges_before_put v own.index r) l = λ l i none. elim (all.new l i) [
          | inl o ↦ absurd (true≢false (sym (covers_own olds l o (whole so.start.good so.start.among so.start.loose l o).leaf.ordered) ∙ (rw so.start.same_ranges at none)))
          | inr n ↦ new_pads l i n
        ] in
        search (each_of, in_place, unwritten, padded, blocks, all.stay)

    -- ---- the whole

    abbrev found : Found
    found = found_in b kind before own

    -- ---- of the variable that has a name, where nothing was cut before the put

    module _ (uncut : cuts_before_put v r ≡ false) (name : List ℕ) (named : variable_named (content b) name ≡ Some found) where
      puts_named : OfVariable b last name (λ found v v'. Puts b last found r v v' acts found.variable.rle)
      puts_named found' x x' is =
          let q : found ≡ found' = same_Some found found' (sym named ∙ is.named) in
          let was : own ≡ x = same_Some own x (sym (own_there so.start.good so.start.among) ∙ (rw (← q) at is.before)) in
          let now_is : own' ≡ x' = same_Some own' x' (sym (own_there put.good put.among) ∙ (rw (← q) at is.after)) in
          rw (← q, ← was, ← now_is) (subst (Puts b last found r own own' acts) (sym so.start.loose) (record { index = index_done uncut; bytes = bytes_done; r_max_rec = last_r_max_rec }))

      module _ (bytes : List ℕ) (raw_is : turned (type_of_variable b own.vdr) (is_little b) raw ≡ bytes) (pad_is : extent (max_rec_at b own.vdr) < r → turned (type_of_variable b own.vdr) (is_little b) pad ≡ pad_record v) where
        follows_by : (c : Command) → only_reads c ≡ false → step (content b) c ≡ ByStep (Go (with_variable (content b) found (with_record v r bytes)) replies.Plain) → room b c ≡ put_room v own.index r → allowances b (content b) (shape b) c ≡ put_changes b (shape b) found r → Does b c last acts → Follows b c last
        follows_by c changes goes room_is may does =
            record {
              reply = replies.Plain;
              goes = goes ∙ ap (λ (d : DataSet). ByStep (Go d replies.Plain)) (sym (put_content bytes raw_is pad_is));
              good = put.good;
              longer = put.file.longer;
              within = omega (arith, longer_by b last acts put.follow so.takes, so.covers.fits, room_is);
              reads = λ e. absurd (true≢false (sym e ∙ changes));
              acts = acts;
              takes_within = omega (arith, so.covers.fits, room_is);
              acts_follow = put.follow;
              keeps = subst (λ (a : Allowances). AllKeep b last a acts (owned b (shape b))) (sym may) keeps;
              does = does;
            }

        may_be : (elim (variable_named (content b) name) as (λ x. Allowances) [ None ↦ stays_all | Some found ↦ put_changes b (shape b) found r ]) ≡ put_changes b (shape b) found r
        may_be = ap (λ (o : Option Found). elim o as (λ x. Allowances) [ None ↦ stays_all | Some found ↦ put_changes b (shape b) found r ]) named

        -- as `put-rec` and as `put-val`
        pub put_rec_done : (words : List (List ℕ)) → step (content b) (commands.PutRec name r words) ≡ ByStep (Go (with_variable (content b) found (with_record v r bytes)) replies.Plain) → Follows b (commands.PutRec name r words) last
        put_rec_done words goes = follows_by (commands.PutRec name r words) refl goes (rw (room_of_variable, named, own_there so.start.good so.start.among) refl) may_be puts_named

        pub put_val_done : (index : List ℕ) (words : List (List ℕ)) → step (content b) (commands.PutVal name r index words) ≡ ByStep (Go (with_variable (content b) found (with_record v r bytes)) replies.Plain) → Follows b (commands.PutVal name r index words) last
        put_val_done index words goes = follows_by (commands.PutVal name r index words) refl goes (rw (room_of_variable, named, own_there so.start.good so.start.among) refl) may_be puts_named
