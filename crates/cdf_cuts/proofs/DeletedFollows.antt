-- Records went from a variable without a sparse rule, of which no block is packed, and MaxRec fell with them: the image follows `del-recs`.
use Rattle.cdf_cuts.proofs.Common.{Bool, Changed, Each, In, Kept, Leaf, List, Nodes, None, Option, Range, Some, [], ap, append-nil, arith, cases_lt, false, lt-ltb, inl, inr, leaves_of, length, nat_tests, nodes_of, places_of, range, refl, size_at, subst, suc, sym, true, true≢false, ℕ, ◌*◌, ◌+◌, ◌-◌, ◌<◌, ◌∙◌, ◌∷◌, ◌≡◌, ◌≤◌, ◌⊎◌}
use Rattle.std.proofs.Common.{drop, take, ◌&&◌, ◌||◌}
use Rattle.cdf_model.specs.declared.kinds.Sparse.TheVariants.{NoRule}
use Rattle.cdf_edits.proofs.Common.{closed_up, Found, le-ltb, lt-leb, range_at, room_at, tile_lies, vxr_bytes, Act, AllKeep, Allowance, Allowances, ByStep, Command, Follows, Go, Good, Keeps, Kind, Only, Variable, VariableShape, byte, content, either, eq-eqb, extent, is_max_rec, last_number, max_rec_at, owned, record_bytes, shape, stays_all, step, stored_bytes, variable_named, variable_of, variable_records, vvr_place, with_sign, with_variable, nat_le, nat_lt, DataSet}
use Rattle.cdf_model.specs.declared.answer.Reply.TheVariants as replies
use Rattle.cdf_model.specs.declared.command.Command.TheVariants as commands
use Rattle.cdf_model.specs.RecordSteps.{without_records}
use Rattle.cdf_edits.specs.Commands.Deleting.{Deletes}
use Rattle.cdf_edits.specs.Commands.Cuts.{DeletesRecords, LeafFollows, LeafKept, OthersStay, del_recs_changes, del_recs_cuts}
use Rattle.cdf_edits.specs.Commands.Allowances.{anything_if}
use Rattle.cdf_edits.specs.Commands.GreatestRecord.{RMaxRecFollows}
use Rattle.cdf_edits.specs.Commands.Named.{OfVariable}
use Rattle.cdf_edits.specs.Index.Blocks.{fallen, is_sparse, shared}
use Rattle.cdf_edits.specs.Index.Cut.{IsPart, StaysWhole, is_whole}
use Rattle.cdf_edits.specs.Index.Grown.{index_cut_closed, kept_closed}
use Rattle.cdf_edits.specs.Index.Written.{block_end, is_taken_at}
use Rattle.cdf_edits.specs.Space.Acts.{taken}
use Rattle.cdf_edits.proofs.Edits.ActsThen.{taken-gave}
use Rattle.cdf_edits.proofs.Edits.LeafPieces.{IsOneOf, each_of, of_each, place_in, record_place, times_le}
use Rattle.cdf_edits.proofs.Edits.LeafRecords.{count_is}
use Rattle.cdf_edits.proofs.Edits.PlainLeaves.{PlainLeaf, leaves_ascend, plain_leaf}
use Rattle.cdf_edits.proofs.Edits.RecordsPut.{extent_last}
use Rattle.cdf_edits.proofs.Edits.RecordsWritten.{WritesRecords, block_kept, r_max_rec_of_z}
use Rattle.cdf_edits.proofs.Edits.StandsAmong.{StandsAmong, sound}
use Rattle.cdf_edits.proofs.Edits.VariableCopied.{block_behind}
use Rattle.cdf_edits.proofs.Frame.VdrAlike.{type_alike}
use Rattle.cdf_edits.proofs.Frame.VdrStays.{stays_alike, variable_stays}
use Rattle.cdf_index.proofs.Common.{behind_in, size_kept}
use Rattle.cdf_puts.proofs.GoesThen.{later_size, own_there, stays, variable_there, later_loose}
use Rattle.cdf_puts.proofs.PutRules.{no_cpr}
use Rattle.cdf_puts.proofs.Common.{same_Some, same_as_itself}
use Rattle.cdf_index.proofs.OwnRecords as of_own
use Rattle.cdf_puts.proofs.GoesKeep.{each_own}
use Rattle.cdf_puts.specs.Going.{GoesOn, found_in, put_fields}
use Rattle.cdf_puts.specs.Steps.{MaxRecRaised}
use Rattle.cdf_cuts.proofs.BlocksMoved.{piece_shifted}
use Rattle.cdf_cuts.proofs.ChainKept.{top_cut}
use Rattle.cdf_cuts.proofs.ClosedUp.{fallen_high, fallen_low, fallen_rises, risen}
use Rattle.cdf_cuts.proofs.CutStay.{nodes_left}
use Rattle.cdf_cuts.proofs.FreedKept.{given_filter, given_nodes}
use Rattle.cdf_puts.proofs.GoesKeep.{goes_keep}
use Rattle.cdf_cuts.proofs.GreatestLowered.{greatest_lowered}
use Rattle.cdf_cuts.proofs.LeavesKept.{BlocksKeep, ends, stored_kept, to_ends}
use Rattle.cdf_cuts.proofs.RecordsClosed.{StoresCut, records_closed}
use Rattle.cdf_cuts.proofs.WritesThen.{index_then}
use Rattle.cdf_cuts.specs.Closing.{BlockStays, IndexClosed, RecordsClosed, closed, closing_acts, freed_closing}
use Rattle.cdf_cuts.specs.Planning.{closing}

-- ---- numbers that fall

module _ (first last : ℕ) (order : first ≤ last) where
  pub fell_next : (j : ℕ) → (j < first) ⊎ (last < j) → fallen first last (j + 1) ≡ fallen first last j + 1
  fell_next j (inl lt) = fallen_low first last order (j + 1) (omega arith) ∙ omega (arith, fallen_low first last order j (omega arith))
  fell_next j (inr lt) = fallen_high first last order (j + 1) (omega arith) ∙ omega (arith, fallen_high first last order j lt)

  pub fell_less : (x y : ℕ) → x ≤ y → fallen first last y ≤ fallen first last x + (y - x)
  fell_less x y le = grind (arith, nat_tests)

  pub risen_fell : (k : ℕ) → (k < first) ⊎ (last < k) → risen first last order (fallen first last k) ≡ k
  risen_fell k side = grind (arith, nat_tests, side)

  -- a record that stays stands before the end of what is left
  pub fell_inside : (f l j : ℕ) → f ≤ j → j ≤ l → (j < first) ⊎ (last < j) → (fallen first last f ≤ fallen first last j) × (fallen first last j + 1 ≤ fallen first last (l + 1))
  fell_inside f l j low high out = (fallen_rises first last order f j low, omega (arith, fell_next j out, fallen_rises first last order (j + 1) (l + 1) (omega arith)))

  aside : (k : ℕ) → (nat_le first k && nat_le k last) ≡ false → (k < first) ⊎ (last < k)
  aside k e = grind (arith, nat_tests, e)

  -- records none of which goes
  beside : (f t : ℕ) → f ≤ t → (nat_lt 0 (shared first last (range f t)) || false) ≡ false → (t < first) ⊎ (last < f)
  beside f t le e = elim (cases_lt t first) [
    | inl lt ↦ inl lt
    | inr low ↦ elim (cases_lt last f) [
      | inl lt ↦ inr lt
      | inr high ↦ (let some : nat_lt 0 (shared first last (range f t)) ≡ true = lt-ltb 0 (shared first last (range f t)) (omega arith) in absurd (true≢false (rw some at e)))
    ]
  ]

  falls_apart : (f t : ℕ) → f ≤ t → (t < first) ⊎ (last < f) → fallen first last f < fallen first last (t + 1)
  falls_apart f t le (inl lt) = omega (arith, fallen_low first last order f (omega arith), fallen_low first last order (t + 1) (omega arith))
  falls_apart f t le (inr lt) = omega (arith, fallen_high first last order f lt, fallen_high first last order (t + 1) (omega arith))

-- ---- a block of which no byte is written then

pub stays_on : {b one now : List ℕ} {size first last : ℕ} {l : Leaf} → first ≤ last → PlainLeaf b size l → Kept one now l.place → BlockStays b one size first last l → BlockStays b now size first last l
stays_on {b = b} {one = one} {now = now} {size = size} {first = first} {last = last} {l = l} order x k s =
    let long = s.size_stays in
    let kept : (i : ℕ) → i < size_at b l.place → byte now (l.place + i) ≡ byte one (l.place + i) = λ i lt. k.same.each (l.place + i) (omega arith) (omega (arith, long)) in
    record {
      size_stays = size_kept one now l.place k.same (omega (arith, k.long)) ∙ long;
      stays = record {
        head = λ i lt. kept i (omega (arith, x.room)) ∙ s.stays.head i lt;
        fallen_there = λ j low high out i lt.
            let n = fell_inside first last order l.first l.last j low high out in
            let most = fell_less first last order l.first (l.last + 1) (omega (arith, x.ordered)) in
            let fit = times_le (suc (fallen first last j - fallen first last l.first)) (l.last + 1 - l.first) size (omega (arith, n.0, n.1, most)) in
            let at : l.place + vvr_place ((fallen first last j - fallen first last l.first) * size) + i ≡ l.place + (vvr_place ((fallen first last j - fallen first last l.first) * size) + i) = omega arith in
            ap (byte now) at ∙ kept (vvr_place ((fallen first last j - fallen first last l.first) * size) + i) (omega (arith, fit, x.room)) ∙ ap (byte one) (sym at) ∙ s.stays.fallen_there j low high out i lt;
        spare = λ i low lt. kept i lt ∙ s.stays.spare i low lt;
        apart = λ out i lt. kept i lt ∙ s.stays.apart out i lt;
      };
    }

pub or_true : (p : Bool) → (p || true) ≡ true
or_true true = refl
or_true false = refl

module _ {b one now : List ℕ} {kind : Kind} {before : List VariableShape} {own : VariableShape} {after : List VariableShape} {first last r : ℕ} (good : Good b) (at : StandsAmong b kind before own after) (free : (variable_of b own).sparse ≡ NoRule) (order : first ≤ last) (has : last < extent (max_rec_at b own.vdr)) (x : RecordsClosed b one kind before own after first last)
    (low : MaxRecRaised one now kind (closed own first last) r) (ruled : is_max_rec r ≡ true) (r_is : with_sign r ≡ last_number (extent (max_rec_at b own.vdr) - (last + 1 - first))) where
  abbrev v : Variable
  v = variable_of b own

  abbrev own' : VariableShape
  own' = closed own first last

  abbrev rest : Nodes
  rest = index_cut_closed first last own.index

  abbrev size : ℕ
  size = record_bytes b own.vdr

  abbrev leaves : List Leaf
  leaves = leaves_of own.index

  abbrev leaves' : List Leaf
  leaves' = leaves_of rest

  abbrev acts : List Act
  acts = closing_acts b own first last

  fell : ℕ → ℕ
  fell = fallen first last

  w : WritesRecords one now kind own' []
  w = record { changed = subst (Changed one now) (sym (append-nil _)) low.changed; as_long = low.as_long; in_blocks = tt; max_rec_ruled = ap is_max_rec low.max_rec_is ∙ ruled }

  z : IndexClosed b now kind before own after first last
  z = index_then good at x.index w

  pub goes : GoesOn b now kind before own own' after acts
  goes = z.goes

  none_taken : taken acts ≡ []
  none_taken = taken-gave b (freed_closing own first last)

  plain : (l : Leaf) → IsOneOf leaves l → PlainLeaf b size l
  plain l i = plain_leaf good at x.loose l i

  size_now : record_bytes now own'.vdr ≡ size
  size_now = later_size good at goes

  plain_now : (m : Leaf) → IsOneOf leaves' m → PlainLeaf now size m
  plain_now m i = subst (λ (n : ℕ). PlainLeaf now n m) size_now (plain_leaf goes.good goes.among (later_loose good at goes x.loose) m i)

  max_now : max_rec_at now own.vdr ≡ last_number (extent (max_rec_at b own.vdr) - (last + 1 - first))
  max_now = ap with_sign low.max_rec_is ∙ r_is

  -- ---- the blocks

  to_now : (l : Leaf) → IsOneOf leaves l → fallen first last l.first < fallen first last (l.last + 1) → (m : Leaf) × (IsOneOf leaves' m × (m.place ≡ l.place))
  to_now l i less = let k = to_ends first last order leaves leaves' (nodes_left (closing first last) own.index) l i less in (k.0, (k.1.0, k.1.1.place_is))

  block_now : (l : Leaf) → IsOneOf leaves l → fallen first last l.first < fallen first last (l.last + 1) → BlockStays b now size first last l
  block_now l i less =
      let k = to_now l i less in
      stays_on order (plain l i) (block_kept x.index.goes.good x.index.goes.among w l.place (subst (λ (p : ℕ). In p (places_of leaves')) k.1.1 (place_in leaves' k.0 k.1.0)) (λ none. none)) (x.blocks l i less)

  inside_now : (l : Leaf) → IsOneOf leaves l → fallen first last l.first < fallen first last (l.last + 1) → l.place + size_at b l.place ≤ length now
  inside_now l i less = omega (arith, (tile_lies b 8 (length b) (shape b).records l.place (sound good at).has_shape.tiled (behind_in good at l.place (block_behind own l.place (place_in leaves l i)))).high, z.long)

  pieces : (l : Leaf) → IsOneOf leaves l → (j : ℕ) → l.first ≤ j → j ≤ l.last → (j < first) ⊎ (last < j) → take size (drop (l.place + (12 + (fallen first last j - fallen first last l.first) * size)) now) ≡ take size (drop (record_place l size j) b)
  pieces l i j from upto out =
      let n = fell_inside first last order l.first l.last j from upto out in
      let less : fallen first last l.first < fallen first last (l.last + 1) = omega (arith, n.0, n.1) in
      let p = plain l i in
      let most = fell_less first last order l.first (l.last + 1) (omega (arith, p.ordered)) in
      let fit = times_le (suc (fallen first last j - fallen first last l.first)) (l.last + 1 - l.first) size (omega (arith, n.0, n.1, most)) in
      let was = times_le (suc (j - l.first)) (l.last + 1 - l.first) size (omega arith) in
      let far = inside_now l i less in
      piece_shifted size (l.place + (12 + (fallen first last j - fallen first last l.first) * size)) (record_place l size j) now b (omega (arith, fit, p.room, far)) (omega (arith, was, p.room, far, z.long)) ((block_now l i less).stays.fallen_there j from upto out)

  kept : BlocksKeep first last order b now own.vdr own.vdr size leaves leaves'
  kept = record {
    was_size = refl;
    is_size = size_now;
    ascend = leaves_ascend good at;
    ascend_now = leaves_ascend goes.good goes.among;
    left = nodes_left (closing first last) own.index;
    plain = plain;
    plain_now = plain_now;
    pieces = pieces;
  }

  -- ---- the content

  stores : StoresCut b now own.vdr own.vdr leaves leaves' first last
  stores = record {
    order = order;
    has = has;
    typed = type_alike goes.file (stays_alike goes.file (stays good at goes.descriptor));
    little = goes.file.little;
    as_long = size_now;
    ascend = leaves_ascend good at;
    ascend_now = leaves_ascend goes.good goes.among;
    upto = ap extent max_now ∙ extent_last (extent (max_rec_at b own.vdr) - (last + 1 - first));
    kept = stored_kept first last order kept;
  }

  pub deleted_content : content now ≡ with_variable (content b) (found_in b kind before own) (without_records v.sparse v first last)
  deleted_content =
      let recs = records_closed stores in
      let is : without_records v.sparse v first last ≡ record v { max_rec = last_number (extent v.max_rec - (last + 1 - first)); recs = closed_up first last v.recs } = rw free refl in
      goes.content_is ∙ ap (with_variable (content b) (found_in b kind before own)) (variable_stays goes.file own own' (stays good at goes.descriptor) goes.vdr_is ∙ (λ i. record v { max_rec = max_now i; recs = recs i }) ∙ sym is)

  -- ---- rMaxRec

  pub deleted_r_max_rec : RMaxRecFollows b now
  deleted_r_max_rec =
      let less : extent (max_rec_at now own.vdr) ≡ extent (max_rec_at b own.vdr) - (last + 1 - first) = ap extent max_now ∙ extent_last (extent (max_rec_at b own.vdr) - (last + 1 - first)) in
      greatest_lowered b now kind (length before) v (variable_of now own') (variable_there good at) goes.content_is (λ q. r_max_rec_of_z x.index.goes.good x.index.goes.among w q ∙ x.r_max_rec_is) (λ e. absurd (omega (arith, less, e, has, order))) low.greatest

  -- ---- the leaves

  leaf_kept : (old new : Leaf) → IsOneOf leaves old → IsOneOf leaves' new → IsPart (kept_closed first last) old new → LeafKept b now v own.vdr acts old new
  leaf_kept old new i j part =
      let rle : v.rle ≡ false = x.loose in
      let two = of_each (λ (o : Leaf). Each (StaysWhole v (kept_closed first last) acts o) leaves') leaves old (z.cuts v).stay i in
      let s = of_each (StaysWhole v (kept_closed first last) acts old) leaves' new two j part (rw rle (or_true (is_whole old new))) in
      let e = ends first last order old new (record { place_is = s.0; packed_is = s.1; more = []; kept_is = part }) in
      let z1 : old.last + 1 ≡ suc old.last = omega arith in
      let less : fallen first last old.first < fallen first last (old.last + 1) = rw z1 e.some in
      let y = plain_now new j in
      let end : block_end now own.vdr new ≡ 12 + (new.last + 1 - new.first) * size = rw (y.plain, count_is new y.small y.ordered, size_now) refl in
      let many : new.last + 1 - new.first ≡ fallen first last (old.last + 1) - fallen first last old.first = rw z1 (omega (arith, e.first_is, e.last_is, e.some)) in
      record {
        packed = λ whole q. absurd (true≢false (sym q ∙ rle));
        placed = rw (rle, or_true (is_whole old new)) (s.0, s.2);
        bytes = λ whole. record {
          packed = λ q. absurd (true≢false (sym q ∙ rle));
          spare = rw none_taken (record {
            each = λ p from upto.
                let n : p ≡ old.place + (p - old.place) = omega (arith, from, s.0, end) in
                let here = (block_now old i less).stays.spare (p - old.place) (omega (arith, from, s.0, end, ap (λ (k : ℕ). k * size) many)) (omega (arith, upto, s.0, ap (size_at b) s.0)) in
                ap (byte now) n ∙ here ∙ ap (byte b) (sym n);
          });
          reserved = rw none_taken (λ q. absurd (true≢false (sym q ∙ y.plain)));
        };
      }

  all_leaves : Each (λ old. Each (LeafFollows b now v first last own.vdr acts old) leaves') leaves
  all_leaves = each_of (λ old. Each (LeafFollows b now v first last own.vdr acts old) leaves') leaves (λ old i. each_of (LeafFollows b now v first last own.vdr acts old) leaves' (λ new j. leaf_kept old new i j))

  others : OthersStay b now v first last own own'
  others k covered kept_on =
      let side : (k < first) ⊎ (last < k) = aside first last order k kept_on in
      stored_kept first last order kept (fallen first last k) ∙ ap (stored_bytes b own.vdr size leaves) (risen_fell first last order k side)

  pub deletes : DeletesRecords b now v first last own own' acts
  deletes = record {
    cuts = z.cuts _;
    blocks = all_leaves;
    others_stay = others;
    new_nodes = none_new (nodes_of rest);
    nodes = z.nodes;
    tail = rw (top_cut acts own.index rest none_taken) z.tail;
    freed = given_filter b now _ acts acts z.freed;
    nodes_freed = given_nodes b now acts acts z.freed;
    r_max_rec = deleted_r_max_rec;
  }
    where
      none_new : (ms : List ℕ) → Each (λ vxr. is_taken_at acts vxr ≡ true → size_at now vxr ≡ vxr_bytes (room_at now vxr)) ms
      none_new [] = tt
      none_new (m ∷ ms) = ((λ e. absurd (true≢false (sym (rw none_taken at e)))), none_new ms)

  -- ---- what each record keeps

  abbrev may : Allowances
  may = del_recs_changes b (shape b) (found_in b kind before own) first last

  abbrev own_may : ℕ → Allowance
  own_may m = may.variables kind (length before) m

  abbrev block_may : Range → Allowance
  block_may rg = anything_if (del_recs_cuts v first last rg)

  allowed : (m : ℕ) (o : Option Range) → range_at (shape b) (found_in b kind before own) m ≡ o → own_may m ≡ of_own.by_range b kind put_fields block_may m o
  allowed m o e = let same = same_as_itself kind in let number = eq-eqb (length before) (length before) refl in rw (same, number, e)

  -- a block that loses no record
  unlost : (l : Leaf) → IsOneOf leaves l → del_recs_cuts v first last (range l.first l.last) ≡ false → Keeps b now l.place (Only [])
  unlost l i none =
      let p = plain l i in
      let side : (l.last < first) ⊎ (last < l.first) = beside first last order l.first l.last p.ordered (rw free at none) in
      let less : fallen first last l.first < fallen first last (l.last + 1) = falls_apart first last order l.first l.last p.ordered side in
      let s = block_now l i less in
      let k = to_now l i less in
      record {
        stands = subst (λ (q : ℕ). In q (shape now).records) k.1.1 (behind_in goes.good goes.among k.0.place (block_behind own' k.0.place (place_in leaves' k.0 k.1.0)));
        size_is = s.size_stays;
        same = λ n lt out. s.stays.apart side n lt;
      }

  block_keeps : (l : Leaf) → IsOneOf leaves l → Keeps b now l.place (block_may (range l.first l.last))
  block_keeps l i = elim (either (del_recs_cuts v first last (range l.first l.last))) [ inl e ↦ rw e tt | inr e ↦ rw e (unlost l i e) ]

  own_keeps : (m : ℕ) → In m (variable_records own) → Keeps b now m (own_may m)
  own_keeps = each_own (λ (m : ℕ). Keeps b now m (own_may m)) own (rw (of_own.descriptor_allowed (found_in b kind before own) good at refl put_fields block_may own_may allowed) goes.descriptor)
      (λ m i. rw (of_own.node_allowed (found_in b kind before own) good at refl put_fields block_may own_may allowed m i) tt)
      (λ l i. rw (of_own.block_allowed (found_in b kind before own) good at refl put_fields block_may own_may allowed l i) (block_keeps l i))
      (λ m i. absurd (subst (In m) (no_cpr good at x.loose) i))

  pub keeps : AllKeep b now may acts (owned b (shape b))
  keeps = goes_keep good at goes may goes.gdr own_keeps

  -- ---- the command, which names the variable

  module _ (name : List ℕ) (named : variable_named (content b) name ≡ Some (found_in b kind before own)) where
    abbrev c : Command
    c = commands.DelRecs name first last

    deletes_named : OfVariable b now name (λ found x x'. Deletes b now found first last x x' acts (is_sparse found.variable.sparse))
    deletes_named found' y y' is =
        let q : found_in b kind before own ≡ found' = same_Some _ _ (sym named ∙ is.named) in
        let was : own ≡ y = same_Some own y (sym (own_there good at) ∙ (rw (← q) at is.before)) in
        let now_is : own' ≡ y' = same_Some own' y' (sym (own_there goes.good goes.among) ∙ (rw (← q) at is.after)) in
        rw (← q, ← was, ← now_is) (subst (Deletes b now (found_in b kind before own) first last own own' acts) (sym (ap is_sparse free)) deletes)

    -- the data set gives it
    pub del_recs_goes : step (content b) c ≡ ByStep (Go (with_variable (content b) (found_in b kind before own) (without_records v.sparse v first last)) replies.Plain)
    del_recs_goes = rw (named, le-ltb last first order, lt-leb (extent v.max_rec) last has) refl

    pub deleted_follows : Follows b c now
    deleted_follows =
        let may_be = ap (λ (o : Option Found). elim o as (λ x. Allowances) [ None ↦ stays_all | Some found ↦ del_recs_changes b (shape b) found first last ]) named in
        record {
          reply = replies.Plain;
          goes = del_recs_goes ∙ ap (λ (d : DataSet). ByStep (Go d replies.Plain)) (sym deleted_content);
          good = goes.good;
          longer = omega (arith, z.long);
          within = omega (arith, z.long);
          reads = λ e. absurd (true≢false (sym e));
          acts = acts;
          takes_within = rw none_taken (omega arith);
          acts_follow = goes.follow;
          keeps = subst (λ (a : Allowances). AllKeep b now a acts (owned b (shape b))) (sym may_be) keeps;
          does = deletes_named;
        }
