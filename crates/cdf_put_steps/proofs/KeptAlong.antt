-- As far as a put went: it goes on from the first image; a block of which no record is written stays, and so does the record that says how the variable is packed.
use Rattle.cdf_edits.proofs.Common.{Act, AllKeep, Allowance, Allowances, Good, In, Keeps, Kind, Leaf, List, Only, Option, Range, Stays, VariableShape, Variable, [], ap, append-nil, arith, covers, eq-eqb, false, image_limit, inl, inr, leaves_of, length, nat_lt, nat_tests, or_parts, owned, put_changes, range, range_at, record_number_limit, refl, shape, shared, subst, suc, sym, variable_of, variable_records, ℕ, ◌&&◌, ◌++◌, ◌<◌, ◌∙◌, ◌≡◌, ◌≤◌, ◌⊎◌, number, vdr_max_rec, extent, cpr_of, either, r_max_rec, gdr_r_max_rec, with_sign, gdr_offset, integer4}
use Rattle.cdf_edits.proofs.Commands.KeptRecords.{keeps_stood}
use Rattle.cdf_edits.proofs.Edits.Common.{StandsAmong, behind_in, block_behind, cpr_behind, has, index_records, long, same_as_itself, stays_then, stays_word, gdr_long, sound}
use Rattle.cdf_edits.proofs.Edits.LeafPieces.{IsOneOf, in_order, place_in}
use Rattle.cdf_edits.proofs.Edits.PlainLeaves.{leaves_ascend, own_rules}
use Rattle.cdf_edits.proofs.Edits.RecordsWritten.{WritesRecords, behind_kept}
use Rattle.cdf_edits.proofs.Frame.VdrStays.{cpr_stays}
use Rattle.cdf_edits.specs.Commands.Allowances.{anything_if}
use Rattle.cdf_edits.specs.Commands.PutSteps.{PutsLeaf, Stage}
use Rattle.cdf_edits.specs.Commands.Room.{is_rewritten}
use Rattle.cdf_edits.specs.Index.Blocks.{cuts_before_put, first_written}
use Rattle.cdf_index.proofs.LeafRules.{index_order}
use Rattle.cdf_index.proofs.OwnRecords as of_own
use Rattle.cdf_puts.proofs.CoveringRanges.{written_upto}
use Rattle.cdf_puts.proofs.GoesKeep.{each_own, goes_keep}
use Rattle.cdf_puts.proofs.GoesThen.{goes_written, stays, writes_nothing}
use Rattle.cdf_puts.proofs.RaisedGoes.{raise_writes}
use Rattle.cdf_puts.specs.Going.{GoesOn, found_in, put_fields}
use Rattle.cdf_puts.specs.SoFar.{MaxRecDone}
use Rattle.cdf_put_steps.proofs.Along.{by_along, longer_along}
use Rattle.cdf_put_steps.proofs.GoesAlong.{goes_along}
use Rattle.cdf_put_steps.proofs.StepKeeps.{block_unchanged, cpr_allowed, cpr_unchanged, gdr_unchanged, vdr_unchanged}
use Rattle.cdf_put_steps.proofs.StepLeaves.{LeavesStep, step_leaves}
use Rattle.cdf_put_steps.specs.Along.{LeavesPut, at_start, put_in}

-- a block of which no record is written has none of those that a put goes through
none_covered : (v : Variable) (n k : ℕ) (r : Range) → first_written v n ≤ k → k ≤ n → is_rewritten v n r ≡ false → covers k r ≡ false
none_covered v n k r from upto e =
    let none = (or_parts (nat_lt 0 (shared (first_written v n) n r)) (cuts_before_put v n && nat_lt 0 (shared (extent v.max_rec) record_number_limit r)) e).0 in
    outside (first_written v n) n k r.first r.last from upto none
  where
    outside : (w n k f l : ℕ) → w ≤ k → k ≤ n → nat_lt 0 (shared w n (range f l)) ≡ false → covers k (range f l) ≡ false
    outside w n k f l from upto none = grind (arith, nat_tests, none)

-- what holds of an image on the way
pub record KeptSo (b : List ℕ) (kind : Kind) (before : List VariableShape) (own : VariableShape) (after : List VariableShape) (n : ℕ) (stage : Stage) (acts : List Act) : Type 0 where
  pub from : first_written (variable_of b own) n ≤ stage.next
  pub upto : (stage.next ≤ n) ⊎ (stage.next ≤ suc record_number_limit)
  pub goes : GoesOn b stage.image kind before own stage.own after acts
  pub blocks : (l : Leaf) → IsOneOf (leaves_of own.index) l → is_rewritten (variable_of b own) n (range l.first l.last) ≡ false → IsOneOf (leaves_of stage.own.index) l × Stays b stage.image l.place []
  pub cpr_is : stage.own.cpr ≡ own.cpr
  pub cpr : (m : ℕ) → In m own.cpr → Stays b stage.image m []
  pub max_rec : number stage.image stage.own.vdr vdr_max_rec ≡ number b own.vdr vdr_max_rec
  pub r_max : r_max_rec stage.image ≡ r_max_rec b

-- a record stays in its own image
stays_itself : (b : List ℕ) (m : ℕ) → In m (shape b).records → Stays b b m []
stays_itself b m i = record { stands = i; size_is = refl; same = λ i lt out. refl }

-- the record that says how the variable is packed stands where it did
pub cpr_same : {b now : List ℕ} {kind : Kind} {before : List VariableShape} {own own' : VariableShape} {after : List VariableShape} {acts : List Act} → Good b → StandsAmong b kind before own after → GoesOn b now kind before own own' after acts → own'.cpr ≡ own.cpr
cpr_same {now = now} good at one = sym (has one.good one.among).packed_by ∙ ap (cpr_of now) one.vdr_is ∙ cpr_stays one.file (stays good at one.descriptor) ∙ (has good at).packed_by

module _ {b : List ℕ} {kind : Kind} {before : List VariableShape} {own : VariableShape} {after : List VariableShape} (n : ℕ) (raw : List ℕ) (good : Good b) (at : StandsAmong b kind before own after) where
  pub kept_first : length b ≤ image_limit → KeptSo b kind before own after n (at_start b (put_in b kind before own n raw) own) []
  kept_first short = record {
    from = omega arith;
    upto = inl (written_upto (variable_of b own) n);
    goes = goes_written good at (writes_nothing good at) short;
    blocks = λ l i e. (i, stays_itself b l.place (behind_in good at l.place (block_behind own l.place (place_in (leaves_of own.index) l i))));
    cpr_is = refl;
    cpr = λ m i. stays_itself b m (behind_in good at m (cpr_behind own m i));
    max_rec = refl;
    r_max = refl;
  }

  module _ (from to : Stage) (acts : List Act) (x : KeptSo b kind before own after n from acts) (leaf : PutsLeaf (put_in b kind before own n raw) from to) (one : GoesOn from.image to.image kind before from.own to.own after to.acts) where
    pub leaves_step : LeavesStep from.next (leaves_of from.own.index) (leaves_of to.own.index) leaf.new
    leaves_step =
        step_leaves from.image to.image (variable_of b own).rle to.own.vdr from.next leaf.at from.own.index to.own.index to.acts leaf.new (index_order from.image (shape from.image).records from.own.vdr from.own.index (own_rules x.goes.good x.goes.among).1)
        (leaves_ascend x.goes.good x.goes.among) leaf.has (variable_of b own) leaf.range_is leaf.step

    small : to.next ≤ suc record_number_limit
    small = omega (arith, leaf.next_is, (in_order 0 (suc record_number_limit) (leaves_of to.own.index) (leaves_ascend one.good one.among) leaf.new leaves_step.has).before)

    blocks_then : (l : Leaf) → IsOneOf (leaves_of own.index) l → is_rewritten (variable_of b own) n (range l.first l.last) ≡ false → IsOneOf (leaves_of to.own.index) l × Stays b to.image l.place []
    blocks_then l i e =
        let was = x.blocks l i e in
        let none = none_covered (variable_of b own) n from.next (range l.first l.last) x.from leaf.more e in
        let now = block_unchanged from.image to.image (found_in b kind before own) (covers from.next) to.acts x.goes.good x.goes.among refl leaf.goes.keeps l was.0 none in
        (leaves_step.stay l was.0 none, stays_then b from.image to.image l.place [] [] [] was.1 now (λ k out. (tt, tt)))

    cpr_then : (m : ℕ) → In m own.cpr → Stays b to.image m []
    cpr_then m i =
        let now = cpr_unchanged from.image to.image (found_in b kind before own) (covers from.next) to.acts x.goes.good x.goes.among refl leaf.goes.keeps m (subst (In m) (sym x.cpr_is) i) in
        stays_then b from.image to.image m [] [] [] (x.cpr m i) now (λ k out. (tt, tt))

    max_rec_then : number to.image to.own.vdr vdr_max_rec ≡ number b own.vdr vdr_max_rec
    max_rec_then =
        let vdr = vdr_unchanged from.image to.image (found_in b kind before own) (covers from.next) to.acts x.goes.good x.goes.among refl leaf.goes.keeps in
        let wide = long x.goes.good x.goes.among in
        ap (λ (m : ℕ). number to.image m vdr_max_rec) one.vdr_is ∙ stays_word vdr 24 4 (omega arith) (λ i low high. grind (arith, low, high)) ∙ x.max_rec

    r_max_then : r_max_rec to.image ≡ r_max_rec b
    r_max_then =
        let h = (sound x.goes.good x.goes.among).has_shape in
        let there : gdr_offset from.image ≡ (shape from.image).gdr = h.gdr_is in
        let gdr = gdr_unchanged from.image to.image (found_in b kind before own) (covers from.next) to.acts x.goes.good x.goes.among refl leaf.goes.keeps in
        let wide = gdr_long from.image (shape from.image) h in
        ap (λ (m : ℕ). integer4 to.image m gdr_r_max_rec) (one.file.gdr_is ∙ there) ∙ ap with_sign (stays_word gdr gdr_r_max_rec.place 4 (omega (arith, wide)) (λ i low high. grind (arith, low, high)))
        ∙ ap (λ (m : ℕ). integer4 from.image m gdr_r_max_rec) (sym there) ∙ x.r_max

    pub kept_then : KeptSo b kind before own after n to (acts ++ to.acts)
    kept_then = record {
      from = omega (arith, x.from, leaf.next_is, leaves_step.upto);
      upto = inr small;
      goes = goes_along good at x.goes one;
      blocks = blocks_then;
      cpr_is = cpr_same x.goes.good x.goes.among one ∙ x.cpr_is;
      cpr = cpr_then;
      max_rec = max_rec_then;
      r_max = r_max_then;
    }

pub kept_along : {b : List ℕ} {kind : Kind} {before : List VariableShape} {own : VariableShape} {after : List VariableShape} {n : ℕ} {raw : List ℕ} {to : Stage} {acts : List Act} → LeavesPut b kind before own after n raw to acts → length to.image ≤ image_limit → KeptSo b kind before own after n to acts
kept_along {b = b} {kind = kind} {before = before} {own = own} {after = after} {n = n} {raw = raw} along short =
    by_along b kind before own after n raw (KeptSo b kind before own after n) (λ from to acts x leaf one. kept_then n raw along.good along.among from to acts x leaf one) (kept_first n raw along.good along.among (omega (arith, short, longer_along along))) along

-- ---- what each record keeps

module _ {b now : List ℕ} {kind : Kind} {before : List VariableShape} {own own' : VariableShape} {after : List VariableShape} {acts : List Act} (n : ℕ) (good : Good b) (at : StandsAmong b kind before own after) (goes : GoesOn b now kind before own own' after acts)
    (unwritten : (l : Leaf) → IsOneOf (leaves_of own.index) l → is_rewritten (variable_of b own) n (range l.first l.last) ≡ false → Stays b now l.place []) (cpr_keeps : (m : ℕ) → In m own.cpr → Stays b now m []) where
  abbrev may : Allowances
  may = put_changes b (shape b) (found_in b kind before own) n

  abbrev own_may : ℕ → Allowance
  own_may m = may.variables kind (length before) m

  abbrev block_may : Range → Allowance
  block_may rg = anything_if (is_rewritten (variable_of b own) n rg)

  allowed : (m : ℕ) (o : Option Range) → range_at (shape b) (found_in b kind before own) m ≡ o → own_may m ≡ of_own.by_range b kind put_fields block_may m o
  allowed m o e = let same = same_as_itself kind in let number = eq-eqb (length before) (length before) refl in rw (same, number, e)

  block_keeps : (l : Leaf) → IsOneOf (leaves_of own.index) l → Keeps b now l.place (block_may (range l.first l.last))
  block_keeps l i = elim (either (is_rewritten (variable_of b own) n (range l.first l.last))) [ inl e ↦ rw e tt | inr e ↦ rw e (unwritten l i e) ]

  own_keeps : (m : ℕ) → In m (variable_records own) → Keeps b now m (own_may m)
  own_keeps = each_own (λ (m : ℕ). Keeps b now m (own_may m)) own (rw (of_own.descriptor_allowed (found_in b kind before own) good at refl put_fields block_may own_may allowed) goes.descriptor)
      (λ m i. rw (of_own.node_allowed (found_in b kind before own) good at refl put_fields block_may own_may allowed m i) tt)
      (λ l i. rw (of_own.block_allowed (found_in b kind before own) good at refl put_fields block_may own_may allowed l i) (block_keeps l i))
      (λ m i. rw (cpr_allowed (found_in b kind before own) good at refl put_fields block_may own_may allowed m i) (cpr_keeps m i))

  pub all_keep : AllKeep b now (put_changes b (shape b) (found_in b kind before own) n) acts (owned b (shape b))
  all_keep = goes_keep good at goes may goes.gdr own_keeps

-- ---- and then MaxRec is raised

module _ {b now : List ℕ} {kind : Kind} {before : List VariableShape} {own : VariableShape} {after : List VariableShape} {n : ℕ} {raw : List ℕ} {to : Stage} {acts : List Act} (along : LeavesPut b kind before own after n raw to acts) (past : n < to.next) (done : MaxRecDone b to.image now kind own to.own n) (short : length to.image ≤ image_limit) where
  abbrev v : Variable
  v = variable_of b own

  abbrev leaves : List Leaf
  leaves = leaves_of own.index

  pub so : KeptSo b kind before own after n to acts
  so = kept_along along short

  pub small_record : n ≤ record_number_limit
  small_record = elim so.upto [ inl le ↦ absurd (omega arith) | inr le ↦ omega arith ]

  pub writes : WritesRecords to.image now kind to.own []
  writes = elim done [ inl x ↦ raise_writes so.goes.good so.goes.among x.1 small_record | inr x ↦ subst (λ (y : List ℕ). WritesRecords to.image y kind to.own []) (sym x.1) (writes_nothing so.goes.good so.goes.among) ]

  pub put_goes : GoesOn b now kind before own to.own after acts
  put_goes = subst (GoesOn b now kind before own to.own after) (append-nil acts) (goes_along along.good along.among so.goes (goes_written so.goes.good so.goes.among writes short))

  pub behind_stays : (m : ℕ) → In m (index_records to.own) → Stays to.image now m []
  behind_stays m i = keeps_stood to.image now m (record { stands = behind_in put_goes.good put_goes.among m i; whole = behind_kept so.goes.good so.goes.among writes m i (λ none. none) }) (Only [])

  unwritten_stays : (l : Leaf) → IsOneOf leaves l → is_rewritten v n (range l.first l.last) ≡ false → Stays b now l.place []
  unwritten_stays l i e =
      let was = so.blocks l i e in
      stays_then b to.image now l.place [] [] [] was.1 (behind_stays l.place (block_behind to.own l.place (place_in (leaves_of to.own.index) l was.0))) (λ k out. (tt, tt))

  cpr_keeps : (m : ℕ) → In m own.cpr → Stays b now m []
  cpr_keeps m i = stays_then b to.image now m [] [] [] (so.cpr m i) (behind_stays m (cpr_behind to.own m (subst (In m) (sym so.cpr_is) i))) (λ k out. (tt, tt))

  pub put_keeps : AllKeep b now (put_changes b (shape b) (found_in b kind before own) n) acts (owned b (shape b))
  put_keeps = all_keep n along.good along.among put_goes unwritten_stays cpr_keeps
