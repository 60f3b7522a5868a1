-- Records went from a packed variable, later ones closed up, and MaxRec fell with them: the image goes on so, each record keeps what it has to, the steps are those of the command, and the content is without these records.
use Rattle.cdf_edits.proofs.Common.{Act, AllKeep, Allowance, Allowances, Changed, In, Keeps, Kind, Leaf, List, Only, Option, Range, Some, Stays, Variable, VariableShape, [], ap, append-nil, arith, cases_lt, closed_up, content, either, eq-eqb, extent, false, inl, inr, is_max_rec, last_number, leaves_of, length, lt-ltb, max_rec_at, nat_lt, owned, plain_bytes, r_max_rec, range, range_at, record_bytes, refl, shape, shared, stored_bytes, subst, sym, true, true≢false, variable_of, variable_records, with_sign, with_variable, without_records, ℕ, ◌++◌, ◌+◌, ◌-◌, ◌∙◌, ◌∷◌, ◌≡◌, ◌≤◌, ◌||◌}
use Rattle.cdf_model.specs.declared.kinds.Sparse.{Sparse}
use Rattle.cdf_edits.proofs.Commands.KeptRecords.{keeps_stood}
use Rattle.cdf_edits.proofs.Edits.Common.{behind_in, block_behind, cpr_behind, index_records, same_as_itself, stays_then}
use Rattle.cdf_edits.proofs.Edits.LeafPieces.{IsOneOf, in_order, place_in}
use Rattle.cdf_edits.proofs.Edits.PlainLeaves.{leaves_ascend}
use Rattle.cdf_edits.proofs.Edits.RecordsPut.{extent_last}
use Rattle.cdf_edits.proofs.Edits.RecordsWritten.{WritesRecords, behind_kept, r_max_rec_of_z}
use Rattle.cdf_edits.proofs.Frame.VdrAlike.{type_alike}
use Rattle.cdf_edits.proofs.Frame.VdrStays.{stays_alike, variable_stays}
use Rattle.cdf_edits.specs.Commands.Allowances.{anything_if}
use Rattle.cdf_edits.specs.Commands.Cuts.{del_recs_changes, del_recs_cuts}
use Rattle.cdf_edits.specs.Commands.Deleting.{untouched}
use Rattle.cdf_edits.specs.Commands.GreatestRecord.{RMaxRecFollows}
use Rattle.cdf_edits.specs.Commands.PutSteps.{Stage}
use Rattle.cdf_edits.specs.Commands.Puts.{max_rec_touches}
use Rattle.cdf_cuts.proofs.GreatestLowered.{greatest_lowered}
use Rattle.cdf_cuts.proofs.RecordsClosed.{StoresCut, records_closed}
use Rattle.cdf_index.proofs.OwnRecords as of_own
use Rattle.cdf_packed_deletes.proofs.LeafKinds.{IsApart}
use Rattle.cdf_packed_deletes.proofs.LeftStored.{LeftSo, left_so}
use Rattle.cdf_packed_deletes.specs.Closing.{ClosingDone, done_acts}
use Rattle.cdf_packed_deletes.specs.Steps.{ClosesBySteps}
use Rattle.cdf_put_steps.proofs.BlockKept.{plain_kept}
use Rattle.cdf_put_steps.proofs.GoesAlong.{goes_along}
use Rattle.cdf_put_steps.proofs.RecordPieces.{piece}
use Rattle.cdf_put_steps.proofs.StepKeeps.{cpr_allowed}
use Rattle.cdf_put_steps.proofs.StepStored.{leaf_of, stored_by}
use Rattle.cdf_put_steps.specs.Along.{GoAlong}
use Rattle.cdf_puts.proofs.CoveringRanges.{some_or_none}
use Rattle.cdf_puts.proofs.GoesKeep.{each_own, goes_keep}
use Rattle.cdf_puts.proofs.GoesThen.{goes_written, later_size, stays, variable_there}
use Rattle.cdf_puts.proofs.PutBytes.{found_covering}
use Rattle.cdf_puts.specs.Going.{GoesOn, found_in, put_fields}
use Rattle.cdf_puts.specs.Steps.{MaxRecRaised}

-- an image on the way is no shorter than the first
longer_along : (kind : Kind) (before after : List VariableShape) (from : Stage) (stages : List Stage) (left : Stage) → GoAlong kind before after from (stages ++ left ∷ []) → length from.image ≤ length left.image
longer_along kind before after from [] left go = go.0.file.longer
longer_along kind before after from (next ∷ more) left go = omega (arith, go.0.file.longer, longer_along kind before after next more left go.1)

-- records none of which goes
beside : (first last : ℕ) (order : first ≤ last) (l : Leaf) → l.first ≤ l.last → (nat_lt 0 (shared first last (range l.first l.last)) || false) ≡ false → IsApart first last l
beside first last order l le e = elim (cases_lt l.last first) [
  | inl lt ↦ inl lt
  | inr low ↦ elim (cases_lt last l.first) [
    | inl lt ↦ inr lt
    | inr high ↦ (let some : nat_lt 0 (shared first last (range l.first l.last)) ≡ true = lt-ltb 0 (shared first last (range l.first l.last)) (omega arith) in absurd (true≢false (rw some at e)))
  ]
]

module _ {b mid now : List ℕ} {kind : Kind} {before : List VariableShape} {own : VariableShape} {after : List VariableShape} {first last : ℕ} (x : ClosingDone b mid now kind before own after first last) where
  abbrev v : Variable
  v = variable_of b own

  abbrev size : ℕ
  size = record_bytes b own.vdr

  abbrev left : Stage
  left = x.cut.left

  abbrev own' : VariableShape
  own' = x.cut.left.own

  abbrev leaves : List Leaf
  leaves = leaves_of own.index

  abbrev leaves' : List Leaf
  leaves' = leaves_of x.cut.left.own.index

  abbrev acts : List Act
  acts = done_acts x

  low : MaxRecRaised x.cut.left.image now kind x.cut.left.own x.max_rec
  low = subst (λ (y : List ℕ). MaxRecRaised y now kind own' x.max_rec) (sym x.cut.now_is) x.lowered

  as_long : length now ≡ length x.cut.left.image
  as_long = low.as_long

  longer_left : length b ≤ length x.cut.left.image
  longer_left = longer_along kind before after (untouched b own) x.cut.stages x.cut.left x.cut.go

  so : LeftSo b kind before own after first last x.order x.cut.left acts
  so = left_so x.good x.among x.order (omega (arith, x.short, as_long, longer_left)) x.cut

  w : WritesRecords x.cut.left.image now kind x.cut.left.own []
  w = record { changed = subst (Changed left.image now) (sym (append-nil (max_rec_touches left.image kind own'.vdr))) low.changed; as_long = low.as_long; in_blocks = tt; max_rec_ruled = ap is_max_rec low.max_rec_is ∙ x.ruled }

  lowers : GoesOn x.cut.left.image now kind before x.cut.left.own x.cut.left.own after []
  lowers = goes_written so.goes.good so.goes.among w (omega (arith, x.short, as_long))

  pub done_goes : GoesOn b now kind before own x.cut.left.own after (done_acts x)
  done_goes = subst (GoesOn b now kind before own own' after) (append-nil acts) (goes_along x.good x.among so.goes lowers)

  behind_stays : (m : ℕ) → In m (index_records own') → Stays left.image now m []
  behind_stays m i = keeps_stood left.image now m (record { stands = behind_in done_goes.good done_goes.among m i; whole = behind_kept so.goes.good so.goes.among w m i (λ none. none) }) (Only [])

  -- ---- what each record keeps

  abbrev may : Allowances
  may = del_recs_changes b (shape b) (found_in b kind before own) first last

  abbrev own_may : ℕ → Allowance
  own_may m = may.variables kind (length before) m

  abbrev block_may : Range → Allowance
  block_may rg = anything_if (del_recs_cuts v first last rg)

  allowed : (m : ℕ) (o : Option Range) → range_at (shape b) (found_in b kind before own) m ≡ o → own_may m ≡ of_own.by_range b kind put_fields block_may m o
  allowed m o e = let same = same_as_itself kind in let number = eq-eqb (length before) (length before) refl in rw (same, number, e)

  unlost : (l : Leaf) → IsOneOf leaves l → del_recs_cuts v first last (range l.first l.last) ≡ false → Stays b now l.place []
  unlost l i none =
      let o = in_order 0 2147483647 leaves (leaves_ascend x.good x.among) l i in
      let was = so.blocks l i (beside first last x.order l o.ordered (rw x.free at none)) in
      stays_then b left.image now l.place [] [] [] was.1 (behind_stays l.place (block_behind own' l.place was.0)) (λ k out. (tt, tt))

  block_keeps : (l : Leaf) → IsOneOf leaves l → Keeps b now l.place (block_may (range l.first l.last))
  block_keeps l i = elim (either (del_recs_cuts v first last (range l.first l.last))) [ inl e ↦ rw e tt | inr e ↦ rw e (unlost l i e) ]

  cpr_keeps : (m : ℕ) → In m own.cpr → Stays b now m []
  cpr_keeps m i = stays_then b left.image now m [] [] [] (so.cpr.cpr m i) (behind_stays m (cpr_behind own' m (subst (In m) (sym so.cpr.cpr_is) i))) (λ k out. (tt, tt))

  own_keeps : (m : ℕ) → In m (variable_records own) → Keeps b now m (own_may m)
  own_keeps = each_own (λ (m : ℕ). Keeps b now m (own_may m)) own (rw (of_own.descriptor_allowed (found_in b kind before own) x.good x.among refl put_fields block_may own_may allowed) done_goes.descriptor)
      (λ m i. rw (of_own.node_allowed (found_in b kind before own) x.good x.among refl put_fields block_may own_may allowed m i) tt)
      (λ l i. rw (of_own.block_allowed (found_in b kind before own) x.good x.among refl put_fields block_may own_may allowed l i) (block_keeps l i))
      (λ m i. rw (cpr_allowed (found_in b kind before own) x.good x.among refl put_fields block_may own_may allowed m i) (cpr_keeps m i))

  pub done_keeps : AllKeep b now (del_recs_changes b (shape b) (found_in b kind before own) first last) (done_acts x) (owned b (shape b))
  done_keeps = goes_keep x.good x.among done_goes may done_goes.gdr own_keeps

  -- ---- MaxRec and rMaxRec

  abbrev rest : ℕ
  rest = extent (max_rec_at b own.vdr) - (last + 1 - first)

  max_left : max_rec_at now own'.vdr ≡ last_number rest
  max_left = ap with_sign low.max_rec_is ∙ x.max_rec_is

  max_now : max_rec_at now own.vdr ≡ last_number rest
  max_now = ap (max_rec_at now) (sym done_goes.vdr_is) ∙ max_left

  done_r_max_rec : RMaxRecFollows b now
  done_r_max_rec =
      let less : extent (max_rec_at now own'.vdr) ≡ rest = ap extent max_left ∙ extent_last rest in
      let was : r_max_rec left.image ≡ r_max_rec b = ap r_max_rec x.cut.now_is ∙ x.cut.r_max_rec_is in
      greatest_lowered b now kind (length before) v (variable_of now own') (variable_there x.good x.among) done_goes.content_is (λ q. r_max_rec_of_z so.goes.good so.goes.among w q ∙ was) (λ e. absurd (omega (arith, less, e, x.has, x.order))) low.greatest

  pub done_steps : ClosesBySteps b now (found_in b kind before own) first last own x.cut.left.own (done_acts x)
  done_steps = record {
    stages = x.cut.stages;
    kept = x.cut.kept;
    left = x.cut.left;
    keep = x.cut.keep;
    cuts = x.cut.cuts;
    acts_are = refl;
    stands = refl;
    changed = low.changed;
    as_long = low.as_long;
    max_rec_is = ap extent max_left ∙ ap (λ (s : Sparse). extent (without_records s v first last).max_rec) (sym x.free);
    r_max_rec = done_r_max_rec;
  }

  -- ---- the content

  leaf_still : (j : ℕ) (l : Leaf) → IsOneOf leaves' l → piece size (j - l.first) (plain_bytes now own'.vdr l) ≡ piece size (j - l.first) (plain_bytes left.image own'.vdr l)
  leaf_still j l i = ap (piece size (j - l.first)) (plain_kept so.goes.good so.goes.among l i lowers (behind_kept so.goes.good so.goes.among w l.place (block_behind own' l.place (place_in leaves' l i)) (λ none. none)))

  stored_still : (j : ℕ) → stored_bytes now own.vdr size leaves' j ≡ stored_bytes left.image own'.vdr size leaves' j
  stored_still j =
      ap (λ (vdr : ℕ). stored_bytes now vdr size leaves' j) (sym done_goes.vdr_is)
      ∙ elim (some_or_none (leaf_of j leaves')) [
        | inr none ↦ ap (stored_by now own'.vdr size j) none ∙ sym (ap (stored_by left.image own'.vdr size j) none)
        | inl y ↦ ap (stored_by now own'.vdr size j) y.1 ∙ ap Some (leaf_still j y.0 (found_covering j leaves' y.0 y.1).0) ∙ sym (ap (stored_by left.image own'.vdr size j) y.1)
      ]

  stores : StoresCut b now own.vdr own.vdr leaves leaves' first last
  stores = record {
    order = x.order;
    has = x.has;
    typed = type_alike done_goes.file (stays_alike done_goes.file (stays x.good x.among done_goes.descriptor));
    little = done_goes.file.little;
    as_long = ap (record_bytes now) (sym done_goes.vdr_is) ∙ later_size x.good x.among done_goes;
    ascend = leaves_ascend x.good x.among;
    ascend_now = leaves_ascend done_goes.good done_goes.among;
    upto = ap extent max_now ∙ extent_last rest;
    kept = λ k. stored_still k ∙ so.stored k;
  }

  pub done_content : content now ≡ with_variable (content b) (found_in b kind before own) (without_records (variable_of b own).sparse (variable_of b own) first last)
  done_content =
      let recs = records_closed stores in
      let is : without_records v.sparse v first last ≡ record v { max_rec = last_number (extent v.max_rec - (last + 1 - first)); recs = closed_up first last v.recs } = rw x.free refl in
      done_goes.content_is ∙ ap (with_variable (content b) (found_in b kind before own)) (variable_stays done_goes.file own own' (stays x.good x.among done_goes.descriptor) done_goes.vdr_is ∙ (λ i. record v { max_rec = max_now i; recs = recs i }) ∙ sym is)

  pub done_longer : length b ≤ length now
  done_longer = omega (arith, as_long, longer_left)
