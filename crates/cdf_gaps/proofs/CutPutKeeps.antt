-- What is past MaxRec was cut, and then a record was put: each record of the image keeps what it has to.
use Rattle.cdf_puts.proofs.Common.{Act, AllKeep, Allowance, Allowances, Bool, GoesOn, In, IsOneOf, Keeps, Kind, Leaf, List, Option, Range, Stays, Variable, VariableShape, [], anything_if, ap, arith, behind_in, block_behind, either, eq-eqb, false, found_in, inl, inr, is_rewritten, leaves_of, length, owned, place_in, put_changes, put_fields, range, range_at, refl, same_as_itself, shape, subst, variable_of, variable_records, ℕ, ◌++◌, ◌∙◌, ◌≡◌}
use Rattle.cdf_edits.proofs.Edits.Common.{stays_then}
use Rattle.cdf_index.proofs.OwnRecords as of_own
use Rattle.cdf_puts.proofs.DoneBytes as putting
use Rattle.cdf_puts.proofs.DoneBytes.{block_stays}
use Rattle.cdf_puts.proofs.PutBytes.{old_size, whole}
use Rattle.cdf_puts.proofs.PutRules.{no_cpr}
use Rattle.cdf_puts.proofs.GoesKeep.{each_own, goes_keep}
use Rattle.cdf_cuts.specs.Past.{cut_off, past_acts}
use Rattle.cdf_gaps.proofs.CutPutBytes.{is_left, stays_left}
use Rattle.cdf_gaps.proofs.CutThenPut.{CutThenPut, variable_mid}

module _ {b mid now last : List ℕ} {kind : Kind} {before : List VariableShape} {own own' : VariableShape} {after : List VariableShape} {raw pad : List ℕ} {first r : ℕ} {acts : List Act} (t : CutThenPut b mid now last kind before own own' after raw pad first r acts) (goes : GoesOn b last kind before own own' after (past_acts b own first ++ acts)) where
  abbrev v : Variable
  v = variable_of b own

  abbrev rest : VariableShape
  rest = cut_off own first

  abbrev olds : List Leaf
  olds = leaves_of own.index

  abbrev leaves : List Leaf
  leaves = leaves_of own'.index

  -- ---- blocks

  -- a block of which no record is written or cut is as it was, after the cut and after the put
  unwritten_stays : (l : Leaf) → IsOneOf olds l → is_rewritten v r (range l.first l.last) ≡ false → Stays b last l.place []
  unwritten_stays l i e =
      let o = stays_left t l i e in
      let all = putting.all t.so t.done in
      let stands = behind_in goes.good goes.among l.place (block_behind own' l.place (place_in leaves l (all.stay l o))) in
      let put_stays = block_stays (variable_of mid rest) r (all.old l o) stands (old_size (all.old l o) (omega (arith, (whole t.so.start.good t.so.start.among t.so.start.loose l o).leaf.room))) in
      let none : is_rewritten (variable_of mid rest) r (range l.first l.last) ≡ false = ap (λ (w : Variable). is_rewritten w r (range l.first l.last)) (variable_mid t) ∙ e in
      stays_then b mid last l.place [] [] [] (is_left t l o).stays (subst (λ (p : Bool). Keeps mid last l.place (anything_if p)) none put_stays) (λ n out. (tt, tt))

  block_keeps : (l : Leaf) → IsOneOf olds l → Keeps b last l.place (anything_if (is_rewritten v r (range l.first l.last)))
  block_keeps l i = elim (either (is_rewritten v r (range l.first l.last))) [ inl e ↦ rw e tt | inr e ↦ rw e (unwritten_stays l i e) ]

  -- ---- all records

  abbrev may : Allowances
  may = put_changes b (shape b) (found_in b kind before own) r

  abbrev own_may : ℕ → Allowance
  own_may m = may.variables kind (length before) m

  abbrev block_may : Range → Allowance
  block_may rg = anything_if (is_rewritten v r rg)

  allowed : (m : ℕ) (o : Option Range) → range_at (shape b) (found_in b kind before own) m ≡ o → own_may m ≡ of_own.by_range b kind put_fields block_may m o
  allowed m o e = let same_kind = same_as_itself kind in let number = eq-eqb (length before) (length before) refl in rw (same_kind, number, e)

  own_keeps : (m : ℕ) → In m (variable_records own) → Keeps b last m (own_may m)
  own_keeps = each_own (λ (m : ℕ). Keeps b last m (own_may m)) own (rw (of_own.descriptor_allowed (found_in b kind before own) t.good t.among refl put_fields block_may own_may allowed) goes.descriptor)
      (λ m i. rw (of_own.node_allowed (found_in b kind before own) t.good t.among refl put_fields block_may own_may allowed m i) tt)
      (λ l i. rw (of_own.block_allowed (found_in b kind before own) t.good t.among refl put_fields block_may own_may allowed l i) (block_keeps l i))
      (λ m i. absurd (subst (In m) (no_cpr t.good t.among t.cut.loose) i))

  pub keeps_then : AllKeep b last (put_changes b (shape b) (found_in b kind before own) r) (past_acts b own first ++ acts) (owned b (shape b))
  keeps_then = goes_keep t.good t.among goes may goes.gdr own_keeps
