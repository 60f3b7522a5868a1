-- Records went from a packed variable under a rule for missing records, then what was past the new MaxRec, and MaxRec is written where it fell: the image goes on so, each record keeps what it has to, the steps are those of the command, and the content is without these records.
use Rattle.cdf_edits.proofs.Common.{Act, AllKeep, Allowance, Allowances, Changed, In, Keeps, Kind, Leaf, List, None, Only, Option, Range, Some, Stays, Variable, VariableShape, [], ap, append-nil, append_assoc, arith, cases_lt, content, either, eq-eqb, eqb-true, extent, false, flat_map, image_limit, inl, inr, is_max_rec, last_number, leaves_of, length, lt-ltb, max_rec_at, nat_le, nat_lt, nat_tests, or_parts, owned, plain_bytes, range, range_at, record_bytes, record_number_limit, records_in, refl, shape, shared, stored_bytes, subst, suc, sym, true, true≢false, type_of_variable, variable_of, variable_records, with_sign, with_variable, without, without_records, ℕ, ◌&&◌, ◌++◌, ◌+◌, ◌-◌, ◌<◌, ◌==◌, ◌∙◌, ◌∷◌, ◌≡◌, ◌≤◌}
use Rattle.cdf_edits.proofs.Commands.KeptRecords.{keeps_stood}
use Rattle.cdf_edits.proofs.Edits.Common.{behind_in, block_behind, cpr_behind, index_records, same_as_itself, stays_then}
use Rattle.cdf_edits.proofs.Edits.LeafPieces.{IsOneOf, in_order, place_in}
use Rattle.cdf_edits.proofs.Edits.LeafRecords.{Ascending, signed}
use Rattle.cdf_edits.proofs.Edits.MarkLemmas.{or_cases}
use Rattle.cdf_edits.proofs.Edits.PlainLeaves.{leaves_ascend}
use Rattle.cdf_edits.proofs.Edits.RecordsPut.{extent_last}
use Rattle.cdf_edits.proofs.Edits.RecordsWritten.{WritesRecords, behind_kept, r_max_rec_of_z}
use Rattle.cdf_edits.proofs.Frame.VdrAlike.{type_alike}
use Rattle.cdf_edits.proofs.Frame.VdrStays.{stays_alike, variable_stays}
use Rattle.cdf_edits.specs.Commands.Allowances.{anything_if}
use Rattle.cdf_edits.specs.Commands.Cuts.{del_recs_changes, del_recs_cuts}
use Rattle.cdf_edits.specs.Commands.Deleting.{untouched}
use Rattle.cdf_edits.specs.Commands.PutSteps.{Stage}
use Rattle.cdf_edits.specs.Commands.Puts.{max_rec_touches}
use Rattle.cdf_edits.specs.Index.Blocks.{extent_after, is_sparse}
use Rattle.cdf_model.specs.Numbered.{greatest}
use Rattle.cdf_cuts.proofs.GreatestLowered.{greatest_lowered}
use Rattle.cdf_index.proofs.OwnRecords as of_own
use Rattle.cdf_packed_deletes.proofs.LeafKinds.{IsApart}
use Rattle.cdf_packed_deletes.proofs.OpenLeft.{OpenedSo, acts_both, opened_longer, opened_so}
use Rattle.cdf_packed_deletes.proofs.OtherFound.{cuts_other, keep_other, splits_other}
use Rattle.cdf_packed_deletes.specs.Opening.{OpeningDone, PackedOpened, opened, opened_acts, opened_twice, keeping_open, split_stage}
use Rattle.cdf_packed_deletes.specs.Steps.{OpensBySteps, OpensTwice, with_both}
use Rattle.cdf_put_steps.proofs.BlockKept.{plain_kept}
use Rattle.cdf_put_steps.proofs.GoesAlong.{goes_along}
use Rattle.cdf_put_steps.proofs.RecordPieces.{piece}
use Rattle.cdf_put_steps.proofs.StepKeeps.{cpr_allowed}
use Rattle.cdf_put_steps.proofs.StepStored.{leaf_of, stored_by}
use Rattle.cdf_puts.proofs.CoveringRanges.{some_or_none}
use Rattle.cdf_puts.proofs.DoneBytes.{last_of_extent}
use Rattle.cdf_puts.proofs.GoesKeep.{each_own, goes_keep}
use Rattle.cdf_puts.proofs.GoesThen.{goes_written, later_size, stays, variable_there, writes_nothing}
use Rattle.cdf_puts.proofs.PutBytes.{found_covering}
use Rattle.cdf_puts.specs.Going.{GoesOn, found_in, put_fields}
use Rattle.cdf_puts.specs.Steps.{MaxRecRaised}
use Rattle.cdf_sparse.proofs.GreatestLeft.{greatest_is, last_greatest, without_ruled}
use Rattle.cdf_sparse.proofs.PastOpens.{ends_before}
use Rattle.cdf_sparse.proofs.RecordsLeft.{StoresLeft, records_left}
use Rattle.cdf_sparse.proofs.TwiceLeft.{TwiceEnds}
use Rattle.cdf_sparse.proofs.TwiceMaxRec.{greatest_kept}

-- MaxRec is no greater than the greatest number of a record
max_rec_small : (n : ℕ) → is_max_rec n ≡ true → extent (with_sign n) ≤ suc record_number_limit
max_rec_small n e = elim (or_cases (nat_le n record_number_limit) (n == 4294967295) e) [
  | inl t ↦
      let le : n ≤ record_number_limit = grind (arith, nat_tests, t) in
      let is : extent (with_sign n) ≡ n + 1 = ap extent (signed n le) in
      omega (arith, is, le)
  | inr t ↦ (let none : extent (with_sign n) ≡ 0 = ap (λ (m : ℕ). extent (with_sign m)) (eqb-true n 4294967295 t) in omega (arith, none))
]

-- a block shares no record with those that go
apart : (first last : ℕ) (l : Leaf) → first ≤ last → l.first ≤ l.last → nat_lt 0 (shared first last (range l.first l.last)) ≡ false → IsApart first last l
apart first last l order le e = elim (cases_lt l.last first) [
  | inl lt ↦ inl lt
  | inr low ↦ elim (cases_lt last l.first) [
    | inl lt ↦ inr lt
    | inr high ↦ (let some : nat_lt 0 (shared first last (range l.first l.last)) ≡ true = lt-ltb 0 (shared first last (range l.first l.last)) (omega (arith, low, high, order, le)) in absurd (true≢false (sym some ∙ e)))
  ]
]

split_acts : (o : Option Leaf) (end : Stage) → flat_map (λ (stage : Stage). stage.acts) (split_stage o end) ≡ (elim o as (λ y. List Act) [ None ↦ [] | Some l ↦ end.acts ])
split_acts None end = refl
split_acts (Some l) end = append-nil end.acts

module _ {b mid past now : List ℕ} {kind : Kind} {before : List VariableShape} {own : VariableShape} {after : List VariableShape} {first last : ℕ} (x : OpeningDone b mid past now kind before own after first last) where
  abbrev v : Variable
  v = variable_of b own

  abbrev size : ℕ
  size = record_bytes b own.vdr

  abbrev end : ℕ
  end = extent_after (variable_of b own) first last

  abbrev own' : VariableShape
  own' = x.cut.end.own

  abbrev rest : VariableShape
  rest = x.cut_past.end.own

  abbrev leaves : List Leaf
  leaves = leaves_of own.index

  abbrev mids : List Leaf
  mids = leaves_of x.cut.end.own.index

  abbrev lefts : List Leaf
  lefts = leaves_of x.cut_past.end.own.index

  abbrev acts : List Act
  acts = opened_acts x.cut ++ opened_acts x.cut_past

  abbrev mid_stage : Stage
  mid_stage = record { image = mid; own = x.cut.end.own; acts = x.cut.end.acts; next = x.cut.end.next }

  abbrev past_stage : Stage
  past_stage = record { image = past; own = x.cut_past.end.own; acts = x.cut_past.end.acts; next = x.cut_past.end.next }

  -- ---- the two cuts

  pub end_small : extent_after (variable_of b own) first last ≤ suc record_number_limit
  end_small =
      let is : extent (with_sign x.max_rec) ≡ end = ap extent x.max_rec_is ∙ extent_last end in
      omega (arith, is, max_rec_small x.max_rec x.ruled)

  now_longer : length past ≤ length now
  now_longer = elim x.lowered [
    | inl low ↦ (let same = low.1.as_long in omega (arith, same))
    | inr still ↦ (let same : length past ≡ length now = ap (λ (xs : List ℕ). length xs) still.1 in omega (arith, same))
  ]

  past_short : length past ≤ image_limit
  past_short = omega (arith, now_longer, x.short)

  mid_short : length mid ≤ image_limit
  mid_short = omega (arith, past_short, opened_longer x.cut_past)

  once : OpenedSo b kind before own after first last mid_stage (opened_acts x.cut)
  once = opened_so x.good x.among first last (omega (arith, x.order)) (omega (arith, mid_short, opened_longer x.cut)) x.cut

  again : OpenedSo mid kind before own' after end record_number_limit past_stage (opened_acts x.cut_past)
  again = opened_so once.goes.good once.goes.among end record_number_limit end_small mid_short x.cut_past

  goes_past : GoesOn b past kind before own rest after acts
  goes_past = goes_along x.good x.among once.goes again.goes

  pub opened_mid : record_bytes mid x.cut.end.own.vdr ≡ record_bytes b own.vdr
  opened_mid = later_size x.good x.among once.goes

  pub came_once : (m : Leaf) → IsOneOf (leaves_of x.cut.end.own.index) m → (l : Leaf) × (IsOneOf (leaves_of own.index) l × ((l.first ≤ m.first) × (m.last ≤ l.last)))
  came_once m i = let c = once.came m i in (c.old, (c.there, (c.begins, c.ends)))

  pub mids_ascend : Ascending 0 (suc record_number_limit) (leaves_of x.cut.end.own.index)
  mids_ascend = leaves_ascend once.goes.good once.goes.among

  lowers : WritesRecords past now kind rest [] → GoesOn past now kind before rest rest after []
  lowers w = goes_written goes_past.good goes_past.among w past_short

  goes_now : WritesRecords past now kind rest [] → GoesOn b now kind before own rest after acts
  goes_now w = subst (GoesOn b now kind before own rest after) (append-nil acts) (goes_along x.good x.among goes_past (lowers w))

  -- ---- MaxRec

  module _ (falls : end < extent (max_rec_at b own.vdr)) (low : MaxRecRaised past now kind rest x.max_rec) where
    low_writes : WritesRecords past now kind rest []
    low_writes = record { changed = subst (Changed past now) (sym (append-nil (max_rec_touches past kind rest.vdr))) low.changed; as_long = low.as_long; in_blocks = tt; max_rec_ruled = ap is_max_rec low.max_rec_is ∙ x.ruled }

    low_is : max_rec_at now rest.vdr ≡ last_number end
    low_is = ap with_sign low.max_rec_is ∙ x.max_rec_is

    low_ends : TwiceEnds b past now kind rest end
    low_ends =
        let less : extent (max_rec_at now rest.vdr) ≡ end = ap extent low_is ∙ extent_last end in
        record {
          writes = low_writes;
          max_rec_is = low_is;
          r_max_rec_is = greatest_lowered b now kind (length before) v (variable_of now rest) (variable_there x.good x.among) (goes_now low_writes).content_is (λ q. r_max_rec_of_z goes_past.good goes_past.among low_writes q ∙ x.cut_past.r_max_rec_is ∙ x.cut.r_max_rec_is) (λ e. absurd (omega (arith, less, e, falls))) low.greatest;
        }

  past_max_rec : max_rec_at past rest.vdr ≡ max_rec_at b own.vdr
  past_max_rec = ap (max_rec_at past) again.goes.vdr_is ∙ ap with_sign x.cut_past.max_rec_is ∙ ap (max_rec_at mid) once.goes.vdr_is ∙ ap with_sign x.cut.max_rec_is

  still_ends : end ≡ extent (max_rec_at b own.vdr) → TwiceEnds b past past kind rest end
  still_ends same = record {
    writes = writes_nothing goes_past.good goes_past.among;
    max_rec_is = past_max_rec ∙ sym (last_of_extent (max_rec_at b own.vdr) last x.has) ∙ ap last_number (sym same);
    r_max_rec_is = greatest_kept b past kind (length before) v (variable_of past rest) (variable_there x.good x.among) goes_past.content_is (sym (ap extent past_max_rec)) (x.cut_past.r_max_rec_is ∙ x.cut.r_max_rec_is);
  }

  ends : TwiceEnds b past now kind rest end
  ends = elim x.lowered [ inl low ↦ low_ends low.0 low.1 | inr still ↦ subst (λ (y : List ℕ). TwiceEnds b past y kind rest end) still.1 (still_ends still.0) ]

  pub twice_goes : GoesOn b now kind before own (opened x) after (opened_twice x)
  twice_goes = goes_now ends.writes

  -- ---- what each record keeps

  behind_stays : (m : ℕ) → In m (index_records rest) → Stays past now m []
  behind_stays m i = keeps_stood past now m (record { stands = behind_in twice_goes.good twice_goes.among m i; whole = behind_kept goes_past.good goes_past.among ends.writes m i (λ none. none) }) (Only [])

  abbrev may : Allowances
  may = del_recs_changes b (shape b) (found_in b kind before own) first last

  abbrev own_may : ℕ → Allowance
  own_may m = may.variables kind (length before) m

  abbrev block_may : Range → Allowance
  block_may rg = anything_if (del_recs_cuts v first last rg)

  allowed : (m : ℕ) (o : Option Range) → range_at (shape b) (found_in b kind before own) m ≡ o → own_may m ≡ of_own.by_range b kind put_fields block_may m o
  allowed m o e = let same = same_as_itself kind in let number = eq-eqb (length before) (length before) refl in rw (same, number, e)

  unlost : (l : Leaf) → IsOneOf leaves l → del_recs_cuts v first last (range l.first l.last) ≡ false → Stays b now l.place []
  unlost l i none =
      let o = in_order 0 2147483647 leaves (leaves_ascend x.good x.among) l i in
      let parts = or_parts (nat_lt 0 (shared first last (range l.first l.last))) (is_sparse v.sparse && nat_lt 0 (shared end record_number_limit (range l.first l.last))) none in
      let before_end : nat_lt 0 (shared end record_number_limit (range l.first l.last)) ≡ false = rw x.rule at parts.1 in
      let lt = ends_before end l.first l.last o.ordered (omega (arith, o.before)) before_end in
      let was = once.blocks l i (apart first last l x.order o.ordered parts.0) in
      let then = again.blocks l was.0 (inl lt) in
      stays_then b past now l.place [] [] [] (stays_then b mid past l.place [] [] [] was.1 then.1 (λ k out. (tt, tt))) (behind_stays l.place (block_behind rest l.place (place_in lefts l then.0))) (λ k out. (tt, tt))

  block_keeps : (l : Leaf) → IsOneOf leaves l → Keeps b now l.place (block_may (range l.first l.last))
  block_keeps l i = elim (either (del_recs_cuts v first last (range l.first l.last))) [ inl e ↦ rw e tt | inr e ↦ rw e (unlost l i e) ]

  cpr_keeps : (m : ℕ) → In m own.cpr → Stays b now m []
  cpr_keeps m i =
      let in_mid : In m own'.cpr = subst (In m) (sym once.cpr.cpr_is) i in
      let in_past : In m rest.cpr = subst (In m) (sym again.cpr.cpr_is) in_mid in
      stays_then b past now m [] [] [] (stays_then b mid past m [] [] [] (once.cpr.cpr m i) (again.cpr.cpr m in_mid) (λ k out. (tt, tt))) (behind_stays m (cpr_behind rest m in_past)) (λ k out. (tt, tt))

  own_keeps : (m : ℕ) → In m (variable_records own) → Keeps b now m (own_may m)
  own_keeps = each_own (λ (m : ℕ). Keeps b now m (own_may m)) own (rw (of_own.descriptor_allowed (found_in b kind before own) x.good x.among refl put_fields block_may own_may allowed) twice_goes.descriptor)
      (λ m i. rw (of_own.node_allowed (found_in b kind before own) x.good x.among refl put_fields block_may own_may allowed m i) tt)
      (λ l i. rw (of_own.block_allowed (found_in b kind before own) x.good x.among refl put_fields block_may own_may allowed l i) (block_keeps l i))
      (λ m i. rw (cpr_allowed (found_in b kind before own) x.good x.among refl put_fields block_may own_may allowed m i) (cpr_keeps m i))

  pub twice_keeps : AllKeep b now (del_recs_changes b (shape b) (found_in b kind before own) first last) (opened_twice x) (owned b (shape b))
  twice_keeps = goes_keep x.good x.among twice_goes may twice_goes.gdr own_keeps

  -- ---- the steps

  steps_acts : {c d : List ℕ} {one : VariableShape} {f t : ℕ} (p : PackedOpened c d kind before one after f t) → opened_acts p ≡ flat_map (λ (stage : Stage). stage.acts) p.stages ++ p.left.acts ++ (elim (with_both f t (leaves_of one.index)) as (λ y. List Act) [ None ↦ [] | Some l ↦ p.end.acts ])
  steps_acts {one = one} {f = f} {t = t} p =
      let o = with_both f t (leaves_of one.index) in
      let behind : flat_map (λ (stage : Stage). stage.acts) (p.left ∷ split_stage o p.end) ≡ p.left.acts ++ (elim o as (λ y. List Act) [ None ↦ [] | Some l ↦ p.end.acts ]) = ap (λ (a : List Act). p.left.acts ++ a) (split_acts o p.end) in
      acts_both p.stages (p.left ∷ split_stage o p.end) ∙ ap (λ (a : List Act). flat_map (λ (stage : Stage). stage.acts) p.stages ++ a) behind ∙ sym (append_assoc (flat_map (λ (stage : Stage). stage.acts) p.stages) p.left.acts (elim o as (λ y. List Act) [ None ↦ [] | Some l ↦ p.end.acts ]))

  first_opens : OpensBySteps (found_in b kind before own) first last (untouched b own) (record { image = mid; own = own'; acts = opened_acts x.cut; next = 0 })
  first_opens = record {
    stages = x.cut.stages;
    kept = x.cut.kept;
    left = x.cut.left;
    end = x.cut.end;
    keep = x.cut.keep;
    cuts = x.cut.cuts;
    splits = x.cut.splits;
    image_is = sym x.cut.now_is;
    own_is = refl;
    acts_are = steps_acts x.cut;
  }

  past_opens : OpensBySteps (found_in b kind before own) end record_number_limit (record { image = mid; own = own'; acts = opened_acts x.cut; next = 0 }) (record { image = past; own = rest; acts = opened_acts x.cut_past; next = 0 })
  past_opens = record {
    stages = x.cut_past.stages;
    kept = x.cut_past.kept;
    left = x.cut_past.left;
    end = x.cut_past.end;
    keep = keep_other kind (length before) (variable_of mid own') v opened_mid false end record_number_limit (keeping_open end record_number_limit mids) (untouched mid own') x.cut_past.stages x.cut_past.kept x.cut_past.keep;
    cuts = cuts_other kind (length before) (variable_of mid own') v opened_mid end record_number_limit x.cut_past.kept x.cut_past.left x.rle x.cut_past.cuts;
    splits = splits_other kind (length before) (variable_of mid own') v opened_mid end record_number_limit mid own' (with_both end record_number_limit mids) x.cut_past.left x.cut_past.end x.cut_past.splits;
    image_is = sym x.cut_past.now_is;
    own_is = refl;
    acts_are = steps_acts x.cut_past;
  }

  pub twice_steps : OpensTwice b now (found_in b kind before own) first last own (opened x) (opened_twice x)
  twice_steps = record {
    cut = record { image = mid; own = own'; acts = opened_acts x.cut; next = 0 };
    left = record { image = past; own = rest; acts = opened_acts x.cut_past; next = 0 };
    cuts = first_opens;
    cuts_past = past_opens;
    acts_are = refl;
    stands = refl;
    changed = subst (Changed past now) (append-nil (max_rec_touches past kind rest.vdr)) ends.writes.changed;
    as_long = ends.writes.as_long;
    max_rec_is = ap extent ends.max_rec_is ∙ extent_last end;
    r_max_rec = ends.r_max_rec_is;
  }

  -- ---- the content

  ruled_is : without_records v.sparse v first last ≡ record v { recs = without first last v.recs; max_rec = greatest_is (greatest (without first last v.recs)) }
  ruled_is = without_ruled v.sparse v first last x.rule

  max_rec_now : max_rec_at now rest.vdr ≡ greatest_is (greatest (without first last v.recs))
  max_rec_now = ends.max_rec_is ∙ ap (λ (y : Variable). last_number (extent y.max_rec)) ruled_is ∙ last_greatest (greatest (without first last v.recs))

  end_is : extent (max_rec_at now rest.vdr) ≡ end
  end_is = ap extent ends.max_rec_is ∙ extent_last end

  leaf_still : (j : ℕ) (l : Leaf) → IsOneOf lefts l → piece size (j - l.first) (plain_bytes now rest.vdr l) ≡ piece size (j - l.first) (plain_bytes past rest.vdr l)
  leaf_still j l i = ap (piece size (j - l.first)) (plain_kept goes_past.good goes_past.among l i (lowers ends.writes) (behind_kept goes_past.good goes_past.among ends.writes l.place (block_behind rest l.place (place_in lefts l i)) (λ none. none)))

  stored_still : (j : ℕ) → stored_bytes now rest.vdr size lefts j ≡ stored_bytes past rest.vdr size lefts j
  stored_still j = elim (some_or_none (leaf_of j lefts)) [
    | inr none ↦ ap (stored_by now rest.vdr size j) none ∙ sym (ap (stored_by past rest.vdr size j) none)
    | inl y ↦ ap (stored_by now rest.vdr size j) y.1 ∙ ap Some (leaf_still j y.0 (found_covering j lefts y.0 y.1).0) ∙ sym (ap (stored_by past rest.vdr size j) y.1)
  ]

  -- below the new MaxRec there is stored what the first cut left
  stored_low : (k : ℕ) → k < end → stored_bytes now rest.vdr size lefts k ≡ stored_bytes mid own'.vdr size mids k
  stored_low k lt = stored_still k ∙ subst (λ (n : ℕ). stored_bytes past rest.vdr n lefts k ≡ stored_bytes mid own'.vdr n mids k) opened_mid (again.outside k (inl lt))

  stores : StoresLeft b now own.vdr rest.vdr leaves lefts first last
  stores = record {
    typed = ap (type_of_variable now) twice_goes.vdr_is ∙ type_alike twice_goes.file (stays_alike twice_goes.file (stays x.good x.among twice_goes.descriptor));
    little = twice_goes.file.little;
    as_long = later_size x.good x.among twice_goes;
    ascend = leaves_ascend x.good x.among;
    ascend_now = leaves_ascend twice_goes.good twice_goes.among;
    upto = ap extent max_rec_now;
    inside = λ k lt low high. stored_low k (omega (arith, lt, end_is)) ∙ once.inside k low high;
    kept = λ k lt side. stored_low k (omega (arith, lt, end_is)) ∙ once.outside k side;
  }

  recs_now : records_in now own.vdr lefts ≡ without first last v.recs
  recs_now = ap (λ (d : ℕ). records_in now d lefts) (sym twice_goes.vdr_is) ∙ records_left stores

  max_now : max_rec_at now own.vdr ≡ greatest_is (greatest (without first last v.recs))
  max_now = ap (max_rec_at now) (sym twice_goes.vdr_is) ∙ max_rec_now

  variable_left : variable_of now rest ≡ without_records v.sparse v first last
  variable_left = variable_stays twice_goes.file own rest (stays x.good x.among twice_goes.descriptor) twice_goes.vdr_is ∙ (λ i. record v { max_rec = max_now i; recs = recs_now i }) ∙ sym ruled_is

  pub twice_content : content now ≡ with_variable (content b) (found_in b kind before own) (without_records (variable_of b own).sparse (variable_of b own) first last)
  twice_content = twice_goes.content_is ∙ ap (with_variable (content b) (found_in b kind before own)) variable_left

  pub twice_longer : length b ≤ length now
  twice_longer = omega (arith, now_longer, opened_longer x.cut, opened_longer x.cut_past)
