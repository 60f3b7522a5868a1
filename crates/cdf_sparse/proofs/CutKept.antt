-- All records of a variable, packed or not, were cut out of its index: of its descriptor VXRhead and VXRtail alone changed, of the GDR the fields that say where space is, and the record of its parameters stays. It is a cut after which later records keep their numbers, and no record is left.
use Rattle.cdf_cuts.proofs.Common.{Each, In, Leaf, List, Nodes, [], ap, arith, ne_eqb, slice_get, subst, suc, sym, inl, inr, length, map, zero, ℕ, ◌++◌, ◌+◌, ◌∙◌, ◌∷◌, ◌==◌, ◌≡◌, ◌≤◌}
use Rattle.cdf_edits.proofs.Common.{Act, AllKeep, Allowance, Allowances, Bool, Field, Good, HasShape, Keeps, Kind, OneVariable, Only, Owner, R, Some, Stays, Unused, Variable, VariableShape, Z, allowance, cdr_type, eq-eqb, gdr_type, is_a-type, owned, owned_by, owned_by_attributes, owned_by_variables, range_at, shape, shapes_of, space_fields, type_at, unused_records, variable_of, variable_records, vdr_vxr_head, vdr_vxr_tail, if◌then◌else◌, leaves_of, lt-ltb, no_node, range, refl, true, Range, Option, nat_le, nat_lt, flat_map, le-ltb, false}
use Rattle.cdf_edits.proofs.Commands.ChainsStay.{AllKeep-split}
use Rattle.cdf_edits.proofs.Edits.Common.{StandsAmong, gdr_typed, sound}
use Rattle.cdf_edits.proofs.Edits.LeafPieces.{IsOneOf, each_of, in_order}
use Rattle.cdf_edits.proofs.Edits.ActsThen.{taken-gave}
use Rattle.cdf_edits.proofs.Edits.PlainLeaves.{leaves_ascend, own_rules}
use Rattle.cdf_edits.proofs.Edits.VariableCopied.{cpr_behind}
use Rattle.cdf_edits.specs.Commands.Allowances.{anything_if}
use Rattle.cdf_edits.specs.Commands.PutSteps.{Goes, step_changes}
use Rattle.cdf_edits.specs.Index.Blocks.{shared}
use Rattle.cdf_edits.specs.Index.Cut.{CutsIndex}
use Rattle.cdf_edits.specs.Index.Grown.{index_cut_open, split_off, with_ranges}
use Rattle.cdf_edits.specs.Space.Acts.{taken}
use Rattle.cdf_index.proofs.LeafRules.{index_order}
use Rattle.cdf_index.proofs.OwnRecords as of_own
use Rattle.cdf_model.specs.Limits.{record_number_limit}
use Rattle.cdf_puts.proofs.Common.{same_as_itself}
use Rattle.cdf_puts.proofs.GoesThen.{own_there}
use Rattle.cdf_puts.specs.Going.{found_in}
use Rattle.cdf_puts.proofs.GoesKeep.{each_own, goes_keep}
use Rattle.cdf_cuts.proofs.CutAll.{all_gone}
use Rattle.cdf_cuts.specs.Past.{EndCut, before_first, cut_off, past_acts, past_span, stage}
use Rattle.cdf_cuts.specs.Planning.{freed_of, plan_of}
use Rattle.cdf_sparse.proofs.OwnParameters.{cpr_allowed}
use Rattle.cdf_edits.specs.Commands.Deleting.{CutsOpen, LeafKept, LeafSplit, untouched}

-- ---- a record among those that keep what they have to

module _ (b now : List ℕ) (may : Allowances) (acts : List Act) where
  one_kept : (owner : Owner) (places : List ℕ) → AllKeep b now may acts (owned_by owner places) → (m : ℕ) → In m places → Keeps b now m (allowance b (shape b) may acts m owner)
  one_kept owner [] keeps m i = absurd i
  one_kept owner (place ∷ places) keeps m (inl e) = subst (λ (x : ℕ). Keeps b now x (allowance b (shape b) may acts x owner)) (sym e) keeps.0
  one_kept owner (place ∷ places) keeps m (inr i) = one_kept owner places keeps.1 m i

  variable_kept : (kind : Kind) (first : ℕ) (vs : List VariableShape) (n : ℕ) (own : VariableShape) → slice_get vs n ≡ Some own → AllKeep b now may acts (owned_by_variables kind first vs) → (m : ℕ) → In m (variable_records own) → Keeps b now m (may.variables kind (first + n) m)
  variable_kept kind first [] n own e keeps m i = absurd cc
  variable_kept kind first (v ∷ vs) zero own e keeps m i =
      let same : own ≡ v = cc in
      let at : first ≡ first + 0 = omega arith in
      subst (λ (k : ℕ). Keeps b now m (may.variables kind k m)) at
      (one_kept (OneVariable kind first) (variable_records v) (AllKeep-split b now may acts (owned_by (OneVariable kind first) (variable_records v)) (owned_by_variables kind (suc first) vs) keeps).0 m (subst (λ (x : VariableShape). In m (variable_records x)) same i))
  variable_kept kind first (v ∷ vs) (suc n) own e keeps m i =
      let at : suc first + n ≡ first + suc n = omega arith in
      subst (λ (k : ℕ). Keeps b now m (may.variables kind k m)) at
      (variable_kept kind (suc first) vs n own e (AllKeep-split b now may acts (owned_by (OneVariable kind first) (variable_records v)) (owned_by_variables kind (suc first) vs) keeps).1 m i)

  module _ {kind : Kind} {before : List VariableShape} {own : VariableShape} {after : List VariableShape} (good : Good b) (at : StandsAmong b kind before own after) (keeps : AllKeep b now may acts (owned b (shape b))) where
    h : HasShape b (shape b)
    h = (sound good at).has_shape

    not_cdr : ((shape b).gdr == 8) ≡ false
    not_cdr = ne_eqb (shape b).gdr 8 (λ e. clash (sym (is_a-type b (shape b).records cdr_type 8 h.cdr_stands) ∙ ap (type_at b) (sym e) ∙ gdr_typed b (shape b) h))
      where
        clash : cdr_type ≡ gdr_type → ⊥
        clash e = absurd (omega arith)

    pub gdr_kept : Keeps b now (shape b).gdr may.gdr
    gdr_kept = subst (λ (p : Bool). Keeps b now (shape b).gdr (if p then may.cdr else may.gdr)) not_cdr keeps.1.0

    of_kind : AllKeep b now may acts (owned_by_variables kind 0 (shapes_of (shape b) kind))
    of_kind =
        let as_ = owned_by_attributes 0 (shape b).attributes in
        let rs = owned_by_variables R 0 (shape b).r_variables in
        let zs = owned_by_variables Z 0 (shape b).z_variables in
        let all = AllKeep-split b now may acts ((as_ ++ rs) ++ zs) (owned_by Unused (unused_records b (shape b))) keeps.1.1 in
        let first = AllKeep-split b now may acts (as_ ++ rs) zs all.0 in
        by_kind kind (AllKeep-split b now may acts as_ rs first.0).1 first.1
      where
        by_kind : (k : Kind) → AllKeep b now may acts (owned_by_variables R 0 (shape b).r_variables) → AllKeep b now may acts (owned_by_variables Z 0 (shape b).z_variables) → AllKeep b now may acts (owned_by_variables k 0 (shapes_of (shape b) k))
        by_kind R r z = r
        by_kind Z r z = z

    pub own_kept : (m : ℕ) → In m (variable_records own) → Keeps b now m (may.variables kind (length before) m)
    own_kept m i =
        let same : 0 + length before ≡ length before = omega arith in
        subst (λ (n : ℕ). Keeps b now m (may.variables kind n m)) same (variable_kept kind 0 (shapes_of (shape b) kind) (length before) own (own_there good at) of_kind m i)

-- ---- all records were cut

abbrev pub heads : List Field
heads = vdr_vxr_head ∷ vdr_vxr_tail ∷ []

-- without a node there is no leaf
no_leaf : (P : Leaf → Type 0) → Each P (leaves_of no_node)
unfolding leaves_of
no_leaf P = tt

none_each : (P : Leaf → Type 0) (n : Nodes) → n ≡ no_node → Each P (leaves_of n)
none_each P n none = subst (λ (x : Nodes). Each P (leaves_of x)) (sym none) (no_leaf P)

-- no range has a part that gets a new block
none_split : (f l : ℕ) → l ≤ record_number_limit → split_off 0 record_number_limit (range f l) ≡ []
none_split f l le = let low : 0 ≤ f = omega arith in rw (le-ltb f 0 low, le-ltb record_number_limit l le) refl

none_split_off : (ls : List Leaf) → Each (λ (l : Leaf). l.last ≤ record_number_limit) ls → flat_map (split_off 0 record_number_limit) (map (λ (l : Leaf). range l.first l.last) ls) ≡ []
none_split_off [] small = refl
none_split_off (l ∷ ls) small = rw (none_split l.first l.last small.0, none_split_off ls small.1) refl

module _ {b now : List ℕ} {kind : Kind} {before : List VariableShape} {own : VariableShape} {after : List VariableShape} (good : Good b) (at : StandsAmong b kind before own after) (x : EndCut b now kind before own (cut_off own 0) after 0) where
  abbrev v : Variable
  v = variable_of b own

  abbrev own' : VariableShape
  own' = cut_off own 0

  abbrev leaves : List Leaf
  leaves = leaves_of own.index

  abbrev acts : List Act
  acts = past_acts b own 0

  pub none_left : own'.index ≡ no_node
  none_left = all_gone own.index (index_order b (shape b).records own.vdr own.index (own_rules good at).1)

  pub none_taken : taken acts ≡ []
  none_taken = taken-gave b (freed_of (plan_of (past_span 0) 0 own.index))

  abbrev past : Range → Bool
  past r = nat_le 0 r.last

  pub cut_gdr : Stays b now (shape b).gdr space_fields
  cut_gdr = gdr_kept b now (step_changes b (found_in b kind before own) past) acts good at (x.goes 0).keeps

  abbrev own_may : (Range → Bool) → ℕ → Allowance
  own_may changes m = (step_changes b (found_in b kind before own) changes).variables kind (length before) m

  abbrev block_may : (Range → Bool) → Range → Allowance
  block_may changes r = anything_if (changes r)

  allowed : (changes : Range → Bool) (m : ℕ) (o : Option Range) → range_at (shape b) (found_in b kind before own) m ≡ o → own_may changes m ≡ of_own.by_range b kind heads (block_may changes) m o
  allowed changes m o e = let same = same_as_itself kind in let number = eq-eqb (length before) (length before) refl in rw (same, number, e)

  of_vdr : (changes : Range → Bool) → own_may changes own.vdr ≡ Only heads
  of_vdr changes = of_own.descriptor_allowed (found_in b kind before own) good at refl heads (block_may changes) (own_may changes) (allowed changes)

  pub cut_vdr : Stays b now own.vdr heads
  cut_vdr = subst (Keeps b now own.vdr) (of_vdr past) (own_kept b now (step_changes b (found_in b kind before own) past) acts good at (x.goes 0).keeps own.vdr (inl refl))

  of_cpr : (changes : Range → Bool) (m : ℕ) → In m own.cpr → own_may changes m ≡ Only []
  of_cpr changes = cpr_allowed (found_in b kind before own) good at refl heads (block_may changes) (own_may changes) (allowed changes)

  -- the record of its parameters stays
  pub cut_cpr : (m : ℕ) → In m own.cpr → Stays b now m []
  cut_cpr m i = subst (Keeps b now m) (of_cpr past m i) (own_kept b now (step_changes b (found_in b kind before own) past) acts good at (x.goes 0).keeps m (inr (cpr_behind own m i)))

  -- ---- as a cut after which later records keep their numbers

  abbrev meets : Range → Bool
  meets r = nat_lt 0 (shared 0 record_number_limit r)

  placed : (l : Leaf) → IsOneOf leaves l → (l.first ≤ l.last) × (l.last ≤ record_number_limit)
  placed l i = let o = in_order 0 (suc record_number_limit) leaves (leaves_ascend good at) l i in (o.ordered, omega (arith, o.before))

  block_keeps : (l : Leaf) → IsOneOf leaves l → Keeps b now l.place (block_may meets (range l.first l.last))
  block_keeps l i =
      let p = placed l i in
      let some : nat_lt 0 (shared 0 record_number_limit (range l.first l.last)) ≡ true = lt-ltb 0 (shared 0 record_number_limit (range l.first l.last)) (omega (arith, p.0, p.1)) in
      rw some tt

  own_keeps : (m : ℕ) → In m (variable_records own) → Keeps b now m (own_may meets m)
  own_keeps = each_own (λ (m : ℕ). Keeps b now m (own_may meets m)) own (rw (of_vdr meets) cut_vdr)
      (λ m i. rw (of_own.node_allowed (found_in b kind before own) good at refl heads (block_may meets) (own_may meets) (allowed meets) m i) tt)
      (λ l i. rw (of_own.block_allowed (found_in b kind before own) good at refl heads (block_may meets) (own_may meets) (allowed meets) l i) (block_keeps l i))
      (λ m i. rw (of_cpr meets m i) (cut_cpr m i))

  goes : Goes (found_in b kind before own) (untouched b own) (stage now own' acts 0) meets
  goes =
      let g = x.goes 0 in
      record { good = g.good; stands = g.stands; acts_follow = g.acts_follow; keeps = goes_keep good at x.goes_on (step_changes b (found_in b kind before own) meets) cut_gdr own_keeps; unused = g.unused; spare = g.spare; tail = g.tail; freed = g.freed }

  index_same : index_cut_open 0 record_number_limit own.index ≡ own'.index
  index_same = ap (with_ranges own'.index) (none_split_off leaves (each_of (λ (l : Leaf). l.last ≤ record_number_limit) leaves (λ l i. (placed l i).1)))

  -- no record is left
  pub cuts_open : CutsOpen (found_in b kind before own) 0 record_number_limit (untouched b own) (stage now own' acts 0)
  cuts_open = record {
    index = subst (λ (y : Nodes). CutsIndex v (before_first 0) own.index y own'.index acts) (sym index_same) (x.cuts v);
    kept = each_of (λ old. Each (LeafKept (found_in b kind before own) 0 record_number_limit (untouched b own) (stage now own' acts 0) old) (leaves_of own'.index)) leaves (λ old i. none_each (LeafKept (found_in b kind before own) 0 record_number_limit (untouched b own) (stage now own' acts 0) old) own'.index none_left);
    split = each_of (λ old. Each (LeafSplit (found_in b kind before own) 0 record_number_limit (untouched b own) (stage now own' acts 0) old) (leaves_of own'.index)) leaves (λ old i. none_each (LeafSplit (found_in b kind before own) 0 record_number_limit (untouched b own) (stage now own' acts 0) old) own'.index none_left);
    goes = goes;
    next_is = refl;
  }
