-- A leaf of a packed variable is given its records before a first one alone, and then all from this one on are cut: all else of the image is as a cut at once leaves it.
use Rattle.std.proofs.Common.{Bool, List, [], ap, arith, false, inl, inr, length, refl, subst, sym, true, ℕ, ◌*◌, ◌+◌, ◌<◌, ◌∙◌, ◌≡◌, ◌≤◌, if◌then◌else◌}
use Rattle.std.specs.Prelude.{bytes_eq, nat_le}
use Rattle.std.proofs.lemmas.Bool.{cases_lt}
use Rattle.cdf_edits.proofs.Common.{AllKeep, Allowance, Allowances, In, Keeps, Kind, Leaf, Option, Range, Same, Stays, VariableShape, cpr_of, eq-eqb, is_in-true, le-leb, leaves_of, leb-true, lt-leb, nodes_of, number, owned, range, range_at, room_at, shape, size_at, space_fields, used_count, variable_records, vdr_vxr_tail}
use Rattle.cdf_edits.proofs.Edits.Common.{Each-in, each, has, same_as_itself, stays_then}
use Rattle.cdf_edits.proofs.Edits.LeafPieces.{IsOneOf}
use Rattle.cdf_edits.proofs.Frame.VdrStays.{cpr_stays}
use Rattle.cdf_edits.specs.Commands.Allowances.{anything_if}
use Rattle.cdf_edits.specs.Commands.PutSteps.{Goes, step_changes}
use Rattle.cdf_edits.specs.Index.Written.{EntryIs, NodeSpareStays, last_node, top_chain, top_stays, was_unused}
use Rattle.cdf_index.proofs.OwnRecords as of_own
use Rattle.cdf_puts.proofs.DoneBytes.{top_stays_by}
use Rattle.cdf_puts.proofs.GoesKeep.{each_own, goes_keep}
use Rattle.cdf_puts.proofs.GoesThen.{own_there, stays}
use Rattle.cdf_puts.specs.Going.{GoesOn, found_in}
use Rattle.cdf_put_steps.proofs.GoesAlong.{goes_along}
use Rattle.cdf_put_steps.proofs.StepKeeps.{block_unchanged, cpr_allowed, cpr_unchanged, gdr_unchanged, vdr_unchanged}
use Rattle.cdf_blocks.proofs.BlockGoes.{heads}
use Rattle.cdf_blocks.proofs.PlacedLeaf as of_leaf
use Rattle.cdf_blocks.specs.Shortened.{NodeStays}
use Rattle.cdf_cuts.specs.Past.{cut_off, stage}
use Rattle.cdf_packed_cuts.proofs.TwoActs.{acts, first_acts, first_alone, next_acts, none_next, taken_apart}
use Rattle.cdf_packed_cuts.proofs.TwoFreed.{freed_now}
use Rattle.cdf_packed_cuts.proofs.TwoIndex.{node_no_new, was_node}
use Rattle.cdf_packed_cuts.proofs.TwoSteps.{TwoSteps, to_mid}

module _ {b mid now : List ℕ} {kind : Kind} {before : List VariableShape} {own : VariableShape} {after : List VariableShape} {first : ℕ} {old new : Leaf} {plain : List ℕ} (t : TwoSteps b mid now kind before own after first old new plain) where
  abbrev own1 : VariableShape
  own1 = t.short.own'

  abbrev own2 : VariableShape
  own2 = cut_off t.short.own' first

  abbrev changes : Range → Bool
  changes r = nat_le first r.last

  first_goes : Goes (found_in b kind before own) (stage b own [] 0) (stage mid own1 (first_acts t) 0) changes
  first_goes = t.short.goes changes (le-leb first old.last t.split.behind) [] 0 0

  first_keeps : AllKeep b mid (step_changes b (found_in b kind before own) changes) (first_acts t) (owned b (shape b))
  first_keeps = first_goes.keeps

  next_keeps : AllKeep mid now (step_changes mid (found_in mid kind before own1) changes) (next_acts t) (owned mid (shape mid))
  next_keeps = (t.cut.goes 0).keeps

  pub goes_on : GoesOn b now kind before own own2 after (acts t)
  goes_on = goes_along t.good t.among t.short.goes_on t.cut.goes_on

  -- ---- what each record keeps

  gdr : Stays b now (shape b).gdr space_fields
  gdr =
      let x = gdr_unchanged b mid (found_in b kind before own) changes (first_acts t) t.good t.among refl first_keeps in
      let y = gdr_unchanged mid now (found_in mid kind before own1) changes (next_acts t) t.short.goes_on.good t.short.goes_on.among refl next_keeps in
      stays_then b mid now (shape b).gdr space_fields space_fields space_fields x (subst (λ (m : ℕ). Stays mid now m space_fields) t.short.goes_on.gdr_is y) (λ i o. (o, o))

  descriptor : Stays b now own.vdr heads
  descriptor =
      let x = vdr_unchanged b mid (found_in b kind before own) changes (first_acts t) t.good t.among refl first_keeps in
      let y = vdr_unchanged mid now (found_in mid kind before own1) changes (next_acts t) t.short.goes_on.good t.short.goes_on.among refl next_keeps in
      stays_then b mid now own.vdr heads heads heads x (subst (λ (m : ℕ). Stays mid now m heads) t.short.goes_on.vdr_is y) (λ i o. (o, o))

  -- a block that ends before the first record that goes
  pub block_stays : (l : Leaf) → IsOneOf (leaves_of own.index) l → l.last < first → Stays b now l.place []
  block_stays l i lt =
      let none : changes (range l.first l.last) ≡ false = lt-leb first l.last lt in
      let behind = t.split.behind in
      let ne : l ≡ old → ⊥ = λ q. (let e : l.last ≡ old.last = ap (λ (y : Leaf). y.last) q in omega (arith, lt, behind, e)) in
      let x = block_unchanged b mid (found_in b kind before own) changes (first_acts t) t.good t.among refl first_keeps l i none in
      let y = block_unchanged mid now (found_in mid kind before own1) changes (next_acts t) t.short.goes_on.good t.short.goes_on.among refl next_keeps l (to_mid t.good t.among t.one t.short l i ne) none in
      stays_then b mid now l.place [] [] [] x y (λ k out. (tt, tt))

  cpr_same : own1.cpr ≡ own.cpr
  cpr_same =
      let one = t.short.goes_on in
      sym (has one.good one.among).packed_by ∙ ap (cpr_of mid) one.vdr_is ∙ cpr_stays one.file (stays t.good t.among one.descriptor) ∙ (has t.good t.among).packed_by

  cpr_kept : (m : ℕ) → In m own.cpr → Stays b now m []
  cpr_kept m i =
      let x = cpr_unchanged b mid (found_in b kind before own) changes (first_acts t) t.good t.among refl first_keeps m i in
      let y = cpr_unchanged mid now (found_in mid kind before own1) changes (next_acts t) t.short.goes_on.good t.short.goes_on.among refl next_keeps m (subst (In m) (sym cpr_same) i) in
      stays_then b mid now m [] [] [] x y (λ k out. (tt, tt))

  abbrev may : Allowances
  may = step_changes b (found_in b kind before own) changes

  abbrev own_may : ℕ → Allowance
  own_may m = may.variables kind (length before) m

  abbrev block_may : Range → Allowance
  block_may r = anything_if (changes r)

  allowed : (m : ℕ) (o : Option Range) → range_at (shape b) (found_in b kind before own) m ≡ o → own_may m ≡ of_own.by_range b kind heads block_may m o
  allowed m o e = let same = same_as_itself kind in let number = eq-eqb (length before) (length before) refl in rw (same, number, e)

  block_keeps : (l : Leaf) → IsOneOf (leaves_of own.index) l → Keeps b now l.place (block_may (range l.first l.last))
  block_keeps l i = elim (cases_lt l.last first) [ inl lt ↦ rw (lt-leb first l.last lt) (block_stays l i lt) | inr ge ↦ rw (le-leb first l.last ge) tt ]

  own_keeps : (m : ℕ) → In m (variable_records own) → Keeps b now m (own_may m)
  own_keeps = each_own (λ (m : ℕ). Keeps b now m (own_may m)) own (rw (of_own.descriptor_allowed (found_in b kind before own) t.good t.among refl heads block_may own_may allowed) descriptor)
      (λ m i. rw (of_own.node_allowed (found_in b kind before own) t.good t.among refl heads block_may own_may allowed m i) tt)
      (λ l i. rw (of_own.block_allowed (found_in b kind before own) t.good t.among refl heads block_may own_may allowed l i) (block_keeps l i))
      (λ m i. rw (cpr_allowed (found_in b kind before own) t.good t.among refl heads block_may own_may allowed m i) (cpr_kept m i))

  keeps : AllKeep b now may (acts t) (owned b (shape b))
  keeps = goes_keep t.good t.among goes_on may gdr own_keeps

  -- ---- the nodes that are left

  node_stays : (m : ℕ) → In m (nodes_of own.index) → NodeStays b mid old.place m
  node_stays m k = Each-in (NodeStays b mid old.place) (nodes_of own.index) t.short.nodes m k

  room_is : (m : ℕ) → In m (nodes_of own2.index) → room_at now m ≡ room_at mid m
  room_is m j = Each-in (λ n. room_at now n ≡ room_at mid n) (nodes_of own2.index) t.cut.rooms m j

  in_mid : (m : ℕ) → In m (nodes_of own.index) → In m (nodes_of own1.index)
  in_mid m k = subst (In m) (sym t.short.nodes_are) k

  abbrev Unused : ℕ → Type 0
  Unused m = (i : ℕ) → used_count now m ≤ i → i < room_at now m → EntryIs b now m i (was_unused b (nodes_of own.index) (acts t) m i)

  unused_by : (m i : ℕ) (q : Bool) → EntryIs mid now m i q → (q ≡ true → EntryIs b mid m i true) → EntryIs b now m i q
  unused_by m i true s f = let x = f refl in record { first_is = s.first_is ∙ x.first_is; last_is = s.last_is ∙ x.last_is; offset_is = s.offset_is ∙ x.offset_is }
  unused_by m i false s f = s

  unused : (m : ℕ) → In m (nodes_of own2.index) → Unused m
  unused m j i le lt =
      let k = was_node t m j in
      let n = node_stays m k in
      let none = taken_apart t m (node_no_new t m k) in
      let alone = first_alone t m (node_no_new t m k) in
      let used = n.used_is in
      let room = room_is m j in
      let is_now : was_unused b (nodes_of own.index) (acts t) m i ≡ nat_le (used_count b m) i = rw (is_in-true m (nodes_of own.index) k, none) refl in
      let is_next : was_unused mid (nodes_of own1.index) (next_acts t) m i ≡ nat_le (used_count b m) i = rw (is_in-true m (nodes_of own1.index) (in_mid m k), none_next t m, used) refl in
      let is_first : was_unused b (nodes_of own.index) (first_acts t) m i ≡ nat_le (used_count b m) i = rw (is_in-true m (nodes_of own.index) k, alone) refl in
      let second = subst (EntryIs mid now m i) is_next (Each-in (λ n. (i : ℕ) → used_count now n ≤ i → i < room_at now n → EntryIs mid now n i (was_unused mid (nodes_of own1.index) (next_acts t) n i)) (nodes_of own2.index) (t.cut.goes 0).unused m j i le lt) in
      let one = λ (q : nat_le (used_count b m) i ≡ true).
      (let from = leb-true (used_count b m) i q in
      subst (EntryIs b mid m i) (is_first ∙ q) (Each-in (λ n. (i : ℕ) → used_count mid n ≤ i → i < room_at mid n → EntryIs b mid n i (was_unused b (nodes_of own.index) (first_acts t) n i)) (nodes_of own1.index) first_goes.unused m (in_mid m k) i (omega (arith, used, from)) (omega (arith, room, lt)))) in
      subst (EntryIs b now m i) (sym is_now) (unused_by m i (nat_le (used_count b m) i) second one)

  spare : (m : ℕ) → In m (nodes_of own2.index) → NodeSpareStays b now (acts t) m
  spare m j free =
      let k = was_node t m j in
      let size = (node_stays m k).size_is in
      let room = room_is m j in
      let x : Same b mid (m + (28 + 16 * room_at mid m)) (m + size_at b m) = Each-in (NodeSpareStays b mid (first_acts t)) (nodes_of own1.index) first_goes.spare m (in_mid m k) (first_alone t m (node_no_new t m k)) in
      let y : Same mid now (m + (28 + 16 * room_at now m)) (m + size_at mid m) = Each-in (NodeSpareStays mid now (next_acts t)) (nodes_of own2.index) (t.cut.goes 0).spare m j (none_next t m) in
      record { each = λ p low up. y.each p low (omega (arith, up, size)) ∙ x.each p (omega (arith, low, room)) up }

  -- ---- VXRtail

  top_is : top_chain own1.index ≡ top_chain own.index
  top_is = ap top_chain t.short.index_is ∙ of_leaf.top_stays old.first new own.index

  tops : top_stays (next_acts t) own1.index own1.index own2.index ≡ top_stays (acts t) own.index own.index own2.index
  tops =
      top_stays_by (next_acts t) own1.index own2.index (λ m i. none_next t m)
      ∙ ap (λ (xs : List ℕ). bytes_eq xs (top_chain own2.index)) top_is
      ∙ sym (top_stays_by (acts t) own.index own2.index (λ m i. taken_apart t m (node_no_new t m i)))

  tail : number now own2.vdr vdr_vxr_tail ≡ (if top_stays (acts t) own.index own.index own2.index then number b own.vdr vdr_vxr_tail else last_node own2.index)
  tail =
      let same : number mid own1.vdr vdr_vxr_tail ≡ number b own.vdr vdr_vxr_tail = ap (λ (m : ℕ). number mid m vdr_vxr_tail) t.short.goes_on.vdr_is ∙ t.short.tail_is in
      (t.cut.goes 0).tail ∙ (λ i. if tops i then same i else last_node own2.index)

  pub goes : (next : ℕ) → Goes (found_in b kind before own) (stage b own [] next) (stage now own2 (acts t) next) changes
  goes next = record {
    good = goes_on.good;
    stands = own_there goes_on.good goes_on.among;
    acts_follow = goes_on.follow;
    keeps = keeps;
    unused = each Unused (nodes_of own2.index) unused;
    spare = each (NodeSpareStays b now (acts t)) (nodes_of own2.index) spare;
    tail = tail;
    freed = freed_now t;
  }
