-- A leaf of a packed variable is given its records before a first one alone, and then all from this one on are cut: what the cut frees was not written before, and all that is freed keeps its bytes.
use Rattle.std.proofs.Common.{List, [], ap, arith, false, inl, inr, refl, subst, sym, true, true≢false, ℕ, ◌+◌, ◌∙◌, ◌≡◌, ◌≢◌, ◌≤◌, ◌⊎◌}
use Rattle.std.proofs.lemmas.Bool.{cases_lt}
use Rattle.cdf_edits.proofs.Common.{Each, FreedStay, In, Kind, Leaf, Stays, VariableShape, good_is_sound, leaves_of, no_fields, nodes_of, range, shape, times, variable_of}
use Rattle.cdf_edits.proofs.Edits.Common.{Each-in, has, in-times, places_of, times-in}
use Rattle.cdf_edits.proofs.Edits.LeafPieces.{each_of, leaf_at, of_each}
use Rattle.cdf_edits.specs.Index.Blocks.{Range}
use Rattle.cdf_edits.specs.Index.Written.{is_given_at}
use Rattle.cdf_blocks.proofs.BlockOf.{block_typed}
use Rattle.cdf_blocks.proofs.EntryNamed.{not_node}
use Rattle.cdf_blocks.proofs.PlacedNode.{node_names}
use Rattle.cdf_blocks.specs.Shortened.{NamesLeaf}
use Rattle.cdf_cuts.proofs.CutFollows.{given_in}
use Rattle.cdf_cuts.proofs.PlanPlaces.{plan_frees}
use Rattle.cdf_cuts.specs.Past.{before_first, cut_off, past_span}
use Rattle.cdf_cuts.specs.Planning.{freed_of, plan_of}
use Rattle.cdf_packed_cuts.proofs.FreedThenFreed.{freed_both}
use Rattle.cdf_packed_cuts.proofs.NodesKept.{KeepsSome, SomeRange, node_left}
use Rattle.cdf_packed_cuts.proofs.TwoActs.{acts, first_acts, new_kept, next_acts}
use Rattle.cdf_packed_cuts.proofs.TwoIndex.{is_old, small, wanted_nodes}
use Rattle.cdf_packed_cuts.proofs.TwoSteps.{TwoSteps, from_mid, keeps_before, other_first, other_place}

module _ {b mid now : List ℕ} {kind : Kind} {before : List VariableShape} {own : VariableShape} {after : List VariableShape} {first : ℕ} {old new : Leaf} {plain : List ℕ} (t : TwoSteps b mid now kind before own after first old new plain) where
  abbrev own1 : VariableShape
  own1 = t.short.own'

  abbrev own2 : VariableShape
  own2 = cut_off t.short.own' first

  abbrev keep : Range → List Range
  keep = before_first first

  -- what the cut frees, the blocks and then the nodes
  abbrev freed : List ℕ
  freed = freed_of (plan_of (past_span first) 0 own1.index)

  -- it is of the index in between
  freed_own : (p : ℕ) → In p freed → In p (nodes_of own1.index) ⊎ In p (places_of (leaves_of own1.index))
  freed_own p i =
      let all = plan_frees p (past_span first) 0 own1.index in
      let some = times-in p freed i in
      elim (some_of (times p (nodes_of own1.index)) (times p (places_of (leaves_of own1.index))) (omega (arith, all, some))) [
        | inl k ↦ inl (in-times p (nodes_of own1.index) k)
        | inr k ↦ inr (in-times p (places_of (leaves_of own1.index)) k)
      ]
    where
      some_of : (x y : ℕ) → 1 ≤ x + y → (1 ≤ x) ⊎ (1 ≤ y)
      some_of x y le = elim (cases_lt 0 x) [ inl lt ↦ inl (omega (arith, lt)) | inr z ↦ inr (omega (arith, le, z)) ]

  -- the block that was shortened is not freed
  block_kept : (p : ℕ) → In p freed → In p (places_of (leaves_of own1.index)) → Stays b mid p []
  block_kept p i j =
      let l = leaf_at (leaves_of own1.index) p j in
      elim (from_mid t.good t.among t.one t.short l.0 l.1.0) [
        | inl q ↦
            let e : new.place ≡ p = ap (λ (y : Leaf). y.place) (sym q) ∙ sym l.1.1 in
            absurd (true≢false (sym (given_in mid freed p i) ∙ subst (λ (x : ℕ). is_given_at (next_acts t) x ≡ false) e (new_kept t)))
        | inr other ↦
            let ne = other_place t.good t.among t.one t.short l.0 other.0 (λ q. other.1 (ap (λ (y : Leaf). y.first) q)) in
            subst (λ (x : ℕ). Stays b mid x []) (sym l.1.1) (of_each (λ (y : Leaf). y.place ≢ old.place → Stays b mid y.place []) (leaves_of own.index) l.0 t.short.blocks other.0 ne)
      ]

  -- nor is a node that names it
  keeps_some : Each (KeepsSome keep old.first 0 0) (leaves_of own.index)
  keeps_some = each_of (KeepsSome keep old.first 0 0) (leaves_of own.index) (λ l i e. elim (is_old t l i) [
    | inl q ↦
        let s = t.split.before in
        subst (λ (y : Leaf). SomeRange (keep (range y.first y.last))) (sym q) (subst SomeRange (sym (keeps_before first old.first old.last (small t old t.one) s)) tt)
    | inr ne ↦ absurd (other_first t.good t.among t.one t.short l i ne e)
  ])

  named_left : (p : ℕ) → In p (nodes_of own.index) → NamesLeaf b p old → In p (nodes_of own2.index)
  named_left p j n =
      let names = node_names b (shape b).records p n.number old.first old.last old.place n.used n.says (not_node b (shape b).records old.place old.packed (block_typed t.good t.among old t.one)) 8 own.index (has t.good t.among).indexed.has_nodes in
      subst (In p) (sym (wanted_nodes t)) (node_left keep old.first n.number p own.index names j keeps_some)

  node_kept : (p : ℕ) → In p freed → In p (nodes_of own1.index) → Stays b mid p []
  node_kept p i j =
      let k = subst (In p) t.short.nodes_are j in
      elim (Each-in (λ m. Stays b mid m [] ⊎ NamesLeaf b m old) (nodes_of own.index) t.short.elsewhere p k) [
        | inl s ↦ s
        | inr n ↦ absurd (true≢false (sym (given_in mid freed p i) ∙ Each-in (λ m. is_given_at (next_acts t) m ≡ false) (nodes_of own2.index) (t.cut.cuts (variable_of b own)).stand p (named_left p k n)))
      ]

  freed_kept : (p : ℕ) → In p freed → Stays b mid p []
  freed_kept p i = elim (freed_own p i) [ inl j ↦ node_kept p i j | inr j ↦ block_kept p i j ]

  pub freed_now : FreedStay b now no_fields (acts t)
  freed_now =
      freed_both freed (good_is_sound mid t.short.goes_on.good).has_shape (good_is_sound now t.cut.goes_on.good).has_shape t.cut.goes_on.follow t.cut.goes_on.listed t.cut.goes_on.loose freed_kept (t.cut.goes 0).freed (first_acts t) (t.short.goes (λ r. true) refl [] 0 0).freed
