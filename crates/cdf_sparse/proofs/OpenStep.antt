-- Records were cut out of the index of a variable, of which no block is packed, and later ones keep their numbers: this is a step in which a block changes only where it has some of the records that go.
use Rattle.cdf_cuts.proofs.Common.{Bool, In, Leaf, List, Nodes, Range, [], arith, cases_lt, if◌then◌else◌, image_limit, inl, inr, le-ltb, leaves_of, length, lt-ltb, nat_lt, nodes_of, number, range, refl, room_at, size_at, subst, suc, sym, used_count, ℕ, ◌+◌, ◌<◌, ◌∙◌, ◌∷◌, ◌≡◌, ◌≤◌, ◌⊎◌}
use Rattle.std.specs.declared.option.Option.{Option}
use Rattle.cdf_edits.proofs.Common.{Act, AllKeep, Allowance, Allowances, Avoids, Field, Good, Keeps, Kind, Only, Same, Stays, VariableShape, eq-eqb, freeing_marks, gave, gdr_type, owned, range_at, record_number_limit, shape, shared, space_fields, type_in, variable_records, variables_chain, vdr_vxr_head, vdr_vxr_tail}
use Rattle.cdf_edits.proofs.Commands.KeptRecords.{keeps_stood}
use Rattle.cdf_edits.proofs.Edits.ActsThen.{taken-gave}
use Rattle.cdf_edits.proofs.Edits.Common.{Avoids-append, StandsAmong, gdr_in, gdr_typed, sound, tile, typed}
use Rattle.cdf_edits.proofs.Edits.LeafPieces.{IsOneOf, in_order}
use Rattle.cdf_edits.proofs.Edits.OwnersKept.{keeps_fields}
use Rattle.cdf_edits.proofs.Edits.PlainLeaves.{leaves_ascend}
use Rattle.cdf_edits.proofs.Edits.VariableCopied.{block_behind}
use Rattle.cdf_edits.specs.Commands.Allowances.{anything_if}
use Rattle.cdf_edits.specs.Commands.PutSteps.{Goes, step_changes}
use Rattle.cdf_edits.specs.Index.Written.{EntryIs, NodeSpareStays, last_node, was_unused}
use Rattle.cdf_index.proofs.Common.{behind_in}
use Rattle.cdf_index.proofs.NewIndex.{index_marks}
use Rattle.cdf_index.proofs.OwnRecords as of_own
use Rattle.cdf_index.specs.Replacing.{with_index}
use Rattle.cdf_puts.proofs.Common.{same_as_itself}
use Rattle.cdf_puts.proofs.GoesThen.{own_there}
use Rattle.cdf_puts.proofs.PutRules.{no_cpr}
use Rattle.cdf_puts.specs.Going.{GoesOn, found_in}
use Rattle.cdf_cuts.proofs.ChainKept.{top_left}
use Rattle.cdf_cuts.proofs.CutDone.{each_from}
use Rattle.cdf_cuts.proofs.CutFreed.{cut_marks, edit, freed_avoids, types, vdr_apart}
use Rattle.cdf_cuts.proofs.CutGoes.{entries_say, freed_now, same_records, sizes_now, spare_stays, tail_now}
use Rattle.cdf_puts.proofs.GoesKeep.{each_own, goes_keep}
use Rattle.cdf_cuts.proofs.PastCut.{aside, space_tests}
use Rattle.cdf_cuts.specs.Cut.{IsCut}
use Rattle.cdf_cuts.specs.Past.{stage}
use Rattle.cdf_cuts.specs.Planning.{opening}
use Rattle.cdf_sparse.proofs.OpenCut as by
use Rattle.cdf_sparse.specs.Opening.{freed_opening, index_opened}
use Rattle.cdf_format.specs.Shape.{is_compressed}
use Rattle.std.specs.Prelude.{false}

-- the links of the descriptor to the nodes
abbrev pub heads : List Field
heads = vdr_vxr_head ∷ vdr_vxr_tail ∷ []

-- a range has some of the records
abbrev pub has_some : ℕ → ℕ → Range → Bool
has_some first last r = nat_lt 0 (shared first last r)

-- a leaf has none of them
abbrev pub IsApart : ℕ → ℕ → Leaf → Type 0
IsApart first last l = (l.last < first) ⊎ (last < l.first)

-- ---- what each record keeps, where the blocks that have none of the records stay

block_keeps : {b now : List ℕ} {first last : ℕ} (l : Leaf) → first ≤ last → l.first ≤ l.last → (IsApart first last l → Stays b now l.place []) → Keeps b now l.place (anything_if (has_some first last (range l.first l.last)))
block_keeps {first = first} {last = last} l order ordered stays = elim (cases_lt l.last first) [
  | inl lt ↦ rw (le-ltb 0 (shared first last (range l.first l.last)) (omega (arith, lt))) (stays (inl lt))
  | inr ge ↦ elim (cases_lt last l.first) [
    | inl gt ↦ rw (le-ltb 0 (shared first last (range l.first l.last)) (omega (arith, gt))) (stays (inr gt))
    | inr le ↦ rw (lt-ltb 0 (shared first last (range l.first l.last)) (omega (arith, order, ordered, ge, le))) tt
  ]
]

module _ {b now : List ℕ} {kind : Kind} {before : List VariableShape} {own own' : VariableShape} {after : List VariableShape} {acts : List Act} {first last : ℕ} (good : Good b) (at : StandsAmong b kind before own after) (order : first ≤ last) (loose : is_compressed b own.vdr ≡ false) (goes : GoesOn b now kind before own own' after acts) (gdr : Stays b now (shape b).gdr space_fields) (descriptor : Stays b now own.vdr heads)
    (blocks : (l : Leaf) → IsOneOf (leaves_of own.index) l → IsApart first last l → Stays b now l.place []) where
  abbrev may : Allowances
  may = step_changes b (found_in b kind before own) (has_some first last)

  abbrev own_may : ℕ → Allowance
  own_may m = may.variables kind (length before) m

  abbrev block_may : Range → Allowance
  block_may r = anything_if (has_some first last r)

  allowed : (m : ℕ) (o : Option Range) → range_at (shape b) (found_in b kind before own) m ≡ o → own_may m ≡ of_own.by_range b kind heads block_may m o
  allowed m o e = let same = same_as_itself kind in let number = eq-eqb (length before) (length before) refl in rw (same, number, e)

  own_keeps : (m : ℕ) → In m (variable_records own) → Keeps b now m (own_may m)
  own_keeps = each_own (λ (m : ℕ). Keeps b now m (own_may m)) own (rw (of_own.descriptor_allowed (found_in b kind before own) good at refl heads block_may own_may allowed) descriptor)
      (λ m i. rw (of_own.node_allowed (found_in b kind before own) good at refl heads block_may own_may allowed m i) tt)
      (λ l i. rw (of_own.block_allowed (found_in b kind before own) good at refl heads block_may own_may allowed l i) (block_keeps l order (in_order 0 (suc record_number_limit) (leaves_of own.index) (leaves_ascend good at) l i).ordered (blocks l i)))
      (λ m i. absurd (subst (In m) (no_cpr good at loose) i))

  pub all_keep : AllKeep b now (step_changes b (found_in b kind before own) (λ r. nat_lt 0 (shared first last r))) acts (owned b (shape b))
  all_keep = goes_keep good at goes may gdr own_keeps

-- ---- the cut

module _ {b mid : List ℕ} {kind : Kind} {before : List VariableShape} {own : VariableShape} {after : List VariableShape} {first last : ℕ} (good : Good b) (at : StandsAmong b kind before own after) (order : first ≤ last) (short : length b ≤ image_limit) (c : IsCut b mid kind own (opening first last)) (loose : is_compressed b own.vdr ≡ false) where
  abbrev rest : Nodes
  rest = index_opened own first last

  abbrev left : VariableShape
  left = with_index own (index_opened own first last)

  abbrev freed : List ℕ
  freed = freed_opening own first last

  abbrev acts : List Act
  acts = gave b (freed_opening own first last)

  goes_on : GoesOn b mid kind before own left after acts
  goes_on = by.goes_cut good at order short c loose

  -- ---- the GDR and the descriptor

  pub gdr_cut : Stays b mid (shape b).gdr space_fields
  gdr_cut =
      let tests = space_tests kind own.vdr (nodes_of own.index) (length b) (shape b).unused freed in
      let h = (sound good at).has_shape in
      keeps_fields (sound good at) (edit good at order c.is_linked mid c.given) (same_records good at order c.is_linked short mid c.given) (shape b).gdr gdr_type space_fields (gdr_in b (shape b) h) (gdr_typed b (shape b) h) tests.0 tests.1

  avoid : (lo hi : ℕ) → (hi ≤ 28) ⊎ (44 ≤ lo) → Avoids (cut_marks kind own.vdr (nodes_of own.index) (length b) (shape b).unused freed) (type_in (variables_chain kind)) own.vdr lo hi
  avoid lo hi side =
      Avoids-append (index_marks kind own.vdr (nodes_of own.index) (record { place = 12; width = length b })) (freeing_marks types (shape b).unused freed (length b)) (type_in (variables_chain kind)) own.vdr lo hi ((λ same lies. side), ((λ same lies. absurd ((vdr_apart kind).2 same)), tt)) (freed_avoids good at order c.is_linked own.vdr lo hi)

  part : (lo hi : ℕ) → (hi ≤ 28) ⊎ (44 ≤ lo) → hi ≤ size_at b own.vdr → Same b mid (own.vdr + lo) (own.vdr + hi)
  part lo hi side fit = (edit good at order c.is_linked mid c.given).part own.vdr (type_in (variables_chain kind)) lo hi (tile good at) (typed good at) (avoid 0 12 (inl (omega arith))) (avoid lo hi side) fit

  pub descriptor_cut : Stays b mid own.vdr heads
  descriptor_cut = record { stands = goes_on.descriptor.stands; size_is = goes_on.descriptor.size_is; same = λ n less out. (part n (n + 1) (aside n out) (omega (arith, less))).each (own.vdr + n) (omega arith) (omega arith) }

  -- ---- a block that has none of the records

  pub block_cut : (l : Leaf) → IsOneOf (leaves_of own.index) l → IsApart first last l → Stays b mid l.place []
  block_cut l i side =
      let p = by.plain good at order short c loose l i in
      let o = p.ordered in
      let s : (l.first < first) ⊎ (last < l.last) = elim side [ inl x ↦ inl (omega arith) | inr x ↦ inr (omega arith) ] in
      keeps_stood b mid l.place (record { stands = behind_in goes_on.good goes_on.among l.place (block_behind left l.place (by.place_left good at order short c loose l i s)); whole = by.kept_cut good at order short c loose l i s }) (Only [])

  -- ---- the nodes

  pub sizes_cut : (m : ℕ) → In m (nodes_of (index_opened own first last)) → size_at mid m ≡ size_at b m
  sizes_cut = sizes_now good at order c.is_linked short mid c.given

  pub entries_cut : (m : ℕ) → In m (nodes_of (index_opened own first last)) → (i : ℕ) → used_count mid m ≤ i → i < room_at mid m → EntryIs b mid m i (was_unused b (nodes_of own.index) (gave b (freed_opening own first last)) m i)
  entries_cut = entries_say good at order c.is_linked short mid c.given

  -- ---- the whole

  pub step_cut : (next : ℕ) → Goes (found_in b kind before own) (stage b own [] next) (stage mid (with_index own (index_opened own first last)) (gave b (freed_opening own first last)) next) (λ r. nat_lt 0 (shared first last r))
  step_cut next = record {
    good = goes_on.good;
    stands = own_there goes_on.good goes_on.among;
    acts_follow = goes_on.follow;
    keeps = all_keep good at order loose goes_on gdr_cut descriptor_cut block_cut;
    unused = each_from (λ m. (i : ℕ) → used_count mid m ≤ i → i < room_at mid m → EntryIs b mid m i (was_unused b (nodes_of own.index) acts m i)) (nodes_of rest) entries_cut;
    spare = each_from (NodeSpareStays b mid acts) (nodes_of rest) (spare_stays good at order c.is_linked short mid c.given);
    tail = tail_now good at order c.is_linked short mid c.given ∙ (λ i. if sym (top_left acts own.index rest (taken-gave b freed)) i then number b own.vdr vdr_vxr_tail else last_node rest);
    freed = freed_now good at order c.is_linked short mid c.given;
  }
