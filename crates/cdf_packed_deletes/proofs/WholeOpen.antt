-- Records were cut out of the index of a variable of a good image, of which each leaf has all of them alone or none, and later ones kept their numbers: all that this leaves of the image.
use Rattle.cdf_cuts.proofs.Common.{Each, In, Leaf, List, Nodes, [], ap, arith, false, if◌then◌else◌, image_limit, inl, inr, kept_by, leaves_of, length, nat_lt, nat_tests, nodes_of, number, places_of, refl, room_at, size_at, subst, suc, sym, used_count, ℕ, ◌+◌, ◌<◌, ◌∙◌, ◌∷◌, ◌≡◌, ◌≤◌, ◌⊎◌}
use Rattle.std.specs.Prelude.{Bool}
use Rattle.std.specs.declared.option.Option.{Option}
use Rattle.cdf_edits.proofs.Common.{Act, AllKeep, Allowance, Allowances, Avoids, Field, Good, Keeps, Kind, Range, Same, Stays, VariableShape, either, eq-eqb, freeing_marks, gdr_type, owned, range, range_at, shape, space_fields, type_in, variable_records, variables_chain, vdr_vxr_head, vdr_vxr_tail}
use Rattle.cdf_edits.proofs.Edits.Common.{Avoids-append, StandsAmong, gdr_in, gdr_typed, sound, tile, typed}
use Rattle.cdf_edits.proofs.Edits.ActsThen.{taken-gave}
use Rattle.cdf_edits.proofs.Commands.KeptRecords.{Stood, keeps_stood}
use Rattle.cdf_edits.proofs.Edits.IndexEdited.{cpr_kept}
use Rattle.cdf_edits.proofs.Edits.LeafPieces.{InOrder as LeafInOrder, IsOneOf, each_of, in_order as leaf_order, of_each, place_in}
use Rattle.cdf_edits.proofs.Edits.OwnersKept.{keeps_fields}
use Rattle.cdf_edits.proofs.Edits.PlainLeaves.{leaves_ascend, own_rules}
use Rattle.cdf_edits.proofs.Edits.VariableCopied.{block_behind, cpr_behind}
use Rattle.cdf_edits.specs.Commands.Allowances.{anything_if}
use Rattle.cdf_edits.specs.Commands.PutSteps.{Goes, step_changes}
use Rattle.cdf_edits.specs.Index.Blocks.{shared}
use Rattle.cdf_edits.specs.Index.Cut.{CutsIndex}
use Rattle.cdf_edits.specs.Index.Grown.{index_cut_open, kept_open, with_ranges}
use Rattle.cdf_edits.specs.Index.Written.{EntryIs, NodeSpareStays, last_node, was_unused}
use Rattle.cdf_edits.specs.Space.Acts.{taken}
use Rattle.cdf_index.proofs.Common.{behind_in, size_kept}
use Rattle.cdf_index.proofs.LeafRules.{index_order}
use Rattle.cdf_index.proofs.NewIndex.{index_marks}
use Rattle.cdf_index.proofs.OwnRecords as of_own
use Rattle.cdf_index.specs.Order.{InOrder}
use Rattle.cdf_model.specs.Limits.{record_number_limit}
use Rattle.cdf_puts.proofs.Common.{same_as_itself}
use Rattle.cdf_puts.proofs.GoesKeep.{each_own, goes_keep}
use Rattle.cdf_puts.proofs.GoesThen.{own_there}
use Rattle.cdf_puts.specs.Going.{GoesOn, found_in}
use Rattle.cdf_cuts.proofs.ChainKept.{top_left}
use Rattle.cdf_cuts.proofs.CutDone.{each_from}
use Rattle.cdf_cuts.proofs.CutFreed.{cut_marks, edit, freed_avoids, own_most, stays_used, types, vdr_apart, whole as edited}
use Rattle.cdf_cuts.proofs.CutGoes.{block_stays, cut_goes, entries_say, freed_now, long_now, max_rec_now, r_max_rec_now, same_records, spare_stays, tail_now}
use Rattle.cdf_cuts.proofs.CutLeaves.{IsLeft}
use Rattle.cdf_cuts.proofs.CutStay.{from_left, nodes_left, to_left}
use Rattle.cdf_cuts.proofs.CutWhole.{meets, rest_order}
use Rattle.cdf_cuts.proofs.CutWords.{cut}
use Rattle.cdf_cuts.proofs.KeptLeaf.{AsMany, IsPlainOrWhole}
use Rattle.cdf_cuts.proofs.PastCut.{aside, space_tests}
use Rattle.cdf_cuts.specs.Cut.{IsCut}
use Rattle.cdf_cuts.specs.Past.{stage}
use Rattle.cdf_cuts.specs.Planning.{opening}
use Rattle.cdf_packed_deletes.proofs.LeafKinds.{IsApart, IsInside}
use Rattle.cdf_packed_deletes.proofs.OpenCut.{none_split}
use Rattle.cdf_packed_deletes.proofs.OpenKinds.{open_apart, open_inside}
use Rattle.cdf_packed_deletes.specs.Keeping.{IsAllOrNone}
use Rattle.cdf_packed_deletes.specs.OpenKeeping.{WholeOpened, freed_opening, opened_up, opening_acts}

-- ---- the image

module _ {b now : List ℕ} {kind : Kind} {before : List VariableShape} {own : VariableShape} {after : List VariableShape} {first last : ℕ} (good : Good b) (at : StandsAmong b kind before own after) (order : first ≤ last) (short : length b ≤ image_limit) (c : IsCut b now kind own (opening first last)) (all_or_none : Each (IsAllOrNone first last) (leaves_of own.index)) where
  abbrev leaves : List Leaf
  leaves = leaves_of own.index

  abbrev rest : Nodes
  rest = cut (opening first last) own.index

  abbrev left : VariableShape
  left = opened_up own first last

  abbrev freed : List ℕ
  freed = freed_opening own first last

  abbrev acts : List Act
  acts = opening_acts b own first last

  apart_or_inside : (l : Leaf) → IsAllOrNone first last l → IsApart first last l ⊎ IsInside first last l
  apart_or_inside l (inl lt) = inl (inl lt)
  apart_or_inside l (inr (inl lt)) = inl (inr lt)
  apart_or_inside l (inr (inr all)) = inr all

  none_apart : (l : Leaf) → l.first ≤ l.last → nat_lt 0 (shared first last (range l.first l.last)) ≡ false → IsAllOrNone first last l → IsApart first last l
  none_apart l o none (inl lt) = inl lt
  none_apart l o none (inr (inl lt)) = inr lt
  none_apart l o none (inr (inr all)) = absurd (grind (arith, nat_tests, all, none, o))

  sides : (l : Leaf) → IsOneOf leaves l → IsAllOrNone first last l
  sides l i = of_each (IsAllOrNone first last) leaves l all_or_none i

  was_order : InOrder 0 record_number_limit own.index
  was_order = index_order b (shape b).records own.vdr own.index (own_rules good at).1

  range_of : (l : Leaf) → IsOneOf leaves l → LeafInOrder 0 (suc record_number_limit) l
  range_of l i = leaf_order 0 (suc record_number_limit) leaves (leaves_ascend good at) l i

  small : (l : Leaf) → IsOneOf leaves l → l.last ≤ record_number_limit
  small l i = let before = (range_of l i).before in omega arith

  -- a leaf that has all of these records or none keeps all of its own, or goes
  to_part : (l m : Leaf) → IsOneOf leaves l → IsLeft (opening first last) l m → IsAllOrNone first last l → (m.first ≡ l.first) × (m.last ≡ l.last)
  to_part l m i left side = elim (apart_or_inside l side) [
    | inl a ↦
        let q : range m.first m.last ∷ left.more ≡ range l.first l.last ∷ [] = sym left.kept_is ∙ open_apart first last (omega (arith, order)) l (range_of l i).ordered a in
        let s : range m.first m.last ≡ range l.first l.last = cc in
        (ap (λ (r : Range). r.first) s, ap (λ (r : Range). r.last) s)
    | inr k ↦ (let q : range m.first m.last ∷ left.more ≡ [] = sym left.kept_is ∙ open_inside first last (omega (arith, order)) l k in absurd cc)
  ]

  many_by : (l m : Leaf) → IsOneOf leaves l → IsLeft (opening first last) l m → AsMany leaves m
  many_by l m i left = let e = to_part l m i left (sides l i) in record { old = l; one = i; place_is = left.place_is; count_is = rw (e.0, e.1) refl }

  ruled_by : (m : Leaf) → IsOneOf (leaves_of rest) m → IsPlainOrWhole leaves m
  ruled_by m j =
      let r = from_left (opening first last) leaves (leaves_of rest) (nodes_left (opening first last) own.index) m j in
      inr (many_by r.0 m r.1.0 r.1.1)

  ruled : Each (IsPlainOrWhole leaves) (leaves_of rest)
  ruled = each_of (IsPlainOrWhole leaves) (leaves_of rest) ruled_by

  in_order : InOrder 0 record_number_limit rest
  in_order = rest_order first last false own.index order was_order

  goes_on : GoesOn b now kind before own left after acts
  goes_on = cut_goes good at order c.is_linked short now c.given in_order ruled

  none_taken : taken acts ≡ []
  none_taken = taken-gave b freed

  -- ---- a block of which no record goes

  in_rest : (l : Leaf) → IsOneOf leaves l → IsApart first last l → In l.place (places_of (leaves_of rest))
  in_rest l i a =
      let some : kept_by (opening first last) (range l.first l.last) ≡ [] → ⊥ = λ none. (let q : range l.first l.last ∷ [] ≡ [] = sym (open_apart first last (omega (arith, order)) l (range_of l i).ordered a) ∙ none in absurd cc) in
      let k = to_left (opening first last) leaves (leaves_of rest) (nodes_left (opening first last) own.index) l i some in
      subst (λ (p : ℕ). In p (places_of (leaves_of rest))) k.1.1.place_is (place_in (leaves_of rest) k.0 k.1.0)

  block : (l : Leaf) → IsOneOf leaves l → IsApart first last l → Stays b now l.place []
  block l i lt =
      let k = block_stays good at order c.is_linked short now c.given l.place (place_in leaves l i) (stays_used good at order c.is_linked l.place (inr (in_rest l i lt))) in
      record {
        stands = behind_in goes_on.good goes_on.among l.place (block_behind left l.place (in_rest l i lt));
        size_is = size_kept b now l.place k.same (omega (arith, k.long));
        same = λ n less out. k.same.each (l.place + n) (omega arith) (omega (arith, less));
      }

  -- ---- the GDR and the descriptor

  gdr : Stays b now (shape b).gdr space_fields
  gdr =
      let tests = space_tests kind own.vdr (nodes_of own.index) (length b) (shape b).unused freed in
      let h = (sound good at).has_shape in
      keeps_fields (sound good at) (edit good at order c.is_linked now c.given) (same_records good at order c.is_linked short now c.given) (shape b).gdr gdr_type space_fields (gdr_in b (shape b) h) (gdr_typed b (shape b) h) tests.0 tests.1

  avoid : (lo hi : ℕ) → (hi ≤ 28) ⊎ (44 ≤ lo) → Avoids (cut_marks kind own.vdr (nodes_of own.index) (length b) (shape b).unused freed) (type_in (variables_chain kind)) own.vdr lo hi
  avoid lo hi side =
      Avoids-append (index_marks kind own.vdr (nodes_of own.index) (record { place = 12; width = length b })) (freeing_marks types (shape b).unused freed (length b)) (type_in (variables_chain kind)) own.vdr lo hi ((λ same lies. side), ((λ same lies. absurd ((vdr_apart kind).2 same)), tt)) (freed_avoids good at order c.is_linked own.vdr lo hi)

  part : (lo hi : ℕ) → (hi ≤ 28) ⊎ (44 ≤ lo) → hi ≤ size_at b own.vdr → Same b now (own.vdr + lo) (own.vdr + hi)
  part lo hi side fit = (edit good at order c.is_linked now c.given).part own.vdr (type_in (variables_chain kind)) lo hi (tile good at) (typed good at) (avoid 0 12 (inl (omega arith))) (avoid lo hi side) fit

  descriptor : Stays b now own.vdr (vdr_vxr_head ∷ vdr_vxr_tail ∷ [])
  descriptor = record { stands = goes_on.descriptor.stands; size_is = goes_on.descriptor.size_is; same = λ n less out. (part n (n + 1) (aside n out) (omega (arith, less))).each (own.vdr + n) (omega arith) (omega arith) }

  -- ---- what each record keeps

  abbrev changes : Range → Bool
  changes r = nat_lt 0 (shared first last r)

  abbrev may : Allowances
  may = step_changes b (found_in b kind before own) changes

  abbrev own_may : ℕ → Allowance
  own_may m = may.variables kind (length before) m

  abbrev block_may : Range → Allowance
  block_may r = anything_if (changes r)

  abbrev heads : List Field
  heads = vdr_vxr_head ∷ vdr_vxr_tail ∷ []

  allowed : (m : ℕ) (o : Option Range) → range_at (shape b) (found_in b kind before own) m ≡ o → own_may m ≡ of_own.by_range b kind heads block_may m o
  allowed m o e = let same = same_as_itself kind in let number = eq-eqb (length before) (length before) refl in rw (same, number, e)

  block_keeps : (l : Leaf) → IsOneOf leaves l → Keeps b now l.place (block_may (range l.first l.last))
  block_keeps l i = elim (either (nat_lt 0 (shared first last (range l.first l.last)))) [
    | inl some ↦ rw some tt
    | inr none ↦ rw none (block l i (none_apart l (range_of l i).ordered none (sides l i)))
  ]

  cpr_stood : (m : ℕ) → In m own.cpr → Stood b now m
  cpr_stood m i = record {
    stands = subst (In m) (sym (same_records good at order c.is_linked short now c.given)) (behind_in good at m (cpr_behind own m i));
    whole = cpr_kept good at (edited good at order c.is_linked now c.given) m i;
  }

  own_keeps : (m : ℕ) → In m (variable_records own) → Keeps b now m (own_may m)
  own_keeps = each_own (λ (m : ℕ). Keeps b now m (own_may m)) own (rw (of_own.descriptor_allowed (found_in b kind before own) good at refl heads block_may own_may allowed) descriptor)
      (λ m i. rw (of_own.node_allowed (found_in b kind before own) good at refl heads block_may own_may allowed m i) tt)
      (λ l i. rw (of_own.block_allowed (found_in b kind before own) good at refl heads block_may own_may allowed l i) (block_keeps l i))
      (λ m i. keeps_stood b now m (cpr_stood m i) (own_may m))

  keeps : AllKeep b now may acts (owned b (shape b))
  keeps = goes_keep good at goes_on may gdr own_keeps

  -- ---- the whole

  goes : (next : ℕ) → Goes (found_in b kind before own) (stage b own [] next) (stage now left acts next) changes
  goes next = record {
    good = goes_on.good;
    stands = own_there goes_on.good goes_on.among;
    acts_follow = goes_on.follow;
    keeps = keeps;
    unused = each_from (λ m. (i : ℕ) → used_count now m ≤ i → i < room_at now m → EntryIs b now m i (was_unused b (nodes_of own.index) acts m i)) (nodes_of rest) (entries_say good at order c.is_linked short now c.given);
    spare = each_from (NodeSpareStays b now acts) (nodes_of rest) (spare_stays good at order c.is_linked short now c.given);
    tail = tail_now good at order c.is_linked short now c.given ∙ (λ i. if sym (top_left acts own.index rest none_taken) i then number b own.vdr vdr_vxr_tail else last_node rest);
    freed = freed_now good at order c.is_linked short now c.given;
  }

  -- nothing is split off
  side : (l : Leaf) → IsOneOf leaves l → (l.last ≤ last) ⊎ (first ≤ l.first)
  side l i = elim (sides l i) [
    | inl lt ↦ inl (omega (arith, lt, order))
    | inr y ↦ elim y [ inl lt ↦ inr (omega (arith, lt, order)) | inr all ↦ inr all.0 ]
  ]

  wanted_is : rest ≡ index_cut_open first last own.index
  wanted_is = sym (ap (λ (rs : List Range). with_ranges rest rs) (none_split first last leaves side))

  pub whole_opened : WholeOpened b now kind before own after first last
  whole_opened = record {
    goes_on = goes_on;
    long = long_now good at order c.is_linked short now c.given;
    cuts = λ v. subst (λ (ns : Nodes). CutsIndex v (kept_open first last) own.index ns rest acts) wanted_is (meets b v first last false own.index (own_most good at order c.is_linked) order was_order);
    goes = goes;
    max_rec_is = max_rec_now good at order c.is_linked short now c.given;
    r_max_rec_is = r_max_rec_now good at order c.is_linked short now c.given in_order ruled;
  }
