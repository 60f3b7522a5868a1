-- All records from a first one on were cut out of the index of a variable of a good image, of which no packed block is cut in part: all that this leaves of the image.
use Rattle.cdf_cuts.proofs.Common.{Each, In, Leaf, List, Nodes, Range, [], arith, cases_lt, false, freed_of, if◌then◌else◌, image_limit, inl, inr, kept_by, leaves_of, length, nodes_of, number, places_of, plan_of, range, refl, room_at, size_at, subst, suc, sym, true, used_count, ℕ, ◌+◌, ◌<◌, ◌∙◌, ◌∷◌, ◌≡◌, ◌≤◌, ◌⊎◌}
use Rattle.std.specs.Prelude.{max}
use Rattle.std.specs.declared.option.Option.{Option}
use Rattle.cdf_edits.proofs.Common.{Act, AllKeep, Allowance, Allowances, Avoids, Field, Good, Keeps, Kind, OutsideFields, R, Same, Stays, Variable, VariableShape, Z, avoided, eq-eqb, freeing_marks, gdr_type, le-leb, lt-leb, nat_le, owned, range_at, shape, space_fields, type_in, variable_records, variables_chain, vdr_vxr_head, vdr_vxr_tail, within}
use Rattle.cdf_edits.proofs.Edits.Common.{Avoids-append, StandsAmong, gdr_in, gdr_typed, sound, tile, typed}
use Rattle.cdf_edits.proofs.Edits.ActsThen.{taken-gave}
use Rattle.cdf_edits.proofs.Commands.KeptRecords.{Stood, keeps_stood}
use Rattle.cdf_edits.proofs.Edits.IndexEdited.{cpr_kept}
use Rattle.cdf_edits.proofs.Edits.LeafPieces.{InOrder as LeafInOrder, IsOneOf, each_of, in_order as leaf_order, of_each, place_in}
use Rattle.cdf_edits.proofs.Edits.OwnersKept.{keeps_fields}
use Rattle.cdf_edits.proofs.Edits.PlainLeaves.{leaves_ascend, own_rules, plain_leaf}
use Rattle.cdf_edits.proofs.Edits.VariableCopied.{block_behind, cpr_behind}
use Rattle.cdf_edits.specs.Commands.Allowances.{anything_if}
use Rattle.cdf_edits.specs.Commands.PutSteps.{Goes, step_changes}
use Rattle.cdf_edits.specs.Index.Cut.{CutsIndex, StaysWhole}
use Rattle.cdf_edits.specs.Index.Written.{EntryIs, NodeSpareStays, last_node, was_unused}
use Rattle.cdf_edits.specs.Space.Acts.{taken}
use Rattle.cdf_index.proofs.Common.{behind_in, size_kept}
use Rattle.cdf_index.proofs.LeafRules.{index_order}
use Rattle.cdf_index.proofs.NewIndex.{index_marks}
use Rattle.cdf_index.proofs.OwnRecords as of_own
use Rattle.cdf_index.specs.Order.{InOrder}
use Rattle.cdf_model.specs.Limits.{record_number_limit}
use Rattle.cdf_puts.proofs.Common.{same_as_itself}
use Rattle.cdf_puts.proofs.GoesThen.{own_there}
use Rattle.cdf_puts.specs.Going.{GoesOn, found_in}
use Rattle.cdf_cuts.proofs.ChainKept.{top_left}
use Rattle.cdf_cuts.proofs.CutDone.{each_from}
use Rattle.cdf_cuts.proofs.CutFreed.{cut_marks, edit, freed_avoids, own_most, stays_used, types, vdr_apart, whole as edited}
use Rattle.cdf_cuts.proofs.CutGoes.{block_stays, cut_goes, entries_say, freed_now, long_now, max_rec_now, r_max_rec_now, rooms, same_records, spare_stays, tail_now}
use Rattle.cdf_cuts.proofs.KeptLeaf.{AsMany, IsPlainOrWhole}
use Rattle.cdf_cuts.proofs.CutLeaves.{IsLeft}
use Rattle.cdf_cuts.proofs.CutStay.{from_left, nodes_left, to_left}
use Rattle.cdf_cuts.proofs.CutWhole.{meets, rest_order}
use Rattle.cdf_cuts.proofs.CutWords.{cut}
use Rattle.cdf_puts.proofs.GoesKeep.{each_own, goes_keep}
use Rattle.cdf_cuts.proofs.PastKept.{front, kept_same, same_index, some_left}
use Rattle.cdf_cuts.specs.Cut.{IsCut}
use Rattle.cdf_cuts.specs.Past.{CutPast, EndCut, PlainOrUncut, before_first, cut_off, past_acts, past_span, stage}
use Rattle.cdf_format.specs.Shape.{is_compressed}

-- ---- marks

-- in the GDR a cut writes the head of the unused list alone
pub space_tests : (kind : Kind) (v : ℕ) (nodes : List ℕ) (n : ℕ) (unused freed : List ℕ) → (avoided (cut_marks kind v nodes n unused freed) gdr_type 0 12 ≡ true) × (within (cut_marks kind v nodes n unused freed) gdr_type space_fields ≡ true)
space_tests R v nodes n unused freed = (refl, refl)
space_tests Z v nodes n unused freed = (refl, refl)

-- a byte of a descriptor outside VXRhead and VXRtail
pub aside : (n : ℕ) → OutsideFields (vdr_vxr_head ∷ vdr_vxr_tail ∷ []) n → (n + 1 ≤ 28) ⊎ (44 ≤ n)
aside n out = elim out.0 [ inl x ↦ inl (omega arith) | inr x ↦ elim out.1.0 [ inl y ↦ absurd (omega arith) | inr y ↦ inr y ] ]

module _ {b now : List ℕ} {kind : Kind} {before : List VariableShape} {own : VariableShape} {after : List VariableShape} {first : ℕ} (good : Good b) (at : StandsAmong b kind before own after) (short : length b ≤ image_limit) (c : IsCut b now kind own (past_span first)) (uncut : Each (PlainOrUncut first) (leaves_of own.index)) where
  abbrev leaves : List Leaf
  leaves = leaves_of own.index

  abbrev rest : Nodes
  rest = cut (past_span first) own.index

  abbrev left : VariableShape
  left = record own { index = rest }

  abbrev freed : List ℕ
  freed = freed_of (plan_of (past_span first) 0 own.index)

  abbrev acts : List Act
  acts = past_acts b own first

  order : first ≤ max first 2147483646
  order = omega arith

  was_order : InOrder 0 record_number_limit own.index
  was_order = index_order b (shape b).records own.vdr own.index (own_rules good at).1

  range_of : (l : Leaf) → IsOneOf leaves l → LeafInOrder 0 (suc record_number_limit) l
  range_of l i = leaf_order 0 (suc record_number_limit) leaves (leaves_ascend good at) l i

  small : (l : Leaf) → IsOneOf leaves l → l.last ≤ 2147483646
  small l i = let before = (range_of l i).before in omega arith

  -- a leaf that ends before the records that go keeps all of its own
  whole_left : (l m : Leaf) → IsOneOf leaves l → IsLeft (past_span first) l m → l.last < first → AsMany leaves m
  whole_left l m i left lt =
      let f = front first l m (small l i) left in
      let ends : m.last ≡ l.last = omega (arith, f.last_is, lt) in
      record { old = l; one = i; place_is = f.place_is; count_is = rw (f.first_is, ends) refl }

  ruled_by : (l m : Leaf) → IsOneOf leaves l → IsLeft (past_span first) l m → PlainOrUncut first l → IsPlainOrWhole leaves m
  ruled_by l m i left (inl p) = inl (left.packed_is ∙ p)
  ruled_by l m i left (inr (inl lt)) = inr (whole_left l m i left lt)
  ruled_by l m i left (inr (inr low)) = let reaches = (front first l m (small l i) left).reaches in absurd (omega arith)

  ruled : Each (IsPlainOrWhole leaves) (leaves_of rest)
  ruled = each_of (IsPlainOrWhole leaves) (leaves_of rest) (λ m j. (let r = from_left (past_span first) leaves (leaves_of rest) (nodes_left (past_span first) own.index) m j in ruled_by r.0 m r.1.0 r.1.1 (of_each (PlainOrUncut first) leaves r.0 uncut r.1.0)))

  in_order : InOrder 0 record_number_limit rest
  in_order = rest_order first (max first 2147483646) false own.index order was_order

  goes_on : GoesOn b now kind before own left after acts
  goes_on = cut_goes good at order c.is_linked short now c.given in_order ruled

  none_taken : taken acts ≡ []
  none_taken = taken-gave b freed

  cuts : (v : Variable) → CutsIndex v (before_first first) own.index rest rest acts
  cuts v =
      let m = meets b v first (max first 2147483646) false own.index (own_most good at order c.is_linked) order was_order in
      let was : Leaf → Type 0 = λ o. Each (StaysWhole v (kept_by (past_span first)) acts o) (leaves_of rest) in
      let is : Leaf → Type 0 = λ o. Each (StaysWhole v (before_first first) acts o) (leaves_of rest) in
      record {
        index_is = m.index_is;
        apart = m.apart;
        once = m.once;
        frees = m.frees;
        takes = m.takes;
        stand = m.stand;
        stay = each_of is leaves (λ old i. each_of (StaysWhole v (before_first first) acts old) (leaves_of rest) (λ new j part. of_each (StaysWhole v (kept_by (past_span first)) acts old) (leaves_of rest) new (of_each was leaves old m.stay i) j (kept_same first old.first old.last (small old i) ∙ part)));
      }

  -- ---- a block that has a record before those that go

  in_rest : (l : Leaf) → IsOneOf leaves l → l.first < first → In l.place (places_of (leaves_of rest))
  in_rest l i lt =
      let k = to_left (past_span first) leaves (leaves_of rest) (nodes_left (past_span first) own.index) l i (some_left first l (small l i) lt) in
      subst (λ (p : ℕ). In p (places_of (leaves_of rest))) k.1.1.place_is (place_in (leaves_of rest) k.0 k.1.0)

  block : (l : Leaf) → IsOneOf leaves l → l.first < first → Stays b now l.place []
  block l i lt =
      let k = block_stays good at order c.is_linked short now c.given l.place (place_in leaves l i) (stays_used good at order c.is_linked l.place (inr (in_rest l i lt))) in
      record {
        stands = behind_in goes_on.good goes_on.among l.place (block_behind left l.place (in_rest l i lt));
        size_is = size_kept b now l.place k.same (omega (arith, k.long));
        same = λ n less out. k.same.each (l.place + n) (omega arith) (omega (arith, less));
      }

  -- ---- the GDR and the descriptor

  gdr : Stays b now (shape b).gdr space_fields
  gdr =
      let tests = space_tests kind own.vdr (nodes_of own.index) (length b) (shape b).unused freed in
      let h = (sound good at).has_shape in
      keeps_fields (sound good at) (edit good at order c.is_linked now c.given) (same_records good at order c.is_linked short now c.given) (shape b).gdr gdr_type space_fields (gdr_in b (shape b) h) (gdr_typed b (shape b) h) tests.0 tests.1

  avoid : (lo hi : ℕ) → (hi ≤ 28) ⊎ (44 ≤ lo) → Avoids (cut_marks kind own.vdr (nodes_of own.index) (length b) (shape b).unused freed) (type_in (variables_chain kind)) own.vdr lo hi
  avoid lo hi side =
      Avoids-append (index_marks kind own.vdr (nodes_of own.index) (record { place = 12; width = length b })) (freeing_marks types (shape b).unused freed (length b)) (type_in (variables_chain kind)) own.vdr lo hi ((λ same lies. side), ((λ same lies. absurd ((vdr_apart kind).2 same)), tt)) (freed_avoids good at order c.is_linked own.vdr lo hi)

  part : (lo hi : ℕ) → (hi ≤ 28) ⊎ (44 ≤ lo) → hi ≤ size_at b own.vdr → Same b now (own.vdr + lo) (own.vdr + hi)
  part lo hi side fit = (edit good at order c.is_linked now c.given).part own.vdr (type_in (variables_chain kind)) lo hi (tile good at) (typed good at) (avoid 0 12 (inl (omega arith))) (avoid lo hi side) fit

  descriptor : Stays b now own.vdr (vdr_vxr_head ∷ vdr_vxr_tail ∷ [])
  descriptor = record { stands = goes_on.descriptor.stands; size_is = goes_on.descriptor.size_is; same = λ n less out. (part n (n + 1) (aside n out) (omega (arith, less))).each (own.vdr + n) (omega arith) (omega arith) }

  -- ---- what each record keeps

  abbrev may : Allowances
  may = step_changes b (found_in b kind before own) (λ r. nat_le first r.last)

  abbrev own_may : ℕ → Allowance
  own_may m = may.variables kind (length before) m

  abbrev block_may : Range → Allowance
  block_may r = anything_if (nat_le first r.last)

  abbrev heads : List Field
  heads = vdr_vxr_head ∷ vdr_vxr_tail ∷ []

  allowed : (m : ℕ) (o : Option Range) → range_at (shape b) (found_in b kind before own) m ≡ o → own_may m ≡ of_own.by_range b kind heads block_may m o
  allowed m o e = let same = same_as_itself kind in let number = eq-eqb (length before) (length before) refl in rw (same, number, e)

  block_keeps : (l : Leaf) → IsOneOf leaves l → Keeps b now l.place (block_may (range l.first l.last))
  block_keeps l i = elim (cases_lt l.last first) [ inl lt ↦ rw (lt-leb first l.last lt) (block l i (omega (arith, (range_of l i).ordered, lt))) | inr ge ↦ rw (le-leb first l.last ge) tt ]

  cpr_stood : (m : ℕ) → In m own.cpr → Stood b now m
  cpr_stood m i = record {
    stands = subst (In m) (sym (same_records good at order c.is_linked short now c.given)) (behind_in good at m (cpr_behind own m i));
    whole = cpr_kept good at (edited good at order c.is_linked now c.given) m i;
  }

  own_keeps : (m : ℕ) → In m (variable_records own) → Keeps b now m (own_may m)
  own_keeps = each_own (λ (m : ℕ). Keeps b now m (own_may m)) own (rw (of_own.descriptor_allowed (found_in b kind before own) good at refl heads block_may own_may allowed) descriptor)
      (λ m i. rw (of_own.node_allowed (found_in b kind before own) good at refl heads block_may own_may allowed m i) tt)
      (λ l i. rw (of_own.block_allowed (found_in b kind before own) good at refl heads block_may own_may allowed l i) (block_keeps l i))
      (λ m i. keeps_stood b now m (cpr_stood m i) (own_may m))

  keeps : AllKeep b now may acts (owned b (shape b))
  keeps = goes_keep good at goes_on may gdr own_keeps

  -- ---- the whole

  goes : (next : ℕ) → Goes (found_in b kind before own) (stage b own [] next) (stage now left acts next) (λ r. nat_le first r.last)
  goes next = record {
    good = goes_on.good;
    stands = own_there goes_on.good goes_on.among;
    acts_follow = goes_on.follow;
    keeps = keeps;
    unused = each_from (λ m. (i : ℕ) → used_count now m ≤ i → i < room_at now m → EntryIs b now m i (was_unused b (nodes_of own.index) acts m i)) (nodes_of rest) (entries_say good at order c.is_linked short now c.given);
    spare = each_from (NodeSpareStays b now acts) (nodes_of rest) (spare_stays good at order c.is_linked short now c.given);
    tail = tail_now good at order c.is_linked short now c.given ∙ (λ i. if sym (top_left acts own.index rest none_taken) i then number b own.vdr vdr_vxr_tail else last_node rest);
    freed = freed_now good at order c.is_linked short now c.given;
  }

  whole : EndCut b now kind before own left after first
  whole = record {
    goes_on = goes_on;
    long = long_now good at order c.is_linked short now c.given;
    rooms = each_from (λ m. room_at now m ≡ room_at b m) (nodes_of rest) (rooms good at order c.is_linked short now c.given);
    cuts = cuts;
    goes = goes;
    blocks = each_of (λ (l : Leaf). l.first < first → Stays b now l.place []) leaves block;
    max_rec_is = max_rec_now good at order c.is_linked short now c.given;
    r_max_rec_is = r_max_rec_now good at order c.is_linked short now c.given in_order ruled;
  }

  pub end_cut : EndCut b now kind before own (cut_off own first) after first
  end_cut = subst (λ (y : Nodes). EndCut b now kind before own (record own { index = y }) after first) (same_index first own.index was_order) whole

-- where no block of it is packed
module _ {b : List ℕ} {kind : Kind} {before : List VariableShape} {own : VariableShape} {after : List VariableShape} (good : Good b) (at : StandsAmong b kind before own after) (loose : is_compressed b own.vdr ≡ false) where
  pub none_cut : (first : ℕ) → Each (PlainOrUncut first) (leaves_of own.index)
  none_cut first = each_of (PlainOrUncut first) (leaves_of own.index) (λ l i. inl (plain_leaf good at loose l i).plain)

  pub cut_past : {now : List ℕ} {first : ℕ} → EndCut b now kind before own (cut_off own first) after first → CutPast b now kind before own (cut_off own first) after first
  cut_past e = record { loose = loose; goes_on = e.goes_on; long = e.long; cuts = e.cuts; goes = e.goes; blocks = e.blocks; max_rec_is = e.max_rec_is; r_max_rec_is = e.r_max_rec_is }
