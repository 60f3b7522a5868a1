-- All records were cut out of the index of a variable of a good image, packed or not: all that this leaves of the image.
use Rattle.cdf_cuts.proofs.Common.{Each, In, Leaf, List, Nodes, [], arith, if◌then◌else◌, image_limit, inl, leaves_of, length, no_node, nodes_of, number, refl, size_at, subst, sym, ℕ, ◌+◌, ◌∙◌, ◌∷◌, ◌≡◌, ◌≤◌, ◌⊎◌, false}
use Rattle.cdf_edits.proofs.Common.{Act, Avoids, Good, Kind, Same, Stays, VariableShape, freeing_marks, gdr_type, shape, space_fields, type_in, variables_chain, vdr_vxr_head, vdr_vxr_tail}
use Rattle.cdf_edits.proofs.Edits.Common.{Avoids-append, StandsAmong, all_freed as all_unused, behind_in, cpr_behind, gdr_in, gdr_typed, sound, tile, typed}
use Rattle.cdf_edits.proofs.Edits.IndexEdited as of_index
use Rattle.cdf_edits.proofs.Edits.ActsThen.{taken-gave}
use Rattle.cdf_edits.proofs.Edits.OwnersKept.{keeps_fields}
use Rattle.cdf_edits.proofs.Edits.PlainLeaves.{own_rules}
use Rattle.cdf_edits.specs.Commands.Cuts.{CutsAll}
use Rattle.cdf_edits.specs.Index.Written.{TailFollows, last_node}
use Rattle.cdf_edits.specs.Space.Acts.{taken}
use Rattle.cdf_index.proofs.LeafRules.{index_order}
use Rattle.cdf_index.proofs.NewIndex.{index_marks}
use Rattle.cdf_index.specs.Order.{InOrder}
use Rattle.cdf_model.specs.Limits.{record_number_limit}
use Rattle.cdf_puts.specs.Going.{GoesOn}
use Rattle.cdf_cuts.proofs.ChainKept.{top_left}
use Rattle.cdf_cuts.proofs.CutAll.{all_gone}
use Rattle.cdf_cuts.proofs.CutFreed.{cut_marks, edit, frees, freed_avoids, types, vdr_apart, whole}
use Rattle.cdf_cuts.proofs.KeptLeaf.{IsPlainOrWhole}
use Rattle.cdf_cuts.proofs.CutGoes.{cut_goes, freed_now, long_now, same_records, tail_now}
use Rattle.cdf_cuts.proofs.CutLinked.{freed_in}
use Rattle.cdf_cuts.proofs.CutWhole.{rest_order}
use Rattle.cdf_cuts.proofs.CutWords.{cut}
use Rattle.cdf_cuts.proofs.PastCut.{aside, space_tests}
use Rattle.cdf_cuts.specs.Cut.{IsCut}
use Rattle.cdf_sparse.proofs.AllContent.{content_stays}
use Rattle.cdf_compress.specs.Emptying.{Emptied, all_acts, all_freed, all_span, emptied}

module _ {b now : List ℕ} {kind : Kind} {before : List VariableShape} {own : VariableShape} {after : List VariableShape} (good : Good b) (at : StandsAmong b kind before own after) (short : length b ≤ image_limit) (c : IsCut b now kind own all_span) where
  abbrev rest : Nodes
  rest = cut all_span own.index

  abbrev left : VariableShape
  left = record own { index = rest }

  abbrev freed : List ℕ
  freed = all_freed own

  abbrev acts : List Act
  acts = all_acts b own

  order : 0 ≤ 2147483646
  order = omega arith

  was_order : InOrder 0 record_number_limit own.index
  was_order = index_order b (shape b).records own.vdr own.index (own_rules good at).1

  -- no block is left that could be packed
  none_left : rest ≡ no_node
  none_left = all_gone own.index was_order

  no_leaf : Each (IsPlainOrWhole (leaves_of own.index)) (leaves_of no_node)
  unfolding leaves_of
  no_leaf = tt

  goes_on : GoesOn b now kind before own left after acts
  goes_on = cut_goes good at order c.is_linked short now c.given (rest_order 0 2147483646 false own.index order was_order) (subst (λ (y : Nodes). Each (IsPlainOrWhole (leaves_of own.index)) (leaves_of y)) (sym none_left) no_leaf)

  none_taken : taken acts ≡ []
  none_taken = taken-gave b freed

  cuts : CutsAll b now own (emptied own) acts
  cuts = record {
    index_is = refl;
    takes_none = none_taken;
    tail = subst (λ (y : Nodes). TailFollows b now acts own.index own (record own { index = y })) none_left (tail_now good at order c.is_linked short now c.given ∙ (λ i. if sym (top_left acts own.index rest none_taken) i then number b own.vdr vdr_vxr_tail else last_node rest));
  }

  -- ---- the GDR and the descriptor

  gdr : Stays b now (shape b).gdr space_fields
  gdr =
      let tests = space_tests kind own.vdr (nodes_of own.index) (length b) (shape b).unused freed in
      let h = (sound good at).has_shape in
      keeps_fields (sound good at) (edit good at order c.is_linked now c.given) (same_records good at order c.is_linked short now c.given) (shape b).gdr gdr_type space_fields (gdr_in b (shape b) h) (gdr_typed b (shape b) h) tests.0 tests.1

  avoid : (lo hi : ℕ) → (hi ≤ 28) ⊎ (44 ≤ lo) → Avoids (cut_marks kind own.vdr (nodes_of own.index) (length b) (shape b).unused freed) (type_in (variables_chain kind)) own.vdr lo hi
  avoid lo hi side =
      Avoids-append (index_marks kind own.vdr (nodes_of own.index) (record { place = 12; width = length b })) (freeing_marks types (shape b).unused freed (length b)) (type_in (variables_chain kind)) own.vdr lo hi ((λ same lies. side), ((λ same lies. absurd ((vdr_apart kind).2 same)), tt)) (freed_avoids good at order c.is_linked own.vdr lo hi)

  part : (lo hi : ℕ) → (hi ≤ 28) ⊎ (44 ≤ lo) → hi ≤ size_at b own.vdr → Same b now (own.vdr + lo) (own.vdr + hi)
  part lo hi side fit = (edit good at order c.is_linked now c.given).part own.vdr (type_in (variables_chain kind)) lo hi (tile good at) (typed good at) (avoid 0 12 (inl (omega arith))) (avoid lo hi side) fit

  descriptor : Stays b now own.vdr (vdr_vxr_head ∷ vdr_vxr_tail ∷ [])
  descriptor = record { stands = goes_on.descriptor.stands; size_is = goes_on.descriptor.size_is; same = λ n less out. (part n (n + 1) (aside n out) (omega (arith, less))).each (own.vdr + n) (omega arith) (omega arith) }

  -- ---- the whole

  goes : GoesOn b now kind before own (emptied own) after acts
  goes = subst (λ (y : Nodes). GoesOn b now kind before own (record own { index = y }) after acts) none_left goes_on

  pub all_cut : Emptied b now kind before own after
  all_cut = record {
    goes_on = goes;
    long = long_now good at order c.is_linked short now c.given;
    cuts = cuts;
    gdr = gdr;
    descriptor = descriptor;
    cpr = λ m i. record {
      stands = subst (In m) (sym (same_records good at order c.is_linked short now c.given)) (behind_in good at m (cpr_behind own m i));
      whole = of_index.cpr_kept good at (whole good at order c.is_linked now c.given) m i;
    };
    records_are = same_records good at order c.is_linked short now c.given;
    unused = λ m i. (subst (In m) (sym (same_records good at order c.is_linked short now c.given)) (freed_in good at c.is_linked m i), all_unused (frees good at order c.is_linked now c.given) m i);
    freed = freed_now good at order c.is_linked short now c.given;
    same_content = content_stays good at goes descriptor;
  }
