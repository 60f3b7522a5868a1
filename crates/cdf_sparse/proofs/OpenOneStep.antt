-- Records were cut out of the index of a variable, and then a leaf was added for the later records of one that has others before them: this is still a step in which a block changes only where it has some of the records that go.
use Rattle.cdf_cuts.proofs.Common.{In, Leaf, List, Nodes, [], ap, arith, false, image_limit, inl, inr, leaves_of, length, map, nodes_of, number, refl, room_at, size_at, subst, sym, true, true≢false, used_count, cases_lt, ℕ, ◌++◌, ◌+◌, ◌<◌, ◌∙◌, ◌∷◌, ◌≡◌, ◌≤◌, ◌⊎◌}
use Rattle.std.proofs.Common.{bytes_eq}
use Rattle.std.specs.List.{list_any}
use Rattle.cdf_edits.proofs.Common.{Act, Avoids, Bool, Field, FreedStay, Good, Kind, Mark, R, Same, Stays, VariableShape, Z, field, gave, gdr_type, is_in, no_fields, shape, shared, space_fields, type_in, variables_chain, vdr_vxr_tail, within, nat_lt}
use Rattle.cdf_edits.proofs.Edits.ActsThen.{taken-gave}
use Rattle.cdf_edits.proofs.Edits.Common.{Avoids-append, Each-in, StandsAmong, gdr_in, gdr_typed, has, sound, stays_then, tile, typed}
use Rattle.cdf_edits.proofs.Edits.LeafPieces.{IsOneOf}
use Rattle.cdf_edits.proofs.Edits.OwnEdited as of_own
use Rattle.cdf_edits.proofs.Edits.OwnersKept.{keeps_fields}
use Rattle.cdf_edits.proofs.Edits.TakenAll.{taking_all}
use Rattle.cdf_edits.specs.Commands.PutSteps.{Goes}
use Rattle.cdf_edits.specs.Index.Grown.{new_room, with_leaf}
use Rattle.cdf_edits.specs.Index.Written.{EntryIs, NodeSpareStays, TailFollows, is_taken_at, top_chain, was_unused}
use Rattle.cdf_format.proofs.NameRules.{bytes_eq-same}
use Rattle.cdf_format.proofs.Tests.{same_of_bytes_eq}
use Rattle.cdf_index.proofs.Common.{all_unmarked-away, away-avoids, variable_types}
use Rattle.cdf_index.proofs.NewIndex.{NewIndex, index_marks, own_edit, vdr_no_node, vdr_of_variable}
use Rattle.cdf_index.specs.Adding.{LeafAdded, leaf_acts}
use Rattle.cdf_index.specs.Replacing.{with_index}
use Rattle.cdf_leaves.proofs.TopChain.{chain_in}
use Rattle.cdf_puts.proofs.GoesThen.{own_there}
use Rattle.cdf_puts.proofs.LeafEdit.{all_nodes, enough, new_index, node_taken, nodes_step, reborn}
use Rattle.cdf_puts.proofs.PutNodes.{NodesStep, spare_then}
use Rattle.cdf_puts.specs.Going.{GoesOn, found_in}
use Rattle.cdf_cuts.proofs.CutDone.{each_from}
use Rattle.cdf_cuts.proofs.CutGoes.{tail_now}
use Rattle.cdf_cuts.proofs.PastCut.{aside}
use Rattle.cdf_cuts.specs.Cut.{IsCut}
use Rattle.cdf_cuts.specs.Past.{stage}
use Rattle.cdf_cuts.specs.Planning.{opening}
use Rattle.cdf_gaps.proofs.CutPutFreed.{freed_then}
use Rattle.cdf_gaps.proofs.CutPutRooms.{used_in}
use Rattle.cdf_sparse.proofs.OpenCut as by
use Rattle.cdf_sparse.proofs.OpenEntries.{entry_then, node_uses, tail_one, top_new, used_before}
use Rattle.cdf_sparse.proofs.OpenNodes.{taken_behind, takes_leaf}
use Rattle.cdf_sparse.proofs.OpenStep.{IsApart, all_keep, descriptor_cut, entries_cut, gdr_cut, heads, sizes_cut, step_cut}
use Rattle.cdf_sparse.specs.Opening.{freed_opening, index_opened, opening_acts}
use Rattle.cdf_format.specs.Shape.{is_compressed}

-- ---- marks

-- in the GDR a leaf more writes the fields alone that say where space is
leaf_within : (kind : Kind) (v : ℕ) (unused places nodes : List ℕ) (need most : ℕ) → within (taking_all unused places need ++ index_marks kind v nodes (field 12 most)) gdr_type space_fields ≡ true
leaf_within R v unused places nodes need most = refl
leaf_within Z v unused places nodes need most = refl

-- ---- a test on the nodes of a list

none_in : (f : ℕ → Bool) (xs : List ℕ) → ((m : ℕ) → In m xs → f m ≡ false) → list_any f xs ≡ false
none_in f [] none = refl
none_in f (x ∷ xs) none = rw (none x (inl refl)) (none_in f xs (λ m i. none m (inr i)))

some_in : (f : ℕ → Bool) (xs : List ℕ) (m : ℕ) → In m xs → f m ≡ true → list_any f xs ≡ true
some_in f [] m i e = absurd i
some_in f (x ∷ xs) m (inl q) e = let t : f x ≡ true = rw q at e in rw t refl
some_in f (x ∷ xs) m (inr i) e = grind (arith, some_in f xs m i e)

-- ---- the descriptor and the GDR, where a variable has another index

module _ {b now : List ℕ} {kind : Kind} {before : List VariableShape} {own : VariableShape} {after : List VariableShape} {index : Nodes} {new list : List ℕ} {fields : List Field} {space : List Mark} {nodes : List ℕ} {f : Field} {reborn : List ℕ} (good : Good b) (at : StandsAmong b kind before own after) (x : NewIndex b now kind own index new list fields space nodes f reborn) where
  abbrev type : ℕ
  type = type_in (variables_chain kind)

  avoids : (lo hi : ℕ) → (hi ≤ 28) ⊎ (44 ≤ lo) → Avoids (space ++ index_marks kind own.vdr nodes f) type own.vdr lo hi
  avoids lo hi side =
      Avoids-append space (index_marks kind own.vdr nodes f) type own.vdr lo hi (away-avoids space type own.vdr lo hi (all_unmarked-away space variable_types type own.vdr x.unspaced (vdr_of_variable kind)))
      ((λ same lies. side), ((λ same lies. absurd (vdr_no_node kind same)), tt))

  part : (lo hi : ℕ) → (hi ≤ 28) ⊎ (44 ≤ lo) → hi ≤ size_at b own.vdr → Same b now (own.vdr + lo) (own.vdr + hi)
  part lo hi side fit = x.edit.part own.vdr type lo hi (tile good at) (typed good at) (avoids 0 12 (inl (omega arith))) (avoids lo hi side) fit

  heads_stay : {fs : List Field} → Stays b now own.vdr fs → Stays b now own.vdr heads
  heads_stay s = record { stands = s.stands; size_is = s.size_is; same = λ n less out. (part n (n + 1) (aside n out) (omega (arith, less))).each (own.vdr + n) (omega arith) (omega arith) }

  gdr_stays : within (space ++ index_marks kind own.vdr nodes f) gdr_type space_fields ≡ true → Stays b now (shape b).gdr space_fields
  gdr_stays inside =
      let h = (sound good at).has_shape in
      keeps_fields (sound good at) x.edit (of_own.records_are good at (own_edit good at x)) (shape b).gdr gdr_type space_fields (gdr_in b (shape b) h) (gdr_typed b (shape b) h) x.tests.heads_clear inside

-- ---- the cut, and then the leaf

module _ {b mid now : List ℕ} {kind : Kind} {before : List VariableShape} {own : VariableShape} {after : List VariableShape} {first last : ℕ} {new : Leaf} {body : List ℕ} {at : ℕ} (good : Good b) (stand : StandsAmong b kind before own after) (order : first ≤ last) (short : length b ≤ image_limit) (c : IsCut b mid kind own (opening first last)) (loose : is_compressed b own.vdr ≡ false)
    (w : LeafAdded mid now (with_index own (index_opened own first last)) new body at) (second : GoesOn mid now kind before (with_index own (index_opened own first last)) (with_index own (with_leaf new at (index_opened own first last))) after (leaf_acts new.place (8 + length body) (new_room new.first (index_opened own first last)) at))
    (goes : GoesOn b now kind before own (with_index own (with_leaf new at (index_opened own first last))) after (opening_acts b own first last (leaf_acts new.place (8 + length body) (new_room new.first (index_opened own first last)) at))) (blocks : (l : Leaf) → IsOneOf (leaves_of own.index) l → IsApart first last l → Stays b now l.place []) where
  abbrev rest : Nodes
  rest = index_opened own first last

  abbrev left : VariableShape
  left = with_index own rest

  abbrev own' : VariableShape
  own' = with_index own (with_leaf new at rest)

  abbrev room : ℕ
  room = new_room new.first rest

  abbrev step : List Act
  step = leaf_acts new.place (8 + length body) room at

  abbrev cut : List Act
  cut = gave b (freed_opening own first last)

  abbrev acts : List Act
  acts = opening_acts b own first last step

  one : GoesOn b mid kind before own left after cut
  one = by.goes_cut good stand order short c loose

  was : (next : ℕ) → Goes (found_in b kind before own) (stage b own [] next) (stage mid left cut next) (λ r. nat_lt 0 (shared first last r))
  was next = step_cut good stand order short c loose next

  nodes : NodesStep mid now rest (nodes_of own'.index) step
  nodes = nodes_step one.good one.among w

  -- ---- what is taken

  taken_at : (m : ℕ) → is_taken_at acts m ≡ is_taken_at step m
  taken_at m = ap (λ (xs : List (ℕ × ℕ)). is_in m (map (λ (take : ℕ × ℕ). take.0) xs)) (taken_behind b (freed_opening own first last) step)

  none_cut : (m : ℕ) → is_taken_at cut m ≡ false
  none_cut m = ap (λ (xs : List (ℕ × ℕ)). is_in m (map (λ (take : ℕ × ℕ). take.0) xs)) (taken-gave b (freed_opening own first last))

  apart : (m : ℕ) → In m (nodes_of rest) → is_taken_at acts m ≡ false
  apart m i = taken_at m ∙ nodes.apart m i

  -- ---- the GDR and the descriptor

  gdr : Stays b now (shape b).gdr space_fields
  gdr =
      let later = gdr_stays one.good one.among (new_index one.good one.among w) (leaf_within kind own.vdr (shape mid).unused (reborn one.good one.among w) (all_nodes one.good one.among w) (enough one.good one.among w) (length w.roomy)) in
      stays_then b mid now (shape b).gdr space_fields space_fields space_fields (gdr_cut good stand order short c loose) (subst (λ (g : ℕ). Stays mid now g space_fields) one.gdr_is later) (λ i o. (o, o))

  descriptor : Stays b now own.vdr heads
  descriptor = stays_then b mid now own.vdr heads heads heads (descriptor_cut good stand order short c loose) (heads_stay one.good one.among (new_index one.good one.among w) second.descriptor) (λ i o. (o, o))

  -- ---- the nodes

  uses : (m i : ℕ) → In m (nodes_of rest) → i < used_count mid m → i < used_count b m
  uses m i j lt =
      let now_used = used_in mid (shape mid).records m i lt 8 rest (has one.good one.among).indexed.has_nodes j in
      node_uses b (shape b).records m i 8 own.index (has good stand).indexed.has_nodes (used_before first last m i own.index now_used)

  fewer : (m : ℕ) → In m (nodes_of rest) → used_count mid m ≤ used_count b m
  fewer m j = elim (cases_lt (used_count b m) (used_count mid m)) [ inl lt ↦ absurd (omega (arith, uses m (used_count b m) j lt)) | inr le ↦ le ]

  entries : (m : ℕ) → In m (nodes_of own'.index) → (i : ℕ) → used_count now m ≤ i → i < room_at now m → EntryIs b now m i (was_unused b (nodes_of own.index) acts m i)
  entries =
      entry_then b mid now rest (nodes_of own.index) (nodes_of rest) (nodes_of own'.index) cut step (entries_cut good stand order short c loose) nodes.unused nodes.apart nodes.come nodes.rooms
      (λ m i e. node_uses mid (shape mid).records m i 8 rest (has one.good one.among).indexed.has_nodes e) fewer

  spare : (m : ℕ) → In m (nodes_of own'.index) → NodeSpareStays b now acts m
  spare m k = elim (nodes.come m k) [
    | inr t ↦ (λ e. absurd (true≢false (sym (taken_at m ∙ t) ∙ e)))
    | inl j ↦ spare_then b mid now acts m (nodes.rooms m j) (λ e. sizes_cut good stand order short c loose m j) (nodes.spare m j) (λ e. Each-in (NodeSpareStays b mid cut) (nodes_of rest) (was 0).spare m j (none_cut m))
  ]

  -- ---- VXRtail

  abbrev tops : List ℕ
  tops = top_chain own'.index

  none_new : bytes_eq (top_chain rest) tops ≡ true → list_any (is_taken_at acts) tops ≡ false
  none_new e = none_in (is_taken_at acts) tops (λ m i. apart m (chain_in rest m (subst (In m) (sym (same_of_bytes_eq (top_chain rest) tops e)) i)))

  some_new : bytes_eq (top_chain rest) tops ≡ false → list_any (is_taken_at acts) tops ≡ true
  some_new e = elim (top_new new at rest) [
    | inl q ↦ (let t : bytes_eq (top_chain rest) tops ≡ true = rw q (bytes_eq-same (top_chain rest)) in absurd (true≢false (sym t ∙ e)))
    | inr x ↦ some_in (is_taken_at acts) tops at x.1 (taken_at at ∙ node_taken new.place (8 + length body) room at x.0)
  ]

  tail : TailFollows b now acts own.index own own'
  tail =
      tail_one (top_chain own.index) (top_chain rest) tops (list_any (is_taken_at acts) tops) (number b own.vdr vdr_vxr_tail) (number mid own.vdr vdr_vxr_tail) (number now own.vdr vdr_vxr_tail) none_new some_new (tail_now good stand order c.is_linked short mid c.given) w.tail

  -- ---- the whole

  freed : FreedStay b now no_fields acts
  freed = freed_then one.good second (takes_leaf new.place (8 + length body) room at) b cut (was 0).freed

  pub step_one : (next : ℕ) → Goes (found_in b kind before own) (stage b own [] next) (stage now (with_index own (with_leaf new at (index_opened own first last))) (opening_acts b own first last (leaf_acts new.place (8 + length body) (new_room new.first (index_opened own first last)) at)) next) (λ r. nat_lt 0 (shared first last r))
  step_one next = record {
    good = goes.good;
    stands = own_there goes.good goes.among;
    acts_follow = goes.follow;
    keeps = all_keep good stand order loose goes gdr descriptor blocks;
    unused = each_from (λ m. (i : ℕ) → used_count now m ≤ i → i < room_at now m → EntryIs b now m i (was_unused b (nodes_of own.index) acts m i)) (nodes_of own'.index) entries;
    spare = each_from (NodeSpareStays b now acts) (nodes_of own'.index) spare;
    tail = tail;
    freed = freed;
  }
