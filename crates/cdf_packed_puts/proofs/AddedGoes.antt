-- An image goes on to one in which a packed variable has a leaf more: what a step of a put asks of all else, and the whole of it.
use Rattle.cdf_blocks.proofs.Common.{Bool, In, IsOneOf, Leaf, List, Nodes, [], ap, arith, eq-eqb, inl, inr, length, nodes_of, refl, room_at, subst, sym, true, used_count, zero, suc, ℕ, ◌*◌, ◌+◌, ◌-◌, ◌<◌, ◌∙◌, ◌∷◌, ◌≡◌, ◌≤◌, ◌⊎◌, ◌++◌, each_of}
unfoldable use Rattle.cdf_blocks.proofs.Common.{leaves_of}
use Rattle.std.proofs.Common.{if◌then◌else◌, ◌==◌}
use Rattle.std.proofs.lemmas.Bool.{true≢false}
use Rattle.std.specs.Prelude.{None}
use Rattle.cdf_edits.proofs.Commands.KeptRecords.{Stood, keeps_stood}
use Rattle.cdf_edits.proofs.Common.{Act, AllKeep, Allowance, Allowances, Avoids, Field, FreedStay, Good, Keeps, Kind, Mark, Only, Option, R, Range, Same, Stays, Took, VariableShape, Z, field, gdr_type, image_limit, is_compressed, is_in-true, nat_tests, no_fields, number, owned, range, range_at, record_bytes, shape, size_at, space_fields, type_in, variable_records, variables_chain, vdr_vxr_head, vdr_vxr_tail, vxr_bytes, within}
use Rattle.cdf_edits.proofs.Edits.Common.{Avoids-append, Kept, StandsAmong, behind_in, each, gdr_in, gdr_typed, has, same_as_itself, sound, stood, tile, typed}
use Rattle.cdf_edits.proofs.Edits.IndexEdited as of_index
use Rattle.cdf_edits.proofs.Edits.OwnersKept.{keeps_fields}
use Rattle.cdf_edits.proofs.Edits.TakenAll.{taking_all}
use Rattle.cdf_edits.proofs.Edits.VariableCopied.{cpr_behind}
use Rattle.cdf_edits.proofs.Index.OneDescent.{grown_is}
use Rattle.cdf_edits.specs.Commands.Allowances.{OutsideFields, Stays as StaysBut, anything_if}
use Rattle.cdf_edits.specs.Commands.PutSteps.{BlockWritten, Goes, leaf_step, step_changes}
use Rattle.cdf_edits.specs.Index.Grown.{new_room, with_leaf}
use Rattle.cdf_edits.specs.Index.Written.{EntryIs, NodeSpareStays, TailFollows, block_end, is_taken_at, last_node, was_unused}
use Rattle.cdf_index.proofs.Common.{all_unmarked-away, away-avoids, variable_types}
use Rattle.cdf_index.proofs.NewIndex.{NewIndex, index_edit, index_marks, own_edit, vdr_no_node, vdr_of_variable}
use Rattle.cdf_index.proofs.OwnRecords as of_own
use Rattle.cdf_edits.proofs.Edits.OwnEdited as of_own_edit
use Rattle.cdf_index.specs.Adding.{LeafAdded, leaf_acts, node_acts}
use Rattle.cdf_leaves.proofs.TopChain.{chain_in}
use Rattle.cdf_puts.proofs.GoesKeep.{each_own, goes_keep}
use Rattle.cdf_puts.proofs.GoesThen.{own_there}
use Rattle.cdf_puts.proofs.LeafEdit as of_leaf
use Rattle.cdf_puts.proofs.PutNodes.{NodesStep}
use Rattle.cdf_puts.specs.Going.{GoesOn, found_in}
use Rattle.cdf_puts.specs.Steps.{IsVacant}
use Rattle.cdf_blocks.specs.Blocks.{StoredAs, block_body}
use Rattle.cdf_blocks.specs.Replaced.{stage}
use Rattle.cdf_blocks.proofs.BlockBytes.{need_most}
use Rattle.cdf_blocks.proofs.BlockOf.{block_in}
use Rattle.cdf_blocks.proofs.NewBlock.{body_long}
use Rattle.cdf_packed_puts.specs.Adding.{BlockAdded}
use Rattle.cdf_packed_puts.proofs.AddedLeaf as of_added
use Rattle.cdf_packed_puts.proofs.AddedNodes.{entry_says, top_is}

-- ---- marks

-- in the GDR a leaf more writes the fields alone that say where space is
leaf_within : (kind : Kind) (v : ℕ) (unused places nodes : List ℕ) (need most : ℕ) → within (taking_all unused places need ++ index_marks kind v nodes (field 12 most)) gdr_type space_fields ≡ true
leaf_within R v unused places nodes need most = refl
leaf_within Z v unused places nodes need most = refl

abbrev heads : List Field
heads = vdr_vxr_head ∷ vdr_vxr_tail ∷ []

aside : (n : ℕ) → OutsideFields heads n → (n + 1 ≤ 28) ⊎ (44 ≤ n)
aside n out = elim out.0 [ inl x ↦ inl (omega arith) | inr x ↦ elim out.1.0 [ inl y ↦ absurd (omega arith) | inr y ↦ inr y ] ]

-- ---- the descriptor and the GDR, where a variable has another index

module _ {b now : List ℕ} {kind : Kind} {before : List VariableShape} {own : VariableShape} {after : List VariableShape} {index : Nodes} {new list : List ℕ} {fields : List Field} {space : List Mark} {nodes : List ℕ} {f : Field} {reborn : List ℕ} (good : Good b) (among : StandsAmong b kind before own after) (x : NewIndex b now kind own index new list fields space nodes f reborn) where
  abbrev type : ℕ
  type = type_in (variables_chain kind)

  avoids : (lo hi : ℕ) → (hi ≤ 28) ⊎ (44 ≤ lo) → Avoids (space ++ index_marks kind own.vdr nodes f) type own.vdr lo hi
  avoids lo hi side =
      Avoids-append space (index_marks kind own.vdr nodes f) type own.vdr lo hi (away-avoids space type own.vdr lo hi (all_unmarked-away space variable_types type own.vdr x.unspaced (vdr_of_variable kind)))
      ((λ same lies. side), ((λ same lies. absurd (vdr_no_node kind same)), tt))

  part : (lo hi : ℕ) → (hi ≤ 28) ⊎ (44 ≤ lo) → hi ≤ size_at b own.vdr → Same b now (own.vdr + lo) (own.vdr + hi)
  part lo hi side fit = x.edit.part own.vdr type lo hi (tile good among) (typed good among) (avoids 0 12 (inl (omega arith))) (avoids lo hi side) fit

  heads_stay : {fs : List Field} → Stays b now own.vdr fs → Stays b now own.vdr heads
  heads_stay s = record { stands = s.stands; size_is = s.size_is; same = λ n less out. (part n (n + 1) (aside n out) (omega (arith, less))).each (own.vdr + n) (omega arith) (omega arith) }

  gdr_stays : within (space ++ index_marks kind own.vdr nodes f) gdr_type space_fields ≡ true → Stays b now (shape b).gdr space_fields
  gdr_stays inside =
      let h = (sound good among).has_shape in
      keeps_fields (sound good among) x.edit (of_own_edit.records_are good among (own_edit good among x)) (shape b).gdr gdr_type space_fields (gdr_in b (shape b) h) (gdr_typed b (shape b) h) x.tests.heads_clear inside

-- ---- what each record keeps

module _ {b now : List ℕ} {kind : Kind} {before : List VariableShape} {own own' : VariableShape} {after : List VariableShape} {acts : List Act} (good : Good b) (among : StandsAmong b kind before own after) (g : GoesOn b now kind before own own' after acts) (gdr : Stays b now (shape b).gdr space_fields) (descriptor : Stays b now own.vdr heads) (blocks : (l : Leaf) → IsOneOf (leaves_of own.index) l → Stood b now l.place) (cprs : (m : ℕ) → In m own.cpr → Stood b now m) (changes : Range → Bool) where
  abbrev may : Allowances
  may = step_changes b (found_in b kind before own) changes

  abbrev own_may : ℕ → Allowance
  own_may m = may.variables kind (length before) m

  abbrev block_may : Range → Allowance
  block_may r = anything_if (changes r)

  allowed : (m : ℕ) (o : Option Range) → range_at (shape b) (found_in b kind before own) m ≡ o → own_may m ≡ of_own.by_range b kind heads block_may m o
  allowed m o e = let same = same_as_itself kind in let number = eq-eqb (length before) (length before) refl in rw (same, number, e)

  own_keeps : (m : ℕ) → In m (variable_records own) → Keeps b now m (own_may m)
  own_keeps = each_own (λ (m : ℕ). Keeps b now m (own_may m)) own (rw (of_own.descriptor_allowed (found_in b kind before own) good among refl heads block_may own_may allowed) descriptor)
      (λ m i. rw (of_own.node_allowed (found_in b kind before own) good among refl heads block_may own_may allowed m i) tt)
      (λ l i. rw (of_own.block_allowed (found_in b kind before own) good among refl heads block_may own_may allowed l i) (keeps_stood b now l.place (blocks l i) (block_may (range l.first l.last))))
      (λ m i. keeps_stood b now m (cprs m i) (own_may m))

  keeps : AllKeep b now (step_changes b (found_in b kind before own) changes) acts (owned b (shape b))
  keeps = goes_keep good among g may gdr own_keeps

-- ---- what is taken

pub node_acts_are : (room at : ℕ) → node_acts room at ≡ (if room == 0 then [] else Took at (vxr_bytes room) ∷ [])
node_acts_are zero at = refl
node_acts_are (suc room) at = grind (arith, nat_tests)

-- what a step of a new leaf makes of an index with the leaf, of how many entries its node has, and of how many bytes its block needs
abbrev step_by : ℕ → ℕ → Nodes × ℕ → ℕ → Nodes × List Act
step_by place at grown need = (grown.0, Took place need ∷ (if grown.1 == 0 then [] else Took at (vxr_bytes grown.1) ∷ []))

none_freed : (b now : List ℕ) (place need room at : ℕ) → FreedStay b now no_fields (leaf_acts place need room at)
none_freed b now place need zero at = tt
none_freed b now place need (suc room) at = tt

-- ---- the step

module _ {b now : List ℕ} {kind : Kind} {before : List VariableShape} {own : VariableShape} {after : List VariableShape} {new : Leaf} {bytes : List ℕ} {at : ℕ} (good : Good b) (among : StandsAmong b kind before own after) (w : LeafAdded b now own new (block_body new.packed bytes) at) (few : length bytes ≤ image_limit) (plain : List ℕ) (rle : is_compressed b own.vdr ≡ true)
    (vacant : IsVacant own new.first new.last) (as_long : length plain ≡ (new.last + 1 - new.first) * record_bytes b own.vdr) (stored : StoredAs plain new.packed bytes) (short : length now ≤ image_limit) where
  abbrev index' : Nodes
  index' = with_leaf new at own.index

  abbrev mine : VariableShape
  mine = record own { index = with_leaf new at own.index }

  abbrev room : ℕ
  room = new_room new.first own.index

  abbrev need : ℕ
  need = 8 + length (block_body new.packed bytes)

  abbrev acts : List Act
  acts = leaf_acts new.place need room at

  goes_on : GoesOn b now kind before own mine after acts
  goes_on = of_added.goes_on good among w few plain rle vacant as_long stored short

  nodes : NodesStep b now own.index (nodes_of index') acts
  nodes = of_leaf.nodes_step good among w

  -- ---- records that stay

  stand : (m : ℕ) → In m (shape b).records → Kept b now m → Stood b now m
  stand = stood (sound good among) (index_edit good among (of_leaf.new_index good among w)).edit (of_added.same_records good among w few plain rle vacant as_long stored short)

  old_stands : (l : Leaf) → IsOneOf (leaves_of own.index) l → Stood b now l.place
  old_stands l i = stand l.place (block_in good among l i) (of_added.old_kept good among w few plain rle vacant as_long stored short l i)

  cpr_stands : (m : ℕ) → In m own.cpr → Stood b now m
  cpr_stands m i = stand m (behind_in good among m (cpr_behind own m i)) (of_index.cpr_kept good among (index_edit good among (of_leaf.new_index good among w)) m i)

  gdr : Stays b now (shape b).gdr space_fields
  gdr = gdr_stays good among (of_leaf.new_index good among w) (leaf_within kind own.vdr (shape b).unused (of_leaf.reborn good among w) (of_leaf.all_nodes good among w) (of_leaf.enough good among w) (length w.roomy))

  descriptor : Stays b now own.vdr heads
  descriptor = heads_stay good among (of_leaf.new_index good among w) goes_on.descriptor

  -- ---- nodes

  spare : (m : ℕ) → In m (nodes_of index') → NodeSpareStays b now acts m
  spare m k free = elim (nodes.come m k) [
    | inl j ↦ (let r = nodes.rooms m j in subst (λ (n : ℕ). Same b now (m + (28 + 16 * n)) (m + size_at b m)) (sym r) (nodes.spare m j))
    | inr t ↦ absurd (true≢false (sym t ∙ free))
  ]

  tail : TailFollows b now acts own.index own mine
  tail = w.tail ∙ ap (λ (p : Bool). if p then number b own.vdr vdr_vxr_tail else last_node index') (sym (top_is new at own.index acts (λ m i. nodes.apart m (chain_in own.index m i))))

  goes : (changes : Range → Bool) (done : List Act) (next to : ℕ) → Goes (found_in b kind before own) (stage b own done next) (stage now mine acts to) changes
  goes changes done next to = record {
    good = goes_on.good;
    stands = own_there goes_on.good goes_on.among;
    acts_follow = goes_on.follow;
    keeps = keeps good among goes_on gdr descriptor old_stands cpr_stands changes;
    unused = each (λ m. (i : ℕ) → used_count now m ≤ i → i < room_at now m → EntryIs b now m i (was_unused b (nodes_of own.index) acts m i)) (nodes_of index') (entry_says b now (shape b).records 8 own.index acts (nodes_of index') (has good among).indexed.has_nodes nodes.unused);
    spare = each (NodeSpareStays b now acts) (nodes_of index') spare;
    tail = tail;
    freed = none_freed b now new.place need room at;
  }

  -- ---- the block

  taken : is_taken_at acts new.place ≡ true
  taken = is_in-true new.place (of_leaf.reborn good among w) (inl refl)

  written : BlockWritten b now true own.vdr acts new plain
  written =
      let block = of_added.is_block_now good among w few plain rle vacant as_long stored short in
      let fresh = of_added.new_now good among w few plain rle vacant as_long stored short in
      let ends = of_added.ends_is good among w few plain rle vacant as_long stored short in
      let size = of_added.size_now good among w few plain rle vacant as_long stored short in
      record {
        plain_is = block.plain_is;
        packed = λ e. block.well;
        spare = rw taken (λ k le lt. fresh.spare k (omega (arith, ends, le)) (omega (arith, lt, size, body_long new.packed bytes)));
        reserved = rw taken (λ e. fresh.reserved e);
      }

  step : (index', acts) ≡ leaf_step b now true own.vdr own.index None new at
  step =
      let need_is = of_added.need_is good among w few plain rle vacant as_long stored short in
      ap (λ (more : List Act). (index', Took new.place need ∷ more)) (node_acts_are room at) ∙ sym (λ i. step_by new.place at (grown_is new at own.index i) (need_is i))

  pub block_added : BlockAdded b now kind before own after new.first new.last plain
  block_added = record {
    own' = mine;
    acts = acts;
    new = new;
    at = at;
    step = step;
    one = of_added.leaves_are good among w few plain rle vacant as_long stored short new (inl refl);
    first_is = refl;
    last_is = refl;
    written = written;
    needs = need_most plain bytes new.packed (block_end now own.vdr new) (of_added.ends_is good among w few plain rle vacant as_long stored short) stored;
    goes_on = goes_on;
    goes = goes;
    leaves = λ l i. of_added.leaves_are good among w few plain rle vacant as_long stored short l (inr i);
    blocks = each_of (λ (l : Leaf). StaysBut b now l.place []) (leaves_of own.index) (λ l i. keeps_stood b now l.place (old_stands l i) (Only []));
    max_rec_is = of_leaf.leaf_max_rec good among w;
    r_max_rec_is = of_leaf.r_max_rec_stays good among w;
  }
