-- A block that got a new record has been shortened.
use Rattle.cdf_blocks.proofs.Common.{Bool, In, In-append_right, IsOneOf, Leaf, List, Nodes, SaysEntry, [], ap, arith, cases_eq, each_of, false, inl, inr, length, no_node, node, refl, room_at, subst, sym, top_chain, true, used_count, ℕ, ◌*◌, ◌+◌, ◌-◌, ◌<◌, ◌∙◌, ◌∷◌, ◌≡◌, ◌≢◌, ◌≤◌, ◌⊎◌}
unfoldable use Rattle.cdf_blocks.proofs.Common.{leaves_of, lower_nodes, nodes_of, with_range}
use Rattle.std.proofs.Common.{max, true≢false}
use Rattle.cdf_edits.proofs.Commands.KeptRecords.{keeps_stood}
use Rattle.cdf_edits.proofs.Common.{AllGiven, FreedStay, Good, Kind, Only, Same, Shape, VariableShape, image_limit, is_compressed, is_in-false, is_in-true, le-leb, links_end, nat_le, nat_tests, no_fields, record_bytes, shape, size_at, vdr_max_rec, vdr_vxr_head, vdr_vxr_tail, ◌&&◌}
use Rattle.cdf_edits.proofs.Edits.Common.{StandsAmong, behind_in, each, sound, sound_now, stood, tile}
use Rattle.cdf_edits.proofs.Edits.FreedBytes.{freed_stay}
use Rattle.cdf_edits.proofs.Edits.IndexEdited as of_index
use Rattle.cdf_edits.proofs.Edits.VariableCopied.{cpr_behind, node_behind}
use Rattle.cdf_edits.specs.Commands.Allowances.{Stays as StaysBut}
use Rattle.cdf_edits.specs.Commands.PutSteps.{BlockWritten}
use Rattle.cdf_edits.specs.Index.Written.{EntryIs, NodeSpareStays, block_end, block_need, is_taken_at, same_packing, stays_put, was_unused}
use Rattle.cdf_edits.specs.Space.Acts.{Act}
use Rattle.cdf_edits.specs.Space.Placing.{Placed}
use Rattle.cdf_index.proofs.Common.{EntrySet}
use Rattle.cdf_blocks.specs.Blocks.{LiesIn, StoredAs, block_body, stored_end}
use Rattle.cdf_blocks.specs.Shortened.{BlockShortened, NamesLeaf, NodeStays}
use Rattle.cdf_blocks.proofs.EntryNamed.{stays_but}
use Rattle.cdf_blocks.proofs.BlockBytes.{end_is, need_most, stored_room}
use Rattle.cdf_blocks.proofs.BlockGoes.{chain_stays, goes_by_step, heads}
use Rattle.cdf_blocks.proofs.BlockOf.{block_in}
use Rattle.cdf_blocks.proofs.MovedLinked as of_linked
use Rattle.cdf_blocks.proofs.MovedFreed as of_freed
use Rattle.cdf_blocks.proofs.NewBlock.{body_long}
use Rattle.cdf_blocks.proofs.PlacedLeaf.{nodes_stay, top_stays}

-- the top chain is of nodes
top_in : (ns : Nodes) (m : ℕ) → In m (top_chain ns) → In m (nodes_of ns)
unfolding nodes_of lower_nodes
top_in no_node m j = absurd j
top_in (node place room es more) m (inl e) = inl e
top_in (node place room es more) m (inr j) = inr (In-append_right m (lower_nodes es) (nodes_of more) (top_in more m j))

moves_by : (p q : Bool) (e n : ℕ) → (p ≡ q → e ≤ n → ⊥) → (same_packing p q && nat_le e n) ≡ false
moves_by true true e n out = grind (arith, nat_tests, out)
moves_by false false e n out = grind (arith, nat_tests, out)
moves_by true false e n out = refl
moves_by false true e n out = refl

module _ {b filled linked now : List ℕ} {kind : Kind} {before : List VariableShape} {own : VariableShape} {after : List VariableShape} (good : Good b) (at : StandsAmong b kind before own after) (old new : Leaf) (one : IsOneOf (leaves_of own.index) old) (lies : LiesIn old new.first new.last) (bytes : List ℕ) (x i : ℕ) (x_in : In x (nodes_of own.index)) (used : i < used_count b x) (says : SaysEntry b x i old.first old.last old.place)
    (block : Placed b filled (block_body new.packed bytes) new.place) (set : EntrySet filled linked x i new.first new.last new.place) (plain : List ℕ) (rle : is_compressed b own.vdr ≡ true) (as_long : length plain ≡ (new.last + 1 - new.first) * record_bytes b own.vdr) (stored : StoredAs plain new.packed bytes) (short : length bytes ≤ image_limit) (given : AllGiven linked now (old.place ∷ [])) (small : length now ≤ image_limit) (moves : old.packed ≡ new.packed → stored_end new.packed (length bytes) ≤ size_at b old.place → ⊥) where
  abbrev s : Shape
  s = shape b

  abbrev nodes : List ℕ
  nodes = nodes_of own.index

  abbrev need : ℕ
  need = 8 + length (block_body new.packed bytes)

  abbrev acts : List Act
  acts = of_freed.acts good at old new one lies bytes x i x_in used says block set plain rle as_long stored short given

  -- ---- the block

  ends : block_end now own.vdr new ≡ stored_end new.packed (length bytes)
  ends =
      let n = of_freed.new_now good at old new one lies bytes x i x_in used says block set plain rle as_long stored short given in
      end_is now (shape now).records own.vdr new.first new.last new.place plain bytes (of_freed.rle_now good at old new one lies bytes x i x_in used says block set plain rle as_long stored short given) new.packed (of_freed.many_now good at old new one lies bytes x i x_in used says block set plain rle as_long stored short given) n.1.0 stored

  need_is : block_need now own.vdr new ≡ need
  need_is = ap (max 28) ends ∙ sym (body_long new.packed bytes)

  not_put : stays_put b now true own.vdr old new ≡ false
  not_put = rw ends (moves_by old.packed new.packed (stored_end new.packed (length bytes)) (size_at b old.place) moves)

  taken_new : is_taken_at acts new.place ≡ true
  taken_new = is_in-true new.place (new.place ∷ []) (inl refl)

  size_new : size_at now new.place ≡ need
  size_new = of_freed.size_new good at old new one lies bytes x i x_in used says block set plain rle as_long stored short given

  written : BlockWritten b now true own.vdr acts new plain
  written = record {
    plain_is = (of_freed.new_now good at old new one lies bytes x i x_in used says block set plain rle as_long stored short given).1.1.plain_is;
    packed = λ e. (of_freed.new_now good at old new one lies bytes x i x_in used says block set plain rle as_long stored short given).1.1.well;
    spare = rw taken_new (λ k le lt. (of_freed.new_now good at old new one lies bytes x i x_in used says block set plain rle as_long stored short given).0.spare k (omega (arith, ends, le)) (omega (arith, lt, size_new, body_long new.packed bytes)));
    reserved = rw taken_new (λ e. (of_freed.new_now good at old new one lies bytes x i x_in used says block set plain rle as_long stored short given).0.reserved e);
  }

  -- ---- the nodes

  node_apart : (m : ℕ) → In m nodes → is_taken_at acts m ≡ false
  node_apart m j = is_in-false m (new.place ∷ []) (λ k. elim k [
    | inl e ↦ of_linked.node_fresh good at old new one lies bytes x i x_in used says block set m j e
    | inr none ↦ none
  ])

  unused : (m : ℕ) → In m nodes → (k : ℕ) → used_count now m ≤ k → k < room_at now m → EntryIs b now m k (was_unused b nodes acts m k)
  unused m j k le lt =
      let n = of_freed.spares good at old new one lies bytes x i x_in used says block set plain rle as_long stored short given m j in
      rw (is_in-true m nodes j, node_apart m j, le-leb (used_count b m) k (omega (arith, n.used_is, le))) (n.spare k (omega (arith, n.used_is, le)) (omega (arith, n.room_is, lt)) _ _ _ (record { first_is = refl; last_is = refl; offset_is = refl }))

  spare : (m : ℕ) → In m nodes → NodeSpareStays b now acts m
  spare m j free = subst (λ (r : ℕ). Same b now (m + (28 + 16 * r)) (m + size_at b m)) (sym (of_freed.spares good at old new one lies bytes x i x_in used says block set plain rle as_long stored short given m j).room_is) (of_freed.spare_same good at old new one lies bytes x i x_in used says block set plain rle as_long stored short given m j)

  -- one that does not name the block stays
  else_stays : (m : ℕ) → In m nodes → StaysBut b now m [] ⊎ NamesLeaf b m old
  else_stays m j = elim (cases_eq m x) [
    | inl e ↦ inr (record { number = i; used = rw e used; says = rw e says })
    | inr ne ↦
        let e = of_freed.edit good at old new one lies bytes x i x_in used says block set plain rle as_long stored short given in
        let k = of_freed.node_else good at old new one lies bytes x i x_in used says block set plain rle as_long stored short given m j ne in
        inl (keeps_stood b now m (stood (sound good at) e refl m (behind_in good at m (node_behind own m j)) k) (Only []))
  ]

  -- ---- what is freed

  freed : FreedStay b now no_fields acts
  freed = freed_stay b now acts (old.place ∷ []) no_fields (sound_now (of_freed.frees good at old new one lies bytes x i x_in used says block set plain rle as_long stored short given)).has_shape.tiled (λ m j. of_freed.reborn_in good at old new one lies bytes x i x_in used says block set plain rle as_long stored short given m (inr j)) (λ m j. elim j [ inl e ↦ subst (λ (y : ℕ). size_at now y ≡ size_at b y) (sym e) (of_freed.old_size_now good at old new one lies bytes x i x_in used says block set plain rle as_long stored short given) | inr none ↦ absurd none ])
      (λ m j. elim j [ inl e ↦ subst (λ (y : ℕ). Same b now (y + links_end (size_at b y)) (y + size_at b y)) (sym e) (of_freed.old_behind good at old new one lies bytes x i x_in used says block set plain rle as_long stored short given) | inr none ↦ absurd none ])

  pub shortened_anew : BlockShortened b now kind before own after old new plain
  shortened_anew =
      let g = of_freed.goes_on good at old new one lies bytes x i x_in used says block set plain rle as_long stored short given small in
      let e = of_freed.edit good at old new one lies bytes x i x_in used says block set plain rle as_long stored short given in
      let others = λ (l : Leaf) (j : IsOneOf (leaves_of own.index) l) (ne : l.place ≢ old.place). stood (sound good at) e refl l.place (block_in good at l j) (of_freed.block_kept good at old new one lies bytes x i x_in used says block set plain rle as_long stored short given l j ne) in
      let cpr = λ (m : ℕ) (j : In m own.cpr). stood (sound good at) e refl m (behind_in good at m (cpr_behind own m j)) (of_index.cpr_kept good at (of_freed.whole good at old new one lies bytes x i x_in used says block set plain rle as_long stored short given) m j) in
      let descriptor = keeps_stood b now own.vdr (stood (sound good at) e refl own.vdr (tile good at) (of_freed.vdr_kept good at old new one lies bytes x i x_in used says block set plain rle as_long stored short given)) (Only heads) in
      let is : (m : ℕ) → In m (nodes_of (with_range old.first new own.index)) → In m nodes = λ m j. subst (In m) (nodes_stay old.first new own.index) j in
      record {
        own' = of_freed.mine good at old new one lies bytes x i x_in used says block set plain rle as_long stored short given;
        acts = acts;
        index_is = refl;
        acts_are = rw (not_put, need_is) refl;
        place_is = λ e. absurd (true≢false (sym e ∙ not_put));
        apart = λ e q. of_linked.apart_places good at old new one lies bytes x i x_in used says block set (sym q);
        one = of_linked.new_one good at old new one lies bytes x i x_in used says block set;
        lies = lies;
        written = written;
        needs = need_most plain bytes new.packed (block_end now own.vdr new) ends stored;
        small = small;
        most = subst (λ (n : ℕ). n ≤ 12 + length plain) (sym ends) (stored_room plain bytes new.packed stored);
        goes_on = g;
        goes = λ changes here. goes_by_step good at g old one (of_freed.gdr_stays good at old new one lies bytes x i x_in used says block set plain rle as_long stored short given) descriptor others cpr changes here (λ m j. unused m (is m j)) (λ m j. spare m (is m j)) (chain_stays acts own.index (with_range old.first new own.index) (top_stays old.first new own.index) (λ m j. node_apart m (top_in own.index m j))) (of_freed.vdr_field good at old new one lies bytes x i x_in used says block set plain rle as_long stored short given vdr_vxr_tail (omega arith)) freed;
        blocks = each_of (λ (l : Leaf). l.place ≢ old.place → StaysBut b now l.place []) (leaves_of own.index) (λ l j ne. keeps_stood b now l.place (others l j ne) (Only []));
        nodes_are = nodes_stay old.first new own.index;
        elsewhere = each (λ m. StaysBut b now m [] ⊎ NamesLeaf b m old) nodes else_stays;
        nodes = each (NodeStays b now old.place) nodes (λ m j. stays_but says (of_freed.nodes_but good at old new one lies bytes x i x_in used says block set plain rle as_long stored short given m j));
        head_is = of_freed.vdr_field good at old new one lies bytes x i x_in used says block set plain rle as_long stored short given vdr_vxr_head (omega arith);
        tail_is = of_freed.vdr_field good at old new one lies bytes x i x_in used says block set plain rle as_long stored short given vdr_vxr_tail (omega arith);
        max_rec_is = of_freed.vdr_field good at old new one lies bytes x i x_in used says block set plain rle as_long stored short given vdr_max_rec (omega arith);
        r_max_rec_is = of_freed.r_max_rec_is good at old new one lies bytes x i x_in used says block set plain rle as_long stored short given;
      }
