-- The variable whose index gets a leaf, in the images in which records were taken.
use Rattle.cdf_leaves.proofs.Common.{Begun, Each-split, Good, Grew, HasIndex, HasVariable, In, Kept, Kind, List, NodeFits, R, SameNode, StandsAmong, VariableShape, Z, ap, apart, arith, each_in, eqb, false, first_at, fits, gdr_type, good_by_its_shape, good_is_sound, has, index_at, leaves_of, linkable-in, linkable-type, nodes_of, nodes_stand, number, places_of, record_number_limit, refl, same_node, shape, subst, sym, tile, type_at, type_in, type_kept, typed, uir_type, used_count, variables, variables_chain, vdr_vxr_head, vxr_type, ℕ, ◌<◌, ◌∙◌, ◌∷◌, ◌≡◌, ◌≢◌}
use Rattle.cdf_format.proofs.GoodImageLemmas.{good_image}
use Rattle.cdf_edits.proofs.Edits.StandsAmong.{behind_in}
use Rattle.cdf_edits.proofs.Edits.VariableCopied.{block_behind}
use Rattle.cdf_index.proofs.GoodIndex.{good_index}
use Rattle.cdf_leaves.proofs.Spares.{Spares, spares_kept}
pub use Rattle.cdf_index.proofs.OneVariable.{AmongAll, among_all}
use Rattle.cdf_index.specs.Order.{InOrder}

-- the type of a descriptor is another one
pub no_type : (kind : Kind) (t : ℕ) → eqb (type_in (variables_chain R)) t ≡ false → eqb (type_in (variables_chain Z)) t ≡ false → type_in (variables_chain kind) ≢ t
no_type R t r z = apart (type_in (variables_chain R)) t r
no_type Z t r z = apart (type_in (variables_chain Z)) t z

module _ {b : List ℕ} {kind : Kind} {before : List VariableShape} {own : VariableShape} {after : List VariableShape} (good : Good b) (at : StandsAmong b kind before own after) where
  among : AmongAll (variables (shape b)) own
  among = among_all b kind before own after at.was

  pub searchable : HasIndex b (number b own.vdr vdr_vxr_head) × (index_at b (number b own.vdr vdr_vxr_head) ≡ own.index)
  searchable = good_index b (shape b) among.front own among.rest (good_image b (shape b) (good_by_its_shape b good)) (good_is_sound b good) among.all

  pub own_order : InOrder 0 record_number_limit own.index
  own_order = let s = searchable in subst (InOrder 0 record_number_limit) s.1 s.0.order

  pub own_node : (m : ℕ) → In m (nodes_of own.index) → In m (shape b).records × (type_at b m ≡ vxr_type)
  own_node m i = let l = nodes_stand b (shape b).records 8 own.index (has good at).indexed.has_nodes m i in (linkable-in b (shape b).records vxr_type m l, linkable-type b (shape b).records vxr_type m l)

  pub node_fits : (m : ℕ) → In m (nodes_of own.index) → NodeFits b m
  node_fits m i = each_in (NodeFits b) (nodes_of own.index) m (fits good at).1 i

  pub vdr_apart : (m : ℕ) → type_at b m ≡ vxr_type → m ≢ own.vdr
  vdr_apart m t e = no_type kind vxr_type refl refl (sym (typed good at) ∙ ap (type_at b) (sym e) ∙ t)

  module _ {now : List ℕ} (g : Grew b now) where
    pub now_has : HasVariable now (shape now).records own
    now_has = (Each-split (HasVariable now (shape now).records) among.front (own ∷ among.rest) (rw (ap variables g.shape_is ∙ among.all) at g.sound.has_shape.have_variables)).1.0

    pub now_blocks : (m : ℕ) → In m (places_of (leaves_of own.index)) → In m (shape now).records
    now_blocks m i = g.sub m (behind_in good at m (block_behind own m i))

    pub node_kept : (m : ℕ) → In m (nodes_of own.index) → Kept b now m
    node_kept m i = let n = own_node m i in g.kept m n.0 (λ u. apart vxr_type uir_type refl (sym n.1 ∙ u)) (λ u. apart vxr_type gdr_type refl (sym n.1 ∙ u))

    pub node_type : (m : ℕ) → In m (nodes_of own.index) → type_at now m ≡ vxr_type
    node_type m i = let k = node_kept m i in type_kept b now m k.same k.long ∙ (own_node m i).1

    pub node_same : (m : ℕ) → In m (nodes_of own.index) → SameNode b now m
    node_same m i = same_node b now m (node_kept m i) (node_fits m i)

    pub node_spares : (m : ℕ) → In m (nodes_of own.index) → Spares b now m
    node_spares m i = spares_kept b now m (node_kept m i) (node_fits m i)

    -- as many entries of a node of the index still begin at a record or before it
    pub still_begun : {f m p : ℕ} → Begun b m f p → In m (nodes_of own.index) → Begun now m f p
    still_begun {m = m} {p = p} s i =
        let n = node_same m i in
        let first : (j : ℕ) → j < used_count b m → first_at now m j ≡ first_at b m j = λ j lt. (n.entries j (omega (arith, (node_fits m i).1)) _ _ _ (record { first_is = refl; last_is = refl; offset_is = refl })).first_is in
        record { before = λ j lt. rw (first j (omega (arith, s.most))) (s.before j lt); most = omega (arith, n.used_is, s.most); stop = λ lt. rw (first p (omega (arith, n.used_is))) (s.stop (omega (arith, n.used_is))) }

    pub vdr_kept : Kept b now own.vdr
    vdr_kept = g.kept own.vdr (tile good at) (λ u. no_type kind uir_type refl refl (sym (typed good at) ∙ u)) (λ u. no_type kind gdr_type refl refl (sym (typed good at) ∙ u))

    pub vdr_in : In own.vdr (shape now).records
    vdr_in = g.sub own.vdr (tile good at)

    pub vdr_used : type_at now own.vdr ≢ uir_type
    vdr_used u = let k = vdr_kept in no_type kind uir_type refl refl (sym (type_kept b now own.vdr k.same k.long ∙ typed good at) ∙ u)
