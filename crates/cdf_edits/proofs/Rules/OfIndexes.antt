-- The rules of indexes and of blocks stay where the bytes of their records do.
use Rattle.cdf_edits.proofs.Common.{Entries, Hold, Hold-append, Hold-asked, Hold-split, In, In-append_left, In-append_right, Leaf, List, NodeFits, Nodes, [], arith, asked, block, both, cvvr_c_size, cvvr_rows, cvvr_type, end_of, eq-eqb, fixed_size, flat_map, has_room, holds_packed, index_rows, inl, inr, is_a, is_a-in, is_a-type, is_between, is_compressed, le_of, leaf_rows, leaves_of, lower, lower_nodes, map, nat_le, negsuc, no_entry, no_node, node, nodes_of, nodes_rows, number, number_before, number_kept, plain_size, pos, record_limit, record_number_limit, refl, room_at, row, signed_limit, size_at, size_kept, subst, sym, true≢false, type_at, unpacks_to, used_rows, vdr_end, vvr_rows, vvr_type, vxr_n_entries, vxr_n_used_entries, with_sign, ℕ, ℤ, ◌*◌, ◌++◌, ◌+◌, ◌∙◌, ◌∷◌, ◌≡◌, ◌≤◌, ◌⊎◌}
use Rattle.std.proofs.Common.{◌&&◌}
use Rattle.cdf_edits.proofs.Frame.Meaning.{FileSame, Kept, KeptButLink, packed_same}
use Rattle.cdf_edits.proofs.Frame.VdrCopied.{plain_copied}
use Rattle.cdf_edits.proofs.Frame.VdrKept.{vdr_kept, compressed_same}
use Rattle.cdf_edits.proofs.Frame.LinksStay.{SameHeads}
use Rattle.cdf_edits.proofs.Rules.OfVariables.{asked_same, is_a_same, is_block_same}

node_long : (n s : ℕ) → 28 + 16 * n ≤ s → 28 ≤ s
node_long n s h = omega arith

-- of a variable whose VDR may stand at another place, with the flag and the sizes that its blocks are read by
module _ (b now : List ℕ) (file : FileSame b now) (v v' : ℕ) (packed : is_compressed now v' ≡ is_compressed b v) (plain_same : (leaf : Leaf) → plain_size now v' leaf ≡ plain_size b v leaf) where
  vvr_same : (leaf : Leaf) → Kept b now leaf.place → vvr_rows now v' leaf ≡ vvr_rows b v leaf
  vvr_same leaf kept =
      let plain = plain_same leaf in
      let size = size_kept b now leaf.place kept.same (let l = kept.long in omega arith) in
      λ i. row 5 leaf.place (nat_le (12 + plain i) (size i)) ∷ []

  -- given that the rules hold
  cvvr_same : (leaf : Leaf) → Kept b now leaf.place → 24 ≤ size_at b leaf.place → Hold (cvvr_rows b v leaf) → cvvr_rows now v' leaf ≡ cvvr_rows b v leaf
  cvvr_same leaf kept long rules =
      let holds = both (is_compressed b v) (holds_packed b leaf.place) rules.0 in
      let room = le_of (24 + number b leaf.place cvvr_c_size) (size_at b leaf.place) (both (nat_le (number b leaf.place cvvr_c_size) 0x7fffffffffffffff) (nat_le (24 + number b leaf.place cvvr_c_size) (size_at b leaf.place)) holds.1).1 in
      let plain = plain_same leaf in
      let count = number_kept b now leaf.place kept.same cvvr_c_size (omega arith) in
      let size = size_kept b now leaf.place kept.same (omega arith) in
      let bytes = packed_same b now file leaf.place kept room in
      λ i.
      row 6 leaf.place (packed i && (nat_le (count i) 0x7fffffffffffffff && nat_le (24 + count i) (size i)))
      ∷ row 7 leaf.place (nat_le (plain i) record_limit)
      ∷ row 8 leaf.place (unpacks_to (bytes i) (plain i))
      ∷ []

  -- a block that stands in both images
  pub leaf_same : (records records' : List ℕ) → ((m : ℕ) → In m records → fixed_size (type_at b m) ≤ size_at b m) → (leaf : Leaf) → ((type : ℕ) → is_a now records' type leaf.place ≡ is_a b records type leaf.place) → Kept b now leaf.place → Hold (leaf_rows b records v leaf) → leaf_rows now records' v' leaf ≡ leaf_rows b records v leaf
  leaf_same records records' fixed leaf same kept rules =
      let parts = Hold-split (asked (is_a b records vvr_type leaf.place) (vvr_rows b v leaf)) (asked (is_a b records cvvr_type leaf.place) (cvvr_rows b v leaf)) rules in
      let plain = asked_same (is_a now records' vvr_type leaf.place) (is_a b records vvr_type leaf.place) (vvr_rows now v' leaf) (vvr_rows b v leaf) (same vvr_type) (λ e. vvr_same leaf kept) in
      let blocks = asked_same (is_a now records' cvvr_type leaf.place) (is_a b records cvvr_type leaf.place) (cvvr_rows now v' leaf) (cvvr_rows b v leaf) (same cvvr_type) (λ e.
      let long : 24 ≤ size_at b leaf.place = subst (λ (t : ℕ). fixed_size t ≤ size_at b leaf.place) (is_a-type b records cvvr_type leaf.place e) (fixed leaf.place (is_a-in b records cvvr_type leaf.place e)) in
      cvvr_same leaf kept long (Hold-asked (is_a b records cvvr_type leaf.place) (cvvr_rows b v leaf) parts.1 e)) in
      λ i. plain i ++ blocks i

module _ (b now records : List ℕ) (same : SameHeads b now records records) where
  room_same : (place : ℕ) → Kept b now place → NodeFits b place → has_room now place ≡ has_room b place
  room_same place k fits =
      let long = node_long (room_at b place) (size_at b place) fits.0 in
      let used = number_kept b now place k.same vxr_n_used_entries (omega arith) in
      let room = number_kept b now place k.same vxr_n_entries (omega arith) in
      let size = size_kept b now place k.same (omega arith) in
      λ i. (nat_le (used i) (room i) && nat_le (room i) signed_limit) && nat_le (28 + 16 * room i) (size i)

  mutual
    unfolding nodes_rows used_rows nodes_of lower_nodes

    nodes_same : (low high : ℤ) (nodes : Nodes) → ((m : ℕ) → In m (nodes_of nodes) → Kept b now m) → ((m : ℕ) → In m (nodes_of nodes) → NodeFits b m) → nodes_rows now records low high nodes ≡ nodes_rows b records low high nodes
    nodes_same low high no_node k fits = refl
    nodes_same low high (node place room entries more) k fits =
        let here = room_same place (k place (inl refl)) (fits place (inl refl)) in
        let used = used_same place low high entries (λ m i. k m (inr (In-append_left m (lower_nodes entries) (nodes_of more) i))) (λ m i. fits m (inr (In-append_left m (lower_nodes entries) (nodes_of more) i))) in
        let rest = nodes_same (end_of low entries) high more (λ m i. k m (inr (In-append_right m (lower_nodes entries) (nodes_of more) i))) (λ m i. fits m (inr (In-append_right m (lower_nodes entries) (nodes_of more) i))) in
        λ i. row 2 place (here i) ∷ used i ++ rest i

    used_same : (vxr : ℕ) (low high : ℤ) (entries : Entries) → ((m : ℕ) → In m (lower_nodes entries) → Kept b now m) → ((m : ℕ) → In m (lower_nodes entries) → NodeFits b m) → used_rows now records vxr low high entries ≡ used_rows b records vxr low high entries
    used_same vxr low high no_entry k fits = refl
    used_same vxr low high (block first last place packed entries) k fits =
        let here = is_block_same b now records same place in
        let rest = used_same vxr (with_sign last) high entries k fits in
        λ i. row 3 vxr (here i) ∷ row 4 vxr (is_between low high first last) ∷ rest i
    used_same vxr low high (lower first last nodes entries) k fits =
        let below = nodes_same (number_before first) (with_sign last) nodes (λ m i. k m (In-append_left m (nodes_of nodes) (lower_nodes entries) i)) (λ m i. fits m (In-append_left m (nodes_of nodes) (lower_nodes entries) i)) in
        let rest = used_same vxr (with_sign last) high entries (λ m i. k m (In-append_right m (nodes_of nodes) (lower_nodes entries) i)) (λ m i. fits m (In-append_right m (nodes_of nodes) (lower_nodes entries) i)) in
        λ i. row 4 vxr (is_between low high first last) ∷ below i ++ rest i

  -- likewise, of all its blocks
  module _ (file : FileSame b now) (fixed : (m : ℕ) → In m records → fixed_size (type_at b m) ≤ size_at b m) (v v' : ℕ) (packed : is_compressed now v' ≡ is_compressed b v) (plain_same : (leaf : Leaf) → plain_size now v' leaf ≡ plain_size b v leaf) where
    leaf_stays : (leaf : Leaf) → Kept b now leaf.place → Hold (leaf_rows b records v leaf) → leaf_rows now records v' leaf ≡ leaf_rows b records v leaf
    leaf_stays leaf = leaf_same b now file v v' packed plain_same records records fixed leaf (λ type. is_a_same b now records same type leaf.place)

    leaves_rules : (leaves : List Leaf) → ((m : ℕ) → In m (map (λ (leaf : Leaf). leaf.place) leaves) → Kept b now m) → Hold (flat_map (leaf_rows b records v) leaves) → Hold (flat_map (leaf_rows now records v') leaves)
    leaves_rules [] kept rules = tt
    leaves_rules (leaf ∷ more) kept rules =
        let parts = Hold-split (leaf_rows b records v leaf) (flat_map (leaf_rows b records v) more) rules in
        Hold-append (leaf_rows now records v' leaf) (flat_map (leaf_rows now records v') more) (subst Hold (sym (leaf_stays leaf (kept leaf.place (inl refl)) parts.0)) parts.0) (leaves_rules more (λ m i. kept m (inr i)) parts.1)

    pub index_rules_copied : (nodes : Nodes) → ((m : ℕ) → In m (nodes_of nodes) → Kept b now m) → ((m : ℕ) → In m (nodes_of nodes) → NodeFits b m) → ((m : ℕ) → In m (map (λ (leaf : Leaf). leaf.place) (leaves_of nodes)) → Kept b now m)
        → Hold (index_rows b records v nodes) → Hold (index_rows now records v' nodes)
    index_rules_copied nodes kept room blocks rules =
        let parts = Hold-split (nodes_rows b records (negsuc 0) (pos record_number_limit) nodes) (flat_map (leaf_rows b records v) (leaves_of nodes)) rules in
        Hold-append (nodes_rows now records (negsuc 0) (pos record_number_limit) nodes) (flat_map (leaf_rows now records v') (leaves_of nodes)) (subst Hold (sym (nodes_same (negsuc 0) (pos record_number_limit) nodes kept room)) parts.0) (leaves_rules (leaves_of nodes) blocks parts.1)

    -- a block that is not packed may hold other records
    leaf_written : (leaf : Leaf) → In leaf.place records → type_at b leaf.place ≡ vvr_type → leaf_rows now records v' leaf ≡ leaf_rows b records v leaf
    leaf_written leaf inside typed =
        let size = same.sizes leaf.place inside in
        let bytes = plain_same leaf in
        let plain = asked_same (is_a now records vvr_type leaf.place) (is_a b records vvr_type leaf.place) (vvr_rows now v' leaf) (vvr_rows b v leaf) (is_a_same b now records same vvr_type leaf.place) (λ e i. row 5 leaf.place (nat_le (12 + bytes i) (size i)) ∷ []) in
        let blocks = asked_same (is_a now records cvvr_type leaf.place) (is_a b records cvvr_type leaf.place) (cvvr_rows now v' leaf) (cvvr_rows b v leaf) (is_a_same b now records same cvvr_type leaf.place) (λ e. absurd (not_packed (sym typed ∙ is_a-type b records cvvr_type leaf.place e))) in
        λ i. plain i ++ blocks i
      where
        not_packed : vvr_type ≡ cvvr_type → ⊥
        not_packed e = true≢false (sym (eq-eqb vvr_type cvvr_type e))

    leaves_written : (leaves : List Leaf) → ((m : ℕ) → In m (map (λ (leaf : Leaf). leaf.place) leaves) → In m records × (Kept b now m ⊎ (type_at b m ≡ vvr_type))) → Hold (flat_map (leaf_rows b records v) leaves) → Hold (flat_map (leaf_rows now records v') leaves)
    leaves_written [] blocks rules = tt
    leaves_written (leaf ∷ more) blocks rules =
        let parts = Hold-split (leaf_rows b records v leaf) (flat_map (leaf_rows b records v) more) rules in
        let own = blocks leaf.place (inl refl) in
        let same_rows : leaf_rows now records v' leaf ≡ leaf_rows b records v leaf = elim own.1 [ inl kept ↦ leaf_stays leaf kept parts.0 | inr typed ↦ leaf_written leaf own.0 typed ] in
        Hold-append (leaf_rows now records v' leaf) (flat_map (leaf_rows now records v') more) (subst Hold (sym same_rows) parts.0) (leaves_written more (λ m i. blocks m (inr i)) parts.1)

    pub index_rules_written : (nodes : Nodes) → ((m : ℕ) → In m (nodes_of nodes) → Kept b now m) → ((m : ℕ) → In m (nodes_of nodes) → NodeFits b m) → ((m : ℕ) → In m (map (λ (leaf : Leaf). leaf.place) (leaves_of nodes)) → In m records × (Kept b now m ⊎ (type_at b m ≡ vvr_type)))
        → Hold (index_rows b records v nodes) → Hold (index_rows now records v' nodes)
    index_rules_written nodes kept room blocks rules =
        let parts = Hold-split (nodes_rows b records (negsuc 0) (pos record_number_limit) nodes) (flat_map (leaf_rows b records v) (leaves_of nodes)) rules in
        Hold-append (nodes_rows now records (negsuc 0) (pos record_number_limit) nodes) (flat_map (leaf_rows now records v') (leaves_of nodes)) (subst Hold (sym (nodes_same (negsuc 0) (pos record_number_limit) nodes kept room)) parts.0) (leaves_written (leaves_of nodes) blocks parts.1)

  -- where it stands but for its link
  pub index_rules_kept : (file : FileSame b now) → ((m : ℕ) → In m records → fixed_size (type_at b m) ≤ size_at b m) → (v : ℕ) → KeptButLink b now v → vdr_end b v ≤ size_at b v → (nodes : Nodes) → ((m : ℕ) → In m (nodes_of nodes) → Kept b now m) → ((m : ℕ) → In m (nodes_of nodes) → NodeFits b m)
      → ((m : ℕ) → In m (map (λ (leaf : Leaf). leaf.place) (leaves_of nodes)) → Kept b now m) → Hold (index_rows b records v nodes) → Hold (index_rows now records v nodes)
  index_rules_kept file fixed v k fits = index_rules_copied file fixed v v (compressed_same b now file v k fits) (plain_copied file (vdr_kept b now file v k fits))
