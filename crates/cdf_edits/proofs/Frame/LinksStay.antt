-- Tilings, chains and indexes stay where sizes, types and links do.
use Rattle.cdf_edits.proofs.Common.{AreTiles, Entries, HasNodes, In, In-append_left, In-append_right, IsChain, IsIndex, Leads, Leaf, List, Names, NodeFits, Nodes, SayEntries, SaysEntry, SaysNode, [], ap, arith, block, counted, cvvr_type, entry_count, entry_leaves, inl, inr, integer_kept, is_in, is_in-true, is_linkable, leaves_of, link_to, linkable-in, lower, lower_nodes, map, map-append, min, nat_le, next_kept, next_of, no_entry, no_node, node, nodes_of, number, number_kept, refl, room_at, size_at, size_kept, subst, suc, sym, true, used_count, vxr_first, vxr_last, vxr_n_entries, vxr_n_used_entries, vxr_offset, vxr_type, zero, ℕ, ◌*◌, ◌+◌, ◌-◌, ◌/◌, ◌==◌, ◌∙◌, ◌∷◌, ◌≡◌, ◌≤◌}
use Rattle.std.proofs.Common.{◌&&◌}
use Rattle.cdf_edits.proofs.Frame.Meaning.{Kept}
pub use Rattle.cdf_edits.specs.Frame.Kept.{SameHeads}

-- the same sizes, the same tiles
pub tiles_same : (b now : List ℕ) (from upto : ℕ) (ts : List ℕ) → AreTiles b from upto ts → ((a : ℕ) → In a ts → size_at now a ≡ size_at b a) → AreTiles now from upto ts
tiles_same b now from upto [] t same = t
tiles_same b now from upto (a ∷ ts) t same =
    let here = same a (inl refl) in (
      t.0,
      (subst (λ (x : ℕ). 12 ≤ x) (sym here) t.1),
      subst (λ (x : ℕ). AreTiles now (from + x) upto ts) (sym here) (tiles_same b now (from + size_at b a) upto ts t.2 (λ c h. same c (inr h))),
    )

pub leads_same : (b now : List ℕ) (link : ℕ) (ms : List ℕ) (end : ℕ) → Leads b link ms end → ((m : ℕ) → In m ms → next_of now m ≡ next_of b m) → Leads now link ms end
leads_same b now link [] end l same = l
leads_same b now link (m ∷ ms) end l same = (l.0, subst (λ (x : ℕ). Leads now x ms end) (sym (same m (inl refl))) (leads_same b now (next_of b m) ms end l.1 (λ x h. same x (inr h))))

module _ (b now records records' : List ℕ) (heads : SameHeads b now records records') where
  pub linkable_same : (type place : ℕ) → In place records → is_linkable now records' type place ≡ is_linkable b records type place
  linkable_same type place i =
      let there : is_in place records' ≡ is_in place records = is_in-true place records' (heads.sub place i) ∙ sym (is_in-true place records i) in
      let t = heads.types place i in
      let s = heads.sizes place i in
      λ k. (there k && (t k == type)) && nat_le 28 (s k)

  pub linkable_kept : (type place : ℕ) → is_linkable b records type place ≡ true → is_linkable now records' type place ≡ true
  linkable_kept type place e = linkable_same type place (linkable-in b records type place e) ∙ e

  pub chain_kept : (type link link' : ℕ) (ms : List ℕ) → IsChain b records type link ms → link' ≡ link → ((m : ℕ) → In m ms → next_of now m ≡ next_of b m) → IsChain now records' type link' ms
  chain_kept type link link' ms c e nexts = record {
    leads = subst (λ (x : ℕ). Leads now x ms 0) (sym e) (leads_same b now link ms 0 c.leads nexts);
    linkable = λ m i. linkable_kept type m (c.linkable m i);
    once = c.once;
  }

  -- ---- indexes

  first_fits : (i r s : ℕ) → suc i ≤ r → 28 + 16 * r ≤ s → 28 + 4 * i + 4 ≤ s
  first_fits i r s l h = omega arith

  last_fits : (i r s : ℕ) → suc i ≤ r → 28 + 16 * r ≤ s → 28 + 4 * r + 4 * i + 4 ≤ s
  last_fits i r s l h = omega arith

  offset_fits : (i r s : ℕ) → suc i ≤ r → 28 + 16 * r ≤ s → 28 + 8 * r + 8 * i + 8 ≤ s
  offset_fits i r s l h = omega arith

  node_long : (r s : ℕ) → 28 + 16 * r ≤ s → 28 ≤ s
  node_long r s h = omega arith

  module _ (place : ℕ) (k : Kept b now place) (fits : NodeFits b place) where
    long : 28 ≤ size_at b place
    long = node_long (room_at b place) (size_at b place) fits.0

    pub room_same : room_at now place ≡ room_at b place
    room_same = number_kept b now place k.same vxr_n_entries (let l = long in omega arith)

    pub used_same : used_count now place ≡ used_count b place
    used_same =
        let u = integer_kept b now place k.same vxr_n_used_entries (let l = long in omega arith) in
        let n = integer_kept b now place k.same vxr_n_entries (let l = long in omega arith) in
        let s = size_kept b now place k.same (let l = long in omega arith) in
        λ i. min (counted (u i)) (min (counted (n i)) ((s i - 28) / 16))

    pub entry_same : (i first last offset : ℕ) → suc i ≤ room_at b place → SaysEntry b place i first last offset → SaysEntry now place i first last offset
    entry_same i first last offset l e =
        let r = room_same in
        record {
          first_is = number_kept b now place k.same (vxr_first i) (first_fits i (room_at b place) (size_at b place) l fits.0) ∙ e.first_is;
          last_is = ap (λ (x : ℕ). number now place (vxr_last x i)) r ∙ number_kept b now place k.same (vxr_last (room_at b place) i) (last_fits i (room_at b place) (size_at b place) l fits.0) ∙ e.last_is;
          offset_is = ap (λ (x : ℕ). number now place (vxr_offset x i)) r ∙ number_kept b now place k.same (vxr_offset (room_at b place) i) (offset_fits i (room_at b place) (size_at b place) l fits.0) ∙ e.offset_is;
        }

    below : (i n r : ℕ) → i + suc n ≤ r → suc i ≤ r
    below i n r h = omega arith

    later : (i n r : ℕ) → i + suc n ≤ r → suc i + n ≤ r
    later i n r h = omega arith

    entries_same : (i : ℕ) (entries : Entries) → i + entry_count entries ≤ room_at b place → SayEntries b place i entries → SayEntries now place i entries
    entries_same i no_entry l s = tt
    entries_same i (block first last offset packed entries) l s =
        (entry_same i first last offset (below i (entry_count entries) (room_at b place) l) s.0, entries_same (suc i) entries (later i (entry_count entries) (room_at b place) l) s.1)
    entries_same i (lower first last nodes entries) l s =
        (entry_same i first last (link_to nodes) (below i (entry_count entries) (room_at b place) l) s.0, entries_same (suc i) entries (later i (entry_count entries) (room_at b place) l) s.1)

    pub node_fits_kept : NodeFits now place
    node_fits_kept =
        let size = size_kept b now place k.same (let l = long in omega arith) in
        let r = room_same in
        let u = used_same in (
          subst (λ (x : ℕ). 28 + 16 * room_at now place ≤ x) (sym size) (subst (λ (x : ℕ). 28 + 16 * x ≤ size_at b place) (sym r) fits.0),
          subst (λ (x : ℕ). used_count now place ≤ x) (sym r) (subst (λ (x : ℕ). x ≤ room_at b place) (sym u) fits.1),
        )

    pub node_kept : (room : ℕ) (entries : Entries) (more : Nodes) → SaysNode b records place room entries more → SaysNode now records' place room entries more
    node_kept room entries more h =
        let count : entry_count entries ≤ room_at b place = subst (λ (x : ℕ). x ≤ room_at b place) h.used_is fits.1 in
        record {
          linkable = linkable_kept vxr_type place h.linkable;
          next_is = next_kept b now place k.same (let l = long in omega arith) ∙ h.next_is;
          room_is = room_same ∙ h.room_is;
          used_is = used_same ∙ h.used_is;
          say_entries = entries_same 0 entries (from_zero (entry_count entries) (room_at b place) count) h.say_entries;
        }
      where
        from_zero : (n r : ℕ) → n ≤ r → 0 + n ≤ r
        from_zero n r h = omega arith

  mutual
    unfolding HasNodes Names nodes_of lower_nodes leaves_of entry_leaves

    pub nodes_kept : (levels : ℕ) (nodes : Nodes) → HasNodes b records levels nodes → ((m : ℕ) → In m (nodes_of nodes) → Kept b now m) → ((m : ℕ) → In m (nodes_of nodes) → NodeFits b m)
        → ((m : ℕ) → In m (map (λ (leaf : Leaf). leaf.place) (leaves_of nodes)) → In m records) → HasNodes now records' levels nodes
    nodes_kept levels no_node h k fits blocks = tt
    nodes_kept zero (node place room entries more) h k fits blocks = h
    nodes_kept (suc levels) (node place room entries more) h k fits blocks =
        let parts = map-append (λ (leaf : Leaf). leaf.place) (entry_leaves entries) (leaves_of more) in
        let es = map (λ (leaf : Leaf). leaf.place) (entry_leaves entries) in
        let ms = map (λ (leaf : Leaf). leaf.place) (leaves_of more) in (
          node_kept place (k place (inl refl)) (fits place (inl refl)) room entries more h.0,
          names_kept levels entries h.1 (λ m i. k m (inr (In-append_left m (lower_nodes entries) (nodes_of more) i))) (λ m i. fits m (inr (In-append_left m (lower_nodes entries) (nodes_of more) i)))
              (λ m i. blocks m (subst (λ (x : List ℕ). In m x) (sym parts) (In-append_left m es ms i))),
          nodes_kept (suc levels) more h.2 (λ m i. k m (inr (In-append_right m (lower_nodes entries) (nodes_of more) i))) (λ m i. fits m (inr (In-append_right m (lower_nodes entries) (nodes_of more) i)))
              (λ m i. blocks m (subst (λ (x : List ℕ). In m x) (sym parts) (In-append_right m es ms i))),
        )

    pub names_kept : (levels : ℕ) (entries : Entries) → Names b records levels entries → ((m : ℕ) → In m (lower_nodes entries) → Kept b now m) → ((m : ℕ) → In m (lower_nodes entries) → NodeFits b m)
        → ((m : ℕ) → In m (map (λ (leaf : Leaf). leaf.place) (entry_leaves entries)) → In m records) → Names now records' levels entries
    names_kept levels no_entry h k fits blocks = tt
    names_kept levels (block first last place packed entries) h k fits blocks =
        let here = blocks place (inl refl) in
        (linkable_same vxr_type place here ∙ h.0, ap (λ (t : ℕ). t == cvvr_type) (heads.types place here) ∙ h.1, names_kept levels entries h.2 k fits (λ m i. blocks m (inr i)))
    names_kept levels (lower first last nodes entries) h k fits blocks =
        let parts = map-append (λ (leaf : Leaf). leaf.place) (leaves_of nodes) (entry_leaves entries) in
        let ns = map (λ (leaf : Leaf). leaf.place) (leaves_of nodes) in
        let es = map (λ (leaf : Leaf). leaf.place) (entry_leaves entries) in (
          h.0,
          nodes_kept levels nodes h.1 (λ m i. k m (In-append_left m (nodes_of nodes) (lower_nodes entries) i)) (λ m i. fits m (In-append_left m (nodes_of nodes) (lower_nodes entries) i))
              (λ m i. blocks m (subst (λ (x : List ℕ). In m x) (sym parts) (In-append_left m ns es i))),
          names_kept levels entries h.2 (λ m i. k m (In-append_right m (nodes_of nodes) (lower_nodes entries) i)) (λ m i. fits m (In-append_right m (nodes_of nodes) (lower_nodes entries) i))
              (λ m i. blocks m (subst (λ (x : List ℕ). In m x) (sym parts) (In-append_right m ns es i))),
        )

  pub index_kept : (link link' : ℕ) (nodes : Nodes) → IsIndex b records link nodes → link' ≡ link → ((m : ℕ) → In m (nodes_of nodes) → Kept b now m) → ((m : ℕ) → In m (nodes_of nodes) → NodeFits b m)
      → ((m : ℕ) → In m (map (λ (leaf : Leaf). leaf.place) (leaves_of nodes)) → In m records) → IsIndex now records' link' nodes
  index_kept link link' nodes x e k fits blocks = record { link_is = e ∙ x.link_is; has_nodes = nodes_kept 8 nodes x.has_nodes k fits blocks; once = x.once }
