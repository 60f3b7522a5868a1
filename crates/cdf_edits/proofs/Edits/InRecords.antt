-- What is linked through some records of an image is linked through others that hold the same ones.
use Rattle.cdf_edits.proofs.Common.{Bool, Each, Entries, HasNodes, In, In-append_left, In-append_right, IsIndex, Leaf, LeafFits, List, Names, Nodes, Row, [], ap, asked, block, cpr_link, cpr_p_count, cpr_rows, cpr_type, cvvr_rows, cvvr_type, end_of, entry_leaves, false, flat_map, has_dimensions, has_elements, has_name, has_room, index_rows, inl, inr, is_a, is_between, is_block, is_compressed, is_cpr, is_in, is_in-true, is_known_packing, is_linkable, is_max_rec, is_named_apart, is_no_link, is_positive, is_some, is_z, known_type, leaf_rows, leaves_of, lower, lower_nodes, map, map-append, nat_le, negsuc, no_entry, no_node, node, nodes_of, nodes_rows, number, number_before, pos, record_bytes, record_limit, record_number_limit, refl, row, size_at, subst, suc, sym, true, type_at, used_rows, variable_rows, vdr_data_type, vdr_end, vdr_max_rec, vdr_name, vdr_s_records, vvr_rows, vvr_type, vxr_type, with_sign, zero, ℕ, ℤ, ◌*◌, ◌++◌, ◌+◌, ◌==◌, ◌∙◌, ◌∷◌, ◌≡◌}
use Rattle.std.proofs.Common.{not, ◌&&◌, ◌||◌}
use Rattle.cdf_edits.proofs.Rules.OfVariables.{asked_same}

-- a record that both have
abbrev pub InBoth : List ℕ → List ℕ → ℕ → Type 0
InBoth r r' m = In m r × In m r'

abbrev pub places_of : List Leaf → List ℕ
places_of leaves = map (λ (leaf : Leaf). leaf.place) leaves

-- the rules of a variable that are not asked of its CPR
abbrev first_rows : List ℕ → List ℕ → ℕ → List Row
first_rows b vdrs vdr =
    row 1 vdr (has_name b vdr vdr_name)
    ∷ row 2 vdr (is_named_apart b vdrs vdr)
    ∷ row 3 vdr (is_some (known_type b vdr vdr_data_type))
    ∷ row 4 vdr (has_elements b vdr)
    ∷ row 5 vdr (not (is_z b vdr) || has_dimensions b vdr)
    ∷ row 6 vdr (nat_le (vdr_end b vdr) (size_at b vdr))
    ∷ row 7 vdr (nat_le (record_bytes b vdr) record_limit)
    ∷ row 8 vdr (is_max_rec (number b vdr vdr_max_rec))
    ∷ row 9 vdr (nat_le (number b vdr vdr_s_records) 2)
    ∷ row 10 vdr (is_compressed b vdr || is_no_link (cpr_link b vdr))
    ∷ []

unless_same : (p x y : Bool) → (p ≡ true → x ≡ y) → (not p || x) ≡ (not p || y)
unless_same true x y f = f refl
unless_same false x y f = refl

module _ (b r r' : List ℕ) where
  is_in_both : (m : ℕ) → InBoth r r' m → is_in m r' ≡ is_in m r
  is_in_both m i = is_in-true m r' i.1 ∙ sym (is_in-true m r i.0)

  pub is_a_both : (type m : ℕ) → InBoth r r' m → is_a b r' type m ≡ is_a b r type m
  is_a_both type m i = let e = is_in_both m i in λ k. e k && (type_at b m == type)

  pub linkable_both : (type m : ℕ) → InBoth r r' m → is_linkable b r' type m ≡ is_linkable b r type m
  linkable_both type m i = let e = is_a_both type m i in λ k. e k && nat_le 28 (size_at b m)

  block_both : (m : ℕ) → InBoth r r' m → is_block b r' m ≡ is_block b r m
  block_both m i = let p = is_a_both vvr_type m i in let q = is_a_both cvvr_type m i in λ k. p k || q k

  mutual
    unfolding HasNodes Names nodes_of lower_nodes leaves_of entry_leaves

    nodes_both : (levels : ℕ) (nodes : Nodes) → ((m : ℕ) → In m (nodes_of nodes) → InBoth r r' m) → ((m : ℕ) → In m (places_of (leaves_of nodes)) → InBoth r r' m) → HasNodes b r levels nodes → HasNodes b r' levels nodes
    nodes_both levels no_node n p h = tt
    nodes_both zero (node place room entries more) n p h = h
    nodes_both (suc levels) (node place room entries more) n p h =
        let parts = map-append (λ (leaf : Leaf). leaf.place) (entry_leaves entries) (leaves_of more) in
        let es = places_of (entry_leaves entries) in
        let ms = places_of (leaves_of more) in (
          record {
            linkable = linkable_both vxr_type place (n place (inl refl)) ∙ h.0.linkable;
            next_is = h.0.next_is;
            room_is = h.0.room_is;
            used_is = h.0.used_is;
            say_entries = h.0.say_entries;
          },
          names_both levels entries (λ m i. n m (inr (In-append_left m (lower_nodes entries) (nodes_of more) i))) (λ m i. p m (subst (λ (x : List ℕ). In m x) (sym parts) (In-append_left m es ms i))) h.1,
          nodes_both (suc levels) more (λ m i. n m (inr (In-append_right m (lower_nodes entries) (nodes_of more) i))) (λ m i. p m (subst (λ (x : List ℕ). In m x) (sym parts) (In-append_right m es ms i))) h.2,
        )

    names_both : (levels : ℕ) (entries : Entries) → ((m : ℕ) → In m (lower_nodes entries) → InBoth r r' m) → ((m : ℕ) → In m (places_of (entry_leaves entries)) → InBoth r r' m) → Names b r levels entries → Names b r' levels entries
    names_both levels no_entry n p h = tt
    names_both levels (block first last place packed entries) n p h = (linkable_both vxr_type place (p place (inl refl)) ∙ h.0, h.1, names_both levels entries n (λ m i. p m (inr i)) h.2)
    names_both levels (lower first last nodes entries) n p h =
        let parts = map-append (λ (leaf : Leaf). leaf.place) (leaves_of nodes) (entry_leaves entries) in
        let ns = places_of (leaves_of nodes) in
        let es = places_of (entry_leaves entries) in (
          h.0,
          nodes_both levels nodes (λ m i. n m (In-append_left m (nodes_of nodes) (lower_nodes entries) i)) (λ m i. p m (subst (λ (x : List ℕ). In m x) (sym parts) (In-append_left m ns es i))) h.1,
          names_both levels entries (λ m i. n m (In-append_right m (nodes_of nodes) (lower_nodes entries) i)) (λ m i. p m (subst (λ (x : List ℕ). In m x) (sym parts) (In-append_right m ns es i))) h.2,
        )

  pub index_both : (link : ℕ) (nodes : Nodes) → ((m : ℕ) → In m (nodes_of nodes) → InBoth r r' m) → ((m : ℕ) → In m (places_of (leaves_of nodes)) → InBoth r r' m) → IsIndex b r link nodes → IsIndex b r' link nodes
  index_both link nodes n p x = record { link_is = x.link_is; has_nodes = nodes_both 8 nodes n p x.has_nodes; once = x.once }

  -- ---- rules

  mutual
    unfolding nodes_rows used_rows nodes_of lower_nodes leaves_of entry_leaves

    nodes_rows_both : (low high : ℤ) (nodes : Nodes) → ((m : ℕ) → In m (places_of (leaves_of nodes)) → InBoth r r' m) → nodes_rows b r' low high nodes ≡ nodes_rows b r low high nodes
    nodes_rows_both low high no_node p = refl
    nodes_rows_both low high (node place room entries more) p =
        let parts = map-append (λ (leaf : Leaf). leaf.place) (entry_leaves entries) (leaves_of more) in
        let es = places_of (entry_leaves entries) in
        let ms = places_of (leaves_of more) in
        let used = used_rows_both place low high entries (λ m i. p m (subst (λ (x : List ℕ). In m x) (sym parts) (In-append_left m es ms i))) in
        let rest = nodes_rows_both (end_of low entries) high more (λ m i. p m (subst (λ (x : List ℕ). In m x) (sym parts) (In-append_right m es ms i))) in
        λ i. row 2 place (has_room b place) ∷ used i ++ rest i

    used_rows_both : (vxr : ℕ) (low high : ℤ) (entries : Entries) → ((m : ℕ) → In m (places_of (entry_leaves entries)) → InBoth r r' m) → used_rows b r' vxr low high entries ≡ used_rows b r vxr low high entries
    used_rows_both vxr low high no_entry p = refl
    used_rows_both vxr low high (block first last place packed entries) p =
        let here = block_both place (p place (inl refl)) in
        let rest = used_rows_both vxr (with_sign last) high entries (λ m i. p m (inr i)) in
        λ i. row 3 vxr (here i) ∷ row 4 vxr (is_between low high first last) ∷ rest i
    used_rows_both vxr low high (lower first last nodes entries) p =
        let parts = map-append (λ (leaf : Leaf). leaf.place) (leaves_of nodes) (entry_leaves entries) in
        let ns = places_of (leaves_of nodes) in
        let es = places_of (entry_leaves entries) in
        let below = nodes_rows_both (number_before first) (with_sign last) nodes (λ m i. p m (subst (λ (x : List ℕ). In m x) (sym parts) (In-append_left m ns es i))) in
        let rest = used_rows_both vxr (with_sign last) high entries (λ m i. p m (subst (λ (x : List ℕ). In m x) (sym parts) (In-append_right m ns es i))) in
        λ i. row 4 vxr (is_between low high first last) ∷ below i ++ rest i

  leaves_rows_both : (vdr : ℕ) (leaves : List Leaf) → ((m : ℕ) → In m (places_of leaves) → InBoth r r' m) → flat_map (leaf_rows b r' vdr) leaves ≡ flat_map (leaf_rows b r vdr) leaves
  leaves_rows_both vdr [] p = refl
  leaves_rows_both vdr (leaf ∷ more) p =
      let plain = is_a_both vvr_type leaf.place (p leaf.place (inl refl)) in
      let packed = is_a_both cvvr_type leaf.place (p leaf.place (inl refl)) in
      let rest = leaves_rows_both vdr more (λ m i. p m (inr i)) in
      λ i. (asked (plain i) (vvr_rows b vdr leaf) ++ asked (packed i) (cvvr_rows b vdr leaf)) ++ rest i

  pub index_rows_both : (vdr : ℕ) (nodes : Nodes) → ((m : ℕ) → In m (places_of (leaves_of nodes)) → InBoth r r' m) → index_rows b r' vdr nodes ≡ index_rows b r vdr nodes
  index_rows_both vdr nodes p =
      let above = nodes_rows_both (negsuc 0) (pos record_number_limit) nodes p in
      let blocks = leaves_rows_both vdr (leaves_of nodes) p in
      λ i. above i ++ blocks i

  pub variable_rows_both : (ids : List ℕ) (vdr : ℕ) → (is_compressed b vdr ≡ true → InBoth r r' (cpr_link b vdr)) → variable_rows b r' ids vdr ≡ variable_rows b r ids vdr
  variable_rows_both ids vdr p =
      let cpr : is_compressed b vdr ≡ true → is_cpr b r' (cpr_link b vdr) ≡ is_cpr b r (cpr_link b vdr) = λ e. ap (λ (q : Bool). q && (is_positive (number b (cpr_link b vdr) cpr_p_count) && nat_le (24 + 4 * number b (cpr_link b vdr) cpr_p_count) (size_at b (cpr_link b vdr)))) (is_a_both cpr_type (cpr_link b vdr) (p e)) in
      let eleventh = unless_same (is_compressed b vdr) (is_cpr b r' (cpr_link b vdr)) (is_cpr b r (cpr_link b vdr)) cpr in
      let twelfth = asked_same (is_compressed b vdr) (is_compressed b vdr) (cpr_rows b r' (cpr_link b vdr)) (cpr_rows b r (cpr_link b vdr)) refl (λ e. ap (λ (q : Bool). asked q (row 12 (cpr_link b vdr) (is_known_packing b (cpr_link b vdr)) ∷ [])) (cpr e)) in
      λ i. first_rows b ids vdr ++ (row 11 vdr (eleventh i) ∷ twelfth i)

  pub leaves_fit_both : (vdr : ℕ) (leaves : List Leaf) → ((m : ℕ) → In m (places_of leaves) → InBoth r r' m) → Each (LeafFits b r vdr) leaves → Each (LeafFits b r' vdr) leaves
  leaves_fit_both vdr [] p fits = tt
  leaves_fit_both vdr (leaf ∷ more) p fits = ((block_both leaf.place (p leaf.place (inl refl)) ∙ fits.0.0, fits.0.1), leaves_fit_both vdr more (λ m i. p m (inr i)) fits.1)

  pub cprs_both : (cs : List ℕ) → ((m : ℕ) → In m cs → InBoth r r' m) → Each (λ cpr. is_a b r cpr_type cpr ≡ true) cs → Each (λ cpr. is_a b r' cpr_type cpr ≡ true) cs
  cprs_both [] p h = tt
  cprs_both (c ∷ cs) p h = (is_a_both cpr_type c (p c (inl refl)) ∙ h.0, cprs_both cs (λ m i. p m (inr i)) h.1)
