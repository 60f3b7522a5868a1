-- What is linked through the used records of an image is linked through them alone, also where some that it does not lead through are gone.
use Rattle.cdf_edits.proofs.Common.{Bool, Distinct, Each, Entries, HasNodes, HasVariable, In, In-append_left, In-append_right, IsChain, Leaf, LeafFits, List, Names, Nodes, VariableFits, VariableShape, [], ap, block, cpr_type, cvvr_type, either, eq-eqb, eqb, eqb-true, false, false-is_in, filter, filter-in, inl, inr, is_a, is_a-from, is_a-in, is_a-type, is_block, is_in, is_in-false, is_linkable, leaves_of, linkable-from, linkable-in, linkable-long, linkable-type, lower, lower_nodes, map, nat_le, no_entry, no_node, node, nodes_of, refl, size_at, suc, sym, true, true≢false, type_at, uir_type, variable_records, vvr_type, vxr_type, zero, ℕ, ◌++◌, ◌∙◌, ◌∷◌, ◌≡◌, ◌≢◌, both, not_false}
pub use Rattle.cdf_format.proofs.SpaceLemmas.{in-filter}
use Rattle.std.proofs.Common.{not, ◌&&◌, ◌||◌}

-- ---- members of a list that pass a test

pub filter-says : (p : ℕ → Bool) (xs : List ℕ) (x : ℕ) → In x (filter p xs) → p x ≡ true
filter-says p [] x i = absurd i
filter-says p (y ∷ ys) x i = elim (either (p y)) [
  | inl t ↦ let j : In x (y ∷ filter p ys) = rw t at i in elim j [ inl h ↦ ap p h ∙ t | inr h ↦ filter-says p ys x h ]
  | inr f ↦ let j : In x (filter p ys) = rw f at i in filter-says p ys x j
]

pub filter-distinct : (p : ℕ → Bool) (xs : List ℕ) → Distinct xs → Distinct (filter p xs)
filter-distinct p [] d = tt
filter-distinct p (y ∷ ys) d = elim (either (p y)) [
  | inl t ↦ rw t ((λ i. d.0 (filter-in p ys y i)), filter-distinct p ys d.1)
  | inr f ↦ rw f (filter-distinct p ys d.1)
]

pub apart : (x y : ℕ) → eqb x y ≡ false → x ≢ y
apart x y e h = absurd (true≢false (sym (eq-eqb x y h) ∙ e))

not_equal : (x y : ℕ) → x ≢ y → not (eqb x y) ≡ true
not_equal x y ne = elim (either (eqb x y)) [ inl e ↦ absurd (ne (eqb-true x y e)) | inr e ↦ rw e refl ]

equal_not : (x y : ℕ) → not (eqb x y) ≡ true → x ≢ y
equal_not x y e h = let t = eq-eqb x y h in let f = rw t at e in absurd (true≢false (sym f))

-- ---- the records of an image that are not of type UIR, and none of those that are gone

abbrev pub is_used : List ℕ → List ℕ → ℕ → Bool
is_used b gone m = not (is_in m gone) && not (eqb (type_at b m) uir_type)

abbrev pub used_but : List ℕ → List ℕ → List ℕ → List ℕ
used_but b gone records = filter (is_used b gone) records

abbrev pub used : List ℕ → List ℕ → List ℕ
used b records = used_but b [] records

module _ (b gone records : List ℕ) where
  pub used-in : (m : ℕ) → In m (used_but b gone records) → In m records
  used-in m i = filter-in (is_used b gone) records m i

  pub used-type : (m : ℕ) → In m (used_but b gone records) → type_at b m ≢ uir_type
  used-type m i = equal_not (type_at b m) uir_type (both (not (is_in m gone)) (not (eqb (type_at b m) uir_type)) (filter-says (is_used b gone) records m i)).1

  pub used-stays : (m : ℕ) → In m (used_but b gone records) → In m gone → ⊥
  used-stays m i = false-is_in m gone (not_false (is_in m gone) (both (not (is_in m gone)) (not (eqb (type_at b m) uir_type)) (filter-says (is_used b gone) records m i)).0)

  pub in-used : (m : ℕ) → In m records → type_at b m ≢ uir_type → (In m gone → ⊥) → In m (used_but b gone records)
  in-used m i other out = in-filter (is_used b gone) records m i (rw (is_in-false m gone out, not_equal (type_at b m) uir_type other) refl)

  pub is_a_used : (type place : ℕ) → type ≢ uir_type → (In place gone → ⊥) → is_a b (used_but b gone records) type place ≡ is_a b records type place
  is_a_used type place other out = elim (either (is_a b records type place)) [
    | inl e ↦
        let t = is_a-type b records type place e in
        is_a-from b (used_but b gone records) type place (in-used place (is_a-in b records type place e) (λ u. other (sym t ∙ u)) out) t ∙ sym e
    | inr e ↦ is_a_less type place e ∙ sym e
  ]
    where
      is_a_less : (type place : ℕ) → is_a b records type place ≡ false → is_a b (used_but b gone records) type place ≡ false
      is_a_less type place e = elim (either (is_a b (used_but b gone records) type place)) [
        | inl f ↦
            let i = used-in place (is_a-in b (used_but b gone records) type place f) in
            absurd (true≢false (sym (is_a-from b records type place i (is_a-type b (used_but b gone records) type place f)) ∙ e))
        | inr f ↦ f
      ]

  pub linkable_used : (type place : ℕ) → type ≢ uir_type → (In place gone → ⊥) → is_linkable b (used_but b gone records) type place ≡ is_linkable b records type place
  linkable_used type place other out = ap (λ (p : Bool). p && nat_le 28 (size_at b place)) (is_a_used type place other out)

  linkable_less : (type place : ℕ) → is_linkable b records type place ≡ false → is_linkable b (used_but b gone records) type place ≡ false
  linkable_less type place e = elim (either (is_linkable b (used_but b gone records) type place)) [
    | inl f ↦
        let i = used-in place (linkable-in b (used_but b gone records) type place f) in
        absurd (true≢false (sym (linkable-from b records type place i (linkable-type b (used_but b gone records) type place f) (linkable-long b (used_but b gone records) type place f)) ∙ e))
    | inr f ↦ f
  ]

  pub chain_used : (type link : ℕ) (ms : List ℕ) → type ≢ uir_type → ((m : ℕ) → In m ms → In m gone → ⊥) → IsChain b records type link ms → IsChain b (used_but b gone records) type link ms
  chain_used type link ms other out c = record { leads = c.leads; linkable = λ m i. linkable_used type m other (out m i) ∙ c.linkable m i; once = c.once }

  vxr : vxr_type ≢ uir_type
  vxr = apart vxr_type uir_type refl

  mutual
    unfolding HasNodes Names nodes_of lower_nodes

    nodes_used : (levels : ℕ) (nodes : Nodes) → ((m : ℕ) → In m (nodes_of nodes) → In m gone → ⊥) → HasNodes b records levels nodes → HasNodes b (used_but b gone records) levels nodes
    nodes_used levels no_node out h = tt
    nodes_used zero (node place room entries more) out h = h
    nodes_used (suc levels) (node place room entries more) out h = (
      record {
        linkable = linkable_used vxr_type place vxr (out place (inl refl)) ∙ h.0.linkable;
        next_is = h.0.next_is;
        room_is = h.0.room_is;
        used_is = h.0.used_is;
        say_entries = h.0.say_entries;
      },
      names_used levels entries (λ m i. out m (inr (In-append_left m (lower_nodes entries) (nodes_of more) i))) h.1,
      nodes_used (suc levels) more (λ m i. out m (inr (In-append_right m (lower_nodes entries) (nodes_of more) i))) h.2,
    )

    names_used : (levels : ℕ) (entries : Entries) → ((m : ℕ) → In m (lower_nodes entries) → In m gone → ⊥) → Names b records levels entries → Names b (used_but b gone records) levels entries
    names_used levels no_entry out h = tt
    names_used levels (block first last place packed entries) out h = (linkable_less vxr_type place h.0, h.1, names_used levels entries out h.2)
    names_used levels (lower first last nodes entries) out h = (
      h.0,
      nodes_used levels nodes (λ m i. out m (In-append_left m (nodes_of nodes) (lower_nodes entries) i)) h.1,
      names_used levels entries (λ m i. out m (In-append_right m (nodes_of nodes) (lower_nodes entries) i)) h.2,
    )

  abbrev blocks_of : VariableShape → List ℕ
  blocks_of v = map (λ (leaf : Leaf). leaf.place) (leaves_of v.index)

  pub variable_used : (v : VariableShape) → ((m : ℕ) → In m (variable_records v) → In m gone → ⊥) → HasVariable b records v → HasVariable b (used_but b gone records) v
  variable_used v out has = record {
    indexed = record {
      link_is = has.indexed.link_is;
      has_nodes = nodes_used 8 v.index (λ m i. out m (inr (In-append_left m (nodes_of v.index ++ blocks_of v) v.cpr (In-append_left m (nodes_of v.index) (blocks_of v) i)))) has.indexed.has_nodes;
      once = has.indexed.once;
    };
    packed_by = has.packed_by;
  }

  block_used : (place : ℕ) → (In place gone → ⊥) → is_block b (used_but b gone records) place ≡ is_block b records place
  block_used place out =
      let p = is_a_used vvr_type place (apart vvr_type uir_type refl) out in
      let q = is_a_used cvvr_type place (apart cvvr_type uir_type refl) out in
      λ k. p k || q k

  leaves_used : (vdr : ℕ) (leaves : List Leaf) → ((m : ℕ) → In m (map (λ (leaf : Leaf). leaf.place) leaves) → In m gone → ⊥) → Each (LeafFits b records vdr) leaves → Each (LeafFits b (used_but b gone records) vdr) leaves
  leaves_used vdr [] out fits = tt
  leaves_used vdr (leaf ∷ more) out fits = ((block_used leaf.place (out leaf.place (inl refl)) ∙ fits.0.0, fits.0.1), leaves_used vdr more (λ m i. out m (inr i)) fits.1)

  cprs_used : (cs : List ℕ) → ((m : ℕ) → In m cs → In m gone → ⊥) → Each (λ cpr. is_a b records cpr_type cpr ≡ true) cs → Each (λ cpr. is_a b (used_but b gone records) cpr_type cpr ≡ true) cs
  cprs_used [] out h = tt
  cprs_used (c ∷ cs) out h = (is_a_used cpr_type c (apart cpr_type uir_type refl) (out c (inl refl)) ∙ h.0, cprs_used cs (λ m i. out m (inr i)) h.1)

  pub fits_used : (v : VariableShape) → ((m : ℕ) → In m (variable_records v) → In m gone → ⊥) → VariableFits b records v → VariableFits b (used_but b gone records) v
  fits_used v out fits = (
    fits.0,
    fits.1,
    leaves_used v.vdr (leaves_of v.index) (λ m i. out m (inr (In-append_left m (nodes_of v.index ++ blocks_of v) v.cpr (In-append_right m (nodes_of v.index) (blocks_of v) i)))) fits.2,
    cprs_used v.cpr (λ m i. out m (inr (In-append_right m (nodes_of v.index ++ blocks_of v) v.cpr i))) fits.3,
  )
