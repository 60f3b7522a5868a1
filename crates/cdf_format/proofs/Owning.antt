-- The records that an image owns are its records, each once.
use Rattle.std.proofs.Common.{◌≡◌, ◌⊎◌, ℕ, ℤ, negsuc, suc, ◌+◌, ◌≤◌, List, [], ◌∷◌, ◌++◌, length, map, Bool, true, false, not, ◌||◌, eqb, eq-eqb, refl, sym, ap, ap₂, subst, ◌∙◌, arith, inl, inr}
use Rattle.cdf_format.proofs.Common.{eqb-true, flat_map, filter, size_at, type_at, with_sign, number_before, vxr_type, vvr_type, cvvr_type, cpr_type, uir_type, adr_type, agr_edr_type, az_edr_type, r_vdr_type, z_vdr_type, cdr_type, gdr_type, Row, Hold, In, Distinct, AreTiles, is_a, is_in, Nodes, no_node, node, Entries, no_entry, block, lower, Leaf, nodes_of, is_block, end_of, leaf_rows, index_rows, cpr_link, is_cpr, variable_rows, AttributeShape, VariableShape, Shape, vdrs, variables, is_compressed, cpr_of, Each, HasEntries, HasVariable, unused_records, owned_records}
use Rattle.std.proofs.lemmas.List.{map-append}
use Rattle.cdf_model.specs.declared.kinds.Kind.{Kind}
use Rattle.cdf_model.specs.declared.kinds.Kind.TheVariants.{R, Z}
use Rattle.cdf_format.specs.Index.{leaves_of, entry_leaves}
use Rattle.cdf_format.specs.IndexRules.{nodes_rows, used_rows}
use Rattle.cdf_format.specs.Owners.{Owner, File, OneAttribute, OneVariable, Unused, attribute_records, variable_records, owned_by, owned_by_attributes, owned_by_variables, times}
use Rattle.cdf_format.proofs.GoodByShape.{IsGoodByShape}
use Rattle.cdf_format.proofs.Members.{either, In-append, true-is_in, false-is_in}
use Rattle.cdf_format.proofs.TilesLemmas.{tile_lies}
use Rattle.cdf_format.proofs.ChainsLemmas.{is_a-in, linkable-in}
use Rattle.cdf_format.proofs.IndexLemmas.{nodes_stand}
use Rattle.cdf_format.proofs.RowLemmas.{Hold-split}
use Rattle.cdf_format.proofs.ShapeLemmas.{Each-split}
use Rattle.cdf_format.proofs.Tests.{both}

-- ---- counts

pub times-none : (x : ℕ) (xs : List ℕ) → (In x xs → ⊥) → times x xs ≡ 0
times-none x [] out = refl
times-none x (y ∷ ys) out =
    let apart : eqb x y ≡ false = elim (either (eqb x y)) [ inl e ↦ absurd (out (inl (eqb-true x y e))) | inr e ↦ e ] in
    rw apart (times-none x ys (λ i. out (inr i)))

pub times-once : (x : ℕ) (xs : List ℕ) → Distinct xs → In x xs → times x xs ≡ 1
times-once x [] d i = absurd i
times-once x (y ∷ ys) d (inl e) = rw (eq-eqb x y e) (ap suc (times-none x ys (λ i. d.0 (subst (λ (z : ℕ). In z ys) e i))))
times-once x (y ∷ ys) d (inr i) =
    let apart : eqb x y ≡ false = elim (either (eqb x y)) [ inl e ↦ absurd (d.0 (subst (λ (z : ℕ). In z ys) (eqb-true x y e) i)) | inr e ↦ e ] in
    rw apart (times-once x ys d.1 i)

pub tiles_distinct : (b : List ℕ) (from upto : ℕ) (ts : List ℕ) → AreTiles b from upto ts → Distinct ts
tiles_distinct b from upto [] t = tt
tiles_distinct b from upto (a ∷ ts) t =
    let here : a ≡ from = t.0 in
    let long : 12 ≤ size_at b a = t.1 in
    ((λ i. let l = tile_lies b (from + size_at b a) upto ts a t.2 i in let low = l.low in absurd {A = ⊥} (omega arith)), tiles_distinct b (from + size_at b a) upto ts t.2)

-- ---- the list without its owners

offsets : List (ℕ × Owner) → List ℕ
offsets list = map (λ (p : ℕ × Owner). p.0) list

owned_by-is : (o : Owner) (xs : List ℕ) → offsets (owned_by o xs) ≡ xs
unfolding offsets
owned_by-is o [] = refl
owned_by-is o (x ∷ xs) = ap (λ (r : List ℕ). x ∷ r) (owned_by-is o xs)

offsets-append : (xs ys : List (ℕ × Owner)) → offsets (xs ++ ys) ≡ offsets xs ++ offsets ys
unfolding offsets
offsets-append [] ys = refl
offsets-append (x ∷ xs) ys = ap (λ (r : List ℕ). x.0 ∷ r) (offsets-append xs ys)

attributes-is : (n : ℕ) (as_ : List AttributeShape) → offsets (owned_by_attributes n as_) ≡ flat_map attribute_records as_
unfolding offsets
attributes-is n [] = refl
attributes-is n (a ∷ more) = offsets-append (owned_by (OneAttribute n) (attribute_records a)) (owned_by_attributes (suc n) more) ∙ ap₂ (λ (x y : List ℕ). x ++ y) (owned_by-is (OneAttribute n) (attribute_records a)) (attributes-is (suc n) more)

variables-is : (kind : Kind) (n : ℕ) (vs : List VariableShape) → offsets (owned_by_variables kind n vs) ≡ flat_map variable_records vs
unfolding offsets
variables-is kind n [] = refl
variables-is kind n (v ∷ more) = offsets-append (owned_by (OneVariable kind n) (variable_records v)) (owned_by_variables kind (suc n) more) ∙ ap₂ (λ (x y : List ℕ). x ++ y) (owned_by-is (OneVariable kind n) (variable_records v)) (variables-is kind (suc n) more)

pub owned_is : (b : List ℕ) (s : Shape) → owned_records b s ≡ (8 ∷ s.gdr ∷ []) ++ flat_map attribute_records s.attributes ++ flat_map variable_records s.r_variables ++ flat_map variable_records s.z_variables ++ unused_records b s
unfolding offsets
owned_is b s =
    let f = owned_by File (8 ∷ s.gdr ∷ []) in
    let a = owned_by_attributes 0 s.attributes in
    let r = owned_by_variables R 0 s.r_variables in
    let z = owned_by_variables Z 0 s.z_variables in
    let u = owned_by Unused (unused_records b s) in
    offsets-append (f ++ a ++ r ++ z) u
    ∙ ap₂ (λ (x y : List ℕ). x ++ y)
    (offsets-append (f ++ a ++ r) z
    ∙ ap₂ (λ (x y : List ℕ). x ++ y)
    (offsets-append (f ++ a) r ∙ ap₂ (λ (x y : List ℕ). x ++ y) (offsets-append f a ∙ ap (λ (x : List ℕ). (8 ∷ s.gdr ∷ []) ++ x) (attributes-is 0 s.attributes)) (variables-is R 0 s.r_variables))
    (variables-is Z 0 s.z_variables))
    (owned_by-is Unused (unused_records b s))

-- ---- each is a record of the image

pub filter-in : (p : ℕ → Bool) (xs : List ℕ) (x : ℕ) → In x (filter p xs) → In x xs
filter-in p [] x i = absurd i
filter-in p (y ∷ ys) x i = elim (either (p y)) [
  | inl e ↦ let j : In x (y ∷ filter p ys) = rw e at i in elim j [ inl h ↦ inl h | inr h ↦ inr (filter-in p ys x h) ]
  | inr e ↦ let j : In x (filter p ys) = rw e at i in inr (filter-in p ys x j)
]

pub block_in : (b ts : List ℕ) (place : ℕ) → is_block b ts place ≡ true → In place ts
block_in b ts place e = elim (or_cases (is_a b ts vvr_type place) (is_a b ts cvvr_type place) e) [ inl p ↦ is_a-in b ts vvr_type place p | inr p ↦ is_a-in b ts cvvr_type place p ]
  where
    or_cases : (p q : Bool) → (p || q) ≡ true → (p ≡ true) ⊎ (q ≡ true)
    or_cases true q h = inl refl
    or_cases false q h = inr h

module _ (b ts : List ℕ) where
  mutual
    unfolding nodes_rows used_rows leaves_of entry_leaves

    pub blocks_in : (low high : ℤ) (nodes : Nodes) → Hold (nodes_rows b ts low high nodes) → (m : ℕ) → In m (map (λ (leaf : Leaf). leaf.place) (leaves_of nodes)) → is_block b ts m ≡ true
    blocks_in low high no_node h m i = absurd i
    blocks_in low high (node place room entries more) h m i =
        let p = Hold-split (used_rows b ts place low high entries) (nodes_rows b ts (end_of low entries) high more) h.1 in
        elim (In-append m (map (λ (leaf : Leaf). leaf.place) (entry_leaves entries)) (map (λ (leaf : Leaf). leaf.place) (leaves_of more)) (subst (λ (x : List ℕ). In m x) (map-append (λ (leaf : Leaf). leaf.place) (entry_leaves entries) (leaves_of more)) i)) [
          | inl j ↦ entry_blocks_in place low high entries p.0 m j
          | inr j ↦ blocks_in (end_of low entries) high more p.1 m j
        ]

    pub entry_blocks_in : (vxr : ℕ) (low high : ℤ) (entries : Entries) → Hold (used_rows b ts vxr low high entries) → (m : ℕ) → In m (map (λ (leaf : Leaf). leaf.place) (entry_leaves entries)) → is_block b ts m ≡ true
    entry_blocks_in vxr low high no_entry h m i = absurd i
    entry_blocks_in vxr low high (block first last place packed entries) h m (inl e) = ap (is_block b ts) e ∙ h.0
    entry_blocks_in vxr low high (block first last place packed entries) h m (inr i) = entry_blocks_in vxr (with_sign last) high entries h.1.1 m i
    entry_blocks_in vxr low high (lower first last nodes entries) h m i =
        let p = Hold-split (nodes_rows b ts (number_before first) (with_sign last) nodes) (used_rows b ts vxr (with_sign last) high entries) h.1 in
        elim (In-append m (map (λ (leaf : Leaf). leaf.place) (leaves_of nodes)) (map (λ (leaf : Leaf). leaf.place) (entry_leaves entries)) (subst (λ (x : List ℕ). In m x) (map-append (λ (leaf : Leaf). leaf.place) (leaves_of nodes) (entry_leaves entries)) i)) [
          | inl j ↦ blocks_in (number_before first) (with_sign last) nodes p.0 m j
          | inr j ↦ entry_blocks_in vxr (with_sign last) high entries p.1 m j
        ]

cpr_in : (b ts : List ℕ) (vdr : ℕ) → (not (is_compressed b vdr) || is_cpr b ts (cpr_link b vdr)) ≡ true → (m : ℕ) → In m (cpr_of b vdr) → In m ts
cpr_in b ts vdr row m i = elim (either (is_compressed b vdr)) [
  | inl e ↦
      let j : In m (cpr_link b vdr ∷ []) = rw e at i in
      let here : is_cpr b ts (cpr_link b vdr) ≡ true = rw e at row in
      let stands = (both (is_a b ts cpr_type (cpr_link b vdr)) _ here).0 in
      elim j [ inl h ↦ subst (λ (z : ℕ). In z ts) (sym h) (is_a-in b ts cpr_type (cpr_link b vdr) stands) | inr n ↦ absurd n ]
  | inr e ↦ let j : In m [] = rw e at i in absurd j
]

pub attributes_in : (b ts : List ℕ) (as_ : List AttributeShape) → Each (HasEntries b ts) as_ → ((m : ℕ) → In m (map (λ (a : AttributeShape). a.adr) as_) → In m ts) → (m : ℕ) → In m (flat_map attribute_records as_) → In m ts
attributes_in b ts [] h adr m i = absurd i
attributes_in b ts (a ∷ more) h adr m i = elim (In-append m (attribute_records a) (flat_map attribute_records more) i) [
  | inl j ↦ elim j [
    | inl e ↦ subst (λ (z : ℕ). In z ts) (sym e) (adr a.adr (inl refl))
    | inr k ↦ elim (In-append m a.gr_entries a.z_entries k) [ inl x ↦ linkable-in b ts agr_edr_type m (h.0.gr_chain.linkable m x) | inr x ↦ linkable-in b ts az_edr_type m (h.0.z_chain.linkable m x) ]
  ]
  | inr j ↦ attributes_in b ts more h.1 (λ x y. adr x (inr y)) m j
]

abbrev IndexRows : List ℕ → List ℕ → List VariableShape → Type 0
IndexRows b ts vs = Hold (flat_map (λ (v : VariableShape). index_rows b ts v.vdr v.index) vs)

variables_in : (b ts ids : List ℕ) (vs : List VariableShape) → Each (HasVariable b ts) vs → ((m : ℕ) → In m (vdrs vs) → In m ts) → Hold (flat_map (variable_rows b ts ids) (vdrs vs)) → IndexRows b ts vs → (m : ℕ) → In m (flat_map variable_records vs) → In m ts
variables_in b ts ids [] h vdr rules7 rules8 m i = absurd i
variables_in b ts ids (v ∷ more) h vdr rules7 rules8 m i =
    let p7 = Hold-split (variable_rows b ts ids v.vdr) (flat_map (variable_rows b ts ids) (vdrs more)) rules7 in
    let p8 = Hold-split (index_rows b ts v.vdr v.index) (flat_map (λ (v : VariableShape). index_rows b ts v.vdr v.index) more) rules8 in
    let q8 = Hold-split (nodes_rows b ts (negsuc 0) _ v.index) (flat_map (leaf_rows b ts v.vdr) (leaves_of v.index)) p8.0 in
    let nodes = nodes_of v.index in
    let blocks = map (λ (leaf : Leaf). leaf.place) (leaves_of v.index) in
    elim (In-append m (variable_records v) (flat_map variable_records more) i) [
      | inl j ↦ elim j [
        | inl e ↦ subst (λ (z : ℕ). In z ts) (sym e) (vdr v.vdr (inl refl))
        | inr k ↦ elim (In-append m (nodes ++ blocks) v.cpr k) [
          | inl x ↦ elim (In-append m nodes blocks x) [
            | inl y ↦ linkable-in b ts vxr_type m (nodes_stand b ts 8 v.index h.0.indexed.has_nodes m y)
            | inr y ↦ block_in b ts m (blocks_in b ts (negsuc 0) _ v.index q8.0 m y)
          ]
          | inr x ↦ cpr_in b ts v.vdr p7.0.1.1.1.1.1.1.1.1.1.1.0 m (subst (λ (z : List ℕ). In m z) (sym h.0.packed_by) x)
        ]
      ]
      | inr j ↦ variables_in b ts ids more h.1 (λ x y. vdr x (inr y)) p7.1 p8.1 m j
    ]

pub owned_stand : (b : List ℕ) (s : Shape) → IsGoodByShape b s → (m : ℕ) → In m (owned_records b s) → In m s.records
owned_stand b s g m i =
    let h = g.has_shape in
    let ts = s.records in
    let a = flat_map attribute_records s.attributes in
    let r = flat_map variable_records s.r_variables in
    let z = flat_map variable_records s.z_variables in
    let f : List ℕ = 8 ∷ s.gdr ∷ [] in
    let have = Each-split (HasVariable b ts) s.r_variables s.z_variables h.have_variables in
    let rules7 = Hold-split (flat_map (variable_rows b ts (vdrs (variables s))) (vdrs s.r_variables)) (flat_map (variable_rows b ts (vdrs (variables s))) (vdrs s.z_variables)) (split7 (vdrs (variables s)) s.r_variables s.z_variables g.of_variables) in
    let rules8 = split8 s.r_variables s.z_variables g.indexes in
    elim (In-append m (f ++ a ++ r ++ z) (unused_records b s) (subst (λ (x : List ℕ). In m x) (owned_is b s) i)) [
      | inr j ↦ filter-in (λ place. eqb (type_at b place) uir_type) ts m j
      | inl j ↦ elim (In-append m (f ++ a ++ r) z j) [
        | inr k ↦ variables_in b ts (vdrs (variables s)) s.z_variables have.1 (λ x y. linkable-in b ts z_vdr_type x (h.z_chain.linkable x y)) rules7.1 rules8.1 m k
        | inl k ↦ elim (In-append m (f ++ a) r k) [
          | inr l ↦ variables_in b ts (vdrs (variables s)) s.r_variables have.0 (λ x y. linkable-in b ts r_vdr_type x (h.r_chain.linkable x y)) rules7.0 rules8.0 m l
          | inl l ↦ elim (In-append m f a l) [
            | inr n ↦ attributes_in b ts s.attributes h.entry_chains (λ x y. linkable-in b ts adr_type x (h.attribute_chain.linkable x y)) m n
            | inl n ↦ elim n [
              | inl e ↦ subst (λ (x : ℕ). In x ts) (sym e) (is_a-in b ts cdr_type 8 h.cdr_stands)
              | inr n' ↦ elim n' [ inl e ↦ subst (λ (x : ℕ). In x ts) (sym e) (is_a-in b ts gdr_type s.gdr h.gdr_stands) | inr none ↦ absurd none ]
            ]
          ]
        ]
      ]
    ]
  where
    split7 : (ids : List ℕ) (vs ws : List VariableShape) → Hold (flat_map (variable_rows b s.records ids) (vdrs (vs ++ ws))) → Hold (flat_map (variable_rows b s.records ids) (vdrs vs) ++ flat_map (variable_rows b s.records ids) (vdrs ws))
    split7 ids [] ws h = h
    split7 ids (v ∷ vs) ws h =
        let p = Hold-split (variable_rows b s.records ids v.vdr) (flat_map (variable_rows b s.records ids) (vdrs (vs ++ ws))) h in
        join (variable_rows b s.records ids v.vdr) (flat_map (variable_rows b s.records ids) (vdrs vs)) (flat_map (variable_rows b s.records ids) (vdrs ws)) p.0 (split7 ids vs ws p.1)
      where
        join : (xs ys zs : List Row) → Hold xs → Hold (ys ++ zs) → Hold ((xs ++ ys) ++ zs)
        join [] ys zs p q = q
        join (x ∷ xs) ys zs p q = (p.0, join xs ys zs p.1 q)

    split8 : (vs ws : List VariableShape) → IndexRows b s.records (vs ++ ws) → IndexRows b s.records vs × IndexRows b s.records ws
    split8 [] ws h = (tt, h)
    split8 (v ∷ vs) ws h =
        let p = Hold-split (index_rows b s.records v.vdr v.index) (flat_map (λ (v : VariableShape). index_rows b s.records v.vdr v.index) (vs ++ ws)) h in
        let q = split8 vs ws p.1 in
        (join (index_rows b s.records v.vdr v.index) (flat_map (λ (v : VariableShape). index_rows b s.records v.vdr v.index) vs) p.0 q.0, q.1)
      where
        join : (xs ys : List Row) → Hold xs → Hold ys → Hold (xs ++ ys)
        join [] ys p q = q
        join (x ∷ xs) ys p q = (p.0, join xs ys p.1 q)

-- owned records and records have the same counts
pub same_counts : (b : List ℕ) (s : Shape) → IsGoodByShape b s → (m : ℕ) → times m (owned_records b s) ≡ times m s.records
same_counts b s g m = elim (either (is_in m s.records)) [
  | inl e ↦ let i = true-is_in m s.records e in g.owned_once m i ∙ sym (times-once m s.records (tiles_distinct b 8 (length b) s.records g.has_shape.tiled) i)
  | inr e ↦ let out = false-is_in m s.records e in times-none m (owned_records b s) (λ i. out (owned_stand b s g m i)) ∙ sym (times-none m s.records out)
]
