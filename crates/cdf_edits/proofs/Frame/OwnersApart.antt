-- Owners share no record, so a change within the records of one leaves those of every other.
use Rattle.cdf_edits.proofs.Common.{AttributeFits, AttributeShape, ChangedWithin, Each, Each-append, Each-split, FileStays, HasEntries, HasShape, HasVariable, In, In-append, IsSound, Leaf, Leaves, LeavesFinding, List, Misses, Same, Shape, VariableFits, VariableShape, [], adr_type, agr_edr_type, ap, append_assoc, arith, attribute_records, az_edr_type, cast_signed, cdr_type, counted, cpr_type, either, encoding, eq-eqb, eqb, eqb-true, filter-in, flat_map, gdr_offset, gdr_r_num_dims, gdr_type, inl, inr, integer_kept, is_a, is_a-in, is_linkable, leaves_of, linkable-in, map, nodes_of, nodes_stand, number, owned_is, owned_records, r_num_dims, r_sizes, r_vdr_type, refl, size_at, size_kept, subst, suc, sym, times, true, type_at, uir_type, unused_records, variable_records, variables, vdrs, vdrs_append, vxr_type, w32, word_kept, words, words_kept, z_vdr_type, ℕ, ◌*◌, ◌++◌, ◌+◌, ◌∙◌, ◌∷◌, ◌≡◌, ◌≤◌, true≢false}
use Rattle.cdf_edits.proofs.Frame.Meaning.{Kept, FileSame}
use Rattle.cdf_edits.proofs.Frame.OwnerAlone.{stays, tiling_stays, attributes_stay, variables_stay, file_same, chains_stay, file_stays, Each-in, blocks_stand, part, cdr_long, gdr_long, chains_by_links, file_same_by}

-- ---- counts of parts

pub times-append : (m : ℕ) (xs ys : List ℕ) → times m (xs ++ ys) ≡ times m xs + times m ys
times-append m [] ys = omega arith
times-append m (x ∷ xs) ys = elim (either (eqb m x)) [
  | inl e ↦ rw e (let r = times-append m xs ys in more (times m (xs ++ ys)) (times m xs) (times m ys) r)
  | inr e ↦ rw e (times-append m xs ys)
]
  where
    more : (n a b : ℕ) → n ≡ a + b → suc n ≡ suc a + b
    more n a b h = omega arith

pub times-in : (m : ℕ) (xs : List ℕ) → In m xs → 1 ≤ times m xs
times-in m [] i = absurd i
times-in m (x ∷ xs) i = elim (either (eqb m x)) [
  | inl e ↦ rw e (some (times m xs))
  | inr e ↦ rw e (elim i [ inl h ↦ absurd (true≢false (sym (eq-eqb m x h) ∙ e)) | inr h ↦ times-in m xs h ])
]
  where
    some : (n : ℕ) → 1 ≤ suc n
    some n = omega arith

pub none-out : (m : ℕ) (xs : List ℕ) → times m xs ≡ 0 → In m xs → ⊥
none-out m xs e i = let l = times-in m xs i in absurd (omega arith)

pub in-times : (m : ℕ) (xs : List ℕ) → 1 ≤ times m xs → In m xs
in-times m [] h = absurd (omega arith)
in-times m (x ∷ xs) h = elim (either (eqb m x)) [ inl t ↦ inl (eqb-true m x t) | inr t ↦ inr (in-times m xs (rw t at h)) ]

pub flat-append : {A : Type 0} (f : A → List ℕ) (xs ys : List A) → flat_map f (xs ++ ys) ≡ flat_map f xs ++ flat_map f ys
flat-append f [] ys = refl
flat-append f (x ∷ xs) ys = ap (λ (r : List ℕ). f x ++ r) (flat-append f xs ys) ∙ sym (append_assoc (f x) (flat_map f xs) (flat_map f ys))

times-parts : {A : Type 0} (f : A → List ℕ) (m : ℕ) (xs : List A) (x : A) (ys : List A) → times m (flat_map f (xs ++ x ∷ ys)) ≡ times m (flat_map f xs) + (times m (f x) + times m (flat_map f ys))
times-parts f m xs x ys = ap (times m) (flat-append f xs (x ∷ ys)) ∙ times-append m (flat_map f xs) (f x ++ flat_map f ys) ∙ ap (λ (n : ℕ). times m (flat_map f xs) + n) (times-append m (f x) (flat_map f ys))

pub times-three : {A : Type 0} (f : A → List ℕ) (m : ℕ) (xs ys zs : List A) → times m (flat_map f (xs ++ (ys ++ zs))) ≡ times m (flat_map f xs) + (times m (flat_map f ys) + times m (flat_map f zs))
times-three f m xs ys zs =
    ap (times m) (flat-append f xs (ys ++ zs)) ∙ times-append m (flat_map f xs) (flat_map f (ys ++ zs))
    ∙ ap (λ (n : ℕ). times m (flat_map f xs) + n) (ap (times m) (flat-append f ys zs) ∙ times-append m (flat_map f ys) (flat_map f zs))

abbrev pub file_records : Shape → List ℕ
file_records s = 8 ∷ s.gdr ∷ []

abbrev pub all_attribute_records : Shape → List ℕ
all_attribute_records s = flat_map attribute_records s.attributes

abbrev pub all_variable_records : Shape → List ℕ
all_variable_records s = flat_map variable_records (variables s)

sum_up : (f a r z v u n1 n2 n3 n4 : ℕ) → n1 ≡ f + a → n2 ≡ n1 + r → n3 ≡ n2 + z → n4 ≡ n3 + u → v ≡ r + z → n4 ≡ f + (a + (v + u))
sum_up f a r z v u n1 n2 n3 n4 p q w x y = omega arith

pub owned-times : (b : List ℕ) (s : Shape) (m : ℕ) → times m (owned_records b s) ≡ times m (file_records s) + (times m (all_attribute_records s) + (times m (all_variable_records s) + times m (unused_records b s)))
owned-times b s m =
    let f = file_records s in
    let a = all_attribute_records s in
    let r = flat_map variable_records s.r_variables in
    let z = flat_map variable_records s.z_variables in
    let u = unused_records b s in
    ap (times m) (owned_is b s) ∙ sum_up (times m f) (times m a) (times m r) (times m z) (times m (all_variable_records s)) (times m u) (times m (f ++ a)) (times m (f ++ a ++ r)) (times m (f ++ a ++ r ++ z)) (times m (f ++ a ++ r ++ z ++ u))
    (times-append m f a) (times-append m (f ++ a) r) (times-append m (f ++ a ++ r) z) (times-append m (f ++ a ++ r ++ z) u)
    (ap (times m) (flat-append variable_records s.r_variables s.z_variables) ∙ times-append m r z)

-- ---- what a shape has, member by member

each_adr : (P : ℕ → Type 0) (as_ : List AttributeShape) → ((m : ℕ) → In m (map (λ (a : AttributeShape). a.adr) as_) → P m) → Each (λ (a : AttributeShape). P a.adr) as_
each_adr P [] h = tt
each_adr P (a ∷ more) h = (h a.adr (inl refl), each_adr P more (λ m i. h m (inr i)))

each_vdr : (P : ℕ → Type 0) (vs : List VariableShape) → ((m : ℕ) → In m (vdrs vs) → P m) → Each (λ (v : VariableShape). P v.vdr) vs
each_vdr P [] h = tt
each_vdr P (v ∷ more) h = (h v.vdr (inl refl), each_vdr P more (λ m i. h m (inr i)))

-- without one of them
without_one : {A : Type 0} (P : A → Type 0) (all before : List A) (own : A) (after : List A) → all ≡ before ++ own ∷ after → Each P all → Each P (before ++ after)
without_one P all before own after e h =
    let p = Each-split P before (own ∷ after) (subst (Each P) e h) in
    Each-append P before after p.0 p.1.1

the_one : {A : Type 0} (P : A → Type 0) (all before : List A) (own : A) (after : List A) → all ≡ before ++ own ∷ after → Each P all → P own
the_one P all before own after e h = (Each-split P before (own ∷ after) (subst (Each P) e h)).1.0

module _ (b : List ℕ) (s : Shape) (sound : IsSound b s) where
  h : HasShape b s
  h = sound.has_shape

  limit : (m : ℕ) → times m (file_records s) + (times m (all_attribute_records s) + (times m (all_variable_records s) + times m (unused_records b s))) ≤ 1
  limit m = subst (λ (n : ℕ). n ≤ 1) (owned-times b s m) (sound.not_twice m)

  pub adrs_linked : Each (λ (a : AttributeShape). is_linkable b s.records adr_type a.adr ≡ true) s.attributes
  adrs_linked = each_adr (λ m. is_linkable b s.records adr_type m ≡ true) s.attributes h.attribute_chain.linkable

  pub vdrs_stand : Each (λ (v : VariableShape). In v.vdr s.records) (variables s)
  vdrs_stand = each_vdr (λ m. In m s.records) (variables s) (λ m i. elim (In-append m (vdrs s.r_variables) (vdrs s.z_variables) (subst (λ (x : List ℕ). In m x) (vdrs_append s.r_variables s.z_variables) i)) [
    | inl j ↦ linkable-in b s.records r_vdr_type m (h.r_chain.linkable m j)
    | inr j ↦ linkable-in b s.records z_vdr_type m (h.z_chain.linkable m j)
  ])

  cdr_in : In 8 s.records
  cdr_in = is_a-in b s.records cdr_type 8 h.cdr_stands

  gdr_in : In s.gdr s.records
  gdr_in = is_a-in b s.records gdr_type s.gdr h.gdr_stands

  attribute_in : (a : AttributeShape) → is_linkable b s.records adr_type a.adr ≡ true → HasEntries b s.records a → (m : ℕ) → In m (attribute_records a) → In m s.records
  attribute_in a ok has m i = elim i [
    | inl e ↦ subst (λ (x : ℕ). In x s.records) (sym e) (linkable-in b s.records adr_type a.adr ok)
    | inr j ↦ elim (In-append m a.gr_entries a.z_entries j) [ inl x ↦ linkable-in b s.records agr_edr_type m (has.gr_chain.linkable m x) | inr x ↦ linkable-in b s.records az_edr_type m (has.z_chain.linkable m x) ]
  ]

  -- a change within these records, which own nothing of the file
  abbrev Apart : List ℕ → List ℕ → Type 0
  Apart own others = (m : ℕ) → In m others → In m own → ⊥

  module _ (now own : List ℕ) (change : ChangedWithin b now own) (own_in : (m : ℕ) → In m own → In m s.records) (file_apart : Apart own (file_records s)) (records : List ℕ) (sub : (m : ℕ) → In m s.records → In m records) where
    cdr_kept : Kept b now 8
    cdr_kept = stays b now own s h change own_in records sub 8 cdr_in (file_apart 8 (inl refl))

    gdr_kept : Kept b now s.gdr
    gdr_kept = stays b now own s h change own_in records sub s.gdr gdr_in (file_apart s.gdr (inr (inl refl)))

    pub file_same_is : FileSame b now
    file_same_is = file_same b now own s h change own_in records sub cdr_kept gdr_kept sound.gdr_fits

    pub gdr_room : 84 + 4 * r_num_dims now s.gdr ≤ size_at now s.gdr
    gdr_room =
        let long = gdr_long b now own s h change own_in records sub in
        let size = size_kept b now s.gdr gdr_kept.same (omega arith) in
        let dims : r_num_dims now s.gdr ≡ r_num_dims b s.gdr = ap counted (integer_kept b now s.gdr gdr_kept.same gdr_r_num_dims (omega arith)) in
        subst (λ (x : ℕ). 84 + 4 * r_num_dims now s.gdr ≤ x) (sym size) (subst (λ (x : ℕ). 84 + 4 * x ≤ size_at b s.gdr) (sym dims) sound.gdr_fits)

    pub file_is : FileStays b now s
    file_is = file_stays b now own s h change own_in records sub cdr_kept gdr_kept sound.gdr_fits

    pub leaves : (attributes : List AttributeShape) (others : List VariableShape) → Each (λ (a : AttributeShape). is_linkable b s.records adr_type a.adr ≡ true) attributes → Each (HasEntries b s.records) attributes → Each (AttributeFits b) attributes → Apart own (flat_map attribute_records attributes)
        → Each (λ (v : VariableShape). In v.vdr s.records) others → Each (HasVariable b s.records) others → Each (VariableFits b s.records) others → Apart own (flat_map variable_records others) → Leaves b now s records attributes others
    leaves attributes others linked has fits apart stand has' fits' apart' =
        let file = file_same b now own s h change own_in records sub cdr_kept gdr_kept sound.gdr_fits in
        record {
          tiled = tiling_stays b now own s h change own_in records sub;
          chains_stay = chains_stay b now own s h change own_in records sub cdr_kept gdr_kept sound.gdr_fits;
          attributes_stay = attributes_stay b now own s h change own_in records sub file attributes linked has fits apart;
          variables_stay = variables_stay b now own s h change own_in records sub file others stand has' fits' apart';
        }

  -- ---- an attribute

  module _ (before : List AttributeShape) (own : AttributeShape) (after : List AttributeShape) (all : s.attributes ≡ before ++ own ∷ after) where
    a_parts : (m : ℕ) → times m (all_attribute_records s) ≡ times m (flat_map attribute_records before) + (times m (attribute_records own) + times m (flat_map attribute_records after))
    a_parts m = ap (λ (x : List AttributeShape). times m (flat_map attribute_records x)) all ∙ times-parts attribute_records m before own after

    no_file : (own' f a v u x y : ℕ) → f + (a + (v + u)) ≤ 1 → a ≡ x + (own' + y) → 1 ≤ own' → 1 ≤ f → ⊥
    no_file own' f a v u x y l e o p = omega arith

    no_variable : (own' f a v u x y : ℕ) → f + (a + (v + u)) ≤ 1 → a ≡ x + (own' + y) → 1 ≤ own' → 1 ≤ v → ⊥
    no_variable own' f a v u x y l e o p = omega arith

    no_other : (own' f a v u x y : ℕ) → f + (a + (v + u)) ≤ 1 → a ≡ x + (own' + y) → 1 ≤ own' → 1 ≤ x + y → ⊥
    no_other own' f a v u x y l e o p = omega arith

    some_part : (m : ℕ) → In m (flat_map attribute_records (before ++ after)) → 1 ≤ times m (flat_map attribute_records before) + times m (flat_map attribute_records after)
    some_part m i =
        let t = times-in m (flat_map attribute_records (before ++ after)) i in
        let e : times m (flat_map attribute_records (before ++ after)) ≡ times m (flat_map attribute_records before) + times m (flat_map attribute_records after) = ap (times m) (flat-append attribute_records before after) ∙ times-append m (flat_map attribute_records before) (flat_map attribute_records after) in
        subst (λ (n : ℕ). 1 ≤ n) e t

    pub attribute_alone : (now records : List ℕ) → ((m : ℕ) → In m s.records → In m records) → ChangedWithin b now (attribute_records own) → Leaves b now s records (before ++ after) (variables s) × FileStays b now s
    attribute_alone now records sub change =
        let mine = attribute_records own in
        let inside = attribute_in own (the_one (λ (a : AttributeShape). is_linkable b s.records adr_type a.adr ≡ true) s.attributes before own after all adrs_linked) (the_one (HasEntries b s.records) s.attributes before own after all h.entry_chains) in
        let from_file : Apart mine (file_records s) = λ m i j. no_file (times m mine) _ _ _ _ _ _ (limit m) (a_parts m) (times-in m mine j) (times-in m (file_records s) i) in
        let from_variables : Apart mine (all_variable_records s) = λ m i j. no_variable (times m mine) _ _ _ _ _ _ (limit m) (a_parts m) (times-in m mine j) (times-in m (all_variable_records s) i) in
        let from_others : Apart mine (flat_map attribute_records (before ++ after)) = λ m i j. no_other (times m mine) _ _ _ _ _ _ (limit m) (a_parts m) (times-in m mine j) (some_part m i) in (
          leaves now mine change inside from_file records sub (before ++ after) (variables s)
              (without_one (λ (a : AttributeShape). is_linkable b s.records adr_type a.adr ≡ true) s.attributes before own after all adrs_linked)
              (without_one (HasEntries b s.records) s.attributes before own after all h.entry_chains)
              (without_one (AttributeFits b) s.attributes before own after all sound.attributes_fit) from_others
              vdrs_stand h.have_variables sound.variables_fit from_variables,
          file_is now mine change inside from_file records sub,
        )

  -- ---- a variable

  module _ (before : List VariableShape) (own : VariableShape) (after : List VariableShape) (all : variables s ≡ before ++ own ∷ after) where
    v_parts : (m : ℕ) → times m (all_variable_records s) ≡ times m (flat_map variable_records before) + (times m (variable_records own) + times m (flat_map variable_records after))
    v_parts m = ap (λ (x : List VariableShape). times m (flat_map variable_records x)) all ∙ times-parts variable_records m before own after

    file_not : (mine f a v u x y : ℕ) → f + (a + (v + u)) ≤ 1 → v ≡ x + (mine + y) → 1 ≤ mine → 1 ≤ f → ⊥
    file_not mine f a v u x y l e o p = omega arith

    attribute_not : (mine f a v u x y : ℕ) → f + (a + (v + u)) ≤ 1 → v ≡ x + (mine + y) → 1 ≤ mine → 1 ≤ a → ⊥
    attribute_not mine f a v u x y l e o p = omega arith

    other_not : (mine f a v u x y : ℕ) → f + (a + (v + u)) ≤ 1 → v ≡ x + (mine + y) → 1 ≤ mine → 1 ≤ x + y → ⊥
    other_not mine f a v u x y l e o p = omega arith

    some_variable : (m : ℕ) → In m (flat_map variable_records (before ++ after)) → 1 ≤ times m (flat_map variable_records before) + times m (flat_map variable_records after)
    some_variable m i =
        let t = times-in m (flat_map variable_records (before ++ after)) i in
        let e : times m (flat_map variable_records (before ++ after)) ≡ times m (flat_map variable_records before) + times m (flat_map variable_records after) = ap (times m) (flat-append variable_records before after) ∙ times-append m (flat_map variable_records before) (flat_map variable_records after) in
        subst (λ (n : ℕ). 1 ≤ n) e t

    pub variable_alone : (now records : List ℕ) → ((m : ℕ) → In m s.records → In m records) → ChangedWithin b now (variable_records own) → Leaves b now s records s.attributes (before ++ after) × FileStays b now s
    variable_alone now records sub change =
        let mine = variable_records own in
        let has = the_one (HasVariable b s.records) (variables s) before own after all h.have_variables in
        let fits = the_one (VariableFits b s.records) (variables s) before own after all sound.variables_fit in
        let nodes = nodes_of own.index in
        let blocks = map (λ (leaf : Leaf). leaf.place) (leaves_of own.index) in
        let inside : (m : ℕ) → In m mine → In m s.records = λ m i. elim i [
          | inl e ↦ subst (λ (x : ℕ). In x s.records) (sym e) (the_one (λ (v : VariableShape). In v.vdr s.records) (variables s) before own after all vdrs_stand)
          | inr j ↦ elim (In-append m (nodes ++ blocks) own.cpr j) [
            | inr k ↦ is_a-in b s.records cpr_type m (Each-in (λ x. is_a b s.records cpr_type x ≡ true) own.cpr fits.3 m k)
            | inl k ↦ elim (In-append m nodes blocks k) [
              | inl n ↦ linkable-in b s.records vxr_type m (nodes_stand b s.records 8 own.index has.indexed.has_nodes m n)
              | inr n ↦ blocks_stand b s.records own.vdr (leaves_of own.index) fits.2 m n
            ]
          ]
        ] in
        let from_file : Apart mine (file_records s) = λ m i j. file_not (times m mine) _ _ _ _ _ _ (limit m) (v_parts m) (times-in m mine j) (times-in m (file_records s) i) in
        let from_attributes : Apart mine (all_attribute_records s) = λ m i j. attribute_not (times m mine) _ _ _ _ _ _ (limit m) (v_parts m) (times-in m mine j) (times-in m (all_attribute_records s) i) in
        let from_others : Apart mine (flat_map variable_records (before ++ after)) = λ m i j. other_not (times m mine) _ _ _ _ _ _ (limit m) (v_parts m) (times-in m mine j) (some_variable m i) in (
          leaves now mine change inside from_file records sub s.attributes (before ++ after) adrs_linked h.entry_chains sound.attributes_fit from_attributes
              (without_one (λ (v : VariableShape). In v.vdr s.records) (variables s) before own after all vdrs_stand)
              (without_one (HasVariable b s.records) (variables s) before own after all h.have_variables)
              (without_one (VariableFits b s.records) (variables s) before own after all sound.variables_fit) from_others,
          file_is now mine change inside from_file records sub,
        )

  -- ---- unused records

  not_unused : (f a v u : ℕ) → f + (a + (v + u)) ≤ 1 → 1 ≤ u → 1 ≤ f + (a + v) → ⊥
  not_unused f a v u l o p = omega arith

  unused_apart : (others : List ℕ) → ((m : ℕ) → times m others ≤ times m (file_records s) + (times m (all_attribute_records s) + times m (all_variable_records s))) → Apart (unused_records b s) others
  unused_apart others le m i j = not_unused _ _ _ _ (limit m) (times-in m (unused_records b s) j) (up (times m others) _ (times-in m others i) (le m))
    where
      up : (n k : ℕ) → 1 ≤ n → n ≤ k → 1 ≤ k
      up n k p q = omega arith

  pub unused_in : (m : ℕ) → In m (unused_records b s) → In m s.records
  unused_in m i = filter-in (λ place. eqb (type_at b place) uir_type) s.records m i

  first_of : (f a v : ℕ) → f ≤ f + (a + v)
  first_of f a v = omega arith

  second_of : (f a v : ℕ) → a ≤ f + (a + v)
  second_of f a v = omega arith

  third_of : (f a v : ℕ) → v ≤ f + (a + v)
  third_of f a v = omega arith

  pub unused_from_file : Apart (unused_records b s) (file_records s)
  unused_from_file = unused_apart (file_records s) (λ m. first_of (times m (file_records s)) _ _)

  pub unused_from_attributes : Apart (unused_records b s) (all_attribute_records s)
  unused_from_attributes = unused_apart (all_attribute_records s) (λ m. second_of _ (times m (all_attribute_records s)) _)

  pub unused_from_variables : Apart (unused_records b s) (all_variable_records s)
  unused_from_variables = unused_apart (all_variable_records s) (λ m. third_of _ _ (times m (all_variable_records s)))

  pub unused_are_alone : (now records : List ℕ) → ((m : ℕ) → In m s.records → In m records) → ChangedWithin b now (unused_records b s) → Leaves b now s records s.attributes (variables s) × FileStays b now s
  unused_are_alone now records sub change =
      let mine = unused_records b s in (
        leaves now mine change unused_in unused_from_file records sub s.attributes (variables s) adrs_linked h.entry_chains sound.attributes_fit unused_from_attributes vdrs_stand h.have_variables sound.variables_fit unused_from_variables,
        file_is now mine change unused_in unused_from_file records sub,
      )

  -- ---- the CDR and the GDR

  not_file : (f a v u n : ℕ) → f + (a + (v + u)) ≤ 1 → 1 ≤ f → 1 ≤ n → n ≤ a + v → ⊥
  not_file f a v u n l o p q = omega arith

  pub file_in : (m : ℕ) → In m (file_records s) → In m s.records
  file_in m i = elim i [ inl e ↦ subst (λ (x : ℕ). In x s.records) (sym e) cdr_in | inr j ↦ elim j [ inl e ↦ subst (λ (x : ℕ). In x s.records) (sym e) gdr_in | inr none ↦ absurd none ] ]

  left_part : (a v : ℕ) → a ≤ a + v
  left_part a v = omega arith

  right_part : (a v : ℕ) → v ≤ a + v
  right_part a v = omega arith

  pub file_from_attributes : Apart (file_records s) (all_attribute_records s)
  file_from_attributes m i j = not_file _ _ _ _ (times m (all_attribute_records s)) (limit m) (times-in m (file_records s) j) (times-in m (all_attribute_records s) i) (left_part (times m (all_attribute_records s)) (times m (all_variable_records s)))

  pub file_from_variables : Apart (file_records s) (all_variable_records s)
  file_from_variables m i j = not_file _ _ _ _ (times m (all_variable_records s)) (limit m) (times-in m (file_records s) j) (times-in m (all_variable_records s) i) (right_part (times m (all_attribute_records s)) (times m (all_variable_records s)))

  sizes_room : (g d : ℕ) → g + 84 + 4 * d ≤ g + (84 + 4 * d)
  sizes_room g d = omega arith

  module _ (now records : List ℕ) (sub : (m : ℕ) → In m s.records → In m records) (change : ChangedWithin b now (file_records s)) (leaves_it : LeavesFinding b s change.touches) where
    cdr_part : (lo hi : ℕ) → hi ≤ size_at b 8 → Misses change.touches 8 lo hi → Same b now (8 + lo) (8 + hi)
    cdr_part lo hi fits miss = part b now (file_records s) s h change file_in records sub 8 lo hi cdr_in fits miss

    gdr_part : (lo hi : ℕ) → hi ≤ size_at b s.gdr → Misses change.touches s.gdr lo hi → Same b now (s.gdr + lo) (s.gdr + hi)
    gdr_part lo hi fits miss = part b now (file_records s) s h change file_in records sub s.gdr lo hi gdr_in fits miss

    cdr_size : 312 ≤ size_at b 8
    cdr_size = cdr_long b now (file_records s) s h change file_in records sub

    gdr_size : 84 ≤ size_at b s.gdr
    gdr_size = gdr_long b now (file_records s) s h change file_in records sub

    offset_found : gdr_offset now ≡ gdr_offset b
    offset_found = word_kept b now (8 + 12) (8 + 20) (cdr_part 12 20 (let l = cdr_size in omega arith) leaves_it.gdr_offset_stays) (8 + 12) 8 (omega arith) (omega arith)

    code_found : encoding now ≡ encoding b
    code_found = word_kept b now (8 + 28) (8 + 32) (cdr_part 28 32 (let l = cdr_size in omega arith) leaves_it.encoding_stays) (8 + 28) 4 (omega arith) (omega arith)

    pub dimensions_found : r_num_dims now s.gdr ≡ r_num_dims b s.gdr
    dimensions_found =
        let dims : number now s.gdr gdr_r_num_dims ≡ number b s.gdr gdr_r_num_dims = word_kept b now (s.gdr + 56) (s.gdr + 60) (gdr_part 56 60 (let l = gdr_size in omega arith) leaves_it.dimensions_stay) (s.gdr + 56) 4 (omega arith) (omega arith) in
        ap (λ (n : ℕ). counted (cast_signed w32 n)) dims

    sizes_found : r_sizes now s.gdr ≡ r_sizes b s.gdr
    sizes_found =
        let d = r_num_dims b s.gdr in
        ap (words now (s.gdr + 84)) dimensions_found ∙ words_kept b now (s.gdr + 84) (s.gdr + (84 + 4 * d)) (gdr_part 84 (84 + 4 * d) sound.gdr_fits leaves_it.sizes_stay) (s.gdr + 84) d (omega arith) (sizes_room s.gdr d)

    pub file_found : FileSame b now
    file_found = file_same_by b now (file_records s) s h change file_in records sub offset_found code_found dimensions_found sizes_found

    pub file_is_alone : Leaves b now s records s.attributes (variables s)
    file_is_alone =
        let l = gdr_size in
        let adr = word_kept b now (s.gdr + 28) (s.gdr + 36) (gdr_part 28 36 (omega arith) leaves_it.attribute_head) (s.gdr + 28) 8 (omega arith) (omega arith) in
        let r = word_kept b now (s.gdr + 12) (s.gdr + 20) (gdr_part 12 20 (omega arith) leaves_it.r_head) (s.gdr + 12) 8 (omega arith) (omega arith) in
        let z = word_kept b now (s.gdr + 20) (s.gdr + 28) (gdr_part 20 28 (omega arith) leaves_it.z_head) (s.gdr + 20) 8 (omega arith) (omega arith) in
        let u = word_kept b now (s.gdr + 64) (s.gdr + 72) (gdr_part 64 72 (omega arith) leaves_it.unused_head) (s.gdr + 64) 8 (omega arith) (omega arith) in
        record {
          tiled = tiling_stays b now (file_records s) s h change file_in records sub;
          chains_stay = chains_by_links b now (file_records s) s h change file_in records sub offset_found adr r z u;
          attributes_stay = attributes_stay b now (file_records s) s h change file_in records sub file_found s.attributes adrs_linked h.entry_chains sound.attributes_fit file_from_attributes;
          variables_stay = variables_stay b now (file_records s) s h change file_in records sub file_found (variables s) vdrs_stand h.have_variables sound.variables_fit file_from_variables;
        }
