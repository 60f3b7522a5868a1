-- The names of the variables of a good image, as they are read where their descriptors stand.
use Rattle.cdf_vars.proofs.Common.{AllByRecursion, AreNamed, DataSet, Distinct, Good, HasShape, In, In-append, In-append_left, In-append_right, IsDistinct, IsGoodByShape, Item, Kind, LiesIn, List, R, Shape, Variable, VariableShape, Z, [], absent-split, ap, ap₂, arith, bytes_eq, content, content_is, false, good_by_its_shape, inl, inr, is_among, items_at, linkable-type, map, map-append, name_at, name_field, name_in, names_apart, names_at, or_parts, refl, shape, shapes_of, subst, sym, type_at, variable_items, variable_names, variable_of, variables, variables_of, vdr_name, vdr_type, vdrs, ℕ, ◌+◌, ◌∙◌, ◌∷◌, ◌≡◌, ◌≢◌}
use Rattle.cdf_model.specs.declared.item.Item.TheVariants as items
use Rattle.cdf_vars.proofs.VariableChains.{few_places, own_chain, vdr_inside}

-- ---- lists

map_same : (f g : ℕ → List ℕ) (xs : List ℕ) → ((x : ℕ) → In x xs → f x ≡ g x) → map f xs ≡ map g xs
map_same f g [] same = refl
map_same f g (x ∷ xs) same = ap₂ (λ (y : List ℕ) (ys : List (List ℕ)). y ∷ ys) (same x (inl refl)) (map_same f g xs (λ y i. same y (inr i)))

-- a name that none of some records has
not_among : (b name ms : List ℕ) (m : ℕ) → is_among name (names_at b vdr_name ms) ≡ false → In m ms → bytes_eq name (name_in b m vdr_name) ≡ false
not_among b name [] m e i = absurd i
not_among b name (x ∷ ms) m e (inl q) = ap (λ (y : ℕ). bytes_eq name (name_in b y vdr_name)) q ∙ (or_parts (bytes_eq name (name_in b x vdr_name)) (is_among name (names_at b vdr_name ms)) e).0
not_among b name (x ∷ ms) m e (inr i) = not_among b name ms m (or_parts (bytes_eq name (name_in b x vdr_name)) (is_among name (names_at b vdr_name ms)) e).1 i

module _ (name : ℕ → List ℕ) where
  -- records at different places have different names
  abbrev DifferAmong : List ℕ → Type 0
  DifferAmong xs = (x y : ℕ) → In x xs → In y xs → x ≢ y → bytes_eq (name x) (name y) ≡ false

  one_apart : (x : ℕ) (ys : List ℕ) → (In x ys → ⊥) → ((y : ℕ) → In y ys → x ≢ y → bytes_eq (name x) (name y) ≡ false) → AllByRecursion (λ z. bytes_eq (name x) z ≡ false) (map name ys)
  one_apart x [] out differ = tt
  one_apart x (y ∷ ys) out differ = (differ y (inl refl) (λ e. out (inl e)), one_apart x ys (λ i. out (inr i)) (λ z i. differ z (inr i)))

  names_distinct : (xs : List ℕ) → Distinct xs → DifferAmong xs → IsDistinct bytes_eq (map name xs)
  unfolding IsDistinct
  names_distinct [] once differ = tt
  names_distinct (x ∷ xs) once differ = (one_apart x xs once.0 (λ y i. differ x y (inl refl) (inr i)), names_distinct xs once.1 (λ y z i j. differ y z (inr i) (inr j)))

-- ---- what the content has

named_by : (kind : Kind) → name_field (vdr_type kind) ≡ vdr_name
named_by R = refl
named_by Z = refl

names_of_shapes : (b : List ℕ) (vs : List VariableShape) → map (λ (v : Variable). v.name) (map (variable_of b) vs) ≡ names_at b vdr_name (vdrs vs)
names_of_shapes b [] = refl
names_of_shapes b (v ∷ vs) = ap (λ (r : List (List ℕ)). name_in b v.vdr vdr_name ∷ r) (names_of_shapes b vs)

module _ (b : List ℕ) (s : Shape) (h : HasShape b s) where
  pub variables_are : (kind : Kind) → variables_of (content b) kind ≡ map (variable_of b) (shapes_of s kind)
  variables_are R = ap (λ (d : DataSet). d.r_variables) (content_is b s h)
  variables_are Z = ap (λ (d : DataSet). d.z_variables) (content_is b s h)

  -- the names of the variables of a kind stand in their VDRs
  pub variable_names_are : (kind : Kind) → map (λ (v : Variable). v.name) (variables_of (content b) kind) ≡ names_at b vdr_name (vdrs (shapes_of s kind))
  variable_names_are kind = ap (map (λ (v : Variable). v.name)) (variables_are kind) ∙ names_of_shapes b (shapes_of s kind)

  pub named_where : (kind : Kind) (m : ℕ) → In m (vdrs (shapes_of s kind)) → name_field (type_at b m) ≡ vdr_name
  named_where kind m i = ap name_field (linkable-type b s.records (vdr_type kind) m ((own_chain b s h kind).linkable m i)) ∙ named_by kind

  pub names_read : (kind : Kind) → map (name_at b) (vdrs (shapes_of s kind)) ≡ names_at b vdr_name (vdrs (shapes_of s kind))
  names_read kind = map_same (name_at b) (λ (place : ℕ). name_in b place vdr_name) (vdrs (shapes_of s kind)) (λ m i. ap (name_in b m) (named_where kind m i))

  items_of_shapes : (kind : Kind) (n : ℕ) (vs : List VariableShape) → ((m : ℕ) → In m (vdrs vs) → name_field (type_at b m) ≡ vdr_name) → items_at b kind n (vdrs vs) ≡ variable_items kind n (map (variable_of b) vs)
  items_of_shapes kind n [] named = refl
  items_of_shapes kind n (v ∷ vs) named = ap₂ (λ (name : List ℕ) (r : List Item). items.Var kind n name ∷ r) (ap (name_in b v.vdr) (named v.vdr (inl refl))) (items_of_shapes kind (n + 1) vs (λ m i. named m (inr i)))

  pub items_read : (kind : Kind) → items_at b kind 0 (vdrs (shapes_of s kind)) ≡ variable_items kind 0 (variables_of (content b) kind)
  items_read kind = items_of_shapes kind 0 (shapes_of s kind) (named_where kind) ∙ ap (variable_items kind 0) (sym (variables_are kind))

  in_all : (kind : Kind) (m : ℕ) → In m (vdrs (shapes_of s kind)) → In m (vdrs (variables s))
  in_all R m i = subst (In m) (sym (map-append (λ (v : VariableShape). v.vdr) s.r_variables s.z_variables)) (In-append_left m (vdrs s.r_variables) (vdrs s.z_variables) i)
  in_all Z m i = subst (In m) (sym (map-append (λ (v : VariableShape). v.vdr) s.r_variables s.z_variables)) (In-append_right m (vdrs s.r_variables) (vdrs s.z_variables) i)

-- ---- a good image

module _ (b : List ℕ) (good : Good b) where
  abbrev s : Shape
  s = shape b

  isgood : IsGoodByShape b s
  isgood = good_by_its_shape b good

  h : HasShape b s
  h = isgood.has_shape

  pub are_named : (kind : Kind) → AreNamed b (vdrs (shapes_of s kind))
  are_named kind =
      let vs = vdrs (shapes_of s kind) in record {
        lie = λ m i. subst (LiesIn b m) (sym (named_where b s h kind m i)) (name_lies kind m i);
        differ = subst (IsDistinct bytes_eq) (sym (names_read b s h kind)) (names_distinct (λ (place : ℕ). name_in b place vdr_name) vs (own_chain b s h kind).once (λ x y i j ne. names_apart b s isgood x y (in_all b s h kind x i) (in_all b s h kind y j) ne));
        few = few_places b good kind;
      }
    where
      name_lies : (kind : Kind) (m : ℕ) → In m (vdrs (shapes_of s kind)) → LiesIn b m vdr_name
      name_lies kind m i = let l = vdr_inside b s h kind m i in omega arith

  -- no variable has a name that is none of the content
  pub absent_from : (name : List ℕ) → is_among name (variable_names (content b)) ≡ false → (m : ℕ) → In m (vdrs (variables s)) → bytes_eq name (name_in b m vdr_name) ≡ false
  absent_from name free m i =
      let p = absent-split name (map (λ (v : Variable). v.name) (content b).r_variables) (map (λ (v : Variable). v.name) (content b).z_variables) free in
      elim (In-append m (vdrs s.r_variables) (vdrs s.z_variables) (subst (In m) (map-append (λ (v : VariableShape). v.vdr) s.r_variables s.z_variables) i)) [
        | inl j ↦ not_among b name (vdrs s.r_variables) m (ap (is_among name) (sym (variable_names_are b s h R)) ∙ p.0) j
        | inr j ↦ not_among b name (vdrs s.z_variables) m (ap (is_among name) (sym (variable_names_are b s h Z)) ∙ p.1) j
      ]
