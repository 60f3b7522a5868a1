-- What is read of the attributes of a good image where their ADRs stand: their names, and the listing of them.
use Rattle.cdf_attrs.proofs.Common.{AttributeShape, Attrs, DataSet, Good, HasShape, Hold-split, In, IsDistinct, IsGoodByShape, LiesIn, List, Scope, Shape, [], add-one, adr_name, adr_scope, adr_type, adrs, adrs_rows, ap, append-nil, append_assoc, ap₂, arith, attribute_items, attribute_names, attribute_names_are, attribute_of, bytes_eq, content, content_is, counted_in, drop, eq_of, false, get_or, good_by_its_shape, has_name, le_of, length, length-append, length-map, linkable-type, map, map-append, members_of, name_at, name_field, name_in, names_at, number, r_vdrs_rows, refl, rules_of_good, scope_of, shape, subst, suc, sym, take, take-suc, type_at, vdrs, z_vdrs_rows, zero, ℕ, ◌++◌, ◌+◌, ◌<◌, ◌∙◌, ◌∷◌, ◌≡◌, ◌≤◌}
use Rattle.cdf_model.specs.declared.item.Item.{Item}
use Rattle.cdf_model.specs.declared.item.Item.TheVariants.{Attr}
use Rattle.cdf_format.specs.Sealed.{trailer, sealed}
use Rattle.cdf_attrs.proofs.AttributeChain.{adr_inside, attribute_members, few_attributes, index_in, name_lies}
use Rattle.cdf_names.proofs.Apart.{distinct_apart}
use Rattle.cdf_attrs.proofs.NamesDiffer.{good_names}

-- ---- lists

parted : (xs : List ℕ) (i : ℕ) → i < length xs → xs ≡ take i xs ++ get_or xs i 0 ∷ drop (suc i) xs
parted [] i lt = absurd (omega arith)
parted (x ∷ xs) zero lt = refl
parted (x ∷ xs) (suc i) lt = ap (λ (r : List ℕ). x ∷ r) (parted xs i (omega arith))

pub take_all : (xs : List ℕ) (i : ℕ) → i ≡ length xs → take i xs ≡ xs
take_all [] zero e = refl
take_all [] (suc i) e = refl
take_all (x ∷ xs) zero e = absurd (omega arith)
take_all (x ∷ xs) (suc i) e = ap (λ (r : List ℕ). x ∷ r) (take_all xs i (omega arith))

length_front : (i : ℕ) (xs : List ℕ) → length (take i xs) ≤ length xs
length_front zero xs = omega arith
length_front (suc i) [] = omega arith
length_front (suc i) (x ∷ xs) = let r = length_front i xs in omega arith

-- the attribute at a number, and those behind it
record At (as_ : List AttributeShape) (i : ℕ) : Type 0 where
  own : AttributeShape
  rest : drop i as_ ≡ own ∷ drop (i + 1) as_
  place : get_or (map (λ (a : AttributeShape). a.adr) as_) i 0 ≡ own.adr

at : (as_ : List AttributeShape) (i : ℕ) → i < length as_ → At as_ i
at [] i lt = absurd (omega arith)
at (a ∷ more) zero lt = record { own = a; rest = refl; place = refl }
at (a ∷ more) (suc i) lt = let r = at more i (omega arith) in record { own = r.own; rest = r.rest ∙ ap (λ (n : ℕ). r.own ∷ drop n more) (add-one i) ∙ ap (λ (n : ℕ). r.own ∷ drop n (a ∷ more)) (sym (add-one (suc i))); place = r.place }

none_left : (as_ : List AttributeShape) (i : ℕ) → i ≡ length as_ → drop i as_ ≡ []
none_left [] zero e = refl
none_left [] (suc i) e = refl
none_left (a ∷ more) zero e = absurd (omega arith)
none_left (a ∷ more) (suc i) e = none_left more i (omega arith)

-- ---- a good image

module _ (b : List ℕ) (good : Good b) where
  abbrev s : Shape
  s = shape b

  isgood : IsGoodByShape b s
  isgood = good_by_its_shape b good

  h : HasShape b s
  h = isgood.has_shape

  -- the count that the chain has
  pub counted_is : counted_in b Attrs ≡ length (adrs s)
  counted_is =
      let p = Hold-split (adrs_rows b (adrs s) ++ r_vdrs_rows b (vdrs s.r_variables)) (z_vdrs_rows b (vdrs s.z_variables)) isgood.counting in
      let q = Hold-split (adrs_rows b (adrs s)) (r_vdrs_rows b (vdrs s.r_variables)) p.0 in
      eq_of _ _ q.0.0

  pub counted_members : counted_in b Attrs ≡ length (members_of b Attrs)
  counted_members = counted_is ∙ ap (λ (xs : List ℕ). length xs) (sym (attribute_members b s h))

  pub short_image : length b ≤ 1073741840
  short_image =
      let f : length (sealed b) ≤ 1073741840 = le_of (length (sealed b)) 1073741840 (rules_of_good b good).0.1.0 in
      omega (arith, length-append b (trailer b))

  module _ (places : List ℕ) (are : places ≡ adrs s) where
    pub few_places : length places ≤ 1073741840
    few_places = let few = few_attributes b s h in let short = short_image in omega (arith, ap (λ (xs : List ℕ). length xs) are)

    names_are : attribute_names (content b) ≡ names_at b adr_name places
    names_are = attribute_names_are b s h ∙ ap (names_at b adr_name) (sym are)

    pub all_named : (names : List (List ℕ)) (i : ℕ) → names ≡ names_at b adr_name (take i places) → i ≡ length places → names ≡ attribute_names (content b)
    all_named names i is all = is ∙ ap (names_at b adr_name) (take_all places i all) ∙ sym names_are

    pub items_start : (items : List Item) → items ≡ [] → items ++ attribute_items 0 (map (attribute_of b) (drop 0 s.attributes)) ≡ attribute_items 0 (content b).attributes
    items_start items none = ap (λ (xs : List Item). xs ++ attribute_items 0 (map (attribute_of b) s.attributes)) none ∙ ap (λ (d : DataSet). attribute_items 0 d.attributes) (sym (content_is b s h))

    pub all_listed : (items : List Item) (i : ℕ) → items ++ attribute_items i (map (attribute_of b) (drop i s.attributes)) ≡ attribute_items 0 (content b).attributes → i ≡ length places → items ≡ attribute_items 0 (content b).attributes
    all_listed items i is all =
        let end : i ≡ length s.attributes = all ∙ ap (λ (xs : List ℕ). length xs) are ∙ length-map s.attributes (λ (a : AttributeShape). a.adr) in
        sym (append-nil items) ∙ ap (λ (as_ : List AttributeShape). items ++ attribute_items i (map (attribute_of b) as_)) (sym (none_left s.attributes i end)) ∙ is

    module _ (i : ℕ) (lt : i < length places) where
      here : In (get_or places i 0) (adrs s)
      here = subst (In (get_or places i 0)) are (index_in places i lt)

      named_by : name_field (type_at b (get_or places i 0)) ≡ adr_name
      named_by = ap name_field (linkable-type b s.records adr_type (get_or places i 0) (h.attribute_chain.linkable (get_or places i 0) here))

      pub name_read : (now : List ℕ) → now ≡ b → LiesIn now (get_or places i 0) (name_field (type_at now (get_or places i 0)))
      name_read now same =
          let lies : LiesIn b (get_or places i 0) adr_name = name_lies b s h b (get_or places i 0) here refl in
          subst (λ (x : List ℕ). LiesIn x (get_or places i 0) (name_field (type_at x (get_or places i 0)))) (sym same) (subst (LiesIn b (get_or places i 0)) (sym named_by) lies)

      pub scope_read : (now : List ℕ) → now ≡ b → get_or places i 0 + 32 ≤ length now
      scope_read now same = let l = adr_inside b s h (get_or places i 0) here in let n : length now ≡ length b = ap (λ (xs : List ℕ). length xs) same in omega arith

      pub name_is : (name : List ℕ) → name ≡ name_at b (get_or places i 0) → name ≡ name_in b (get_or places i 0) adr_name
      name_is name read = read ∙ ap (name_in b (get_or places i 0)) named_by

      -- the next name is not among those before it
      pub next_is_new : (names : List (List ℕ)) (name : List ℕ) → names ≡ names_at b adr_name (take i places) → name ≡ name_at b (get_or places i 0) → has_name names name ≡ false
      next_is_new names name is read =
          let front = names_at b adr_name (take i places) in
          let own = name_in b (get_or places i 0) adr_name in
          let rest = names_at b adr_name (drop (suc i) places) in
          let whole : attribute_names (content b) ≡ front ++ own ∷ rest =
          names_are ∙ ap (names_at b adr_name) (parted places i lt) ∙ map-append (λ (place : ℕ). name_in b place adr_name) (take i places) (get_or places i 0 ∷ drop (suc i) places) in
          ap₂ has_name is (name_is name read) ∙ distinct_apart front own rest (subst (IsDistinct bytes_eq) whole (good_names b good))

      pub few_names : (names : List (List ℕ)) → names ≡ names_at b adr_name (take i places) → length names < 4294967295
      few_names names is =
          let n : length names ≡ length (take i places) = ap (λ (xs : List (List ℕ)). length xs) is ∙ length-map (take i places) (λ (place : ℕ). name_in b place adr_name) in
          let few = few_places in
          let long = length_front i places in
          omega arith

      pub next_named : (names names' : List (List ℕ)) (name : List ℕ) → names ≡ names_at b adr_name (take i places) → name ≡ name_at b (get_or places i 0) → names' ≡ names ++ name ∷ [] → names' ≡ names_at b adr_name (take (i + 1) places)
      next_named names names' name is read added =
          let more : take (i + 1) places ≡ take i places ++ get_or places i 0 ∷ [] = ap (λ (n : ℕ). take n places) (add-one i) ∙ take-suc places i 0 lt in
          added ∙ ap₂ (λ (xs : List (List ℕ)) (x : List ℕ). xs ++ x ∷ []) is (name_is name read) ∙ sym (map-append (λ (place : ℕ). name_in b place adr_name) (take i places) (get_or places i 0 ∷ [])) ∙ ap (names_at b adr_name) (sym more)

      -- an item further
      pub next_item : (items items' : List Item) (name : List ℕ) (scope : Scope) → items ++ attribute_items i (map (attribute_of b) (drop i s.attributes)) ≡ attribute_items 0 (content b).attributes
          → name ≡ name_at b (get_or places i 0) → scope ≡ scope_of (number b (get_or places i 0) adr_scope) → items' ≡ items ++ Attr i name scope ∷ []
          → items' ++ attribute_items (i + 1) (map (attribute_of b) (drop (i + 1) s.attributes)) ≡ attribute_items 0 (content b).attributes
      next_item items items' name scope is read scoped added =
          let a = at s.attributes i (omega (arith, ap (λ (xs : List ℕ). length xs) are, length-map s.attributes (λ (a : AttributeShape). a.adr))) in
          let placed : get_or places i 0 ≡ a.own.adr = ap (λ (xs : List ℕ). get_or xs i 0) are ∙ a.place in
          let named : name ≡ name_in b a.own.adr adr_name = name_is name read ∙ ap (λ (x : ℕ). name_in b x adr_name) placed in
          let scope_is : scope ≡ scope_of (number b a.own.adr adr_scope) = scoped ∙ ap (λ (x : ℕ). scope_of (number b x adr_scope)) placed in
          let rest = attribute_items (i + 1) (map (attribute_of b) (drop (i + 1) s.attributes)) in
          ap (λ (xs : List Item). xs ++ rest) (added ∙ (λ j. items ++ Attr i (named j) (scope_is j) ∷ []))
          ∙ append_assoc items (Attr i (name_in b a.own.adr adr_name) (scope_of (number b a.own.adr adr_scope)) ∷ []) rest
          ∙ ap (λ (as_ : List AttributeShape). items ++ attribute_items i (map (attribute_of b) as_)) (sym a.rest)
          ∙ is
