-- What is read of records with names, one after the other, and so of the variables of a kind of a good image.
use Rattle.cdf_vars.proofs.Common.{AreNamed, Chain, Good, HasShape, IsDistinct, Item, Kind, KnowsKind, LiesIn, List, [], ap, append-nil, append_assoc, ap₂, arith, at_drop_all, at_drop_more, bytes_eq, chain_of, content, drop, drop-cons, false, get_or, good_is_sound, got_in, has_name, items_at, length, length-map, length-take, map, map-append, map_more, members_of, name_at, name_field, shape, shapes_of, subst, suc, sym, take, take-append-drop, take_all, type_at, variable_items, variables_of, vdrs, ℕ, ◌++◌, ◌+◌, ◌<◌, ◌∙◌, ◌∷◌, ◌≡◌, ◌≤◌}
use Rattle.cdf_model.specs.declared.item.Item.TheVariants.{Var}
use Rattle.cdf_names.proofs.Apart.{distinct_apart}
use Rattle.cdf_vars.proofs.VariableChains.{variable_members}
use Rattle.cdf_vars.proofs.VariableNames.{are_named, items_read, names_read, variable_names_are}

module _ (b places : List ℕ) (named : AreNamed b places) where
  -- all names
  pub all_named : (names : List (List ℕ)) (i : ℕ) → names ≡ map (name_at b) (take i places) → length places ≤ i → names ≡ map (name_at b) places
  all_named names i is all = is ∙ ap (map (name_at b)) (take_all i places all)

  module _ (i : ℕ) (lt : i < length places) where
    pub name_lies : (now : List ℕ) → now ≡ b → LiesIn now (get_or places i 0) (name_field (type_at now (get_or places i 0)))
    name_lies now same = subst (λ (x : List ℕ). LiesIn x (get_or places i 0) (name_field (type_at x (get_or places i 0)))) (sym same) (named.lie (get_or places i 0) (got_in places i lt))

    -- the next name is not among those before it
    pub next_is_new : (names : List (List ℕ)) (name : List ℕ) → names ≡ map (name_at b) (take i places) → name ≡ name_at b (get_or places i 0) → has_name names name ≡ false
    next_is_new names name is read =
        let whole : map (name_at b) places ≡ map (name_at b) (take i places) ++ name_at b (get_or places i 0) ∷ map (name_at b) (drop (suc i) places) =
        ap (map (name_at b)) (sym (take-append-drop i places) ∙ ap (λ (r : List ℕ). take i places ++ r) (drop-cons places i 0 lt)) ∙ map-append (name_at b) (take i places) (get_or places i 0 ∷ drop (suc i) places) in
        ap₂ has_name is read ∙ distinct_apart (map (name_at b) (take i places)) (name_at b (get_or places i 0)) (map (name_at b) (drop (suc i) places)) (subst (IsDistinct bytes_eq) whole named.differ)

    pub few_names : (names : List (List ℕ)) → names ≡ map (name_at b) (take i places) → length names < 4294967295
    few_names names is =
        let n : length names ≡ length (take i places) = ap (λ (xs : List (List ℕ)). length xs) is ∙ length-map (take i places) (name_at b) in
        let few = named.few in
        omega (arith, length-take i places)

    pub next_named : (names names' : List (List ℕ)) (name : List ℕ) → names ≡ map (name_at b) (take i places) → name ≡ name_at b (get_or places i 0) → names' ≡ names ++ name ∷ [] → names' ≡ map (name_at b) (take (i + 1) places)
    next_named names names' name is read added = added ∙ ap₂ (λ (xs : List (List ℕ)) (x : List ℕ). xs ++ x ∷ []) is read ∙ sym (map_more (name_at b) places i 0 lt)

-- ---- as `list` shows them

-- these items, and those of the places from a number on
abbrev pub Listed : List ℕ → Kind → List ℕ → List Item → List Item → ℕ → Type 0
Listed b kind places whole items i = items ++ items_at b kind i (drop i places) ≡ whole

module _ (b : List ℕ) (kind : Kind) (places : List ℕ) (whole : List Item) where
  pub all_listed : (items : List Item) (i : ℕ) → Listed b kind places whole items i → length places ≤ i → items ≡ whole
  all_listed items i is all = sym (append-nil items) ∙ ap (λ (xs : List Item). items ++ xs) (sym (at_drop_all (items_at b kind i) places i all)) ∙ is

  pub next_listed : (items items' : List Item) (i : ℕ) (name : List ℕ) → i < length places → Listed b kind places whole items i → name ≡ name_at b (get_or places i 0) → items' ≡ items ++ Var kind i name ∷ [] → Listed b kind places whole items' (i + 1)
  next_listed items items' i name lt is read added =
      let rest = items_at b kind (i + 1) (drop (i + 1) places) in
      ap (λ (xs : List Item). xs ++ rest) (added ∙ ap (λ (x : List ℕ). items ++ Var kind i x ∷ []) read)
      ∙ append_assoc items (Var kind i (name_at b (get_or places i 0)) ∷ []) rest
      ∙ ap (λ (xs : List Item). items ++ xs) (sym (at_drop_more (items_at b kind i) places i 0 lt))
      ∙ is

-- ---- the variables of a good image

module _ (b : List ℕ) (good : Good b) (kind : Kind) where
  h : HasShape b (shape b)
  h = (good_is_sound b good).has_shape

  pub places_read : (chain : Chain) → chain ≡ chain_of kind → (places : List ℕ) → places ≡ members_of b chain → places ≡ vdrs (shapes_of (shape b) kind)
  places_read chain is places read = read ∙ ap (members_of b) is ∙ variable_members b (shape b) h kind

  pub named_at : (now : List ℕ) → now ≡ b → (places : List ℕ) → places ≡ vdrs (shapes_of (shape b) kind) → AreNamed now places
  named_at now same places is = subst (λ (x : List ℕ). AreNamed x places) (sym same) (subst (AreNamed b) (sym is) (are_named b good kind))

  pub kind_known : (names : List (List ℕ)) (places : List ℕ) → places ≡ vdrs (shapes_of (shape b) kind) → names ≡ map (name_at b) places → KnowsKind b kind (record { names = names; places = places })
  kind_known names places placed named = record {
    names_are = named ∙ ap (map (name_at b)) placed ∙ names_read b (shape b) h kind ∙ sym (variable_names_are b (shape b) h kind);
    places_are = placed;
  }

  pub items_listed : (now : List ℕ) → now ≡ b → (old items : List Item) (places : List ℕ) → places ≡ vdrs (shapes_of (shape b) kind) → items ≡ old ++ items_at now kind 0 places → items ≡ old ++ variable_items kind 0 (variables_of (content b) kind)
  items_listed now same old items places is pushed = pushed ∙ (λ i. old ++ items_at (same i) kind 0 (is i)) ∙ ap (λ (xs : List Item). old ++ xs) (items_read b (shape b) h kind)
