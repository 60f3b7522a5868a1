-- An attribute of an image, with those before it and those after it; and an image in which one of its chains is another.
use Rattle.cdf_attrs.proofs.Common.{Attribute, AttributeShape, DataSet, Entry, EntryKind, Good, Hold, Hold-split, IsAttributeAt, IsSound, List, Mark, Rechains, Shape, Some, [], adr_num, adr_of, adrs, adrs_rows, ap, ap₂, arith, attribute_names, attribute_of, chain_now, content, content_is, content_rechained, count_rows, cut, entries_chain, eq_of, gdr_num_attr, gdr_offset, good_by_its_shape, good_is_sound, got-map, got-middle, length, made, map, map-append, map-set, members_are, members_of, now_is, number, number_rows, of_shape, r_vdrs_rows, refl, same_Some, shape, shape_now, slice_get, slice_get_within, slice_set, splices, suc, sym, vdrs, with_chain, with_entries, z_vdrs_rows, zero, ℕ, ◌++◌, ◌+◌, ◌∙◌, ◌∷◌, ◌≡◌}
use Rattle.cdf_model.specs.declared.kinds.EntryKind.TheVariants as entries
use Rattle.cdf_format.specs.Content.{entries_of as chain_items}

-- ---- the parts

pub record Parts (b : List ℕ) (adr number : ℕ) (own : AttributeShape) : Type 0 where
  pub before : List AttributeShape
  pub after : List AttributeShape
  pub stands : (shape b).attributes ≡ before ++ own ∷ after
  pub count : length before ≡ number
  pub adr_is : own.adr ≡ adr

pub parts : {b : List ℕ} {number adr : ℕ} (at : IsAttributeAt b number adr) → Parts b adr number at.own
parts {b = b} {number = number} at =
    let c = cut (shape b).attributes number (slice_get_within (shape b).attributes number at.own at.stands) in
    let same : c.own ≡ at.own = same_Some c.own at.own (sym (ap₂ (λ (as_ : List AttributeShape) (n : ℕ). slice_get as_ n) c.is (sym c.count) ∙ got-middle c.before c.own c.after) ∙ at.stands) in
    record { before = c.before; after = c.after; stands = c.is ∙ ap (λ (a : AttributeShape). c.before ++ a ∷ c.after) same; count = c.count; adr_is = at.adr_is }

-- its ADR says its number
got_number : (b : List ℕ) (k : ℕ) (as_ : List AttributeShape) (n : ℕ) (own : AttributeShape) → slice_get as_ n ≡ Some own → Hold (number_rows 4 b adr_num k (map (λ (a : AttributeShape). a.adr) as_)) → number b own.adr adr_num ≡ k + n
got_number b k [] n own e rows = absurd cc
got_number b k (a ∷ more) zero own e rows = ap (λ (x : AttributeShape). number b x.adr adr_num) (sym (same_Some a own e)) ∙ eq_of (number b a.adr adr_num) k rows.0 ∙ omega arith
got_number b k (a ∷ more) (suc n) own e rows = got_number b (suc k) more n own e rows.1 ∙ omega arith

pub number_at : {b : List ℕ} {n adr : ℕ} → Good b → (at : IsAttributeAt b n adr) → number b at.own.adr adr_num ≡ n
number_at {b = b} {n = n} good at =
    let image = good_by_its_shape b good in
    let p = Hold-split (adrs_rows b (adrs (shape b)) ++ r_vdrs_rows b (vdrs (shape b).r_variables)) (z_vdrs_rows b (vdrs (shape b).z_variables)) image.counting in
    let q = Hold-split (adrs_rows b (adrs (shape b))) (r_vdrs_rows b (vdrs (shape b).r_variables)) p.0 in
    let rows = Hold-split (count_rows 3 b (gdr_offset b) gdr_num_attr (adrs (shape b))) (number_rows 4 b adr_num 0 (adrs (shape b))) q.0 in
    got_number b 0 (shape b).attributes n at.own at.stands rows.1 ∙ omega arith

-- ---- one chain is another

set_same : (xs : List (List ℕ)) (n : ℕ) (x : List ℕ) → slice_get xs n ≡ Some x → slice_set xs n x ≡ xs
set_same [] n x e = refl
set_same (y ∷ xs) zero x e = let same : y ≡ x = cc in ap (λ (z : List ℕ). z ∷ xs) (sym same)
set_same (y ∷ xs) (suc n) x e = ap (λ (r : List (List ℕ)). y ∷ r) (set_same xs n x e)

pub name_stays : (a : Attribute) (kind : EntryKind) (items : List (ℕ × Entry)) → (with_entries a kind items).name ≡ a.name
name_stays a entries.G items = refl
name_stays a entries.R items = refl
name_stays a entries.Z items = refl

module _ {b now new list : List ℕ} {marks : List Mark} {reborn : List ℕ} {kind : EntryKind} {before : List AttributeShape} {own : AttributeShape} {after : List AttributeShape} {chain' gone come : List ℕ} (sound : IsSound b (shape b)) (r : Rechains b now (shape b) new list marks reborn kind before own after chain' gone come) where
  -- its members are those
  pub members_rechained : members_of now (entries_chain kind own.adr) ≡ chain'
  members_rechained =
      let is = of_shape kind (made sound r) (with_chain own kind chain') (splices sound r).own_entries.0 in
      ap (λ (a : ℕ). members_of now (entries_chain kind a)) (sym (adr_of kind own chain')) ∙ members_are (shape_now sound (splices sound r)) is ∙ chain_now kind own chain'

  -- the attributes stand where they did, and have their names
  pub places_rechained : adrs (shape now) ≡ adrs (shape b)
  places_rechained =
      let f = λ (a : AttributeShape). a.adr in
      ap (λ (s : Shape). adrs s) (now_is sound r) ∙ map-append f before (with_chain own kind chain' ∷ after) ∙ ap (λ (x : ℕ). map f before ++ x ∷ map f after) (adr_of kind own chain') ∙ sym (map-append f before (own ∷ after)) ∙ ap (map f) (sym r.was)

  pub names_rechained : attribute_names (content now) ≡ attribute_names (content b)
  names_rechained =
      let a = attribute_of b own in
      let there : slice_get (content b).attributes (length before) ≡ Some a = ap (λ (d : DataSet). slice_get d.attributes (length before)) (content_is b (shape b) sound.has_shape) ∙ got-map (attribute_of b) (shape b).attributes (length before) own (ap (λ (as_ : List AttributeShape). slice_get as_ (length before)) r.was ∙ got-middle before own after) in
      ap attribute_names (content_rechained sound r (chain_items now chain') refl)
      ∙ map-set (λ (x : Attribute). x.name) (content b).attributes (length before) (with_entries a kind (chain_items now chain'))
      ∙ set_same (attribute_names (content b)) (length before) _ (got-map (λ (x : Attribute). x.name) (content b).attributes (length before) a there ∙ ap Some (sym (name_stays a kind (chain_items now chain'))))

-- the members of its chain then
pub members_at : {b now new list : List ℕ} {marks : List Mark} {reborn : List ℕ} {kind : EntryKind} {before after : List AttributeShape} {chain' gone come : List ℕ} {number adr : ℕ} (good : Good b) (at : IsAttributeAt b number adr) → Rechains b now (shape b) new list marks reborn kind before at.own after chain' gone come → members_of now (entries_chain kind adr) ≡ chain'
members_at {now = now} {kind = kind} good at r = ap (λ (a : ℕ). members_of now (entries_chain kind a)) (sym at.adr_is) ∙ members_rechained (good_is_sound _ good) r
