-- The attribute with a name, by what is kept of the attributes.
use Rattle.cdf_attrs.proofs.Common.{AttributeShape, Chain, Cut, DataSet, EntryKind, FindsChain, Good, HasShape, HasWrongScope, In, List, Scope, Some, [], adr_scope, adrs, ap, ap₂, arith, attribute_named, attribute_names, attribute_of, content, content_is, cut, entries_chain, false, get_or, good_is_sound, got-map, got-middle, is_wrong_scope, length, length-map, map, number, number_of, scope_of, shape, slice_get, slice_get_within, subst, suc, sym, true, zero, ℕ, ◌+◌, ◌<◌, ◌∙◌, ◌∷◌, ◌≡◌, ◌≤◌}
use Rattle.cdf_attrs.proofs.AttributeChain.{adr_inside, index_in, names_count}
use Rattle.cdf_attrs.proofs.NamesChanged.{named_there, number_within}

pub adr_got : (as_ : List AttributeShape) (n : ℕ) (a : AttributeShape) → slice_get as_ n ≡ Some a → get_or (map (λ (x : AttributeShape). x.adr) as_) n 0 ≡ a.adr
adr_got [] n a e = absurd cc
adr_got (x ∷ as_) zero a e = let same : x ≡ a = cc in ap (λ (y : AttributeShape). y.adr) same
adr_got (x ∷ as_) (suc n) a e = adr_got as_ n a e

-- the place of an attribute whose chain was found
module _ {b attr : List ℕ} {kind : EntryKind} {n : ℕ} {chain : Chain} (found : FindsChain b attr kind n chain) (places : List ℕ) (placed : places ≡ adrs (shape b)) where
  pub place_within : n < length places
  place_within =
      let lt = slice_get_within (shape b).attributes n found.own found.stands in
      let long = ap (λ (xs : List ℕ). length xs) placed ∙ length-map (shape b).attributes (λ (a : AttributeShape). a.adr) in
      omega arith

  pub adr_is : get_or places n 0 ≡ found.own.adr
  adr_is = ap (λ (xs : List ℕ). get_or xs n 0) placed ∙ adr_got (shape b).attributes n found.own found.stands

module _ (b attr : List ℕ) (kind : EntryKind) (good : Good b) (names : List (List ℕ)) (places : List ℕ) (names_are : names ≡ attribute_names (content b)) (places_are : places ≡ adrs (shape b)) (n : ℕ) (found : number_of names attr ≡ Some n) where
  h : HasShape b (shape b)
  h = (good_is_sound b good).has_shape

  within : n < length (adrs (shape b))
  within = let e = names_count b (shape b) h names names_are in let lt = number_within names attr n found in omega arith

  pub has_place : n < length places
  has_place = let lt = within in omega (arith, ap (λ (xs : List ℕ). length xs) places_are)

  pub scope_inside : get_or places n 0 + 32 ≤ length b
  scope_inside = let l = adr_inside b (shape b) h (get_or places n 0) (subst (λ (xs : List ℕ). In (get_or places n 0) xs) places_are (index_in places n has_place)) in omega arith

  parts : Cut (shape b).attributes n
  parts = cut (shape b).attributes n (let lt = within in omega (arith, length-map (shape b).attributes (λ (a : AttributeShape). a.adr)))

  stands : slice_get (shape b).attributes n ≡ Some parts.own
  stands = ap₂ (λ (as_ : List AttributeShape) (k : ℕ). slice_get as_ k) parts.is (sym parts.count) ∙ got-middle parts.before parts.own parts.after

  place_is : get_or places n 0 ≡ parts.own.adr
  place_is = ap (λ (xs : List ℕ). get_or xs n 0) places_are ∙ adr_got (shape b).attributes n parts.own stands

  named : attribute_named (content b) attr ≡ Some (n, attribute_of b parts.own)
  named =
      let there : slice_get (content b).attributes n ≡ Some (attribute_of b parts.own) = ap (λ (d : DataSet). slice_get d.attributes n) (content_is b (shape b) h) ∙ got-map (attribute_of b) (shape b).attributes n parts.own stands in
      named_there (content b) names attr n (attribute_of b parts.own) names_are found there

  module _ (scope : Scope) (scoped : scope ≡ scope_of (number b (get_or places n 0) adr_scope)) where
    scope_is : scope ≡ (attribute_of b parts.own).scope
    scope_is = scoped ∙ ap (λ (x : ℕ). scope_of (number b x adr_scope)) place_is

    pub is_wrong : is_wrong_scope kind scope ≡ true → HasWrongScope b attr kind
    is_wrong e = record { number = n; own = attribute_of b parts.own; named = named; wrong = ap (is_wrong_scope kind) (sym scope_is) ∙ e }

    pub is_found : is_wrong_scope kind scope ≡ false → (chain : Chain) → chain ≡ entries_chain kind (get_or places n 0) → FindsChain b attr kind n chain
    is_found e chain is = record { own = parts.own; stands = stands; named = named; in_scope = ap (is_wrong_scope kind) (sym scope_is) ∙ e; chain_is = is ∙ ap (entries_chain kind) place_is }
