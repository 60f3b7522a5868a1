-- An attribute and its entries, by what is kept of the attributes, as they are shown.
use Rattle.cdf_attrs.proofs.Common.{Attribute, AttributeShape, Chain, DataSet, Distinct, G, Good, GrEntries, In, IsAttributeAt, IsOfAttribute, LiesIn, List, None, Option, Scope, Some, Z, ZEntries, adr_name, adr_scope, adrs, aedr_num, ap, arith, attribute_of, content, content_is, get_or, good_is_sound, length, length-map, members_of, name_at, name_field, name_in, number, nums, option_map, refl, scope_of, shape, slice_get, slice_get_within, subst, sym, type_at, ℕ, ◌+◌, ◌<◌, ◌∙◌, ◌≡◌, ◌≤◌}
use Rattle.cdf_attrs.proofs.AttributesRead.{few_places, name_is, name_read, scope_read, short_image}
use Rattle.cdf_attrs.proofs.EntryChains.{entries_differ, few_entries, members}
use Rattle.cdf_attrs.proofs.OrderedEntries as ordered
use Rattle.cdf_attrs.specs.Known.{KnownOrder, KnowsOrder, with_numbers}
use Rattle.cdf_attrs.specs.Showing.{numbered_entry}
use Rattle.cdf_format.specs.Content.{entries_of}
use Rattle.cdf_model.specs.Events.{attribute_event, entry_event, kind_in}
use Rattle.cdf_model.specs.declared.event.Event.{Event}
use Rattle.cdf_model.specs.declared.event.Event.TheVariants as events
use Rattle.cdf_model.specs.declared.kinds.EntryKind.{EntryKind}
use Rattle.std.proofs.lemmas.List.Sorted.{length_permutation}
use Rattle.std.proofs.lemmas.Option.{get_or_from_slice_get, slice_get-map}
use Rattle.std.specs.List.Sorted.{IsPermutation}
use Rattle.std.specs.Option.{IfSome, IsSome, option_and_then}

pub found_member : (ms : List ℕ) (o : Option (ℕ × ℕ)) (e : ℕ × ℕ) → o ≡ Some e → IfSome o (λ (x : ℕ × ℕ). In x.1 ms) → In e.1 ms
found_member ms o e is member = subst (λ (p : Option (ℕ × ℕ)). IfSome p (λ (x : ℕ × ℕ). In x.1 ms)) is member

module _ (b : List ℕ) (good : Good b) where
  got_content : (n : ℕ) → slice_get (content b).attributes n ≡ option_map (attribute_of b) (slice_get (shape b).attributes n)
  got_content n = ap (λ (d : DataSet). slice_get d.attributes n) (content_is b (shape b) (good_is_sound b good).has_shape) ∙ slice_get-map (attribute_of b) (shape b).attributes n

  -- ---- the attribute of a number

  module _ {places : List ℕ} (are : places ≡ adrs (shape b)) (n : ℕ) where
    got_place : slice_get places n ≡ option_map (λ (a : AttributeShape). a.adr) (slice_get (shape b).attributes n)
    got_place = ap (λ (xs : List ℕ). slice_get xs n) are ∙ slice_get-map (λ (a : AttributeShape). a.adr) (shape b).attributes n

    pub attribute_at : (adr : ℕ) → slice_get places n ≡ Some adr → IsAttributeAt b n adr
    attribute_at adr is = at (slice_get (shape b).attributes n) refl (sym got_place ∙ is)
      where
        at : (o : Option AttributeShape) → slice_get (shape b).attributes n ≡ o → option_map (λ (a : AttributeShape). a.adr) o ≡ Some adr → IsAttributeAt b n adr
        at None there e = absurd cc
        at (Some own) there e = record { own = own; stands = there; adr_is = cc }

    pub no_attribute : slice_get places n ≡ None → slice_get (content b).attributes n ≡ None
    no_attribute is = got_content n ∙ at (slice_get (shape b).attributes n) (sym got_place ∙ is)
      where
        at : (o : Option AttributeShape) → option_map (λ (a : AttributeShape). a.adr) o ≡ None → option_map (attribute_of b) o ≡ None
        at None e = refl
        at (Some own) e = absurd cc

    module _ (adr : ℕ) (is : slice_get places n ≡ Some adr) where
      within : n < length places
      within = slice_get_within places n adr is

      place : get_or places n 0 ≡ adr
      place = get_or_from_slice_get places n adr 0 is

      -- there are not many
      pub few_attributes : n < 4294967295
      few_attributes = let lt = within in let few = few_places b good places are in omega arith

      pub name_lies : LiesIn b adr (name_field (type_at b adr))
      name_lies = subst (λ (x : ℕ). LiesIn b x (name_field (type_at b x))) place (name_read b good places are n within b refl)

      pub scope_lies : (now : List ℕ) → now ≡ b → adr + 32 ≤ length now
      scope_lies now same = subst (λ (x : ℕ). x + 32 ≤ length now) place (scope_read b good places are n within now same)

      pub name_found : (name : List ℕ) → name ≡ name_at b adr → name ≡ name_in b adr adr_name
      name_found name read = subst (λ (x : ℕ). name ≡ name_at b x → name ≡ name_in b x adr_name) place (name_is b good places are n within name) read

  module _ {n adr : ℕ} (at : IsAttributeAt b n adr) where
    got : slice_get (content b).attributes n ≡ Some (attribute_of b at.own)
    got = got_content n ∙ ap (option_map (attribute_of b)) at.stands

    scope_is : (scope : Scope) → scope ≡ scope_of (number b adr adr_scope) → scope ≡ (attribute_of b at.own).scope
    scope_is scope read = read ∙ ap (λ (x : ℕ). scope_of (number b x adr_scope)) (sym at.adr_is)

    -- ---- its entries

    abbrev pub own_chain : IsOfAttribute b (GrEntries adr)
    own_chain = record { number = n; own = at.own; stands = at.stands; kind = G; chain_is = ap GrEntries (sym at.adr_is) }

    abbrev pub z_chain : IsOfAttribute b (ZEntries adr)
    z_chain = record { number = n; own = at.own; stands = at.stands; kind = Z; chain_is = ap ZEntries (sym at.adr_is) }

    pub own_shown : (scope : Scope) → scope ≡ scope_of (number b adr adr_scope) → (kind : EntryKind) → kind ≡ kind_in scope → (i : ℕ) (o : Option Event) → o ≡ option_map (entry_event kind) (slice_get (entries_of b (members_of b (GrEntries adr))) i)
        → o ≡ option_and_then (λ a. option_map (entry_event (kind_in a.scope)) (slice_get a.g i)) (slice_get (content b).attributes n)
    own_shown scope read kind is i o shown =
        shown
        ∙ (λ j. option_map (entry_event ((is ∙ ap kind_in (scope_is scope read)) j)) (slice_get (entries_of b (members b good (GrEntries adr) own_chain j)) i))
        ∙ ap (λ (found : Option Attribute). option_and_then (λ (a : Attribute). option_map (entry_event (kind_in a.scope)) (slice_get a.g i)) found) (sym got)

    pub z_shown : (i : ℕ) (o : Option Event) → o ≡ option_map (entry_event Z) (slice_get (entries_of b (members_of b (ZEntries adr))) i)
        → o ≡ option_and_then (λ a. option_map (entry_event Z) (slice_get a.z i)) (slice_get (content b).attributes n)
    z_shown i o shown =
        shown
        ∙ ap (λ (ms : List ℕ). option_map (entry_event Z) (slice_get (entries_of b ms) i)) (members b good (ZEntries adr) z_chain)
        ∙ ap (λ (found : Option Attribute). option_and_then (λ (a : Attribute). option_map (entry_event Z) (slice_get a.z i)) found) (sym got)

    pub attribute_shown : (name : List ℕ) → name ≡ name_in b adr adr_name → (scope : Scope) → scope ≡ scope_of (number b adr adr_scope)
        → Some (events.Attr n name scope) ≡ option_map (attribute_event n) (slice_get (content b).attributes n)
    attribute_shown name named scope read =
        (λ j. Some (events.Attr n ((named ∙ ap (λ (x : ℕ). name_in b x adr_name) (sym at.adr_is)) j) (scope_is scope read j)))
        ∙ ap (λ (found : Option Attribute). option_map (attribute_event n) found) (sym got)

  -- ---- a chain in the order of its numbers

  module _ {order : KnownOrder} {c : Chain} (is : order.chain ≡ c) (of : IsOfAttribute b c) (knows : KnowsOrder b order) (i : ℕ) where
    differ : Distinct (nums b (members_of b c))
    differ = subst (λ (ms : List ℕ). Distinct (nums b ms)) (sym (members b good c of)) (entries_differ b good c of)

    all : IsPermutation (with_numbers b (members_of b c)) order.entries
    all = subst (λ (x : Chain). IsPermutation (with_numbers b (members_of b x)) order.entries) is knows.all

    pub entry_found : option_map (numbered_entry b) (slice_get order.entries i) ≡ slice_get (entries_of b (members_of b c)) i
    entry_found = ordered.at_index b (members_of b c) order.entries differ all knows.rise i

    pub entry_stands : (e : ℕ × ℕ) → slice_get order.entries i ≡ Some e → In e.1 (members_of b c)
    entry_stands e found = ordered.stand_in b (members_of b c) order.entries all i e found

    pub found_stands : (o : Option (ℕ × ℕ)) → o ≡ slice_get order.entries i → IfSome o (λ (e : ℕ × ℕ). In e.1 (members_of b c))
    found_stands None found = tt
    found_stands (Some e) found = entry_stands e (sym found)

    pub few_found : (e : ℕ × ℕ) → slice_get order.entries i ≡ Some e → i < 4294967295
    few_found e found =
        let within = slice_get_within order.entries i e found in
        let long = length_permutation (with_numbers b (members_of b c)) order.entries all ∙ length-map (members_of b c) (λ (m : ℕ). (number b m aedr_num, m)) in
        let few = few_entries b good c of in
        let short = short_image b good in
        omega arith

    pub few_some : (o : Option (ℕ × ℕ)) → o ≡ slice_get order.entries i → IsSome o → i < 4294967295
    few_some None found some = absurd cc
    few_some (Some e) found some = few_found e (sym found)
