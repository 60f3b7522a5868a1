-- What is kept of the attributes, in terms of an image.
use Rattle.cdf_attrs.proofs.Common.{Chain, In, IsOfAttribute, Known, KnownEntries, Knows, KnowsEntries, List, None, Option, Some, [], adrs, aedr_num, ap, arith, attribute_names, content, entries_chain, inl, inr, map, members_of, number, refl, same_Some, shape, slice_get, subst, suc, sym, ℕ, ◌∙◌, ◌∷◌, ◌≡◌}
use Rattle.cdf_attrs.proofs.EntryChains.{got_in}
use Rattle.cdf_attrs.proofs.Pairs.{zip-mapped}
use Rattle.cdf_attrs.specs.Known.{IsOfOne, KeepsEntries, KeepsOrder, KnownOrder, KnowsOrder, is_same_chain, with_numbers}
use Rattle.cdf_edits.specs.Commands.Others.{EntriesStay}
use Rattle.cdf_format.specs.Shape.{AttributeShape}
use Rattle.cdf_model.specs.declared.kinds.EntryKind.{EntryKind}
use Rattle.std.proofs.lemmas.List.Elements.{All-contains, All-weaker}
use Rattle.std.proofs.lemmas.Option.{none-some}
use Rattle.std.specs.List.{zip}
use Rattle.std.specs.List.Sorted.{IsNonDecreasingBy, IsPermutation}
use Rattle.std.specs.Option.{ForSome}
use Rattle.std.specs.Prelude.{All, Contains, false, ◌⊎◌}

module _ {b : List ℕ} {v known : Known} (knows : Knows b known) (is : v ≡ known) where
  pub names_known : v.names ≡ attribute_names (content b)
  names_known = ap (λ (k : Known). k.names) is ∙ knows.names_are

  pub places_known : v.places ≡ adrs (shape b)
  places_known = ap (λ (k : Known). k.places) is ∙ knows.places_are

  pub entries_known : All (KeepsEntries b v.places) v.entries
  entries_known = subst (λ (k : Known). All (KeepsEntries b k.places) k.entries) (sym is) knows.entries_are

  -- others are kept in order
  order_known : (order : Option KnownOrder) → ForSome order (KeepsOrder b v.places) → Knows b (record v { order = order })
  order_known order order_is = record { names_are = names_known; places_are = places_known; entries_are = entries_known; order_is = order_is }

  pub none_ordered : (order : Option KnownOrder) → order ≡ None → Knows b (record v { order = order })
  none_ordered order none = order_known order (λ e same. absurd (none-some e (sym none ∙ same)))

  pub some_ordered : (order : KnownOrder) → KeepsOrder b v.places order → Knows b (record v { order = Some order })
  some_ordered order own = order_known (Some order) (λ e same. subst (KeepsOrder b v.places) (same_Some order e same) own)

  -- fewer are kept, and none in order
  pub fewer_known : (es : List KnownEntries) → All (Contains v.entries) es → Knows b (record v { entries = es; order = None })
  fewer_known es all = record {
    names_are = names_known;
    places_are = places_known;
    entries_are = All-weaker (Contains v.entries) (KeepsEntries b v.places) (λ e i. All-contains (KeepsEntries b v.places) v.entries e entries_known i) es all;
    order_is = λ e same. absurd cc;
  }

  -- the entries of a chain are kept beside them
  pub more_known : (own : KnownEntries) (es : List KnownEntries) → KeepsEntries b v.places own → All (λ e. (e ≡ own) ⊎ Contains v.entries e) es → Knows b (record v { entries = es })
  more_known own es keeps all = record {
    names_are = names_known;
    places_are = places_known;
    entries_are = All-weaker (λ e. (e ≡ own) ⊎ Contains v.entries e) (KeepsEntries b v.places) (λ e i. elim i [ inl same ↦ subst (KeepsEntries b v.places) (sym same) keeps | inr c ↦ All-contains (KeepsEntries b v.places) v.entries e entries_known c ]) es all;
    order_is = subst (λ (k : Known). ForSome k.order (KeepsOrder b k.places)) (sym is) knows.order_is;
  }

-- a chain of an attribute is one of those that stand at the places of the ADRs
pub of_one : {b places : List ℕ} {chain other : Chain} → places ≡ adrs (shape b) → IsOfAttribute b chain → other ≡ chain → IsOfOne places other
of_one {b} are of same = record {
  kind = of.kind;
  adr = of.own.adr;
  among = subst (In of.own.adr) (sym are) (got_in (shape b).attributes of.number of.own of.stands);
  chain_is = same ∙ of.chain_is;
}

-- the entries of a chain that were put in order
pub ordered_known : (b : List ℕ) (entries : KnownEntries) (order : KnownOrder) → KnowsEntries b entries → order.chain ≡ entries.chain → IsPermutation (zip entries.numbers entries.places) order.entries → IsNonDecreasingBy (λ (e : ℕ × ℕ). e.0) order.entries → KnowsOrder b order
ordered_known b entries order knows chain all rise = record { all = subst (λ (ps : List (ℕ × ℕ)). IsPermutation ps order.entries) same all; rise = rise }
  where
    same : zip entries.numbers entries.places ≡ with_numbers b (members_of b order.chain)
    same =
        ap (λ (ns : List ℕ). zip ns entries.places) knows.numbers_are
        ∙ zip-mapped (λ (m : ℕ). number b m aedr_num) entries.places
        ∙ ap (with_numbers b) (knows.places_are ∙ ap (members_of b) (sym chain))

-- no entries are kept, in no order
pub none_known : (b : List ℕ) (names : List (List ℕ)) (places : List ℕ) (entries : List KnownEntries) → names ≡ attribute_names (content b) → places ≡ adrs (shape b) → entries ≡ [] → Knows b (record { names = names; places = places; entries = entries; order = None })
none_known b names places entries named placed none = record {
  names_are = named;
  places_are = placed;
  entries_are = subst (All (KeepsEntries b places)) (sym none) (λ k d lt. absurd (omega (arith, lt)));
  order_is = λ e is. absurd cc;
}

-- ---- after a change

-- the attribute whose ADR stands at a place
record Own (as_ : List AttributeShape) (adr : ℕ) : Type 0 where
  number : ℕ
  own : AttributeShape
  stands : slice_get as_ number ≡ Some own
  adr_is : own.adr ≡ adr

own_at : (as_ : List AttributeShape) (adr : ℕ) → In adr (map (λ (a : AttributeShape). a.adr) as_) → Own as_ adr
own_at [] adr i = absurd i
own_at (a ∷ as_) adr (inl e) = record { number = 0; own = a; stands = refl; adr_is = sym e }
own_at (a ∷ as_) adr (inr i) = let more = own_at as_ adr i in record { number = suc more.number; own = more.own; stands = more.stands; adr_is = more.adr_is }

module _ {b now : List ℕ} where
  entries_yet : (entries : KnownEntries) → EntriesStay b now entries.chain → KnowsEntries b entries → KnowsEntries now entries
  entries_yet entries stay knows = record {
    places_are = knows.places_are ∙ sym stay.places_stay;
    numbers_are = knows.numbers_are ∙ ap (map (λ aedr. number b aedr aedr_num)) knows.places_are ∙ sym stay.numbers_stay ∙ sym (ap (map (λ aedr. number now aedr aedr_num)) knows.places_are);
  }

  order_yet : (order : KnownOrder) → EntriesStay b now order.chain → KnowsOrder b order → KnowsOrder now order
  order_yet order stay knows = record { all = subst (λ (ps : List (ℕ × ℕ)). IsPermutation ps order.entries) (sym same) knows.all; rise = knows.rise }
    where
      same : with_numbers now (members_of now order.chain) ≡ with_numbers b (members_of b order.chain)
      same =
          ap (with_numbers now) stay.places_stay
          ∙ sym (zip-mapped (λ (m : ℕ). number now m aedr_num) (members_of b order.chain))
          ∙ ap (λ (ns : List ℕ). zip ns (members_of b order.chain)) stay.numbers_stay
          ∙ zip-mapped (λ (m : ℕ). number b m aedr_num) (members_of b order.chain)

  module _ {places : List ℕ} (are : places ≡ adrs (shape b)) (P : Chain → Type 0) (stay : (n : ℕ) (own : AttributeShape) (kind : EntryKind) → slice_get (shape b).attributes n ≡ Some own → P (entries_chain kind own.adr) → EntriesStay b now (entries_chain kind own.adr)) where
    chain_stays : (chain : Chain) → IsOfOne places chain → P chain → EntriesStay b now chain
    chain_stays chain of p =
        let one = own_at (shape b).attributes of.adr (subst (In of.adr) are of.among) in
        let same : chain ≡ entries_chain of.kind one.own.adr = of.chain_is ∙ ap (entries_chain of.kind) (sym one.adr_is) in
        subst (EntriesStay b now) (sym same) (stay one.number one.own of.kind one.stands (subst P same p))

    entries_keep : (entries : KnownEntries) → P entries.chain → KeepsEntries b places entries → KeepsEntries now places entries
    entries_keep entries p keeps = record { of_one = keeps.of_one; knows = entries_yet entries (chain_stays entries.chain keeps.of_one p) keeps.knows }

    order_keep : (order : KnownOrder) → P order.chain → KeepsOrder b places order → KeepsOrder now places order
    order_keep order p keeps = record { of_one = keeps.of_one; knows = order_yet order (chain_stays order.chain keeps.of_one p) keeps.knows }

-- all entries stay
pub known_stays : {b now : List ℕ} {known : Known} → known.names ≡ attribute_names (content now) → known.places ≡ adrs (shape now) → Knows b known → ((n : ℕ) (own : AttributeShape) (kind : EntryKind) → slice_get (shape b).attributes n ≡ Some own → EntriesStay b now (entries_chain kind own.adr)) → Knows now known
known_stays {b} {now} {known} named placed knows stay =
    let always = λ (chain : Chain). Unit {0} in
    let each = λ (n : ℕ) (own : AttributeShape) (kind : EntryKind) (at : slice_get (shape b).attributes n ≡ Some own) (p : Unit {0}). stay n own kind at in
    record {
      names_are = named;
      places_are = placed;
      entries_are = All-weaker (KeepsEntries b known.places) (KeepsEntries now known.places) (λ e keeps. entries_keep knows.places_are always each e tt keeps) known.entries knows.entries_are;
      order_is = λ o same. order_keep knows.places_are always each o tt (knows.order_is o same);
    }

-- the entries of one chain changed, and are kept with those of others, which stay
pub one_changed : {b now : List ℕ} {v known : Known} (chain : Chain) → Knows b known → (is : v ≡ known) → known.order ≡ None → attribute_names (content now) ≡ attribute_names (content b) → adrs (shape now) ≡ adrs (shape b)
    → All (λ e. is_same_chain e.chain chain ≡ false) known.entries
    → ((n : ℕ) (own : AttributeShape) (kind : EntryKind) → slice_get (shape b).attributes n ≡ Some own → is_same_chain (entries_chain kind own.adr) chain ≡ false → EntriesStay b now (entries_chain kind own.adr))
    → (own : KnownEntries) (es : List KnownEntries) → IsOfOne v.places own.chain → KnowsEntries now own → All (λ e. (e ≡ own) ⊎ Contains v.entries e) es → Knows now (record v { entries = es })
one_changed {b} {now} {v} {known} chain knows is unordered names places others stay own es of_one knows_own all = record {
  names_are = names_known knows is ∙ sym names;
  places_are = places_known knows is ∙ sym places;
  entries_are = All-weaker (λ e. (e ≡ own) ⊎ Contains v.entries e) (KeepsEntries now v.places) each es all;
  order_is = λ o same. absurd (none-some o (sym (ap (λ (k : Known). k.order) is ∙ unordered) ∙ same));
}
  where
    apart : All (λ e. is_same_chain e.chain chain ≡ false) v.entries
    apart = subst (λ (k : Known). All (λ e. is_same_chain e.chain chain ≡ false) k.entries) (sym is) others

    each : (e : KnownEntries) → (e ≡ own) ⊎ Contains v.entries e → KeepsEntries now v.places e
    each e (inl same) = subst (KeepsEntries now v.places) (sym same) (record { of_one = of_one; knows = knows_own })
    each e (inr c) =
        entries_keep (places_known knows is) (λ (x : Chain). is_same_chain x chain ≡ false) stay e
        (All-contains (λ (x : KnownEntries). is_same_chain x.chain chain ≡ false) v.entries e apart c) (All-contains (KeepsEntries b v.places) v.entries e (entries_known knows is) c)
