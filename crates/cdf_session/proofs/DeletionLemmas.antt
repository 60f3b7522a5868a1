-- What is kept of attributes and variables while a variable goes with its entries.
use Rattle.cdf_attrs.proofs.KnownAttributes.{none_known}
use Rattle.cdf_attrs.specs.Known.{KeepsEntries}
use Rattle.std.specs.Prelude.{All}
use Rattle.cdf_session.proofs.Common.{DelVar, Known, Knows, List, None, Parts, Some, [], ap, arith, delete_done, length, map, refl, subst, sym, the_parts, ℕ, ◌<◌, ◌∙◌, ◌≡◌, ◌≤◌}
use Rattle.cdf_edits.proofs.Common.{DropsEntries, RemovesVariable, content, adrs, vdrs, Good, DataSet, Variable, Found, attribute_names, variable_named, variables_of, with_variables, Kind, R, Z, Answers, variable_of, image_limit, Done, Plain}
use Rattle.cdf_edits.proofs.Edits.RemovedVariable.{content_after, shape_after}
use Rattle.cdf_vars.specs.Finding.{found_among}
use Rattle.cdf_vars.specs.Known.{Known as KnownVariables, KnownKind, KnowsKind, Knows as KnowsVariables, known_of}
use Rattle.cdf_vars.specs.declared.vars.VarId.{VarId}

same_names : (d : DataSet) (kind : Kind) (vs : List Variable) → attribute_names (with_variables d kind vs) ≡ attribute_names d
same_names d kind vs = grind arith

module _ {b now : List ℕ} {kind : Kind} {n : ℕ} (good : Good b) (d : RemovesVariable b now kind n) where
  -- the attributes stay while the variable itself goes
  pub attributes_stay : {known : Known} → known.entries ≡ [] → known.order ≡ None → Knows b known → Knows now known
  attributes_stay {known} no_entries no_order knows = record {
    names_are = knows.names_are ∙ sym (ap attribute_names (content_after good d) ∙ same_names _ kind _);
    places_are = knows.places_are ∙ sym (ap adrs (shape_after good d));
    entries_are = subst (All (KeepsEntries now known.places)) (sym no_entries) (λ k d lt. absurd (omega (arith, lt)));
    order_is = λ o same. let gone : None ≡ Some o = sym no_order ∙ same in absurd cc;
  }

module _ {b now : List ℕ} {found : Found} (drops : DropsEntries b found now) where
  kind_stays : (kind : Kind) → variables_of (content now) kind ≡ variables_of (content b) kind
  kind_stays R = ap (λ (d : DataSet). d.r_variables) drops.content_is
  kind_stays Z = ap (λ (d : DataSet). d.z_variables) drops.content_is

  -- the variables stay while their entries go
  pub variables_stay : {known : KnownVariables} → KnowsVariables b known → KnowsVariables now known
  variables_stay knows = record {
    r_known = record { names_are = knows.r_known.names_are ∙ ap (map (λ (v : Variable). v.name)) (sym (kind_stays R)); places_are = knows.r_known.places_are ∙ ap vdrs (sym (drops.variables_are R)) };
    z_known = record { names_are = knows.z_known.names_are ∙ ap (map (λ (v : Variable). v.name)) (sym (kind_stays Z)); places_are = knows.z_known.places_are ∙ ap vdrs (sym (drops.variables_are Z)) };
  }

  kind_back : (kind : Kind) {known : KnownKind} → KnowsKind now kind known → KnowsKind b kind known
  kind_back kind knows = record {
    names_are = knows.names_are ∙ ap (map (λ (v : Variable). v.name)) (kind_stays kind);
    places_are = knows.places_are ∙ ap vdrs (drops.variables_are kind);
  }

  -- and what is right of them after that was right of them before
  pub variables_were : {known : KnownVariables} → KnowsVariables now known → KnowsVariables b known
  variables_were knows = record { r_known = kind_back R knows.r_known; z_known = kind_back Z knows.z_known }

-- ---- a variable that is found by its name, and whose entries went

module _ {b mid : List ℕ} {known : KnownVariables} (name : List ℕ) {id : VarId} (good : Good b) (knows : KnowsVariables b known) (is : found_among known name ≡ Some id) (dropped : (found : Found) → found.kind ≡ id.kind → found.number ≡ id.num → DropsEntries b found mid) where
  there : Parts b known name id
  there = the_parts name good knows is

  abbrev found : Found
  found = record { kind = id.kind; number = id.num; variable = variable_of b there.own }

  named : variable_named (content b) name ≡ Some found
  named = there.named ∙ (λ i. Some (record { kind = id.kind; number = there.count i; variable = variable_of b there.own }))

  drops : DropsEntries b found mid
  drops = dropped found refl refl

  pub good_between : Good mid
  good_between = drops.good

  pub knows_between : KnowsVariables mid known
  knows_between = variables_stay drops knows

  pub knew_before : {after : KnownVariables} → KnowsVariables mid after → KnowsVariables b after
  knew_before k = variables_were drops k

  pub stands_within : id.num < length (known_of known id.kind).places
  stands_within = there.within

  pub short_between : length b ≤ image_limit → length mid ≤ image_limit
  short_between short = let l = drops.long in omega arith

  pub is_deleted : {now : List ℕ} (limit : ℕ) → length b ≤ limit → limit ≤ image_limit → RemovesVariable mid now id.kind id.num → Answers limit b (DelVar name) (Done Plain) now
  is_deleted limit fits most removes = delete_done good drops removes name named limit fits (omega arith)

-- nothing but entries was let go
pub forgets : {b : List ℕ} {known after : Known} → Knows b known → after ≡ record known { entries = []; order = None } → Knows b after
forgets {b} {known} {after} knows is = subst (Knows b) (sym is) (none_known b known.names known.places [] knows.names_are knows.places_are refl)
