-- The attributes, as they stand.
use Rattle.std.proofs.Common.{Bool, List, None, Option, Some, [], ap, ap₂, arith, drop, eq-eqb, inl, inr, length, lit<, map, not, refl, replicate, subst, suc, sym, take, true, ℕ, ◌-◌, ◌++◌, ◌+◌, ◌<◌, ◌^◌, ◌∙◌, ◌∷◌, ◌≡◌, ◌≤◌}
use Rattle.std.proofs.lemmas.Bool.{and_from}
use Rattle.std.proofs.lemmas.List.{length-append, length-replicate}
use Rattle.std.specs.List.{before_first, flat_map, last_or}
use Rattle.std.specs.Option.{option_map}
use Rattle.std.specs.Prelude.{◌==◌, ◌&&◌, nat_le}
use Rattle.cdf_model.specs.declared.kinds.Scope.{Scope}
use Rattle.cdf_model.specs.declared.kinds.Scope.TheVariants.{Global, Variable, GlobalAssumed, VariableAssumed}
use Rattle.cdf_model.specs.DataSet.{Attribute, Entry}
use Rattle.cdf_model.specs.Numbered.{greatest}
use Rattle.cdf_fields.proofs.NamesWritten.{before_zeros}
use Rattle.cdf_format.proofs.GoodByShape.{attribute_shape_rows}
use Rattle.cdf_format.proofs.Members.{In-append_left, In-append_right}
use Rattle.cdf_format.proofs.NameRules.{AreNew, names_at}
use Rattle.cdf_format.proofs.RowLemmas.{Hold-append}
use Rattle.cdf_format.proofs.Tests.{of_le}
use Rattle.cdf_format.specs.AttributeRules.{adr_rows, entries_rows}
use Rattle.cdf_format.specs.ChainRules.{number_rows}
use Rattle.cdf_format.specs.Chains.{Leads, is_linkable, next_of}
use Rattle.cdf_format.specs.Content.{attribute_of, scope_of}
use Rattle.cdf_format.specs.Fields.{name_in, number}
use Rattle.cdf_format.specs.Owners.{attribute_records}
use Rattle.cdf_format.specs.Records.{Field, adr_adr_next, adr_agr_edr_head, adr_az_edr_head, adr_max_gr_entry, adr_max_z_entry, adr_name, adr_ngr_entries, adr_num, adr_nz_entries, adr_rfu_a, adr_rfu_e, adr_scope, record_type}
use Rattle.cdf_format.specs.RecordTypes.{adr_type, agr_edr_type, az_edr_type}
use Rattle.cdf_format.specs.Rules.{Hold}
use Rattle.cdf_format.specs.Shape.{AttributeShape, Each, HasEntries}
use Rattle.cdf_format.specs.Stored.{is_little}
use Rattle.cdf_format.specs.Tiles.{Distinct, In}
use Rattle.cdf_edits.proofs.Commands.FineNames.{fine_has_no_zeros, fine_is_short, fine_is_some}
use Rattle.cdf_edits.proofs.Space.LaidOut.{IsType, typed_body, value_laid}
use Rattle.cdf_edits.specs.Space.Placing.{IsBody, laid_out, type_of_body}
unfoldable use Rattle.cdf_writer.specs.Bodies.{adr_body, adr_front}
use Rattle.cdf_writer.specs.Bodies.{name_bytes, or_minus_one, scope_code, whole_record}
use Rattle.cdf_writer.specs.Fine.{Differ, FineAttribute, Rise}
use Rattle.cdf_writer.specs.Laying.{attribute_bodies, attributes_bodies, entry_bodies, g_place, laid, laid_size, link_if, past_attribute, z_place}
use Rattle.cdf_writer.proofs.Entries.{AllRead, Fines, all_read, entries_lead, entries_linkable, entries_mean, entries_records, entries_rules, entry_places, entry_sizes, places_are}
use Rattle.cdf_writer.proofs.Stands.{IsRecord, Standing, Stands, linkable_at, part_stands, places, places-append, places_distinct, size-append, size-cons, standing, stands_parts, whole_size}

abbrev said_behind : ℕ → ℕ → ℕ → ℕ → Attribute → List (Field × ℕ)
said_behind n next g z a =
    (adr_adr_next, next)
    ∷ (adr_agr_edr_head, g)
    ∷ (adr_scope, scope_code a.scope)
    ∷ (adr_num, n)
    ∷ (adr_ngr_entries, length a.g)
    ∷ (adr_max_gr_entry, or_minus_one (greatest a.g))
    ∷ (adr_rfu_a, 0)
    ∷ (adr_az_edr_head, z)
    ∷ (adr_nz_entries, length a.z)
    ∷ (adr_max_z_entry, or_minus_one (greatest a.z))
    ∷ (adr_rfu_e, 0xffffffff)
    ∷ []

pub record AdrReads (b : List ℕ) (place n next g z : ℕ) (a : Attribute) : Type 0 where
  pub next_is : next_of b place ≡ next
  pub g_is : number b place adr_agr_edr_head ≡ g
  pub z_is : number b place adr_az_edr_head ≡ z
  pub scope_is : number b place adr_scope ≡ scope_code a.scope
  pub num_is : number b place adr_num ≡ n
  pub g_count : number b place adr_ngr_entries ≡ length a.g
  pub z_count : number b place adr_nz_entries ≡ length a.z
  pub name_is : name_in b place adr_name ≡ a.name

scope_back : (x : Scope) → scope_of (scope_code x) ≡ x
scope_back Global = refl
scope_back Variable = refl
scope_back GlobalAssumed = refl
scope_back VariableAssumed = refl

code_low : (x : Scope) → 1 ≤ scope_code x
code_low x = grind arith

code_high : (x : Scope) → scope_code x ≤ 4
code_high x = grind arith

padded_size : (name : List ℕ) → length name ≤ 256 → length (name_bytes adr_name name) ≡ 256
padded_size name short = omega (arith, length-append name (replicate (256 - length name) 0), length-replicate {A = ℕ} (256 - length name) 0)

-- there are no more entries than numbers
pub few_entries : (low : ℕ) (items : List (ℕ × Entry)) → Rise low items → Fines items → low ≤ 2147483647 → low + length items ≤ 2147483647
few_entries low [] rise f le = omega arith
few_entries low (item ∷ more) rise f le = let l = rise.0 in let n = f.0.numbered in let r = few_entries (suc item.0) more rise.1 f.1 (omega arith) in omega arith

greatest_fits : (items : List (ℕ × Entry)) → Fines items → or_minus_one (greatest items) < 256 ^ 4
greatest_fits items f = from None items f (lit< tt)
  where
    at : Option (ℕ × Entry) → ℕ
    at o = or_minus_one (option_map (λ item. item.0) o)

    fits : (k : ℕ) → k ≤ 2147483646 → k < 256 ^ 4
    fits k le = omega arith

    from : (o : Option (ℕ × Entry)) (items : List (ℕ × Entry)) → Fines items → or_minus_one (option_map (λ item. item.0) o) < 256 ^ 4 → or_minus_one (option_map (λ item. item.0) (last_or o items)) < 256 ^ 4
    from o [] f lt = lt
    from o (item ∷ more) f lt = from (Some item) more f.1 (fits item.0 f.0.numbered)

pub g_type : IsType agr_edr_type 56
g_type = record { small = lit< tt; real = refl; in_use = λ e. cc; fixed = omega arith; enough = omega arith }

pub z_type : IsType az_edr_type 56
z_type = record { small = lit< tt; real = refl; in_use = λ e. cc; fixed = omega arith; enough = omega arith }

adr_is_type : IsType adr_type 324
adr_is_type = record { small = lit< tt; real = refl; in_use = λ e. cc; fixed = omega arith; enough = omega arith }

-- ---- one attribute

module _ (a : Attribute) (fine : FineAttribute a) (n next g z : ℕ) where
  pub adr_size : 8 + length (adr_body n next g z a) ≡ 324
  unfolding adr_body adr_front
  adr_size = omega (arith, padded_size a.name (fine_is_short a.name fine.named), length-append (laid_out ((record_type, adr_type) ∷ said_behind n next g z a)) (name_bytes adr_name a.name))

  adr_made : (type_of_body (adr_body n next g z a) ≡ adr_type) × IsBody (adr_body n next g z a)
  unfolding adr_body adr_front
  adr_made = typed_body (said_behind n next g z a) (name_bytes adr_name a.name) (adr_body n next g z a) adr_is_type refl (let long = adr_size in omega arith)

  adr_typed : type_of_body (adr_body n next g z a) ≡ adr_type
  adr_typed = adr_made.0

  pub adr_record : IsRecord (adr_body n next g z a)
  adr_record = let long = adr_size in record { body_is = adr_made.1; fits = small (length (adr_body n next g z a)) (omega arith) }
    where
      small : (k : ℕ) → k ≤ 316 → 8 + k < 256 ^ 8
      small k le = omega arith

  pub adr_reads : (b : List ℕ) (place : ℕ) → next < 256 ^ 8 → g < 256 ^ 8 → z < 256 ^ 8 → n < 256 ^ 4 → Standing b place (adr_body n next g z a) → AdrReads b place n next g z a
  unfolding adr_body adr_front
  adr_reads b place next_fits g_fits z_fits n_fits s =
      let value = name_bytes adr_name a.name in
      let long = padded_size a.name (fine_is_short a.name fine.named) in
      let w = value_laid b place 8 ((record_type, adr_type) ∷ said_behind n next g z a) value s.behind.rest s.behind.there refl (
        lit< tt,
        (
          next_fits,
          (
            g_fits,
            (
              code_fits (scope_code a.scope) (code_high a.scope),
              (
                n_fits,
                (
                  count_fits (length a.g) (few_entries 0 a.g fine.g_fine.0 fine.g_fine.1 (omega arith)),
                  (
                    greatest_fits a.g fine.g_fine.1,
                    (
                      lit< tt,
                      (z_fits, (count_fits (length a.z) (few_entries 0 a.z fine.z_fine.0 fine.z_fine.1 (omega arith)), (greatest_fits a.z fine.z_fine.1, (lit< tt, tt)))),
                    ),
                  ),
                ),
              ),
            ),
          ),
        ),
      ) in
      let (type_is, (next_is, (g_is, (scope_is, (num_is, (g_count, (g_max, (rfu, (z_is, (z_count, more_are)))))))))) = w.0 in
      record {
        next_is = next_is;
        g_is = g_is;
        z_is = z_is;
        scope_is = scope_is;
        num_is = num_is;
        g_count = g_count;
        z_count = z_count;
        name_is = ap (λ (k : ℕ). before_first (λ (x : ℕ). x == 0) (take k (drop (place + 68) b))) (sym long) ∙ ap (before_first (λ (x : ℕ). x == 0)) w.1 ∙ before_zeros a.name (256 - length a.name) (fine_has_no_zeros a.name fine.named);
      }
    where
      code_fits : (k : ℕ) → k ≤ 4 → k < 256 ^ 4
      code_fits k le = omega arith

      count_fits : (k : ℕ) → 0 + k ≤ 2147483647 → k < 256 ^ 4
      count_fits k le = omega arith

-- ---- an attribute with its entries

abbrev pub shape_at : ℕ → Attribute → AttributeShape
shape_at place a = record { adr = place; gr_entries = entry_places (g_place place) a.g; z_entries = entry_places (z_place place a) a.z }

abbrev pub attribute_shapes : ℕ → List Attribute → List AttributeShape
attribute_shapes place [] = []
attribute_shapes place (a ∷ more) = shape_at place a ∷ attribute_shapes (past_attribute place a) more

module _ (little : Bool) where
  pub record AttributeReads (b : List ℕ) (n place next : ℕ) (a : Attribute) : Type 0 where
    pub n_fits : n < 256 ^ 4
    pub adr : AdrReads b place n next (link_if (g_place place) a.g) (link_if (z_place place a) a.z) a
    pub linkable : (records : List ℕ) → In place records → is_linkable b records adr_type place ≡ true
    pub g : AllRead agr_edr_type little n g_type n_fits b (g_place place) a.g
    pub z : AllRead az_edr_type little n z_type n_fits b (z_place place a) a.z

  module _ (a : Attribute) (fine : FineAttribute a) (n place next : ℕ) where
    abbrev first : List ℕ
    first = adr_body n next (link_if (g_place place) a.g) (link_if (z_place place a) a.z) a

    abbrev gs : List (List ℕ)
    gs = entry_bodies agr_edr_type little n (g_place place) a.g

    abbrev zs : List (List ℕ)
    zs = entry_bodies az_edr_type little n (z_place place a) a.z

    first_size : length (whole_record first) ≡ 324
    first_size = whole_size first ∙ adr_size a fine n next (link_if (g_place place) a.g) (link_if (z_place place a) a.z)

    pub attribute_end : place + laid_size (attribute_bodies little n place next a) ≡ past_attribute place a
    attribute_end =
        let g = entry_sizes agr_edr_type little n (g_place place) a.g fine.g_fine.1 in
        let z = entry_sizes az_edr_type little n (z_place place a) a.z fine.z_fine.1 in
        let both = size-append gs zs in
        let all = size-cons first (gs ++ zs) in
        let f = first_size in
        omega arith

    pub attribute_places : places place (attribute_bodies little n place next a) ≡ attribute_records (shape_at place a)
    attribute_places =
        let g = entry_sizes agr_edr_type little n (g_place place) a.g fine.g_fine.1 in
        let start : place + length (whole_record first) ≡ g_place place = ap (λ (k : ℕ). place + k) first_size in
        let second : g_place place + laid_size gs ≡ z_place place a = ap (λ (k : ℕ). g_place place + k) g in
        ap (λ (l : List ℕ). place ∷ l) (ap (λ (p : ℕ). places p (gs ++ zs)) start ∙ places-append (g_place place) gs zs
        ∙ ap₂ (λ (xs ys : List ℕ). xs ++ ys) (places_are agr_edr_type little n (g_place place) a.g fine.g_fine.1) (ap (λ (p : ℕ). places p zs) second ∙ places_are az_edr_type little n (z_place place a) a.z fine.z_fine.1))

    pub attribute_records_are : n < 256 ^ 4 → Each IsRecord (attribute_bodies little n place next a)
    attribute_records_are n_fits = (
      adr_record a fine n next (link_if (g_place place) a.g) (link_if (z_place place a) a.z),
      both gs zs (entries_records agr_edr_type little n g_type n_fits (g_place place) a.g fine.g_fine.1) (entries_records az_edr_type little n z_type n_fits (z_place place a) a.z fine.z_fine.1),
    )
      where
        both : (xs ys : List (List ℕ)) → Each IsRecord xs → Each IsRecord ys → Each IsRecord (xs ++ ys)
        both [] ys x y = y
        both (b ∷ xs) ys x y = (x.0, both xs ys x.1 y)

    pub attribute_reads : (b : List ℕ) → is_little b ≡ little → n < 256 ^ 4 → next < 256 ^ 8 → past_attribute place a < 256 ^ 8 → Stands b place (laid (attribute_bodies little n place next a)) → AttributeReads b n place next a
    attribute_reads b little_is n_fits next_fits fits s =
        let parts = stands_parts (whole_record first) (laid (gs ++ zs)) s in
        let st = standing first (adr_record a fine n next (link_if (g_place place) a.g) (link_if (z_place place a) a.z)) parts.0 in
        let start : place + length (whole_record first) ≡ g_place place = ap (λ (k : ℕ). place + k) first_size in
        let behind = part_stands gs zs (subst (λ (p : ℕ). Stands b p (laid (gs ++ zs))) start parts.1) in
        let second : g_place place + laid_size gs ≡ z_place place a = ap (λ (k : ℕ). g_place place + k) (entry_sizes agr_edr_type little n (g_place place) a.g fine.g_fine.1) in
        let last = subst (λ (p : ℕ). Stands b p (laid zs)) second behind.1 in
        record {
          n_fits = n_fits;
          adr = adr_reads a fine n next (link_if (g_place place) a.g) (link_if (z_place place a) a.z) b place next_fits (link_fits (g_place place) a.g (omega arith)) (link_fits (z_place place a) a.z (omega arith)) n_fits st;
          linkable = λ records i. linkable_at records adr_type st i (adr_typed a fine n next (link_if (g_place place) a.g) (link_if (z_place place a) a.z));
          g = all_read agr_edr_type little n g_type n_fits b (g_place place) a.g fine.g_fine.1 little_is (omega arith) behind.0;
          z = all_read az_edr_type little n z_type n_fits b (z_place place a) a.z fine.z_fine.1 little_is (omega arith) last;
        }
      where
        link_fits : (p : ℕ) (items : List (ℕ × Entry)) → p < 256 ^ 8 → link_if p items < 256 ^ 8
        link_fits p [] lt = lit< tt
        link_fits p (item ∷ items) lt = lt

  module _ (b : List ℕ) (a : Attribute) (fine : FineAttribute a) (n place next : ℕ) (r : AttributeReads b n place next a) where
    pub attribute_means : attribute_of b (shape_at place a) ≡ a
    attribute_means =
        let scope_is : scope_of (number b place adr_scope) ≡ a.scope = ap scope_of r.adr.scope_is ∙ scope_back a.scope in
        let name_is = r.adr.name_is in
        let g = entries_mean agr_edr_type little n g_type r.n_fits b 0 (g_place place) a.g fine.g_fine.0 r.g in
        let z = entries_mean az_edr_type little n z_type r.n_fits b 0 (z_place place a) a.z fine.z_fine.0 r.z in
        λ i. record { name = name_is i; scope = scope_is i; g = g i; z = z i }

    pub attribute_chains : (records : List ℕ) → ((m : ℕ) → In m (attribute_records (shape_at place a)) → In m records) → HasEntries b records (shape_at place a)
    attribute_chains records sub =
        let gp = entry_places (g_place place) a.g in
        let zp = entry_places (z_place place a) a.z in
        record {
          gr_chain = record {
            leads = subst (λ (l : ℕ). Leads b l gp 0) (sym r.adr.g_is) (entries_lead agr_edr_type little n g_type r.n_fits b (g_place place) a.g r.g);
            linkable = entries_linkable agr_edr_type little n g_type r.n_fits b records (g_place place) a.g r.g (λ m i. sub m (inr (In-append_left m gp zp i)));
            once = subst Distinct (places_are agr_edr_type little n (g_place place) a.g fine.g_fine.1) (places_distinct (g_place place) (entry_bodies agr_edr_type little n (g_place place) a.g));
          };
          z_chain = record {
            leads = subst (λ (l : ℕ). Leads b l zp 0) (sym r.adr.z_is) (entries_lead az_edr_type little n z_type r.n_fits b (z_place place a) a.z r.z);
            linkable = entries_linkable az_edr_type little n z_type r.n_fits b records (z_place place a) a.z r.z (λ m i. sub m (inr (In-append_right m gp zp i)));
            once = subst Distinct (places_are az_edr_type little n (z_place place a) a.z fine.z_fine.1) (places_distinct (z_place place a) (entry_bodies az_edr_type little n (z_place place a) a.z));
          };
        }

    pub attribute_rules : Hold (attribute_shape_rows b (shape_at place a))
    attribute_rules =
        let named : Hold (adr_rows b place) = (
          ap (λ (x : List ℕ). not (length x == 0)) r.adr.name_is ∙ ap not (fine_is_some a.name fine.named),
          (ap (λ (x : ℕ). nat_le 1 x && nat_le x 4) r.adr.scope_is ∙ and_from _ _ (of_le 1 (scope_code a.scope) (code_low a.scope)) (of_le (scope_code a.scope) 4 (code_high a.scope)), tt),
        ) in
        Hold-append (adr_rows b place ++ entries_rows b place adr_ngr_entries (entry_places (g_place place) a.g)) (entries_rows b place adr_nz_entries (entry_places (z_place place a) a.z))
        (Hold-append (adr_rows b place) (entries_rows b place adr_ngr_entries (entry_places (g_place place) a.g)) named (entries_rules agr_edr_type little n g_type r.n_fits b place adr_ngr_entries (g_place place) a.g r.adr.num_is r.adr.g_count fine.g_fine.0 fine.g_fine.1 r.g))
        (entries_rules az_edr_type little n z_type r.n_fits b place adr_nz_entries (z_place place a) a.z r.adr.num_is r.adr.z_count fine.z_fine.0 fine.z_fine.1 r.z)

  -- ---- all attributes

  pub attributes_places : (n place : ℕ) (as_ : List Attribute) → Each FineAttribute as_ → places place (attributes_bodies little n place as_) ≡ flat_map attribute_records (attribute_shapes place as_)
  attributes_places n place [] f = refl
  attributes_places n place (a ∷ more) f =
      let next = link_if (past_attribute place a) more in
      places-append place (attribute_bodies little n place next a) (attributes_bodies little (suc n) (past_attribute place a) more)
      ∙ ap₂ (λ (xs ys : List ℕ). xs ++ ys) (attribute_places a f.0 n place next)
      (ap (λ (p : ℕ). places p (attributes_bodies little (suc n) (past_attribute place a) more)) (attribute_end a f.0 n place next) ∙ attributes_places (suc n) (past_attribute place a) more f.1)

  count_less : (n k : ℕ) → n + suc k ≤ 2147483647 → (n < 256 ^ 4) × (suc n + k ≤ 2147483647)
  count_less n k le = (omega arith, omega arith)

  pub attributes_records : (n place : ℕ) (as_ : List Attribute) → Each FineAttribute as_ → n + length as_ ≤ 2147483647 → Each IsRecord (attributes_bodies little n place as_)
  attributes_records n place [] f few = tt
  attributes_records n place (a ∷ more) f few =
      let c = count_less n (length more) few in
      both (attribute_bodies little n place (link_if (past_attribute place a) more) a) (attributes_bodies little (suc n) (past_attribute place a) more) (attribute_records_are a f.0 n place (link_if (past_attribute place a) more) c.0) (attributes_records (suc n) (past_attribute place a) more f.1 c.1)
    where
      both : (xs ys : List (List ℕ)) → Each IsRecord xs → Each IsRecord ys → Each IsRecord (xs ++ ys)
      both [] ys x y = y
      both (b ∷ xs) ys x y = (x.0, both xs ys x.1 y)

  abbrev pub AttributesRead : List ℕ → ℕ → ℕ → List Attribute → Type 0
  AttributesRead b n place [] = Unit {0}
  AttributesRead b n place (a ∷ more) = AttributeReads b n place (link_if (past_attribute place a) more) a × AttributesRead b (suc n) (past_attribute place a) more

  pub attributes_read : (b : List ℕ) (n place : ℕ) (as_ : List Attribute) → is_little b ≡ little → Each FineAttribute as_ → n + length as_ ≤ 2147483647 → place + laid_size (attributes_bodies little n place as_) < 256 ^ 8 → Stands b place (laid (attributes_bodies little n place as_)) → AttributesRead b n place as_
  attributes_read b n place [] little_is f few fits s = tt
  attributes_read b n place (a ∷ more) little_is f few fits s =
      let next = link_if (past_attribute place a) more in
      let own = attribute_bodies little n place next a in
      let rest = attributes_bodies little (suc n) (past_attribute place a) more in
      let c = count_less n (length more) few in
      let end = attribute_end a f.0 n place next in
      let parts = part_stands own rest s in
      let both = size-append own rest in
      let behind = subst (λ (p : ℕ). Stands b p (laid rest)) end parts.1 in
      let here : past_attribute place a < 256 ^ 8 = omega arith in
      let room : past_attribute place a + laid_size rest < 256 ^ 8 = omega arith in
      (attribute_reads a f.0 n place next b little_is c.0 (link_fits (past_attribute place a) more here) here parts.0, attributes_read b (suc n) (past_attribute place a) more little_is f.1 c.1 room behind)
    where
      link_fits : (p : ℕ) (items : List Attribute) → p < 256 ^ 8 → link_if p items < 256 ^ 8
      link_fits p [] lt = lit< tt
      link_fits p (item ∷ items) lt = lt

  pub attributes_lead : (b : List ℕ) (n place : ℕ) (as_ : List Attribute) → AttributesRead b n place as_ → Leads b (link_if place as_) (map (λ a. a.adr) (attribute_shapes place as_)) 0
  attributes_lead b n place [] r = refl
  attributes_lead b n place (a ∷ more) r = (refl, subst (λ (l : ℕ). Leads b l (map (λ x. x.adr) (attribute_shapes (past_attribute place a) more)) 0) (sym r.0.adr.next_is) (attributes_lead b (suc n) (past_attribute place a) more r.1))

  pub attributes_linkable : (b records : List ℕ) (n place : ℕ) (as_ : List Attribute) → AttributesRead b n place as_ → ((m : ℕ) → In m (flat_map attribute_records (attribute_shapes place as_)) → In m records) → (m : ℕ) → In m (map (λ a. a.adr) (attribute_shapes place as_)) → is_linkable b records adr_type m ≡ true
  attributes_linkable b records n place [] r sub m i = absurd i
  attributes_linkable b records n place (a ∷ more) r sub m (inl e) = subst (λ (p : ℕ). is_linkable b records adr_type p ≡ true) (sym e) (r.0.linkable records (sub place (inl refl)))
  attributes_linkable b records n place (a ∷ more) r sub m (inr i) = attributes_linkable b records (suc n) (past_attribute place a) more r.1 (λ k j. sub k (In-append_right k (attribute_records (shape_at place a)) (flat_map attribute_records (attribute_shapes (past_attribute place a) more)) j)) m i

  pub attributes_mean : (b : List ℕ) (n place : ℕ) (as_ : List Attribute) → Each FineAttribute as_ → AttributesRead b n place as_ → map (attribute_of b) (attribute_shapes place as_) ≡ as_
  attributes_mean b n place [] f r = refl
  attributes_mean b n place (a ∷ more) f r = ap₂ (λ (x : Attribute) (xs : List Attribute). x ∷ xs) (attribute_means b a f.0 n place (link_if (past_attribute place a) more) r.0) (attributes_mean b (suc n) (past_attribute place a) more f.1 r.1)

  pub attributes_chains : (b records : List ℕ) (n place : ℕ) (as_ : List Attribute) → Each FineAttribute as_ → AttributesRead b n place as_ → ((m : ℕ) → In m (flat_map attribute_records (attribute_shapes place as_)) → In m records) → Each (HasEntries b records) (attribute_shapes place as_)
  attributes_chains b records n place [] f r sub = tt
  attributes_chains b records n place (a ∷ more) f r sub = (
    attribute_chains b a f.0 n place (link_if (past_attribute place a) more) r.0 records (λ k j. sub k (In-append_left k (attribute_records (shape_at place a)) (flat_map attribute_records (attribute_shapes (past_attribute place a) more)) j)),
    attributes_chains b records (suc n) (past_attribute place a) more f.1 r.1 (λ k j. sub k (In-append_right k (attribute_records (shape_at place a)) (flat_map attribute_records (attribute_shapes (past_attribute place a) more)) j)),
  )

  pub attributes_rules : (b : List ℕ) (n place : ℕ) (as_ : List Attribute) → Each FineAttribute as_ → AttributesRead b n place as_ → Hold (flat_map (attribute_shape_rows b) (attribute_shapes place as_))
  attributes_rules b n place [] f r = tt
  attributes_rules b n place (a ∷ more) f r = Hold-append (attribute_shape_rows b (shape_at place a)) (flat_map (attribute_shape_rows b) (attribute_shapes (past_attribute place a) more)) (attribute_rules b a f.0 n place (link_if (past_attribute place a) more) r.0) (attributes_rules b (suc n) (past_attribute place a) more f.1 r.1)

  pub attributes_numbered : (b : List ℕ) (n place : ℕ) (as_ : List Attribute) → AttributesRead b n place as_ → Hold (number_rows 4 b adr_num n (map (λ a. a.adr) (attribute_shapes place as_)))
  attributes_numbered b n place [] r = tt
  attributes_numbered b n place (a ∷ more) r = (eq-eqb _ _ r.0.adr.num_is, attributes_numbered b (suc n) (past_attribute place a) more r.1)

  pub attributes_named : (b : List ℕ) (n place : ℕ) (as_ : List Attribute) → AttributesRead b n place as_ → names_at b adr_name (map (λ a. a.adr) (attribute_shapes place as_)) ≡ map (λ a. a.name) as_
  attributes_named b n place [] r = refl
  attributes_named b n place (a ∷ more) r = ap₂ (λ (x : List ℕ) (xs : List (List ℕ)). x ∷ xs) r.0.adr.name_is (attributes_named b (suc n) (past_attribute place a) more r.1)

pub new_from : (before names : List (List ℕ)) → Differ before names → AreNew before names
new_from before [] d = tt
new_from before (name ∷ more) d = (d.0, new_from (before ++ name ∷ []) more d.1)
