-- The entries of an attribute, as they stand.
use Rattle.std.proofs.Common.{Bool, List, Some, [], ap, arith, eq-eqb, inl, inr, is_some, length, lit<, map, refl, subst, suc, sym, true, ℕ, ◌%◌, ◌*◌, ◌+◌, ◌<◌, ◌^◌, ◌∙◌, ◌∷◌, ◌≡◌, ◌≤◌}
use Rattle.std.proofs.lemmas.Bool.{and_from, lt-ltb}
use Rattle.std.proofs.lemmas.List.{length-append}
use Rattle.cdf_model.specs.declared.data_type.DataType.{DataType}
use Rattle.cdf_model.specs.ByteOrder.{turned}
use Rattle.cdf_model.specs.DataSet.{Entry}
use Rattle.cdf_model.specs.Limits.{record_number_limit, signed_limit}
use Rattle.cdf_model.specs.Numbered.{with_item}
use Rattle.cdf_model.specs.Place.{record_limit}
use Rattle.cdf_model.specs.Types.{code_of, size_of}
use Rattle.cdf_format.proofs.RowLemmas.{Hold-append, Hold-members}
use Rattle.cdf_format.proofs.Tests.{of_le}
use Rattle.cdf_format.specs.AttributeRules.{entries_rows, entry_rows, has_value}
use Rattle.cdf_format.specs.Chains.{Leads, is_linkable, next_of}
use Rattle.cdf_format.specs.Content.{entries_of, entry_of}
use Rattle.cdf_format.specs.Fields.{is_positive, number}
use Rattle.cdf_format.specs.Records.{Field, adr_num, aedr_aedr_next, aedr_attr_num, aedr_data_type, aedr_num, aedr_num_elems, aedr_num_strings, aedr_rfu_b, aedr_rfu_c, aedr_rfu_d, aedr_rfu_e, aedr_value, record_type}
use Rattle.cdf_format.specs.Rules.{Hold}
use Rattle.cdf_format.specs.Shape.{Each}
use Rattle.cdf_format.specs.Stored.{data_type_in, field_bytes, is_little, known_type}
use Rattle.cdf_format.specs.Tiles.{Distinct, In}
use Rattle.cdf_edits.proofs.Commands.TypeCodes.{code_small, type_back}
use Rattle.cdf_edits.proofs.Edits.ChainEntries.{differ_by_nums, nums}
use Rattle.cdf_edits.proofs.Space.LaidOut.{IsType, typed_body, value_laid}
use Rattle.cdf_edits.specs.Space.Placing.{IsBody, laid_out, type_of_body}
use Rattle.cdf_values.proofs.TurnedLemmas.{back, size_stays}
unfoldable use Rattle.cdf_writer.specs.Bodies.{entry_body, entry_front}
use Rattle.cdf_writer.specs.Bodies.{whole_record}
use Rattle.cdf_writer.specs.Fine.{FineEntry, Rise}
use Rattle.cdf_writer.specs.Laying.{entries_size, entry_bodies, entry_size, laid, laid_size, link_if}
use Rattle.cdf_writer.proofs.Stands.{IsRecord, Standing, Stands, linkable_at, places, size-cons, standing, stands_parts, whole_size}

-- ---- one entry

abbrev said : ℕ → ℕ → ℕ → ℕ → Entry → List (Field × ℕ)
said type next n num entry =
    (record_type, type)
    ∷ (aedr_aedr_next, next)
    ∷ (aedr_attr_num, n)
    ∷ (aedr_data_type, code_of entry.type)
    ∷ (aedr_num, num)
    ∷ (aedr_num_elems, entry.elems)
    ∷ (aedr_num_strings, 0)
    ∷ (aedr_rfu_b, 0)
    ∷ (aedr_rfu_c, 0)
    ∷ (aedr_rfu_d, 0xffffffff)
    ∷ (aedr_rfu_e, 0xffffffff)
    ∷ []

pub whole_bytes : (size elems len : ℕ) → 1 ≤ size → len ≡ size * elems → len % size ≡ 0
whole_bytes size elems len some e = grind arith

pub size_some : (t : DataType) → 1 ≤ size_of t
size_some t = grind arith

abbrev said_behind : ℕ → ℕ → ℕ → ℕ → Entry → List (Field × ℕ)
said_behind type next n num entry =
    (aedr_aedr_next, next)
    ∷ (aedr_attr_num, n)
    ∷ (aedr_data_type, code_of entry.type)
    ∷ (aedr_num, num)
    ∷ (aedr_num_elems, entry.elems)
    ∷ (aedr_num_strings, 0)
    ∷ (aedr_rfu_b, 0)
    ∷ (aedr_rfu_c, 0)
    ∷ (aedr_rfu_d, 0xffffffff)
    ∷ (aedr_rfu_e, 0xffffffff)
    ∷ []

-- what an entry that stands there reads as
pub record EntryReads (b : List ℕ) (place n next : ℕ) (item : ℕ × Entry) : Type 0 where
  pub next_is : next_of b place ≡ next
  pub attr_is : number b place aedr_attr_num ≡ n
  pub num_is : number b place aedr_num ≡ item.0
  pub meant : entry_of b place ≡ item.1
  pub valued : has_value b place ≡ true

module _ (num : ℕ) (entry : Entry) (fine : FineEntry num entry) (little : Bool) (type n next : ℕ) where
  even : length entry.bytes % size_of entry.type ≡ 0
  even = whole_bytes (size_of entry.type) entry.elems (length entry.bytes) (size_some entry.type) fine.whole

  stored_size : length (turned entry.type little entry.bytes) ≡ length entry.bytes
  stored_size = size_stays entry.type little entry.bytes even

  pub body_size : 8 + length (entry_body type little n next (num, entry)) ≡ entry_size (num, entry)
  unfolding entry_body entry_front
  body_size = omega (arith, stored_size, length-append (laid_out (said type next n num entry)) (turned entry.type little entry.bytes))

  body_made : IsType type 56 → (type_of_body (entry_body type little n next (num, entry)) ≡ type) × IsBody (entry_body type little n next (num, entry))
  unfolding entry_body entry_front
  body_made t = typed_body (said_behind type next n num entry) (turned entry.type little entry.bytes) (entry_body type little n next (num, entry)) t refl (let long = body_size in omega arith)

  typed : IsType type 56 → type_of_body (entry_body type little n next (num, entry)) ≡ type
  typed t = (body_made t).0

  pub entry_record : IsType type 56 → IsRecord (entry_body type little n next (num, entry))
  entry_record t = let short = fine.short in let long = body_size in record { body_is = (body_made t).1; fits = limit_fits (length (entry_body type little n next (num, entry))) (omega arith) }
    where
      limit_fits : (k : ℕ) → k ≤ 67109000 → 8 + k < 256 ^ 8
      limit_fits k le = omega arith

  pub entry_reads : {b : List ℕ} {place : ℕ} → is_little b ≡ little → IsType type 56 → next < 256 ^ 8 → n < 256 ^ 4 → Standing b place (entry_body type little n next (num, entry)) → EntryReads b place n next (num, entry)
  unfolding entry_body entry_front
  entry_reads {b = b} {place = place} little_is t next_fits n_fits s =
      let value = turned entry.type little entry.bytes in
      let few = fine.few in
      let numbered = fine.numbered in
      let w = value_laid b place 8 (said type next n num entry) value s.behind.rest s.behind.there refl
      (t.small, (next_fits, (n_fits, (code_small entry.type, (fits4 num (omega arith), (fits4 entry.elems (omega arith), (lit< tt, (lit< tt, (lit< tt, (lit< tt, (lit< tt, tt))))))))))) in
      let (type_is, (next_is, (attr_is, (code_is, (num_is, (elems_is, more_are)))))) = w.0 in
      let known : known_type b place aedr_data_type ≡ Some entry.type = rw code_is (type_back entry.type) in
      let type_is : data_type_in b place aedr_data_type ≡ entry.type = rw known refl in
      let long : size_of entry.type * entry.elems ≡ length value = sym (stored_size ∙ fine.whole) in
      let room : 56 + size_of entry.type * entry.elems ≤ 8 + length (entry_body type little n next (num, entry)) = (let w = fine.whole in let z = body_size in omega arith) in
      let short = fine.short in
      record {
        next_is = next_is;
        attr_is = attr_is;
        num_is = num_is;
        meant = (λ i. record { type = type_is i; elems = elems_is i; bytes = turned (type_is i) (little_is i) (field_bytes b place (aedr_value (size_of (type_is i) * elems_is i))) })
            ∙ ap (λ (k : ℕ). record { type = entry.type; elems = entry.elems; bytes = turned entry.type little (field_bytes b place (aedr_value k)) }) long
            ∙ ap (λ (xs : List ℕ). record { type = entry.type; elems = entry.elems; bytes = turned entry.type little xs }) w.1
            ∙ ap (λ (xs : List ℕ). record { type = entry.type; elems = entry.elems; bytes = xs }) (back entry.type little entry.bytes even);
        valued = and_from _ _ (and_from _ _ (ap is_some known) (ap is_positive elems_is ∙ and_from _ _ (of_le 1 entry.elems fine.some) (of_le entry.elems signed_limit few)))
            (rw (type_is, elems_is) (and_from _ _ (of_le (size_of entry.type * entry.elems) record_limit (let w = fine.whole in omega arith)) (rw s.size_is (of_le (56 + size_of entry.type * entry.elems) (8 + length (entry_body type little n next (num, entry))) room))));
      }
    where
      fits4 : (k : ℕ) → k ≤ 2147483647 → k < 256 ^ 4
      fits4 k le = omega arith

-- ---- a chain of entries

abbrev pub entry_places : ℕ → List (ℕ × Entry) → List ℕ
entry_places place [] = []
entry_places place (item ∷ more) = place ∷ entry_places (place + entry_size item) more

abbrev pub Fines : List (ℕ × Entry) → Type 0
Fines items = Each (λ item. FineEntry item.0 item.1) items

module _ (type : ℕ) (little : Bool) (n : ℕ) where
  pub entry_sizes : (place : ℕ) (items : List (ℕ × Entry)) → Fines items → laid_size (entry_bodies type little n place items) ≡ entries_size items
  entry_sizes place [] f = refl
  entry_sizes place ((num, entry) ∷ more) f =
      let next = link_if (place + entry_size (num, entry)) more in
      let body = entry_body type little n next (num, entry) in
      let rest = entry_sizes (place + entry_size (num, entry)) more f.1 in
      omega (arith, size-cons body (entry_bodies type little n (place + entry_size (num, entry)) more), whole_size body, body_size num entry f.0 little type n next, rest)

  pub places_are : (place : ℕ) (items : List (ℕ × Entry)) → Fines items → places place (entry_bodies type little n place items) ≡ entry_places place items
  places_are place [] f = refl
  places_are place ((num, entry) ∷ more) f =
      let next = link_if (place + entry_size (num, entry)) more in
      let body = entry_body type little n next (num, entry) in
      let step : place + length (whole_record body) ≡ place + entry_size (num, entry) = omega (arith, whole_size body, body_size num entry f.0 little type n next) in
      ap (λ (l : List ℕ). place ∷ l) (ap (λ (p : ℕ). places p (entry_bodies type little n (place + entry_size (num, entry)) more)) step ∙ places_are (place + entry_size (num, entry)) more f.1)

  module _ (t : IsType type 56) (n_fits : n < 256 ^ 4) where
    pub entries_records : (place : ℕ) (items : List (ℕ × Entry)) → Fines items → Each IsRecord (entry_bodies type little n place items)
    entries_records place [] f = tt
    entries_records place ((num, entry) ∷ more) f = (entry_record num entry f.0 little type n (link_if (place + entry_size (num, entry)) more) t, entries_records (place + entry_size (num, entry)) more f.1)

    -- each reads as it is meant, with a link to the next one
    abbrev pub AllRead : List ℕ → ℕ → List (ℕ × Entry) → Type 0
    AllRead b place [] = Unit {0}
    AllRead b place (item ∷ more) = (EntryReads b place n (link_if (place + entry_size item) more) item × ((records : List ℕ) → In place records → is_linkable b records type place ≡ true)) × AllRead b (place + entry_size item) more

    pub all_read : (b : List ℕ) (place : ℕ) (items : List (ℕ × Entry)) → Fines items → is_little b ≡ little → place + entries_size items < 256 ^ 8 → Stands b place (laid (entry_bodies type little n place items)) → AllRead b place items
    all_read b place [] f little_is fits s = tt
    all_read b place ((num, entry) ∷ more) f little_is fits s =
        let next = link_if (place + entry_size (num, entry)) more in
        let body = entry_body type little n next (num, entry) in
        let parts = stands_parts (whole_record body) (laid (entry_bodies type little n (place + entry_size (num, entry)) more)) s in
        let st = standing body (entry_record num entry f.0 little type n next t) parts.0 in
        let step : place + length (whole_record body) ≡ place + entry_size (num, entry) = omega (arith, whole_size body, body_size num entry f.0 little type n next) in
        let behind = subst (λ (p : ℕ). Stands b p (laid (entry_bodies type little n (place + entry_size (num, entry)) more))) step parts.1 in (
          (
            entry_reads num entry f.0 little type n next little_is t (link_fits (place + entry_size (num, entry)) more (omega arith)) n_fits st,
            λ records i. linkable_at records type st i (typed num entry f.0 little type n next t),
          ),
          all_read b (place + entry_size (num, entry)) more f.1 little_is (omega arith) behind,
        )
      where
        link_fits : (p : ℕ) (items : List (ℕ × Entry)) → p < 256 ^ 8 → link_if p items < 256 ^ 8
        link_fits p [] lt = lit< tt
        link_fits p (item ∷ items) lt = lt

    pub entries_lead : (b : List ℕ) (place : ℕ) (items : List (ℕ × Entry)) → AllRead b place items → Leads b (link_if place items) (entry_places place items) 0
    entries_lead b place [] r = refl
    entries_lead b place (item ∷ more) r = (refl, subst (λ (l : ℕ). Leads b l (entry_places (place + entry_size item) more) 0) (sym r.0.0.next_is) (entries_lead b (place + entry_size item) more r.1))

    pub entries_linkable : (b : List ℕ) (records : List ℕ) (place : ℕ) (items : List (ℕ × Entry)) → AllRead b place items → ((m : ℕ) → In m (entry_places place items) → In m records) → (m : ℕ) → In m (entry_places place items) → is_linkable b records type m ≡ true
    entries_linkable b records place [] r sub m i = absurd i
    entries_linkable b records place (item ∷ more) r sub m (inl e) = subst (λ (p : ℕ). is_linkable b records type p ≡ true) (sym e) (r.0.1 records (sub place (inl refl)))
    entries_linkable b records place (item ∷ more) r sub m (inr i) = entries_linkable b records (place + entry_size item) more r.1 (λ k j. sub k (inr j)) m i

    pub entries_mean : (b : List ℕ) (low place : ℕ) (items : List (ℕ × Entry)) → Rise low items → AllRead b place items → entries_of b (entry_places place items) ≡ items
    entries_mean b low place [] rise r = refl
    entries_mean b low place ((num, entry) ∷ more) rise r =
        (λ i. with_item (r.0.0.num_is i) (r.0.0.meant i) (entries_mean b (suc num) (place + entry_size (num, entry)) more rise.1 r.1 i)) ∙ first num entry more rise.1
      where
        first : (k : ℕ) (e : Entry) (items : List (ℕ × Entry)) → Rise (suc k) items → with_item k e items ≡ (k, e) ∷ items
        first k e [] rise = refl
        first k e ((m, e') ∷ items) rise = rw (lt-ltb k m rise.0) refl

    -- the numbers differ
    pub entry_nums : (b : List ℕ) (place : ℕ) (items : List (ℕ × Entry)) → AllRead b place items → nums b (entry_places place items) ≡ map (λ item. item.0) items
    entry_nums b place [] r = refl
    entry_nums b place (item ∷ more) r = λ i. r.0.0.num_is i ∷ entry_nums b (place + entry_size item) more r.1 i

    above : (low : ℕ) (items : List (ℕ × Entry)) → Rise low items → (m : ℕ) → In m (map (λ item. item.0) items) → low ≤ m
    above low [] rise m i = absurd i
    above low (item ∷ more) rise m (inl e) = let l = rise.0 in omega arith
    above low (item ∷ more) rise m (inr i) = let l = rise.0 in let r = above (suc item.0) more rise.1 m i in omega arith

    differ : (low : ℕ) (items : List (ℕ × Entry)) → Rise low items → Distinct (map (λ item. item.0) items)
    differ low [] rise = tt
    differ low (item ∷ more) rise = ((λ i. let r = above (suc item.0) more rise.1 item.0 i in absurd (omega arith)), differ (suc item.0) more rise.1)

    length-places : (place : ℕ) (items : List (ℕ × Entry)) → length (entry_places place items) ≡ length items
    length-places place [] = refl
    length-places place (item ∷ more) = ap suc (length-places (place + entry_size item) more)

    rows_each : (b : List ℕ) (adr place : ℕ) (items : List (ℕ × Entry)) → number b adr adr_num ≡ n → Fines items → AllRead b place items → (m : ℕ) → In m (entry_places place items) → Hold (entry_rows b adr m)
    rows_each b adr place [] num_is f r m i = absurd i
    rows_each b adr place (item ∷ more) num_is f r m (inl e) = subst (λ (p : ℕ). Hold (entry_rows b adr p)) (sym e) (rw (r.0.0.attr_is, num_is) (eq-eqb n n refl), (rw r.0.0.num_is (of_le item.0 record_number_limit f.0.numbered), (r.0.0.valued, tt)))
    rows_each b adr place (item ∷ more) num_is f r m (inr i) = rows_each b adr (place + entry_size item) more num_is f.1 r.1 m i

    pub entries_rules : (b : List ℕ) (adr : ℕ) (count : Field) (place : ℕ) (items : List (ℕ × Entry)) → number b adr adr_num ≡ n → number b adr count ≡ length items → Rise 0 items → Fines items → AllRead b place items → Hold (entries_rows b adr count (entry_places place items))
    entries_rules b adr count place items num_is count_is rise f r =
        let es = entry_places place items in (
          rw count_is (eq-eqb (length items) (length es) (sym (length-places place items))),
          Hold-append _ _ (Hold-members (entry_rows b adr) es (rows_each b adr place items num_is f r)) (differ_by_nums b es (subst Distinct (sym (entry_nums b place items r)) (differ 0 items rise))),
        )
