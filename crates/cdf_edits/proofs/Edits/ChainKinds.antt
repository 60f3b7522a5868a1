-- The two chains of entries of an attribute, by the kind of entries: the one of the kind, and the other.
use Rattle.cdf_edits.proofs.Common.{AttributeFits, AttributeShape, Bool, Each, Entry, EntryFits, EntryKind, Field, HasEntries, Hold, Hold-append, Hold-split, In, In-append, In-append_left, In-append_right, IsChain, List, Mark, [], adr_agr_edr_head, adr_az_edr_head, adr_max_gr_entry, adr_max_z_entry, adr_name, adr_ngr_entries, adr_nz_entries, adr_rows, adr_scope, adr_type, agr_edr_type, ap, arith, attribute_of, attribute_records, attribute_shape_rows, attribute_types, avoided, az_edr_type, both, chain_of, count_field, entries_rows, entry_type, flat_map, head_field, inl, inr, is_in, keeps_other, linkable-type, name_in, number, refl, scope_of, true, type_at, unmarked, with_chain, with_entries, ℕ, ◌&&◌, ◌++◌, ◌+◌, ◌∙◌, ◌∷◌, ◌≡◌, ◌≤◌}
use Rattle.cdf_model.specs.declared.kinds.EntryKind.TheVariants as entries
use Rattle.cdf_format.specs.Content.{entries_of}
use Rattle.cdf_edits.proofs.Edits.AttributeFrame.{AreThere, more_there}

-- the other chain of an attribute, where its head stands and its count, and what type its entries have
abbrev pub other_of : AttributeShape → EntryKind → List ℕ
other_of a entries.G = a.z_entries
other_of a entries.R = a.z_entries
other_of a entries.Z = a.gr_entries

abbrev pub other_type : EntryKind → ℕ
other_type entries.G = az_edr_type
other_type entries.R = az_edr_type
other_type entries.Z = agr_edr_type

abbrev pub other_head : EntryKind → Field
other_head entries.G = adr_az_edr_head
other_head entries.R = adr_az_edr_head
other_head entries.Z = adr_agr_edr_head

abbrev pub other_count : EntryKind → Field
other_count entries.G = adr_nz_entries
other_count entries.R = adr_nz_entries
other_count entries.Z = adr_ngr_entries

pub chain_has : {b records : List ℕ} (kind : EntryKind) (a : AttributeShape) → HasEntries b records a → IsChain b records (entry_type kind) (number b a.adr (head_field kind)) (chain_of a kind)
chain_has entries.G a h = h.gr_chain
chain_has entries.R a h = h.gr_chain
chain_has entries.Z a h = h.z_chain

pub other_has : {b records : List ℕ} (kind : EntryKind) (a : AttributeShape) → HasEntries b records a → IsChain b records (other_type kind) (number b a.adr (other_head kind)) (other_of a kind)
other_has entries.G a h = h.z_chain
other_has entries.R a h = h.z_chain
other_has entries.Z a h = h.gr_chain

pub both_have : {b records : List ℕ} (kind : EntryKind) (a : AttributeShape) (es : List ℕ) → IsChain b records (entry_type kind) (number b a.adr (head_field kind)) es → IsChain b records (other_type kind) (number b a.adr (other_head kind)) (other_of a kind) → HasEntries b records (with_chain a kind es)
both_have entries.G a es c o = record { gr_chain = c; z_chain = o }
both_have entries.R a es c o = record { gr_chain = c; z_chain = o }
both_have entries.Z a es c o = record { gr_chain = o; z_chain = c }

pub adr_of : (kind : EntryKind) (a : AttributeShape) (es : List ℕ) → (with_chain a kind es).adr ≡ a.adr
adr_of entries.G a es = refl
adr_of entries.R a es = refl
adr_of entries.Z a es = refl

pub chain_fits : (kind : EntryKind) (b : List ℕ) (a : AttributeShape) → AttributeFits b a → Each (EntryFits b) (chain_of a kind)
chain_fits entries.G b a f = f.0
chain_fits entries.R b a f = f.0
chain_fits entries.Z b a f = f.1

pub other_fits : (kind : EntryKind) (b : List ℕ) (a : AttributeShape) → AttributeFits b a → Each (EntryFits b) (other_of a kind)
other_fits entries.G b a f = f.1
other_fits entries.R b a f = f.1
other_fits entries.Z b a f = f.0

pub both_fit : (kind : EntryKind) (b : List ℕ) (a : AttributeShape) (es : List ℕ) → Each (EntryFits b) es → Each (EntryFits b) (other_of a kind) → AttributeFits b (with_chain a kind es)
both_fit entries.G b a es c o = (c, o)
both_fit entries.R b a es c o = (c, o)
both_fit entries.Z b a es c o = (o, c)

abbrev pub other_max : EntryKind → Field
other_max entries.G = adr_max_z_entry
other_max entries.R = adr_max_z_entry
other_max entries.Z = adr_max_gr_entry

-- the fields of the ADR that the other chain has
abbrev pub clears : List Mark → Field → Type 0
clears marks f = avoided marks adr_type f.place (f.place + f.width) ≡ true

pub record OtherClear (marks : List Mark) (kind : EntryKind) : Type 0 where
  pub head : clears marks (other_head kind)
  pub count : clears marks (other_count kind)
  pub max : clears marks (other_max kind)
  pub entries : unmarked marks (other_type kind) ≡ true

four : (p q r t : Bool) → ((p && q) && (r && t)) ≡ true → (p ≡ true) × (q ≡ true) × (r ≡ true) × (t ≡ true)
four p q r t e = let x = both (p && q) (r && t) e in let y = both p q x.0 in let z = both r t x.1 in (y.0, y.1, z.0, z.1)

pub other_clear : (marks : List Mark) (kind : EntryKind) → keeps_other marks kind ≡ true → OtherClear marks kind
other_clear marks entries.G e = let f = four _ _ _ _ e in record { head = f.0; count = f.1; max = f.2; entries = f.3 }
other_clear marks entries.R e = let f = four _ _ _ _ e in record { head = f.0; count = f.1; max = f.2; entries = f.3 }
other_clear marks entries.Z e = let f = four _ _ _ _ e in record { head = f.0; count = f.1; max = f.2; entries = f.3 }

-- where its fields stand
pub record OtherLies (f : Field) : Type 0 where
  pub late : 20 ≤ f.place
  pub fits : f.place + f.width ≤ 324

pub other_lie : (kind : EntryKind) → OtherLies (other_head kind) × OtherLies (other_count kind) × OtherLies (other_max kind)
other_lie entries.G = (record { late = omega arith; fits = omega arith }, record { late = omega arith; fits = omega arith }, record { late = omega arith; fits = omega arith })
other_lie entries.R = (record { late = omega arith; fits = omega arith }, record { late = omega arith; fits = omega arith }, record { late = omega arith; fits = omega arith })
other_lie entries.Z = (record { late = omega arith; fits = omega arith }, record { late = omega arith; fits = omega arith }, record { late = omega arith; fits = omega arith })

pub other_in : (kind : EntryKind) (a : AttributeShape) (m : ℕ) → In m (other_of a kind) → In m (attribute_records a)
other_in entries.G a m i = inr (In-append_right m a.gr_entries a.z_entries i)
other_in entries.R a m i = inr (In-append_right m a.gr_entries a.z_entries i)
other_in entries.Z a m i = inr (In-append_left m a.gr_entries a.z_entries i)

pub chain_in : (kind : EntryKind) (a : AttributeShape) (m : ℕ) → In m (chain_of a kind) → In m (a.gr_entries ++ a.z_entries)
chain_in entries.G a m i = In-append_left m a.gr_entries a.z_entries i
chain_in entries.R a m i = In-append_left m a.gr_entries a.z_entries i
chain_in entries.Z a m i = In-append_right m a.gr_entries a.z_entries i

pub attribute_by : (b now : List ℕ) (kind : EntryKind) (a : AttributeShape) (es : List ℕ) (items : List (ℕ × Entry)) → name_in now a.adr adr_name ≡ name_in b a.adr adr_name → number now a.adr adr_scope ≡ number b a.adr adr_scope → entries_of now (other_of a kind) ≡ entries_of b (other_of a kind) → entries_of now es ≡ items
    → attribute_of now (with_chain a kind es) ≡ with_entries (attribute_of b a) kind items
attribute_by b now entries.G a es items name scope other own = λ i. record { name = name i; scope = scope_of (scope i); g = own i; z = other i }
attribute_by b now entries.R a es items name scope other own = λ i. record { name = name i; scope = scope_of (scope i); g = own i; z = other i }
attribute_by b now entries.Z a es items name scope other own = λ i. record { name = name i; scope = scope_of (scope i); g = other i; z = own i }

pub rules_split : (b : List ℕ) (kind : EntryKind) (a : AttributeShape) → Hold (attribute_shape_rows b a) → Hold (adr_rows b a.adr) × Hold (entries_rows b a.adr (count_field kind) (chain_of a kind)) × Hold (entries_rows b a.adr (other_count kind) (other_of a kind))
rules_split b kind a h = let p = Hold-split (adr_rows b a.adr) (entries_rows b a.adr adr_ngr_entries a.gr_entries ++ entries_rows b a.adr adr_nz_entries a.z_entries) h in by kind p.0 (Hold-split (entries_rows b a.adr adr_ngr_entries a.gr_entries) (entries_rows b a.adr adr_nz_entries a.z_entries) p.1)
  where
    by : (kind : EntryKind) → Hold (adr_rows b a.adr) → Hold (entries_rows b a.adr adr_ngr_entries a.gr_entries) × Hold (entries_rows b a.adr adr_nz_entries a.z_entries) → Hold (adr_rows b a.adr) × Hold (entries_rows b a.adr (count_field kind) (chain_of a kind)) × Hold (entries_rows b a.adr (other_count kind) (other_of a kind))
    by entries.G r q = (r, q.0, q.1)
    by entries.R r q = (r, q.0, q.1)
    by entries.Z r q = (r, q.1, q.0)

pub rules_join : (b : List ℕ) (kind : EntryKind) (a : AttributeShape) (es : List ℕ) → Hold (adr_rows b a.adr) → Hold (entries_rows b a.adr (count_field kind) es) → Hold (entries_rows b a.adr (other_count kind) (other_of a kind)) → Hold (attribute_shape_rows b (with_chain a kind es))
rules_join b entries.G a es r own other = Hold-append (adr_rows b a.adr) (entries_rows b a.adr adr_ngr_entries es ++ entries_rows b a.adr adr_nz_entries a.z_entries) r (Hold-append (entries_rows b a.adr adr_ngr_entries es) (entries_rows b a.adr adr_nz_entries a.z_entries) own other)
rules_join b entries.R a es r own other = Hold-append (adr_rows b a.adr) (entries_rows b a.adr adr_ngr_entries es ++ entries_rows b a.adr adr_nz_entries a.z_entries) r (Hold-append (entries_rows b a.adr adr_ngr_entries es) (entries_rows b a.adr adr_nz_entries a.z_entries) own other)
rules_join b entries.Z a es r own other = Hold-append (adr_rows b a.adr) (entries_rows b a.adr adr_ngr_entries a.gr_entries ++ entries_rows b a.adr adr_nz_entries es) r (Hold-append (entries_rows b a.adr adr_ngr_entries a.gr_entries) (entries_rows b a.adr adr_nz_entries es) other own)

pub attribute_typed : (b records : List ℕ) (as_ : List AttributeShape) → AreThere b records as_ → (m : ℕ) → In m (flat_map attribute_records as_) → is_in (type_at b m) attribute_types ≡ true
attribute_typed b records [] t m i = absurd i
attribute_typed b records (a ∷ more) t m i = elim (In-append m (attribute_records a) (flat_map attribute_records more) i) [
  | inl j ↦ elim j [
    | inl q ↦ is (ap (type_at b) q ∙ linkable-type b records adr_type a.adr t.linked.0) refl
    | inr k ↦ elim (In-append m a.gr_entries a.z_entries k) [ inl l ↦ is (linkable-type b records agr_edr_type m (t.have.0.gr_chain.linkable m l)) refl | inr l ↦ is (linkable-type b records az_edr_type m (t.have.0.z_chain.linkable m l)) refl ]
  ]
  | inr j ↦ attribute_typed b records more (more_there b records a more t) m j
]
  where
    is : {type : ℕ} → type_at b m ≡ type → is_in type attribute_types ≡ true → is_in (type_at b m) attribute_types ≡ true
    is t e = ap (λ (x : ℕ). is_in x attribute_types) t ∙ e
