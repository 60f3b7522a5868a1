-- What a command on an entry may change of records, where one chain of an attribute is another.
use Rattle.cdf_edits.proofs.Common.{Act, AllKeep, Allowances, Anything, AttributeShape, Bool, EntryKind, Field, In, In-append, IsSound, Keeps, List, Mark, OneAttribute, Only, Shape, Unused, [], adr_type, aedr_num, ap, arith, attribute_records, chain_fields, chain_of, content, either, entry_allowance, entry_changes, entry_type, eq-eqb, false, gdr_type, if◌then◌else◌, inl, inr, is_attribute, length, linkable-in, linkable-type, next_field, number, owned, owned_by, refl, shape, space_fields, subst, sym, true, type_at, unused_records, within, ℕ, ◌+◌, ◌==◌, ◌∙◌, ◌∷◌, ◌≡◌, true≢false}
use Rattle.cdf_model.specs.declared.kinds.EntryKind.TheVariants as entries
use Rattle.cdf_edits.proofs.Commands.KeptRecords.{AllKeep-append, keeps_stood, keep_attributes}
use Rattle.cdf_edits.proofs.Edits.ChainKinds.{other_of, other_type, chain_has, other_has}
use Rattle.cdf_edits.proofs.Edits.ChainSpliced.{Rechains, adr_in, adr_typed, adr_start, there, clear_file, other_kept, before_in, after_in, before_away, after_away, splices, now_is}
use Rattle.cdf_edits.proofs.Edits.MarkLemmas.{within-within}
use Rattle.cdf_edits.proofs.Edits.OwnersKept.{keep_attributes_alone, stood, keeps_within, keep_places, keep_parts}
use Rattle.cdf_edits.proofs.Edits.RecordFrame.{kept_away}
use Rattle.cdf_edits.proofs.Edits.Splice.{variables_kept}
use Rattle.cdf_edits.proofs.Frame.Meaning.{KeptButLink, late_size}

-- ---- what is allowed of a record by its type

no_adr : (kind : EntryKind) → ((entry_type kind == adr_type) ≡ false) × ((other_type kind == adr_type) ≡ false) × ((other_type kind == entry_type kind) ≡ false)
no_adr entries.G = (refl, refl, refl)
no_adr entries.R = (refl, refl, refl)
no_adr entries.Z = (refl, refl, refl)

module _ (b : List ℕ) (kind : EntryKind) (num : ℕ) (fields : List Field) (m : ℕ) where
  adr_allowed : type_at b m ≡ adr_type → entry_allowance b kind num fields m ≡ Only (chain_fields kind)
  adr_allowed t = rw (eq-eqb (type_at b m) adr_type t) refl

  chain_allowed : type_at b m ≡ entry_type kind → entry_allowance b kind num fields m ≡ (if number b m aedr_num == num then Anything else Only fields)
  chain_allowed t = rw (ap (λ (x : ℕ). x == adr_type) t ∙ (no_adr kind).0, eq-eqb (type_at b m) (entry_type kind) t) refl

  other_allowed : type_at b m ≡ other_type kind → entry_allowance b kind num fields m ≡ Only []
  other_allowed t = rw (ap (λ (x : ℕ). x == adr_type) t ∙ (no_adr kind).1, ap (λ (x : ℕ). x == entry_type kind) t ∙ (no_adr kind).2) refl

-- an attribute has its ADR, the entries of the chain, and those of the other one
one_of : (kind : EntryKind) (a : AttributeShape) (m : ℕ) (P : Type 0) → In m (attribute_records a) → (m ≡ a.adr → P) → (In m (chain_of a kind) → P) → (In m (other_of a kind) → P) → P
one_of kind a m P (inl q) adr own other = adr q
one_of entries.G a m P (inr i) adr own other = elim (In-append m a.gr_entries a.z_entries i) [ inl j ↦ own j | inr j ↦ other j ]
one_of entries.R a m P (inr i) adr own other = elim (In-append m a.gr_entries a.z_entries i) [ inl j ↦ own j | inr j ↦ other j ]
one_of entries.Z a m P (inr i) adr own other = elim (In-append m a.gr_entries a.z_entries i) [ inl j ↦ other j | inr j ↦ own j ]

module _ {b now new list : List ℕ} {marks : List Mark} {reborn : List ℕ} {kind : EntryKind} {before : List AttributeShape} {own : AttributeShape} {after : List AttributeShape} {chain' gone come : List ℕ} (sound : IsSound b (shape b)) (r : Rechains b now (shape b) new list marks reborn kind before own after chain' gone come) where
  abbrev s : Shape
  s = shape b

  pub records_are : (shape now).records ≡ new
  records_are = ap (λ (x : Shape). x.records) (now_is sound r)

  pub list_is : (shape now).unused ≡ list
  list_is = ap (λ (x : Shape). x.unused) (now_is sound r)

  -- an entry that stays but for its link to the next one
  pub link_allowed : (m : ℕ) → In m s.records → KeptButLink b now m → Keeps b now m (Only (next_field ∷ []))
  link_allowed m i k = record {
    stands = subst (In m) (sym records_are) (r.edit.sub m i);
    size_is = late_size b now m k;
    same = λ n lt out. elim out.0 [ inl low ↦ k.start.each (m + n) (omega arith) (omega arith) | inr high ↦ k.rest.each (m + n) (omega arith) (omega arith) ];
  }

  module _ (attr : List ℕ) (num : ℕ) (acts : List Act) (named : is_attribute (content b) attr (length before) ≡ true) (gdr_within : within marks gdr_type space_fields ≡ true) (adr_within : within marks adr_type (chain_fields kind) ≡ true) (of_gone : (m : ℕ) → In m gone → number b m aedr_num ≡ num) where
    abbrev may : Allowances
    may = entry_changes b (content b) attr kind num

    own_keeps : (m : ℕ) → In m (attribute_records own) → Keeps b now m (entry_allowance b kind num (next_field ∷ []) m)
    own_keeps m i = one_of kind own m (Keeps b now m (entry_allowance b kind num (next_field ∷ []) m)) i
        (λ q. subst (λ (x : ℕ). Keeps b now x (entry_allowance b kind num (next_field ∷ []) x)) (sym q) (subst (Keeps b now own.adr) (sym (adr_allowed b kind num (next_field ∷ []) own.adr (adr_typed sound r)))
        (keeps_within sound r.edit records_are own.adr adr_type (chain_fields kind) (adr_in sound r) (adr_typed sound r) (adr_start sound r) (within-within marks adr_type own.adr (chain_fields kind) adr_within))))
        (λ j.
        let ok = (chain_has kind own (there sound r).1.0.have.0).linkable m j in
        subst (Keeps b now m) (sym (chain_allowed b kind num (next_field ∷ []) m (linkable-type b s.records (entry_type kind) m ok))) (elim (either (number b m aedr_num == num)) [
          | inl e ↦ rw e tt
          | inr e ↦ rw e (link_allowed m (linkable-in b s.records (entry_type kind) m ok) (r.live m j (λ g. true≢false (sym (eq-eqb (number b m aedr_num) num (of_gone m g)) ∙ e))))
        ]))
        (λ j.
        let ok = (other_has kind own (there sound r).1.0.have.0).linkable m j in
        subst (Keeps b now m) (sym (other_allowed b kind num (next_field ∷ []) m (linkable-type b s.records (other_type kind) m ok)))
        (keeps_stood b now m (stood sound r.edit records_are m (linkable-in b s.records (other_type kind) m ok) (other_kept sound r m j)) (Only [])))

    pub entry_keeps : AllKeep b now may acts (owned_by Unused (unused_records b s)) → AllKeep b now may acts (owned b s)
    entry_keeps unused =
        let beside = λ (m : ℕ) (i : In m s.records) (away : _). stood sound r.edit records_are m i (kept_away r.edit m (type_at b m) i refl away) in
        let attributes = keep_parts b now may acts before (own ∷ []) after r.was
        (keep_attributes b now may acts 0 before (λ m i. beside m (before_in sound r m i) (before_away sound r m i)))
        (AllKeep-append b now may acts (owned_by (OneAttribute (length before)) (attribute_records own)) []
        (keep_places b now may acts (OneAttribute (length before)) (attribute_records own) (λ m i.
        subst (λ (p : Bool). Keeps b now m (if p then entry_allowance b kind num (next_field ∷ []) m else Only [])) (sym named) (own_keeps m i))) tt)
        (keep_attributes b now may acts _ after (λ m i. beside m (after_in sound r m i) (after_away sound r m i))) in
        keep_attributes_alone sound r.edit records_are may acts space_fields refl refl (clear_file sound r) gdr_within (variables_kept sound (splices sound r)) attributes unused
