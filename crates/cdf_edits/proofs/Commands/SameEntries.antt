-- A command leaves the entries of each chain that it is not on, with their numbers.
use Rattle.cdf_edits.proofs.Common.{Act, AllKeep, Allowance, Allowances, Anything, AttributeShape, Bool, Command, DataSet, Each, EntryKind, Field, Follows, Found, Good, HasEntries, HasShape, In, In-append_left, In-append_right, IsChain, Keeps, Leads, List, None, OneAttribute, Only, Option, Owner, R, Shape, Some, Unused, Z, [], adr_type, aedr_num, allowance, allowances, ap, ap₂, arith, attribute_records, chain_fields, chain_of, content, entries_chain, entry_allowance, entry_type, eq-eqb, false, fixed_size, good_is_sound, head_field, if◌then◌else◌, inl, inr, is_attribute, linkable-from, linkable-in, linkable-long, linkable-type, list_all, map, next_field, next_of, number, only_of, owned, owned_by, owned_by_attributes, owned_by_variables, refl, shape, share_chain, size_at, slice_get, stays_all, subst, suc, sym, true, type_at, unused_records, variable_named, zero, ℕ, ◌&&◌, ◌++◌, ◌+◌, ◌==◌, ◌∙◌, ◌∷◌, ◌≡◌, ◌≤◌}
use Rattle.cdf_model.specs.declared.command.Command.TheVariants as commands
use Rattle.cdf_model.specs.declared.kinds.EntryKind.TheVariants as entries
use Rattle.cdf_edits.specs.Commands.Attributes.{attr_changes, del_attr_changes, rename_attr_changes}
use Rattle.cdf_edits.specs.Commands.Cuts.{del_recs_changes, set_compress_changes, set_sparse_changes}
use Rattle.cdf_edits.specs.Commands.Others.{EntriesStay, is_on_entries}
use Rattle.cdf_edits.specs.Commands.Puts.{put_changes}
use Rattle.cdf_edits.specs.Commands.Reindex.{reindex_changes}
use Rattle.cdf_edits.specs.Commands.Variables.{rename_var_changes, set_blocking_changes, set_pad_changes}
use Rattle.cdf_edits.proofs.Commands.ChainsStay.{AllKeep-split, are_apart, kept_number, spares}
use Rattle.cdf_edits.proofs.Edits.ChainKinds.{chain_has}
use Rattle.cdf_edits.proofs.Edits.ChainsOfShape.{IsOf, members_are}
use Rattle.cdf_edits.proofs.Frame.LinksStay.{leads_same}
use Rattle.cdf_format.specs.Records.{adr_name, adr_num, record_type}

-- a command leaves the head of the chain, and of its entries what leads from one to the next, their types and their numbers
record SparesEntries (b : List ℕ) (may : Allowances) (n : ℕ) (kind : EntryKind) : Type 0 where
  head : (place : ℕ) → type_at b place ≡ adr_type → spares (head_field kind) (may.attributes n place) ≡ true
  types : (place : ℕ) → type_at b place ≡ entry_type kind → spares record_type (may.attributes n place) ≡ true
  links : (place : ℕ) → type_at b place ≡ entry_type kind → spares next_field (may.attributes n place) ≡ true
  numbers : (place : ℕ) → type_at b place ≡ entry_type kind → spares aedr_num (may.attributes n place) ≡ true

-- ---- the records of one attribute

in_adrs : (as_ : List AttributeShape) (n : ℕ) (own : AttributeShape) → slice_get as_ n ≡ Some own → In own.adr (map (λ (a : AttributeShape). a.adr) as_)
in_adrs [] n own e = absurd cc
in_adrs (a ∷ as_) zero own e = let same : a ≡ own = cc in inl (ap (λ (x : AttributeShape). x.adr) (sym same))
in_adrs (a ∷ as_) (suc n) own e = inr (in_adrs as_ n own e)

each_at : (P : AttributeShape → Type 0) (as_ : List AttributeShape) (n : ℕ) (own : AttributeShape) → slice_get as_ n ≡ Some own → Each P as_ → P own
each_at P [] n own e all = absurd cc
each_at P (a ∷ as_) zero own e all = let same : a ≡ own = cc in subst P same all.0
each_at P (a ∷ as_) (suc n) own e all = each_at P as_ n own e all.1

module _ (b now : List ℕ) (may : Allowances) (acts : List Act) where
  one_kept : (owner : Owner) (places : List ℕ) → AllKeep b now may acts (owned_by owner places) → (m : ℕ) → In m places → Keeps b now m (allowance b (shape b) may acts m owner)
  one_kept owner [] keeps m i = absurd i
  one_kept owner (place ∷ places) keeps m (inl e) = subst (λ (x : ℕ). Keeps b now x (allowance b (shape b) may acts x owner)) (sym e) keeps.0
  one_kept owner (place ∷ places) keeps m (inr i) = one_kept owner places keeps.1 m i

  own_kept : (first : ℕ) (as_ : List AttributeShape) (n : ℕ) (own : AttributeShape) → slice_get as_ n ≡ Some own → AllKeep b now may acts (owned_by_attributes first as_) → (m : ℕ) → In m (attribute_records own) → Keeps b now m (may.attributes (first + n) m)
  own_kept first [] n own e keeps m i = absurd cc
  own_kept first (a ∷ as_) zero own e keeps m i =
      let same : own ≡ a = cc in
      let at : first ≡ first + 0 = omega arith in
      subst (λ (k : ℕ). Keeps b now m (may.attributes k m)) at
      (one_kept (OneAttribute first) (attribute_records a) (AllKeep-split b now may acts (owned_by (OneAttribute first) (attribute_records a)) (owned_by_attributes (suc first) as_) keeps).0 m (subst (λ (x : AttributeShape). In m (attribute_records x)) same i))
  own_kept first (a ∷ as_) (suc n) own e keeps m i =
      let at : suc first + n ≡ first + suc n = omega arith in
      subst (λ (k : ℕ). Keeps b now m (may.attributes k m)) at
      (own_kept (suc first) as_ n own e (AllKeep-split b now may acts (owned_by (OneAttribute first) (attribute_records a)) (owned_by_attributes (suc first) as_) keeps).1 m i)

-- a record of which a field stays has its place and its size
kept_place : (b now : List ℕ) (m : ℕ) (f : Field) (a : Allowance) → Keeps b now m a → spares f a ≡ true → In m (shape now).records × (size_at now m ≡ size_at b m)
kept_place b now m f Anything keeps spared = absurd cc
kept_place b now m f (Only fields) keeps spared = (keeps.stands, keeps.size_is)

-- ---- one chain

in_chain : (own : AttributeShape) (kind : EntryKind) (m : ℕ) → In m (chain_of own kind) → In m (attribute_records own)
in_chain own entries.G m i = inr (In-append_left m own.gr_entries own.z_entries i)
in_chain own entries.R m i = inr (In-append_left m own.gr_entries own.z_entries i)
in_chain own entries.Z m i = inr (In-append_right m own.gr_entries own.z_entries i)

chain_is : (x : List ℕ) (s : Shape) (kind : EntryKind) (adr : ℕ) (ms : List ℕ) → IsChain x s.records (entry_type kind) (number x adr (head_field kind)) ms → IsOf x s (entries_chain kind adr) adr ms
chain_is x s entries.G adr ms c = record { holder_is = refl; chain = c }
chain_is x s entries.R adr ms c = record { holder_is = refl; chain = c }
chain_is x s entries.Z adr ms c = record { holder_is = refl; chain = c }

head_fits : (kind : EntryKind) → (head_field kind).place + (head_field kind).width ≤ 324
head_fits entries.G = omega arith
head_fits entries.R = omega arith
head_fits entries.Z = omega arith

long_entry : (kind : EntryKind) (size : ℕ) → fixed_size (entry_type kind) ≤ size → 56 ≤ size
long_entry entries.G size l = l
long_entry entries.R size l = l
long_entry entries.Z size l = l

same_numbers : (b now ms : List ℕ) → ((m : ℕ) → In m ms → number now m aedr_num ≡ number b m aedr_num) → map (λ aedr. number now aedr aedr_num) ms ≡ map (λ aedr. number b aedr aedr_num) ms
same_numbers b now [] same = refl
same_numbers b now (m ∷ ms) same = ap₂ (λ (x : ℕ) (xs : List ℕ). x ∷ xs) (same m (inl refl)) (same_numbers b now ms (λ k i. same k (inr i)))

module _ (b now : List ℕ) (may : Allowances) (acts : List Act) (h : HasShape b (shape b)) (h' : HasShape now (shape now)) (keeps : AllKeep b now may acts (owned b (shape b))) (n : ℕ) (own : AttributeShape) (kind : EntryKind) (at : slice_get (shape b).attributes n ≡ Some own) (spared : SparesEntries b may n kind) where
  abbrev ms : List ℕ
  ms = chain_of own kind

  has : IsChain b (shape b).records (entry_type kind) (number b own.adr (head_field kind)) ms
  has = chain_has kind own (each_at (HasEntries b (shape b).records) (shape b).attributes n own at h.entry_chains)

  kept : (m : ℕ) → In m (attribute_records own) → Keeps b now m (may.attributes n m)
  kept m i =
      let as_ = owned_by_attributes 0 (shape b).attributes in
      let rs = owned_by_variables R 0 (shape b).r_variables in
      let zs = owned_by_variables Z 0 (shape b).z_variables in
      let all = AllKeep-split b now may acts ((as_ ++ rs) ++ zs) (owned_by Unused (unused_records b (shape b))) keeps.1.1 in
      let first = AllKeep-split b now may acts as_ rs (AllKeep-split b now may acts (as_ ++ rs) zs all.0).0 in
      let from : 0 + n ≡ n = omega arith in
      subst (λ (k : ℕ). Keeps b now m (may.attributes k m)) from (own_kept b now may acts 0 (shape b).attributes n own at first.0 m i)

  head_same : number now own.adr (head_field kind) ≡ number b own.adr (head_field kind)
  head_same =
      let ok = h.attribute_chain.linkable own.adr (in_adrs (shape b).attributes n own at) in
      let typed = linkable-type b (shape b).records adr_type own.adr ok in
      let long : 324 ≤ size_at b own.adr = subst (λ (t : ℕ). fixed_size t ≤ size_at b own.adr) typed (h.fixed own.adr (linkable-in b (shape b).records adr_type own.adr ok)) in
      let fits = head_fits kind in
      kept_number b now own.adr (head_field kind) (may.attributes n own.adr) (kept own.adr (inl refl)) (spared.head own.adr typed) (omega arith)

  -- what stays of one entry
  record Member (m : ℕ) : Type 0 where
    stands : In m (shape now).records
    size_is : size_at now m ≡ size_at b m
    type_is : type_at now m ≡ entry_type kind
    next_is : next_of now m ≡ next_of b m
    num_is : number now m aedr_num ≡ number b m aedr_num

  member : (m : ℕ) → In m ms → Member m
  member m i =
      let ok = has.linkable m i in
      let typed = linkable-type b (shape b).records (entry_type kind) m ok in
      let long = long_entry kind (size_at b m) (subst (λ (t : ℕ). fixed_size t ≤ size_at b m) typed (h.fixed m (linkable-in b (shape b).records (entry_type kind) m ok))) in
      let own_keeps = kept m (in_chain own kind m i) in
      let place = kept_place b now m record_type (may.attributes n m) own_keeps (spared.types m typed) in
      record {
        stands = place.0;
        size_is = place.1;
        type_is = kept_number b now m record_type (may.attributes n m) own_keeps (spared.types m typed) (omega arith) ∙ typed;
        next_is = kept_number b now m next_field (may.attributes n m) own_keeps (spared.links m typed) (omega arith);
        num_is = kept_number b now m aedr_num (may.attributes n m) own_keeps (spared.numbers m typed) (omega arith);
      }

  chain_now : IsChain now (shape now).records (entry_type kind) (number now own.adr (head_field kind)) ms
  chain_now = record {
    leads = subst (λ (x : ℕ). Leads now x ms 0) (sym head_same) (leads_same b now (number b own.adr (head_field kind)) ms 0 has.leads (λ m i. (member m i).next_is));
    linkable = λ m i. let x = member m i in linkable-from now (shape now).records (entry_type kind) m x.stands x.type_is (subst (λ (size : ℕ). 28 ≤ size) (sym x.size_is) (linkable-long b (shape b).records (entry_type kind) m (has.linkable m i)));
    once = has.once;
  }

  stay : EntriesStay b now (entries_chain kind own.adr)
  stay =
      let was = members_are h (chain_is b (shape b) kind own.adr ms has) in
      record {
        places_stay = members_are h' (chain_is now (shape now) kind own.adr ms chain_now) ∙ sym was;
        numbers_stay = ap (map (λ aedr. number now aedr aedr_num)) was ∙ same_numbers b now ms (λ m i. (member m i).num_is) ∙ sym (ap (map (λ aedr. number b aedr aedr_num)) was);
      }

-- ---- what each command may change

-- one that leaves all records of an attribute
record LeavesAll (may : Allowances) : Type 0 where
  whole : (n place : ℕ) → may.attributes n place ≡ Only []

leaves_all : (b : List ℕ) (may : Allowances) (n : ℕ) (kind : EntryKind) → LeavesAll may → SparesEntries b may n kind
leaves_all b may n kind all =
    let each = λ (f : Field) (place : ℕ). ap (spares f) (all.whole n place) in
    record { head = λ place typed. each (head_field kind) place; types = λ place typed. each record_type place; links = λ place typed. each next_field place; numbers = λ place typed. each aedr_num place }

spares_if : (p : Bool) (f : Field) (a a' : Allowance) → (p ≡ true → spares f a ≡ true) → (p ≡ false → spares f a' ≡ true) → spares f (if p then a else a') ≡ true
spares_if true f a a' left right = left refl
spares_if false f a a' left right = right refl

-- an entry is no ADR
no_adr : (kind : EntryKind) → (entry_type kind == adr_type) ≡ false
no_adr entries.G = refl
no_adr entries.R = refl
no_adr entries.Z = refl

-- the heads of two chains of an attribute have no byte in common
heads_apart : (kind other : EntryKind) → share_chain other kind ≡ false → list_all (are_apart (head_field kind)) (chain_fields other) ≡ true
heads_apart entries.G entries.Z e = refl
heads_apart entries.R entries.Z e = refl
heads_apart entries.Z entries.G e = refl
heads_apart entries.Z entries.R e = refl
heads_apart entries.G entries.G e = absurd cc
heads_apart entries.G entries.R e = absurd cc
heads_apart entries.R entries.G e = absurd cc
heads_apart entries.R entries.R e = absurd cc
heads_apart entries.Z entries.Z e = absurd cc

types_differ : (kind other : EntryKind) → share_chain other kind ≡ false → (entry_type kind == entry_type other) ≡ false
types_differ entries.G entries.Z e = refl
types_differ entries.R entries.Z e = refl
types_differ entries.Z entries.G e = refl
types_differ entries.Z entries.R e = refl
types_differ entries.G entries.G e = absurd cc
types_differ entries.G entries.R e = absurd cc
types_differ entries.R entries.G e = absurd cc
types_differ entries.R entries.R e = absurd cc
types_differ entries.Z entries.Z e = absurd cc

module _ (b : List ℕ) (kind other : EntryKind) (num : ℕ) (apart : share_chain other kind ≡ false) where
  of_adr : (place : ℕ) → type_at b place ≡ adr_type → spares (head_field kind) (entry_allowance b other num (next_field ∷ []) place) ≡ true
  of_adr place typed = rw (eq-eqb (type_at b place) adr_type typed) (heads_apart kind other apart)

  of_entry : (f : Field) (place : ℕ) → type_at b place ≡ entry_type kind → spares f (entry_allowance b other num (next_field ∷ []) place) ≡ true
  of_entry f place typed =
      let no = ap (λ (t : ℕ). t == adr_type) typed ∙ no_adr kind in
      let differ = ap (λ (t : ℕ). t == entry_type other) typed ∙ types_differ kind other apart in
      rw no (rw differ refl)

-- `put-entry` and `del-entry`
module _ (b : List ℕ) (d : DataSet) (s : Shape) (attr : List ℕ) (other : EntryKind) (num n : ℕ) (kind : EntryKind) (e : (is_attribute d attr n && share_chain other kind) ≡ false) where
  abbrev may : ℕ → Allowance
  may place = if is_attribute d attr n then entry_allowance b other num (next_field ∷ []) place else Only []

  apart : is_attribute d attr n ≡ true → share_chain other kind ≡ false
  apart named = sym (ap (λ (p : Bool). p && share_chain other kind) named) ∙ e

  spares_head : (place : ℕ) → type_at b place ≡ adr_type → spares (head_field kind) (may place) ≡ true
  spares_head place typed = spares_if (is_attribute d attr n) (head_field kind) (entry_allowance b other num (next_field ∷ []) place) (Only []) (λ named. of_adr b kind other num (apart named) place typed) (λ no. refl)

  spares_entry : (f : Field) (place : ℕ) → type_at b place ≡ entry_type kind → spares f (may place) ≡ true
  spares_entry f place typed = spares_if (is_attribute d attr n) f (entry_allowance b other num (next_field ∷ []) place) (Only []) (λ named. of_entry b kind other num (apart named) f place typed) (λ no. refl)

-- an ADR of which some fields change, and no entry
module _ (b : List ℕ) (kind : EntryKind) (fields : List Field) (apart : list_all (are_apart (head_field kind)) fields ≡ true) where
  adr_head : (place : ℕ) → spares (head_field kind) (only_of b place adr_type fields) ≡ true
  adr_head place = spares_if (type_at b place == adr_type) (head_field kind) (Only fields) (Only []) (λ yes. apart) (λ no. refl)

  adr_entry : (f : Field) (place : ℕ) → type_at b place ≡ entry_type kind → spares f (only_of b place adr_type fields) ≡ true
  adr_entry f place typed = let no = ap (λ (t : ℕ). t == adr_type) typed ∙ no_adr kind in rw no refl

-- fields of an ADR that are not the head of a chain
next_apart : (kind : EntryKind) → list_all (are_apart (head_field kind)) (next_field ∷ []) ≡ true
next_apart entries.G = refl
next_apart entries.R = refl
next_apart entries.Z = refl

name_apart : (kind : EntryKind) → list_all (are_apart (head_field kind)) (adr_name ∷ []) ≡ true
name_apart entries.G = refl
name_apart entries.R = refl
name_apart entries.Z = refl

gone_apart : (kind : EntryKind) → list_all (are_apart (head_field kind)) (next_field ∷ adr_num ∷ []) ≡ true
gone_apart entries.G = refl
gone_apart entries.R = refl
gone_apart entries.Z = refl

-- a command that names a variable
of_found : (b : List ℕ) (d : DataSet) (name : List ℕ) (may : Found → Allowances) (n : ℕ) (kind : EntryKind) → ((f : Found) → LeavesAll (may f)) → SparesEntries b (elim (variable_named d name) [ None ↦ stays_all | Some f ↦ may f ]) n kind
of_found b d name may n kind each = by_name (variable_named d name)
  where
    by_name : (found : Option Found) → SparesEntries b (elim found [ None ↦ stays_all | Some f ↦ may f ]) n kind
    by_name None = leaves_all b stays_all n kind (record { whole = λ k place. refl })
    by_name (Some f) = leaves_all b (may f) n kind (each f)

-- `attr` and `rename-attr` leave all entries, and `del-attr` those of other attributes
attr_spares : (b : List ℕ) (n : ℕ) (kind : EntryKind) → SparesEntries b (attr_changes b) n kind
attr_spares b n kind =
    let apart = next_apart kind in
    let entry = adr_entry b kind (next_field ∷ []) apart in
    record { head = λ place typed. adr_head b kind (next_field ∷ []) apart place; types = entry record_type; links = entry next_field; numbers = entry aedr_num }

renamed_spares : (b : List ℕ) (d : DataSet) (from : List ℕ) (n : ℕ) (kind : EntryKind) → SparesEntries b (rename_attr_changes b d from) n kind
renamed_spares b d from n kind =
    let apart = name_apart kind in
    let own = λ (place : ℕ). only_of b place adr_type (adr_name ∷ []) in
    let spared = λ (f : Field) (place : ℕ) (yes : spares f (own place) ≡ true). spares_if (is_attribute d from n) f (own place) (Only []) (λ named. yes) (λ no. refl) in
    let entry = λ (f : Field) (place : ℕ) (typed : type_at b place ≡ entry_type kind). spared f place (adr_entry b kind (adr_name ∷ []) apart f place typed) in
    record { head = λ place typed. spared (head_field kind) place (adr_head b kind (adr_name ∷ []) apart place); types = entry record_type; links = entry next_field; numbers = entry aedr_num }

deleted_spares : (b : List ℕ) (d : DataSet) (name : List ℕ) (n : ℕ) (kind : EntryKind) → is_attribute d name n ≡ false → SparesEntries b (del_attr_changes b d name) n kind
deleted_spares b d name n kind other =
    record {
      head = λ place typed. rw other (rw (eq-eqb (type_at b place) adr_type typed) (gone_apart kind));
      types = λ place typed. rw other (rw (not_adr place typed) refl);
      links = λ place typed. rw other (rw (not_adr place typed) refl);
      numbers = λ place typed. rw other (rw (not_adr place typed) refl);
    }
  where
    not_adr : (place : ℕ) → type_at b place ≡ entry_type kind → (type_at b place == adr_type) ≡ false
    not_adr place typed = ap (λ (t : ℕ). t == adr_type) typed ∙ no_adr kind

spares_entries : (b : List ℕ) (d : DataSet) (s : Shape) (c : Command) (n : ℕ) (kind : EntryKind) → is_on_entries d c n kind ≡ false → SparesEntries b (allowances b d s c) n kind
spares_entries b d s (commands.Attr name scope) n kind e = attr_spares b n kind
spares_entries b d s (commands.RenameAttr from to) n kind e = renamed_spares b d from n kind
spares_entries b d s (commands.DelAttr name) n kind e = deleted_spares b d name n kind e
spares_entries b d s (commands.PutEntry attr other num t words) n kind e =
    record { head = spares_head b d s attr other num n kind e; types = spares_entry b d s attr other num n kind e record_type; links = spares_entry b d s attr other num n kind e next_field; numbers = spares_entry b d s attr other num n kind e aedr_num }
spares_entries b d s (commands.DelEntry attr other num) n kind e =
    record { head = spares_head b d s attr other num n kind e; types = spares_entry b d s attr other num n kind e record_type; links = spares_entry b d s attr other num n kind e next_field; numbers = spares_entry b d s attr other num n kind e aedr_num }
spares_entries b d s (commands.RenameVar from to) n kind e = of_found b d from (rename_var_changes b s) n kind (λ f. record { whole = λ k place. refl })
spares_entries b d s (commands.DelVar name) n kind e = absurd cc
spares_entries b d s (commands.SetPad var words) n kind e = of_found b d var (set_pad_changes b s) n kind (λ f. record { whole = λ k place. refl })
spares_entries b d s (commands.SetBlocking var count) n kind e = of_found b d var (set_blocking_changes b s) n kind (λ f. record { whole = λ k place. refl })
spares_entries b d s (commands.PutRec var rec words) n kind e = of_found b d var (λ f. put_changes b s f rec) n kind (λ f. record { whole = λ k place. refl })
spares_entries b d s (commands.PutVal var rec index words) n kind e = of_found b d var (λ f. put_changes b s f rec) n kind (λ f. record { whole = λ k place. refl })
spares_entries b d s (commands.DelRecs var first last) n kind e = of_found b d var (λ f. del_recs_changes b s f first last) n kind (λ f. record { whole = λ k place. refl })
spares_entries b d s (commands.SetSparse var rule) n kind e = of_found b d var (set_sparse_changes b s) n kind (λ f. record { whole = λ k place. refl })
spares_entries b d s (commands.SetCompress var rle) n kind e = of_found b d var (λ f. set_compress_changes b s f rle) n kind (λ f. record { whole = λ k place. refl })
spares_entries b d s (commands.Reindex var) n kind e = of_found b d var (reindex_changes b s) n kind (λ f. record { whole = λ k place. refl })
spares_entries b d s c n kind e = leaves_all b (allowances b d s c) n kind (record { whole = λ k place. refl })

pub entries_stay : (b now : List ℕ) (c : Command) (n : ℕ) (own : AttributeShape) (kind : EntryKind) → slice_get (shape b).attributes n ≡ Some own → is_on_entries (content b) c n kind ≡ false → Good b → Follows b c now → EntriesStay b now (entries_chain kind own.adr)
entries_stay b now c n own kind at other good f =
    stay b now (allowances b (content b) (shape b) c) f.acts (good_is_sound b good).has_shape (good_is_sound now f.good).has_shape f.keeps n own kind at (spares_entries b (content b) (shape b) c n kind other)
