-- What the steps of commands on an entry that is there come to, one reason after the other.
use Rattle.cdf_attrs.proofs.Common.{Answer, Attribute, DataSet, Entry, EntryKind, List, NoSuchAttr, NoSuchEntry, None, Refuse, Some, WrongScope, attribute_named, entries_of, false, is_wrong_scope, item_at, on_entry, refl, true, ℕ, ◌≡◌}

module _ (d : DataSet) (name : List ℕ) (kind : EntryKind) (num : ℕ) (answer : ℕ → Attribute → Entry → Answer) where
  pub no_attribute : attribute_named d name ≡ None → on_entry d name kind num answer ≡ Refuse NoSuchAttr
  no_attribute e = rw e refl

  module _ (i : ℕ) (a : Attribute) (named : attribute_named d name ≡ Some (i, a)) where
    pub wrong_scope : is_wrong_scope kind a.scope ≡ true → on_entry d name kind num answer ≡ Refuse WrongScope
    wrong_scope e = rw (named, e) refl

    module _ (in_scope : is_wrong_scope kind a.scope ≡ false) where
      pub no_entry : item_at num (entries_of a kind) ≡ None → on_entry d name kind num answer ≡ Refuse NoSuchEntry
      no_entry e = rw (named, in_scope, e) refl

      pub has_entry : (entry : Entry) → item_at num (entries_of a kind) ≡ Some entry → on_entry d name kind num answer ≡ answer i a entry
      has_entry entry e = rw (named, in_scope, e) refl
