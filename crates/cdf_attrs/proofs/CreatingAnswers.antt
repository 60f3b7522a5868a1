-- What the command on a new attribute is answered.
use Rattle.cdf_attrs.proofs.Common.{Answers, Attr, Attribute, BadName, ByStep, Command, DataSet, Done, Follows, Go, List, NameTaken, Plain, Refused, Scope, TooLarge, [], attribute_names, content, false, gone, is_among, is_bad_name, length, new_attribute, refl, refused, step, true, ℕ, ◌++◌, ◌+◌, ◌<◌, ◌∷◌, ◌≡◌, ◌≤◌}
use Rattle.cdf_edits.proofs.Commands.Answered.{too_large as no_room}

-- a data set with an attribute more
abbrev pub with_last : DataSet → Attribute → DataSet
with_last d a = record d { attributes = d.attributes ++ a ∷ [] }

module _ (limit : ℕ) (b : List ℕ) (name : List ℕ) (scope : Scope) where
  abbrev c : Command
  c = Attr name scope

  pub badly_named : is_bad_name name ≡ true → Answers limit b c (Refused BadName) b
  badly_named e = refused limit b c BadName (rw e refl)

  module _ (named : is_bad_name name ≡ false) where
    pub name_taken : is_among name (attribute_names (content b)) ≡ true → Answers limit b c (Refused NameTaken) b
    name_taken e = refused limit b c NameTaken (rw (named, e) refl)

    module _ (free : is_among name (attribute_names (content b)) ≡ false) where
      made : DataSet
      made = with_last (content b) (new_attribute name scope)

      goes : step (content b) c ≡ ByStep (Go made Plain)
      unfolding made
      goes = rw (named, free) refl

      pub too_large : limit < length b + 324 → Answers limit b c (Refused TooLarge) b
      too_large over = no_room limit b c made Plain goes over

      pub is_done : length b + 324 ≤ limit → (now : List ℕ) → Follows b c now → Answers limit b c (Done Plain) now
      is_done fits now follows = gone limit b c made Plain now goes fits follows
