-- One image goes on to another while a variable changes, and from there on to a third, each by acts of any kind: the two steps are one.
use Rattle.cdf_edits.proofs.Common.{Act, DataSet, Field, Good, HasShape, In, Kind, List, OutsideFields, Stays, Variable, VariableShape, arith, content, either, false-is_in, good_is_sound, inl, is_in, length, linkable-in, linkable-type, nat_le, nat_lt, shape, shapes_of, size_at, slice_set, tile_lies, true-is_in, type_at, uir_next_uir, uir_prev_uir, uir_type, variable_of, variables_of, with_variables, ℕ, ◌&&◌, ◌++◌, ◌+◌, ◌<◌, ◌∙◌, ◌∷◌, ◌≡◌, []}
use Rattle.cdf_edits.proofs.Commands.KeptRecords.{Stood}
use Rattle.cdf_edits.proofs.Edits.ActsJoined.{ListedStay}
use Rattle.cdf_edits.proofs.Edits.Common.{StandsAmong, none_of_both, other_kind, stays_then, type_stays}
use Rattle.cdf_edits.proofs.Edits.RecordGrown.{kept_then}
use Rattle.cdf_puts.specs.Going.{GoesOn, IsOther, LooseStay}
use Rattle.cdf_put_steps.proofs.FollowThen.{follow_then, listed_first}
use Rattle.std.proofs.lemmas.List.{set-set}

abbrev links : List Field
links = uir_next_uir ∷ uir_prev_uir ∷ []

-- in a data set a variable is another, and then another again
abbrev with_set : DataSet → Kind → ℕ → Variable → DataSet
with_set d kind n v = with_variables d kind (slice_set (variables_of d kind) n v)

with_twice : (d : DataSet) (kind : Kind) (n : ℕ) (v v' : Variable) → with_set (with_set d kind n v) kind n v' ≡ with_set d kind n v'
with_twice d kind n v v' = grind (arith, set-set)

module _ {b mid now : List ℕ} {kind : Kind} {before : List VariableShape} {own own' own'' : VariableShape} {after : List VariableShape} {acts acts' : List Act} (good : Good b) (at : StandsAmong b kind before own after) (first : GoesOn b mid kind before own own' after acts) (second : GoesOn mid now kind before own' own'' after acts') where
  h : HasShape b (shape b)
  h = (good_is_sound b good).has_shape

  h' : HasShape mid (shape mid)
  h' = (good_is_sound mid first.good).has_shape

  twice : (m : ℕ) (fs : List Field) → Stays b mid m fs → Stays mid now m fs → Stays b now m fs
  twice m fs x y = stays_then b mid now m fs fs fs x y (λ i o. (o, o))

  -- an unused record is an unused record in between
  type_later : (m : ℕ) (fs : List Field) → In m (shape b).records → type_at b m ≡ uir_type → Stays b mid m fs → ((i : ℕ) → i < 12 → OutsideFields fs i) → type_at mid m ≡ uir_type
  type_later m fs i t x out = type_stays b mid m fs x (tile_lies b 8 (length b) (shape b).records m h.tiled i).long out ∙ t

  loose_then : LooseStay b now
  loose_then m i t out =
      let x = first.loose m i t out in
      twice m [] x (second.loose m x.stands (type_later m [] i t x (λ n l. tt)) (λ j. out (listed_first h first.follow h' m i t j)))

  listed_then : ListedStay b now (acts ++ acts')
  listed_then m j free =
      let ok = h.unused_chain.linkable m j in
      let none = none_of_both (λ (take : ℕ × ℕ). nat_le m take.0 && nat_lt take.0 (m + size_at b m)) acts acts' free in
      let x = first.listed m j none.0 in
      let typed = type_later m links (linkable-in b (shape b).records uir_type m ok) (linkable-type b (shape b).records uir_type m ok) x (λ n l. (inl (omega arith), (inl (omega arith), tt))) in
      let kept = λ (e : In m (shape mid).unused). twice m links x (second.listed m e (rw x.size_is none.1)) in
      let freed = λ (out : In m (shape mid).unused → ⊥). stays_then b mid now m links [] links x (second.loose m x.stands typed out) (λ n o. (o, tt)) in
      grind (arith, kept, freed, either (is_in m (shape mid).unused), true-is_in m (shape mid).unused, false-is_in m (shape mid).unused)

  stay_then : (m : ℕ) → IsOther (shape b).attributes before after (shapes_of (shape b) (other_kind kind)) m → Stood b now m
  stay_then m i = search (kept_then b mid now m (first.stay m i).whole, second.stay m (rw (first.attributes_are, first.others_are) i))

  -- the descriptor, the GDR, the records of others, what is listed and what is loose: all as of one step
  pub goes_along : GoesOn b now kind before own own'' after (acts ++ acts')
  goes_along =
      search (arith, first, second, ← first.gdr_is, ← first.vdr_is, stay_then, listed_then, loose_then, follow_then h h' first.follow second.follow first.listed second.listed, twice, with_twice (content b) kind (length before) (variable_of mid own') (variable_of now own''))
