-- One image goes on to another by acts that only free records, and from there on by acts that only take records: the two steps are one.
use Rattle.cdf_edits.proofs.Common.{Act, Field, Good, HasShape, In, Kind, List, OutsideFields, Stays, VariableShape, arith, content, either, false-is_in, good_is_sound, inl, is_in, length, linkable-in, linkable-type, nat_le, nat_lt, shape, shapes_of, size_at, taken, tile_lies, true-is_in, type_at, uir_type, variable_of, ℕ, ◌&&◌, ◌++◌, ◌+◌, ◌<◌, ◌∙◌, ◌≡◌, []}
use Rattle.cdf_edits.proofs.Commands.KeptRecords.{Stood}
use Rattle.cdf_edits.proofs.Edits.ActsJoined.{ListedStay}
use Rattle.cdf_edits.proofs.Edits.Common.{OnlyTakes, StandsAmong, none_of_both, other_kind, stays_then, type_stays}
use Rattle.cdf_edits.proofs.Edits.RecordGrown.{kept_then}
use Rattle.cdf_puts.specs.Going.{GoesOn, IsOther, LooseStay}
use Rattle.cdf_cuts.proofs.WritesThen.{links, with_twice}
use Rattle.cdf_gaps.proofs.FreedThenTaken.{freed_then_taken, listed_first}

module _ {b mid now : List ℕ} {kind : Kind} {before : List VariableShape} {own own' own'' : VariableShape} {after : List VariableShape} {acts acts' : List Act} (good : Good b) (at : StandsAmong b kind before own after) (first : GoesOn b mid kind before own own' after acts) (second : GoesOn mid now kind before own' own'' after acts') (gives : taken acts ≡ []) (takes' : OnlyTakes acts') where
  h : HasShape b (shape b)
  h = (good_is_sound b good).has_shape

  twice : (m : ℕ) (fs : List Field) → Stays b mid m fs → Stays mid now m fs → Stays b now m fs
  twice m fs x y = stays_then b mid now m fs fs fs x y (λ i o. (o, o))

  -- an unused record is an unused record in between
  type_later : (m : ℕ) (fs : List Field) → In m (shape b).records → type_at b m ≡ uir_type → Stays b mid m fs → ((i : ℕ) → i < 12 → OutsideFields fs i) → type_at mid m ≡ uir_type
  type_later m fs i t x out = type_stays b mid m fs x (tile_lies b 8 (length b) (shape b).records m h.tiled i).long out ∙ t

  loose_then : LooseStay b now
  loose_then m i t out =
      let x = first.loose m i t out in
      twice m [] x (second.loose m x.stands (type_later m [] i t x (λ n l. tt)) (λ j. out (listed_first h first.follow gives m t j)))

  listed_then : ListedStay b now (acts ++ acts')
  listed_then m j free =
      let ok = h.unused_chain.linkable m j in
      let none = none_of_both (λ (take : ℕ × ℕ). nat_le m take.0 && nat_lt take.0 (m + size_at b m)) acts acts' free in
      let x = first.listed m j none.0 in
      let typed = type_later m links (linkable-in b (shape b).records uir_type m ok) (linkable-type b (shape b).records uir_type m ok) x (λ n l. (inl (omega arith), (inl (omega arith), tt))) in
      let kept = λ (e : In m (shape mid).unused). twice m links x (second.listed m e (rw x.size_is none.1)) in
      let freed = λ (out : In m (shape mid).unused → ⊥). stays_then b mid now m links [] links x (second.loose m x.stands typed out) (λ n o. (o, tt)) in
      grind (arith, kept, freed, either (is_in m (shape mid).unused), true-is_in m (shape mid).unused, false-is_in m (shape mid).unused)

  stay_then : (m : ℕ) → IsOther (shape b).attributes before after (shapes_of (shape b) (other_kind kind)) m → Stood b now m
  stay_then m i = search (kept_then b mid now m (first.stay m i).whole, second.stay m (rw (first.attributes_are, first.others_are) i))

  -- the descriptor, the GDR, the records of others, what is listed and what is loose: all as of one step
  pub goes_taken : GoesOn b now kind before own own'' after (acts ++ acts')
  goes_taken =
      search (arith, first, second, ← first.gdr_is, ← first.vdr_is, stay_then, listed_then, loose_then, freed_then_taken h first.follow second.follow gives takes' first.listed, twice, with_twice (content b) kind (length before) (variable_of mid own') (variable_of now own''))
