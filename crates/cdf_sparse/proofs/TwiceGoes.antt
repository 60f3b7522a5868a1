-- One image goes on to another by acts that free and then take, and from there on by acts that only free: the two steps are one. So `del-recs` under a rule goes from the first image to the last.
use Rattle.cdf_edits.proofs.Common.{Act, Field, Good, HasShape, In, Kind, List, OutsideFields, Stays, VariableShape, arith, content, either, false-is_in, gave, good_is_sound, inl, is_in, length, linkable-in, linkable-type, nat_le, nat_lt, refl, shape, shapes_of, size_at, taken, tile_lies, true-is_in, type_at, uir_type, variable_of, ℕ, ◌&&◌, ◌++◌, ◌+◌, ◌<◌, ◌∙◌, ◌≡◌, []}
use Rattle.cdf_edits.proofs.Commands.KeptRecords.{Stood}
use Rattle.cdf_edits.proofs.Edits.ActsJoined.{ListedStay}
use Rattle.cdf_edits.proofs.Edits.ActsThen.{taken-gave}
use Rattle.cdf_edits.proofs.Edits.Common.{OnlyTakes, StandsAmong, none_of_both, other_kind, stays_then, type_stays}
use Rattle.cdf_edits.proofs.Edits.RecordGrown.{kept_then}
use Rattle.cdf_edits.proofs.Edits.RecordsWritten.{WritesRecords}
use Rattle.cdf_edits.specs.Index.Blocks.{extent_after}
use Rattle.cdf_puts.specs.Going.{GoesOn, IsOther, LooseStay}
use Rattle.cdf_cuts.proofs.WritesThen.{goes_more, links, with_twice}
use Rattle.cdf_cuts.specs.Past.{cut_off, past_acts}
use Rattle.cdf_sparse.proofs.AnyThenFreed.{any_then_freed, listed_before}
use Rattle.cdf_sparse.proofs.TwiceLeft.{TwiceLeft, left_short, past_takes_none, takes_alone}
use Rattle.cdf_sparse.specs.Opening.{freed_opening, opening_acts}

module _ {b mid now : List ℕ} {kind : Kind} {before : List VariableShape} {own own' own'' : VariableShape} {after : List VariableShape} {acts acts' : List Act} (good : Good b) (at : StandsAmong b kind before own after) (first : GoesOn b mid kind before own own' after acts) (second : GoesOn mid now kind before own' own'' after acts') (gives takes : List Act) (is : acts ≡ gives ++ takes) (gives_alone : taken gives ≡ []) (takes_alone : OnlyTakes takes) (gives' : taken acts' ≡ []) where
  h : HasShape b (shape b)
  h = (good_is_sound b good).has_shape

  h' : HasShape mid (shape mid)
  h' = (good_is_sound mid first.good).has_shape

  twice : (m : ℕ) (fs : List Field) → Stays b mid m fs → Stays mid now m fs → Stays b now m fs
  twice m fs x y = stays_then b mid now m fs fs fs x y (λ i o. (o, o))

  -- an unused record is an unused record in between
  type_later : (m : ℕ) (fs : List Field) → In m (shape b).records → type_at b m ≡ uir_type → Stays b mid m fs → ((i : ℕ) → i < 12 → OutsideFields fs i) → type_at mid m ≡ uir_type
  type_later m fs i t x out = type_stays b mid m fs x (tile_lies b 8 (length b) (shape b).records m h.tiled i).long out ∙ t

  loose_then : LooseStay b now
  loose_then m i t out =
      let x = first.loose m i t out in
      twice m [] x (second.loose m x.stands (type_later m [] i t x (λ n l. tt)) (λ j. out (listed_before gives takes is h h' first.follow gives_alone takes_alone m i t j)))

  listed_then : ListedStay b now (acts ++ acts')
  listed_then m j free =
      let ok = h.unused_chain.linkable m j in
      let none = none_of_both (λ (take : ℕ × ℕ). nat_le m take.0 && nat_lt take.0 (m + size_at b m)) acts acts' free in
      let x = first.listed m j none.0 in
      let typed = type_later m links (linkable-in b (shape b).records uir_type m ok) (linkable-type b (shape b).records uir_type m ok) x (λ n l. (inl (omega arith), (inl (omega arith), tt))) in
      let kept = λ (e : In m (shape mid).unused). twice m links x (second.listed m e (rw x.size_is none.1)) in
      let freed = λ (out : In m (shape mid).unused → ⊥). stays_then b mid now m links [] links x (second.loose m x.stands typed out) (λ n o. (o, tt)) in
      grind (arith, kept, freed, either (is_in m (shape mid).unused), true-is_in m (shape mid).unused, false-is_in m (shape mid).unused)

  stay_then : (m : ℕ) → IsOther (shape b).attributes before after (shapes_of (shape b) (other_kind kind)) m → Stood b now m
  stay_then m i = search (kept_then b mid now m (first.stay m i).whole, second.stay m (rw (first.attributes_are, first.others_are) i))

  -- the descriptor, the GDR, the records of others, what is listed and what is loose: all as of one step
  pub goes_freed : GoesOn b now kind before own own'' after (acts ++ acts')
  goes_freed =
      search (arith, first, second, ← first.gdr_is, ← first.vdr_is, stay_then, listed_then, loose_then, any_then_freed h h' first.follow second.follow gives' second.listed, twice, with_twice (content b) kind (length before) (variable_of mid own') (variable_of now own''))

-- the open cut, the cut past the new MaxRec, and MaxRec where it is written
module _ {b mid left : List ℕ} {kind : Kind} {before : List VariableShape} {own own' : VariableShape} {after : List VariableShape} {first last : ℕ} {takes : List Act} (t : TwiceLeft b mid left kind before own own' after first last takes) where
  abbrev end : ℕ
  end = extent_after (variable_of b own) first last

  abbrev acts : List Act
  acts = opening_acts b own first last takes ++ past_acts mid own' end

  pub goes_left : GoesOn b left kind before own (cut_off own' end) after acts
  goes_left = goes_freed t.good t.among t.opened.goes t.past.goes_on (gave b (freed_opening own first last)) takes refl (taken-gave b (freed_opening own first last)) (takes_alone t) (past_takes_none t)

  pub twice_goes : {now : List ℕ} → WritesRecords left now kind (cut_off own' end) [] → GoesOn b now kind before own (cut_off own' end) after acts
  twice_goes w = goes_more t.good t.among goes_left w (left_short t)
