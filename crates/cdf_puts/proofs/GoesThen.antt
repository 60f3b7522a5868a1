-- One image goes on to another: what the descriptor says by then, that an edit of one variable is such a step, and that two steps are one.
use Rattle.cdf_puts.proofs.Common.{Act, ActsFollow, DataSet, Field, GoesOn, Good, HasShape, In, IndexEdit, IsOther, IsSound, Kept, Kind, List, ListedStay, LooseStay, Mark, Nodes, Only, OnlyTakes, OutsideFields, OwnEdit, Some, StandsAmong, Stays, Stood, Touch, Variable, VariableShape, VdrStays, WritesRecords, [], acts_joined, after_ours, all_variable_records, among_now, ap, arith, cdr_kept, cdr_type, content, content_is, content_replaced, either, false, false-is_in, fits, flat_map, gdr_keeps, good_is_sound, good_now, image_limit, index_edit, inl, inr, is_a-in, is_compressed, is_in, keeps_stood, kept_away, kind_ours, length, linkable-in, linkable-type, listed_before, long, nat_le, nat_lt, no_acts_follow, none_of_both, only, other_kind, others_are, ours, own_edit, own_rules, put_fields, r_max_rec_field, record_alike, record_bytes, records_are, refl, shape, shapes_of, size_at, slice_get, slice_set, space_fields, splices, stays_alike, stood, subst, sym, tile, tile_lies, true-is_in, type_at, uir_next_uir, uir_prev_uir, uir_type, unused_stands, variable_of, variable_records, variables_in, variables_of, variables_of_are, vdr_size, with_variables, ℕ, ◌&&◌, ◌++◌, ◌+◌, ◌<◌, ◌∙◌, ◌∷◌, ◌≡◌, ◌≤◌}
use Rattle.std.proofs.lemmas.List.{set-set}
use Rattle.cdf_edits.proofs.Edits.Common.{all_attributes_in, attributes_kept, got-map, got-middle, stays_bytes, stays_then, type_stays}
use Rattle.cdf_edits.proofs.Edits.IndexEdited as of_index
use Rattle.cdf_edits.proofs.Edits.OwnEdited.{same_shape}
use Rattle.cdf_edits.proofs.Edits.RecordGrown.{kept_then}
use Rattle.cdf_edits.proofs.Frame.VdrStays.{packed_stays}

abbrev pub links : List Field
links = uir_next_uir ∷ uir_prev_uir ∷ []

-- ---- the variable among those of its kind

module _ {b : List ℕ} {kind : Kind} {before : List VariableShape} {own : VariableShape} {after : List VariableShape} (good : Good b) (at : StandsAmong b kind before own after) where
  pub own_there : slice_get (shapes_of (shape b) kind) (length before) ≡ Some own
  own_there = rw at.was (got-middle before own after)

  pub variable_there : slice_get (variables_of (content b) kind) (length before) ≡ Some (variable_of b own)
  variable_there = rw (content_is b (shape b) (good_is_sound b good).has_shape, variables_of_are) (got-map (variable_of b) (shapes_of (shape b) kind) (length before) own own_there)

-- ---- the descriptor

module _ {b now : List ℕ} {kind : Kind} {before : List VariableShape} {own : VariableShape} {after : List VariableShape} (good : Good b) (at : StandsAmong b kind before own after) where
  pub stays : Stays b now own.vdr put_fields → VdrStays b now own.vdr
  stays d =
      let n = long good at in
      let typed = type_stays b now own.vdr put_fields d (omega arith) (λ i lt. grind arith) in
      let type = stays_bytes d 20 24 (omega arith) (λ i low high. grind arith) in
      let behind = stays_bytes d 44 (size_at b own.vdr) (omega arith) (λ i low high. grind arith) in
      search (typed, type, behind, (tile_lies b 8 (length b) (shape b).records own.vdr (good_is_sound b good).has_shape.tiled (tile good at)).high, (fits good at).0)

  -- the same, of the variable with its later index
  pub later_size : {own' : VariableShape} {acts : List Act} → GoesOn b now kind before own own' after acts → record_bytes now own'.vdr ≡ record_bytes b own.vdr
  later_size goes = ap (record_bytes now) goes.vdr_is ∙ record_alike goes.file (stays_alike goes.file (stays goes.descriptor))

  -- nor is it packed then where it was not
  pub later_loose : {own' : VariableShape} {acts : List Act} → GoesOn b now kind before own own' after acts → is_compressed b own.vdr ≡ false → is_compressed now own'.vdr ≡ false
  later_loose goes loose = ap (is_compressed now) goes.vdr_is ∙ packed_stays goes.file (stays goes.descriptor) ∙ loose

-- ---- an edit of one variable goes on

module _ {b now : List ℕ} {kind : Kind} {before : List VariableShape} {own : VariableShape} {after : List VariableShape} {index : Nodes} {new list : List ℕ} {marks : List Mark} {reborn : List ℕ} (good : Good b) (at : StandsAmong b kind before own after) (x : IndexEdit b now kind own index new list marks reborn) where
  y : OwnEdit b now kind own index new list marks reborn
  y = own_edit good at x

  sound : IsSound b (shape b)
  sound = good_is_sound b good

  stand : (m : ℕ) → In m (shape b).records → Kept b now m → Stood b now m
  stand = stood sound x.edit (records_are good at y)

  beside : (vs : List VariableShape) → ((m : ℕ) → In m (flat_map variable_records vs) → In m (all_variable_records (shape b))) → ((m : ℕ) → In m (variable_records own) → In m (flat_map variable_records vs) → ⊥) → (m : ℕ) → In m (flat_map variable_records vs) → Stood b now m
  beside vs sub out m i = let inside = variables_in b (shape b) sound m (sub m i) in stand m inside (kept_away x.edit m (type_at b m) inside refl (x.beside m (sub m i) (λ j. out m j i)))

  other : (m : ℕ) → IsOther (shape b).attributes before after (shapes_of (shape b) (other_kind kind)) m → Stood b now m
  other m (inl e) = subst (Stood b now) (sym e) (stand 8 (is_a-in b (shape b).records cdr_type 8 sound.has_shape.cdr_stands) (cdr_kept sound x.edit x.file_clear))
  other m (inr (inl i)) = stand m (all_attributes_in sound m i) (attributes_kept sound (splices good at y) m i)
  other m (inr (inr (inl i))) = beside before (ours good at).0.sub (λ m i. (only good at y m i).in_before) m i
  other m (inr (inr (inr (inl i)))) = beside after (after_ours good at).sub (λ m i. (only good at y m i).in_after) m i
  other m (inr (inr (inr (inr i)))) = beside (shapes_of (shape b) (other_kind kind)) (kind_ours b (shape b) sound (other_kind kind)).sub (λ m i. (only good at y m i).in_others) m i

  pub goes_by : {acts : List Act} → Good now → ActsFollow b now acts → Stays b now (shape b).gdr (r_max_rec_field kind ++ space_fields) → ListedStay b now acts → LooseStay b now → GoesOn b now kind before own (record own { index = index }) after acts
  goes_by still follow gdr listed loose =
      let outside = λ (n : ℕ) (lt : n < size_at b own.vdr) (out : OutsideFields put_fields n). (of_index.part good at x n (n + 1) (grind (arith, out)) (omega arith)).each (own.vdr + n) (omega arith) (omega arith) in
      let there = x.edit.sub own.vdr (tile good at) in
      search (arith, among_now good at y, same_shape good at y, others_are good at y, of_index.file good at x, content_replaced good at y, other, vdr_size good at x)

-- records are written where they stand
pub goes_written : {b now : List ℕ} {kind : Kind} {before : List VariableShape} {own : VariableShape} {after : List VariableShape} {ts : List Touch} (good : Good b) (at : StandsAmong b kind before own after) → WritesRecords b now kind own ts → length b ≤ image_limit → GoesOn b now kind before own own after []
goes_written {b = b} {now = now} {kind = kind} {own = own} good at w short =
    goes_by good at (index_edit good at w) (good_now good at w short) (no_acts_follow good at w) (gdr_keeps good at w)
    (λ m i free.
    let ok = (good_is_sound b good).has_shape.unused_chain.linkable m i in
    keeps_stood b now m (unused_stands good at w m (linkable-in b (shape b).records uir_type m ok) (linkable-type b (shape b).records uir_type m ok)) (Only links))
    (λ m i typed out. keeps_stood b now m (unused_stands good at w m i typed) (Only []))

-- where nothing is written
pub writes_nothing : {b : List ℕ} {kind : Kind} {before : List VariableShape} {own : VariableShape} {after : List VariableShape} → Good b → StandsAmong b kind before own after → WritesRecords b b kind own []
writes_nothing good at = record { changed = record { longer = omega arith; same = λ place l o. refl }; as_long = refl; in_blocks = tt; max_rec_ruled = (own_rules good at).0.1.1.1.1.1.1.1.0 }

-- ---- two steps are one

-- in a data set a variable is another, and then another again
abbrev with_set : DataSet → Kind → ℕ → Variable → DataSet
with_set d kind n v = with_variables d kind (slice_set (variables_of d kind) n v)

with_twice : (d : DataSet) (kind : Kind) (n : ℕ) (v v' : Variable) → with_set (with_set d kind n v) kind n v' ≡ with_set d kind n v'
with_twice d kind n v v' = grind (arith, set-set)

module _ {b mid now : List ℕ} {kind : Kind} {before : List VariableShape} {own own' own'' : VariableShape} {after : List VariableShape} {acts acts' : List Act} (good : Good b) (at : StandsAmong b kind before own after) (first : GoesOn b mid kind before own own' after acts) (second : GoesOn mid now kind before own' own'' after acts') (takes : OnlyTakes acts) (takes' : OnlyTakes acts') where
  h : HasShape b (shape b)
  h = (good_is_sound b good).has_shape

  h' : HasShape mid (shape mid)
  h' = (good_is_sound mid first.good).has_shape

  twice : (m : ℕ) (fs : List Field) → Stays b mid m fs → Stays mid now m fs → Stays b now m fs
  twice m fs x y = stays_then b mid now m fs fs fs x y (λ i o. (o, o))

  -- an unused record is one in between
  type_later : (m : ℕ) (fs : List Field) → In m (shape b).records → type_at b m ≡ uir_type → Stays b mid m fs → ((i : ℕ) → i < 12 → OutsideFields fs i) → type_at mid m ≡ uir_type
  type_later m fs i t x out = type_stays b mid m fs x (tile_lies b 8 (length b) (shape b).records m h.tiled i).long out ∙ t

  loose_then : LooseStay b now
  loose_then m i t out =
      let x = first.loose m i t out in
      twice m [] x (second.loose m x.stands (type_later m [] i t x (λ n l. tt)) (λ j. out (listed_before h h' first.follow second.follow takes takes' first.listed second.listed m i j)))

  listed_then : ListedStay b now (acts ++ acts')
  listed_then m j free =
      let ok = h.unused_chain.linkable m j in
      let none = none_of_both (λ (take : ℕ × ℕ). nat_le m take.0 && nat_lt take.0 (m + size_at b m)) acts acts' free in
      let x = first.listed m j none.0 in
      let typed = type_later m links (linkable-in b (shape b).records uir_type m ok) (linkable-type b (shape b).records uir_type m ok) x (λ n l. (inl (omega arith), (inl (omega arith), tt))) in
      let kept = λ (e : In m (shape mid).unused). twice m links x (second.listed m e (rw x.size_is none.1)) in
      let freed = λ (out : In m (shape mid).unused → ⊥). stays_then b mid now m links [] links x (second.loose m x.stands typed out) (λ n o. (o, tt)) in
      grind (arith, kept, freed, either (is_in m (shape mid).unused), true-is_in m (shape mid).unused, false-is_in m (shape mid).unused)

  stay_then : (m : ℕ) → IsOther (shape b).attributes before after (shapes_of (shape b) (other_kind kind)) m → Stood b now m
  stay_then m i = search (kept_then b mid now m (first.stay m i).whole, second.stay m (rw (first.attributes_are, first.others_are) i))

  pub goes_then : GoesOn b now kind before own own'' after (acts ++ acts')
  goes_then =
      search (arith, first, second, ← first.gdr_is, ← first.vdr_is, stay_then, listed_then, loose_then, acts_joined h h' first.follow second.follow takes takes' first.listed second.listed, twice, with_twice (content b) kind (length before) (variable_of mid own') (variable_of now own''))
