-- An edit that changes one attribute, which stays in its place.
use Rattle.cdf_edits.proofs.Common.{Attribute, AttributeShape, Away, DataSet, Each, Edit, Hold, In, In-append, In-append_left, In-append_right, IsGoodByShape, IsSound, List, Mark, Shape, [], adr_name, adr_num, adrs, adrs_rows, ap, arith, attribute_of, attribute_records, avoided, content, content_is, flat_map, gdr_num_attr, gdr_offset, gdr_type, inl, inr, length, length-map, map, map-append, name_in, names_at, number, row, set_at, slice_set, subst, sym, true, type_at, with_attribute, ℕ, ◌++◌, ◌==◌, ◌∙◌, ◌∷◌, ◌≡◌}
use Rattle.cdf_edits.proofs.Rules.WithoutLinks.{number_rows_kept}
use Rattle.cdf_edits.proofs.Edits.AttributeFrame.{AreThere, lives_away, remaining_names, nums_stay}
use Rattle.cdf_edits.proofs.Edits.RecordFrame.{AttributeLives, gdr_field, gdr_place}
use Rattle.cdf_edits.proofs.Frame.OwnersApart.{flat-append}
use Rattle.cdf_edits.proofs.Edits.OwnedOnce.{only_owns, all_attributes_in}
use Rattle.cdf_edits.proofs.Edits.VariableKinds.{attributes_counted}
use Rattle.cdf_edits.proofs.Edits.Splice.{Splices, s', file, parts_there, content_now}

-- the marks are in its own records alone: the others stay
module _ {b now : List ℕ} {s : Shape} {new : List ℕ} {marks : List Mark} {reborn : List ℕ} (sound : IsSound b s) (e : Edit b now s.records new marks reborn) (before : List AttributeShape) (own : AttributeShape) (after : List AttributeShape) (was : s.attributes ≡ before ++ own ∷ after) where
  all_in : (m : ℕ) → In m (flat_map attribute_records before ++ (attribute_records own ++ flat_map attribute_records after)) → In m s.records
  all_in m i = all_attributes_in sound m (subst (λ (as_ : List AttributeShape). In m (flat_map attribute_records as_)) (sym was) (subst (In m) (sym (flat-append attribute_records before (own ∷ after))) i))

  pub beside_live : ((m : ℕ) → In m s.records → (In m (attribute_records own) → ⊥) → Away marks (type_at b m) m) → Each (AttributeLives b now) before × Each (AttributeLives b now) after
  beside_live away =
      let there = parts_there b s sound before (own ∷ []) after was in
      let apart = only_owns b s sound before own after was in (
        lives_away sound e before there.0 (λ m i. away m (all_in m (In-append_left m (flat_map attribute_records before) (attribute_records own ++ flat_map attribute_records after) i)) (λ j. (apart m j).in_before i)),
        lives_away sound e after there.1.1 (λ m i. away m (all_in m (In-append_right m (flat_map attribute_records before) (attribute_records own ++ flat_map attribute_records after) (In-append_right m (attribute_records own) (flat_map attribute_records after) i))) (λ j. (apart m j).in_after i)),
      )

module _ {b now : List ℕ} {s : Shape} {new list : List ℕ} {marks : List Mark} {reborn : List ℕ} {before : List AttributeShape} {own own' : AttributeShape} {after : List AttributeShape} (sound : IsSound b s) (splices : Splices b now s new list marks reborn before (own ∷ []) (own' ∷ []) after) where
  abbrev shape' : Shape
  shape' = s' sound splices

  e : Edit b now s.records new marks reborn
  e = splices.edit

  there : AreThere b s.records before × (AreThere b s.records (own ∷ []) × AreThere b s.records after)
  there = parts_there b s sound before (own ∷ []) after splices.was

  -- the content
  pub content_replaced : content now ≡ with_attribute (content b) (length before) (attribute_of now own')
  content_replaced =
      let was = splices.was in
      let split : (content b).attributes ≡ map (attribute_of b) before ++ attribute_of b own ∷ map (attribute_of b) after =
      ap (λ (d : DataSet). d.attributes) (content_is b s sound.has_shape) ∙ ap (map (attribute_of b)) was ∙ map-append (attribute_of b) before (own ∷ after) in
      let place : length (map (attribute_of b) before) ≡ length before = length-map before (attribute_of b) in
      let set = ap (λ (as_ : List Attribute). slice_set as_ (length before) (attribute_of now own')) split ∙ set_at (map (attribute_of b) before) (attribute_of b own) (map (attribute_of b) after) (attribute_of now own') (length before) place in
      content_now sound splices ∙ ap (λ (as_ : List Attribute). record (content b) { attributes = as_ }) (sym set)

  module _ (adr_is : own'.adr ≡ own.adr) (num_is : number now own.adr adr_num ≡ number b own.adr adr_num) (live : Each (AttributeLives b now) before × Each (AttributeLives b now) after) where
    pub adrs_are : adrs shape' ≡ adrs s
    adrs_are =
        let f = λ (a : AttributeShape). a.adr in
        map-append f before (own' ∷ after) ∙ (λ i. map f before ++ adr_is i ∷ map f after) ∙ sym (map-append f before (own ∷ after)) ∙ ap (map f) (sym splices.was)

    num_stays : (m : ℕ) → In m (adrs s) → number now m adr_num ≡ number b m adr_num
    num_stays m i =
        let f = λ (a : AttributeShape). a.adr in
        elim (In-append m (map f before) (own.adr ∷ map f after) (subst (In m) (ap (map f) splices.was ∙ map-append f before (own ∷ after)) i)) [
          | inl j ↦ nums_stay sound e (file sound splices) before there.0 live.0 m j
          | inr j ↦ elim j [
            | inl q ↦ subst (λ (x : ℕ). number now x adr_num ≡ number b x adr_num) (sym q) num_is
            | inr k ↦ nums_stay sound e (file sound splices) after there.1.1 live.1 m k
          ]
        ]

    -- the count and the numbers
    pub counted : IsGoodByShape b s → avoided marks gdr_type 48 52 ≡ true → Hold (adrs_rows now (adrs shape'))
    counted good clear =
        let place = gdr_place sound e splices.file_clear ∙ sym sound.has_shape.gdr_is in
        let count : number now (gdr_offset now) gdr_num_attr ≡ number b (gdr_offset b) gdr_num_attr =
        ap (λ (g : ℕ). number now g gdr_num_attr) (gdr_place sound e splices.file_clear) ∙ gdr_field sound e splices.file_clear gdr_num_attr clear (omega arith) ∙ sym (ap (λ (g : ℕ). number b g gdr_num_attr) sound.has_shape.gdr_is) in
        let numbers = number_rows_kept 4 b now adr_num 0 (adrs s) num_stays in
        let same : adrs_rows now (adrs s) ≡ adrs_rows b (adrs s) = λ i. (row 3 (place i) (count i == length (adrs s)) ∷ []) ++ numbers i in
        subst (λ (ms : List ℕ). Hold (adrs_rows now ms)) (sym adrs_are) (subst Hold (sym same) (attributes_counted good))

  -- the names, of which its own may be another
  pub names_now : names_at now adr_name (adrs shape') ≡ names_at b adr_name (map (λ (a : AttributeShape). a.adr) before) ++ name_in now own'.adr adr_name ∷ names_at b adr_name (map (λ (a : AttributeShape). a.adr) after)
  names_now =
      let f = λ (a : AttributeShape). a.adr in
      let n = λ (m : ℕ). name_in now m adr_name in
      let x = remaining_names b now new before splices.before_remain in
      let y = remaining_names b now new after splices.after_remain in
      ap (map n) (map-append f before (own' ∷ after)) ∙ map-append n (map f before) (own'.adr ∷ map f after) ∙ (λ i. x i ++ name_in now own'.adr adr_name ∷ y i)

  pub names_before : names_at b adr_name (adrs s) ≡ names_at b adr_name (map (λ (a : AttributeShape). a.adr) before) ++ name_in b own.adr adr_name ∷ names_at b adr_name (map (λ (a : AttributeShape). a.adr) after)
  names_before =
      let f = λ (a : AttributeShape). a.adr in
      let n = λ (m : ℕ). name_in b m adr_name in
      ap (λ (as_ : List AttributeShape). map n (map f as_)) splices.was ∙ ap (map n) (map-append f before (own ∷ after)) ∙ map-append n (map f before) (own.adr ∷ map f after)
