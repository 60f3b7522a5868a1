-- An image from which one variable went has its shape, its content and its rules.
use Rattle.cdf_edits.proofs.Common.{AllHold, Avoids, Confined, DataSet, Distinct, Each, Edit, Good, HasShape, Hold, In, In-append_left, In-append_right, IsChain, IsGoodByShape, IsSound, Kind, List, Mark, R, Shape, Variable, VariableShape, Z, [], ap, arith, avoided, content, content_is, count_of, eof, eq-eqb, first_phases, fixed_size, flat_map, gdr_offset, gdr_type, gdr_uir_head, head_of, image_limit, index_types, inl, inr, keeps_file, length, linkable-in, linkable-type, number, owned_records, r_vdr_type, refl, remove, sealed, shapes_of, size_at, subst, sym, tile_lies, times, true, type_at, type_in, uir_type, unmarked, variable_of, variable_records, variable_removing_marks, variables_chain, variables_of, vdr_num, vdrs, vdrs_append, wholes, with_variables, z_vdr_type, ℕ, ◌++◌, ◌∙◌, ◌∷◌, ◌≡◌, ◌≤◌, ◌⊎◌}
use Rattle.cdf_edits.proofs.Commands.ListParts.{map-without}
use Rattle.cdf_edits.proofs.Edits.MarkLemmas.{avoids-of_type, confined-away, unmarked-away}
use Rattle.cdf_edits.proofs.Edits.FreedRecords.{unused_real}
use Rattle.cdf_edits.proofs.Edits.LeftOwners.{Left, left_of, owned_left}
use Rattle.cdf_edits.proofs.Edits.NumbersBehind.{fewer_rows, place_in}
use Rattle.cdf_edits.proofs.Edits.RowsOneLess.{AreNumbered}
use Rattle.cdf_edits.proofs.Edits.RecordFrame.{VariableLives, file_same, gdr_place, index_records, kept_away, kept_but_link, through}
use Rattle.cdf_edits.proofs.Edits.StandsAmong.{least_size}
use Rattle.cdf_edits.proofs.Edits.StepEdits.{fixed_long}
use Rattle.cdf_edits.proofs.Edits.VariableFrame.{AreOurs, VariableRemains, ours_parts, remain_from, nums_from, index_typed, variables_in}
use Rattle.cdf_edits.proofs.Edits.VariableKinds.{other_kind, with_shapes, vdrs_rows, number_part, keeps_kind, kind_ours, kind_chain, counted_before, variables_of_are, spliced_times}
use Rattle.cdf_edits.proofs.Edits.VariableKept.{OnlyVariable, only_variable}
use Rattle.cdf_edits.proofs.Edits.VariableNames.{apart_if}
use Rattle.cdf_edits.proofs.Edits.VariableNumbered.{KeptButNum, numbered_remains}
use Rattle.cdf_edits.proofs.Edits.VariableSplice.{VariableSplices, keeps_all_attributes, content_now, sound_if, good_image_if}
use Rattle.cdf_edits.proofs.Frame.Meaning.{FileSame, Kept, KeptButLink, but_link}
use Rattle.cdf_edits.proofs.Space.TakenFromList.{distinct_apart}

-- a VDR is a record of its variable
pub vdr_record : (vs : List VariableShape) (m : ℕ) → In m (vdrs vs) → In m (flat_map variable_records vs)
vdr_record = place_in (λ (v : VariableShape). v.vdr) index_records

-- ---- the marks, by the kind

pub record TakingTests (kind : Kind) (marks : List Mark) : Type 0 where
  pub file_clear : keeps_file marks ≡ true
  pub attributes_clear : keeps_all_attributes marks ≡ true
  pub other_clear : keeps_kind marks (other_kind kind) ≡ true
  pub others_clear : unmarked marks (type_in (variables_chain (other_kind kind))) ≡ true
  pub eof_clear : avoided marks gdr_type 36 44 ≡ true

pub taking_tests : (kind : Kind) (gdr : ℕ) (members behind unused places : List ℕ) (limit : ℕ) → TakingTests kind (variable_removing_marks kind gdr members behind unused places limit)
taking_tests R gdr members behind unused places limit = record { file_clear = refl; attributes_clear = refl; other_clear = refl; others_clear = refl; eof_clear = refl }
taking_tests Z gdr members behind unused places limit = record { file_clear = refl; attributes_clear = refl; other_clear = refl; others_clear = refl; eof_clear = refl }

-- what of a VDR of the kind avoids them
pub vdr_avoids : (kind : Kind) (gdr : ℕ) (members behind unused places : List ℕ) (limit m lo hi : ℕ) → (In m places → ⊥) → (hi ≤ 12) ⊎ (20 ≤ lo) → (In m behind → (hi ≤ 68) ⊎ (72 ≤ lo)) → Avoids (variable_removing_marks kind gdr members behind unused places limit) (type_in (variables_chain kind)) m lo hi
vdr_avoids R gdr members behind unused places limit m lo hi out link num = avoids-of_type (variable_removing_marks R gdr members behind unused places limit) r_vdr_type m lo hi ((λ same lies. link), ((λ same lies. num lies), ((λ same lies. absurd (out lies)), tt)))
vdr_avoids Z gdr members behind unused places limit m lo hi out link num = avoids-of_type (variable_removing_marks Z gdr members behind unused places limit) z_vdr_type m lo hi ((λ same lies. link), ((λ same lies. num lies), ((λ same lies. absurd (out lies)), tt)))

wholes_confined : (types places : List ℕ) (limit : ℕ) → Confined (wholes types places limit) index_types places
wholes_confined [] places limit = tt
wholes_confined (type ∷ types) places limit = (inr (λ m i. i), wholes_confined types places limit)

-- nodes, blocks and parameters have marks where they are freed alone
pub index_confined : (kind : Kind) (gdr : ℕ) (members behind unused places : List ℕ) (limit : ℕ) → Confined (variable_removing_marks kind gdr members behind unused places limit) index_types places
index_confined R gdr members behind unused places limit = (inl refl, (inl refl, (inl refl, (inl refl, (inl refl, (inl refl, (inl refl, wholes_confined (type_in (variables_chain R) ∷ index_types) places limit)))))))
index_confined Z gdr members behind unused places limit = (inl refl, (inl refl, (inl refl, (inl refl, (inl refl, (inl refl, wholes_confined (type_in (variables_chain Z) ∷ index_types) places limit))))))

pub counting_by : (kind : Kind) (now ms : List ℕ) → number now (gdr_offset now) (count_of (variables_chain kind)) ≡ length ms → Hold (number_part kind now ms) → Hold (vdrs_rows kind now ms)
counting_by R now ms count numbers = (eq-eqb _ _ count, numbers)
counting_by Z now ms count numbers = (eq-eqb _ _ count, numbers)

numbers_by : (kind : Kind) (b now : List ℕ) (all before : List VariableShape) (own : VariableShape) (after : List VariableShape) → all ≡ before ++ own ∷ after → ((m : ℕ) → In m (vdrs before) → number now m vdr_num ≡ number b m vdr_num) → AreNumbered now vdr_num (length before) (vdrs after) → Hold (vdrs_rows kind b (vdrs all)) → Hold (number_part kind now (vdrs (before ++ after)))
numbers_by R b now all before own after was same says h = fewer_rows (λ (v : VariableShape). v.vdr) vdr_num 7 b now all before own after was same says h.1
numbers_by Z b now all before own after was same says h = fewer_rows (λ (v : VariableShape). v.vdr) vdr_num 10 b now all before own after was same says h.1

-- ---- where it stands, and those beside it

pub record Stands (s : Shape) (kind : Kind) (before : List VariableShape) (own : VariableShape) (after : List VariableShape) : Type 0 where
  pub was : shapes_of s kind ≡ before ++ own ∷ after

module _ {b : List ℕ} {s : Shape} {kind : Kind} {before : List VariableShape} {own : VariableShape} {after : List VariableShape} (sound : IsSound b s) (at : Stands s kind before own after) where
  pub ours : AreOurs b s before × AreOurs b s (own ∷ after)
  ours = ours_parts b s before (own ∷ after) (subst (AreOurs b s) at.was (kind_ours b s sound kind))

  pub ours_after : AreOurs b s after
  ours_after = (ours_parts b s (own ∷ []) after ours.1).1

  pub vdrs_were : vdrs (shapes_of s kind) ≡ vdrs before ++ own.vdr ∷ vdrs after
  vdrs_were = ap vdrs at.was ∙ vdrs_append before (own ∷ after)

  pub once : Distinct (vdrs before ++ own.vdr ∷ vdrs after)
  once = subst Distinct vdrs_were (kind_chain kind sound.has_shape).once

  pub front_in : (m : ℕ) → In m (vdrs before) → In m (vdrs (shapes_of s kind))
  front_in m i = subst (In m) (sym vdrs_were) (In-append_left m (vdrs before) (own.vdr ∷ vdrs after) i)

  pub own_in : In own.vdr (vdrs (shapes_of s kind))
  own_in = subst (In own.vdr) (sym vdrs_were) (In-append_right own.vdr (vdrs before) (own.vdr ∷ vdrs after) (inl refl))

  pub back_in : (m : ℕ) → In m (vdrs after) → In m (vdrs (shapes_of s kind))
  back_in m i = subst (In m) (sym vdrs_were) (In-append_right m (vdrs before) (own.vdr ∷ vdrs after) (inr i))

  pub own_stand : (m : ℕ) → In m (variable_records own) → In m s.records
  own_stand m i = variables_in b s sound m (ours.1.sub m (In-append_left m (variable_records own) (flat_map variable_records after) i))

  -- a VDR of the kind
  pub vdr_there : (m : ℕ) → In m (vdrs (shapes_of s kind)) → In m s.records × ((type_at b m ≡ type_in (variables_chain kind)) × (340 ≤ size_at b m))
  vdr_there m i =
      let type = type_in (variables_chain kind) in
      let ok = (kind_chain kind sound.has_shape).linkable m i in
      let inside = linkable-in b s.records type m ok in
      let typed = linkable-type b s.records type m ok in
      (inside, (typed, through 340 (fixed_size type) (size_at b m) (least_size kind) (fixed_long b s sound.has_shape type m inside typed)))

  -- without it, nobody has its records
  pub left_by : (list : List ℕ) → Left b s (with_shapes s kind s.records list (before ++ after)) (variable_records own)
  left_by list = left_of variable_records sound own (λ m. spliced_times s kind s.records list before (own ∷ []) [] after at.was m 0 (times m (flat_map variable_records (own ∷ []))) (omega arith))

-- ---- an edit that takes one variable away, numbers those behind it, and may free records of it

pub record TakesVariable (b now : List ℕ) (s : Shape) (kind : Kind) (before : List VariableShape) (own : VariableShape) (after : List VariableShape) (places reborn : List ℕ) (limit : ℕ) : Type 0 where
  pub edit : Edit b now s.records s.records (variable_removing_marks kind s.gdr (vdrs (shapes_of s kind)) (vdrs after) s.unused places limit) reborn
  pub at : Stands s kind before own after
  pub mine : (m : ℕ) → In m places → In m (variable_records own)
  pub born : (m : ℕ) → In m reborn → In m places

module _ {b now : List ℕ} {s : Shape} {kind : Kind} {before : List VariableShape} {own : VariableShape} {after : List VariableShape} {places reborn : List ℕ} {limit : ℕ} (sound : IsSound b s) (r : TakesVariable b now s kind before own after places reborn limit) where
  abbrev pub marks : List Mark
  marks = variable_removing_marks kind s.gdr (vdrs (shapes_of s kind)) (vdrs after) s.unused places limit

  abbrev type : ℕ
  type = type_in (variables_chain kind)

  h : HasShape b s
  h = sound.has_shape

  pub tests : TakingTests kind marks
  tests = taking_tests kind s.gdr (vdrs (shapes_of s kind)) (vdrs after) s.unused places limit

  pub file : FileSame b now
  file = file_same sound r.edit tests.file_clear

  -- no other has a record that is freed
  pub only : (m : ℕ) → In m places → OnlyVariable b s kind before after m
  only m i = only_variable sound kind before own after r.at.was m (r.mine m i)

  pub back_out : (m : ℕ) → In m (vdrs after) → In m places → ⊥
  back_out m i j = (only m j).in_after (vdr_record after m i)

  avoids : (m lo hi : ℕ) → (In m places → ⊥) → (hi ≤ 12) ⊎ (20 ≤ lo) → (In m (vdrs after) → (hi ≤ 68) ⊎ (72 ≤ lo)) → Avoids marks type m lo hi
  avoids = vdr_avoids kind s.gdr (vdrs (shapes_of s kind)) (vdrs after) s.unused places limit

  -- ---- before it, and of the other kind

  -- what is behind a VDR that is not freed
  behind : (v : VariableShape) (more : List VariableShape) → AreOurs b s (v ∷ more) → ((m : ℕ) → In m (flat_map variable_records (v ∷ more)) → In m places → ⊥) → (m : ℕ) → In m (index_records v) → Kept b now m
  behind v more of out m i =
      let mine = In-append_left m (variable_records v) (flat_map variable_records more) (inr i) in
      let away = confined-away marks index_types places (type_at b m) m (index_confined kind s.gdr (vdrs (shapes_of s kind)) (vdrs after) s.unused places limit) (index_typed b s v of.has.0 of.fits.0 m i) (out m mine) in
      kept_away r.edit m (type_at b m) (variables_in b s sound m (of.sub m mine)) refl away

  lives : (vs : List VariableShape) → AreOurs b s vs → ((m : ℕ) → In m (flat_map variable_records vs) → In m places → ⊥) → ((m : ℕ) → In m (vdrs vs) → KeptButLink b now m) → Each (VariableLives b now) vs
  lives [] of out k = tt
  lives (v ∷ more) of out k = (
    record { vdr = k v.vdr (inl refl); behind = behind v more of out },
    lives more (ours_parts b s (v ∷ []) more of).1 (λ m i. out m (In-append_right m (variable_records v) (flat_map variable_records more) i)) (λ m i. k m (inr i)),
  )

  pub before_live : Each (VariableLives b now) before
  before_live = lives before (ours sound r.at).0 (λ m i j. (only m j).in_before i) (λ m i.
      let x = vdr_there sound r.at m (front_in sound r.at m i) in
      let out : In m places → ⊥ = λ j. (only m j).in_before (vdr_record before m i) in
      let front : In m (vdrs after) → ⊥ = λ j. distinct_apart (vdrs before) (own.vdr ∷ vdrs after) m (once sound r.at) i (inr j) in
      kept_but_link r.edit m type x.0 x.1.0 (avoids m 0 12 out (inl (omega arith)) (λ j. inl (omega arith))) (avoids m 20 (size_at b m) out (inr (omega arith)) (λ j. absurd (front j))))

  abbrev others : List VariableShape
  others = shapes_of s (other_kind kind)

  pub others_live : Each (VariableLives b now) others
  others_live = lives others (kind_ours b s sound (other_kind kind)) (λ m i j. (only m j).in_others i) (λ m i.
      let other = type_in (variables_chain (other_kind kind)) in
      let ok = (kind_chain (other_kind kind) h).linkable m i in
      but_link b now m (kept_away r.edit m other (linkable-in b s.records other m ok) (linkable-type b s.records other m ok) (unmarked-away marks other m tests.others_clear)))

  -- ---- behind it

  numbered_vdr : (m : ℕ) → In m (vdrs after) → KeptButNum b now m
  numbered_vdr m i =
      let x = vdr_there sound r.at m (back_in sound r.at m i) in
      let long = x.1.1 in
      let out = back_out m i in
      let l = tile_lies b 8 (length b) s.records m h.tiled x.0 in
      let heads = avoids m 0 12 out (inl (omega arith)) (λ j. inl (omega arith)) in
      record {
        start = r.edit.part m type 0 12 x.0 x.1.0 heads heads (omega arith);
        middle = r.edit.part m type 20 68 x.0 x.1.0 heads (avoids m 20 68 out (inr (omega arith)) (λ j. inl (omega arith))) (omega arith);
        rest = r.edit.part m type 72 (size_at b m) x.0 x.1.0 heads (avoids m 72 (size_at b m) out (inr (omega arith)) (λ j. inr (omega arith))) (omega arith);
        inside = l.high;
      }

  pub after_remain : Each (VariableRemains b now s.records s.records) after
  after_remain = all after (ours_after sound r.at) (λ m i j. (only m j).in_after i) (λ m i. i)
    where
      all : (vs : List VariableShape) → AreOurs b s vs → ((m : ℕ) → In m (flat_map variable_records vs) → In m places → ⊥) → ((m : ℕ) → In m (vdrs vs) → In m (vdrs after)) → Each (VariableRemains b now s.records s.records) vs
      all [] of out sub = tt
      all (v ∷ more) of out sub = (
        numbered_remains sound r.edit file v of.has.0 of.fits.0 (λ m i. variables_in b s sound m (of.sub m (In-append_left m (variable_records v) (flat_map variable_records more) (inr i)))) (behind v more of out) (numbered_vdr v.vdr (sub v.vdr (inl refl))),
        all more (ours_parts b s (v ∷ []) more of).1 (λ m i. out m (In-append_right m (variable_records v) (flat_map variable_records more) i)) (λ m i. sub m (inr i)),
      )

  -- ---- the image

  -- what the image says of it
  pub record SaysTaken (list : List ℕ) : Type 0 where
    pub numbered : AreNumbered now vdr_num (length before) (vdrs after)
    pub variable_chain : IsChain now s.records type (number now s.gdr (head_of (variables_chain kind))) (vdrs (before ++ after))
    pub unused_chain : IsChain now s.records uir_type (number now s.gdr gdr_uir_head) list
    pub freed : (m : ℕ) → In m reborn → type_at now m ≡ uir_type

  -- the shape without the variable
  abbrev pub without_variable : List ℕ → Shape
  without_variable list = with_shapes s kind s.records list (before ++ after)

  module _ {list : List ℕ} (says : SaysTaken list) where
    pub splices : VariableSplices b now s kind s.records list marks reborn before (own ∷ []) [] after
    splices = record {
      edit = r.edit;
      was = r.at.was;
      file_clear = tests.file_clear;
      attributes_clear = tests.attributes_clear;
      other_clear = tests.other_clear;
      before_remain = remain_from sound r.edit file before (ours sound r.at).0 before_live;
      after_remain = after_remain;
      others_live = others_live;
      typed = λ m i. unused_real now s.records m r.edit.tiled_now (r.edit.sub m (own_stand sound r.at m (r.mine m (r.born m i)))) (says.freed m i);
      variable_chain = says.variable_chain;
      unused_chain = says.unused_chain;
      own_have = tt;
    }

    pub content_taken : content now ≡ with_variables (content b) kind (remove (variables_of (content b) kind) (length before))
    content_taken =
        let split = ap (λ (d : DataSet). remove (variables_of d kind) (length before)) (content_is b s h) ∙ ap (λ (vs : List Variable). remove vs (length before)) (variables_of_are b s kind) in
        content_now sound splices ∙ ap (with_variables (content b) kind) (sym (split ∙ map-without (variable_of b) (shapes_of s kind) before own after r.at.was))

    pub sound_taken : ((m : ℕ) → times m (owned_records now (without_variable list)) ≤ 1) → IsSound now (without_variable list)
    sound_taken once = sound_if sound splices tt once

    -- ---- the rules

    counted : IsGoodByShape b s → number now s.gdr (count_of (variables_chain kind)) ≡ length (vdrs (before ++ after)) → Hold (vdrs_rows kind now (vdrs (before ++ after)))
    counted good count =
        let place : gdr_offset now ≡ s.gdr = gdr_place sound r.edit tests.file_clear in
        let same = nums_from sound r.edit file before (ours sound r.at).0 before_live in
        counting_by kind now (vdrs (before ++ after)) (ap (λ (g : ℕ). number now g (count_of (variables_chain kind))) place ∙ count) (numbers_by kind b now (shapes_of s kind) before own after r.at.was same says.numbered (counted_before good kind))

    pub taken_good : AllHold (first_phases (sealed b)) → IsGoodByShape b s → ((m : ℕ) → In m (variable_records own) → In m reborn) → number now s.gdr (count_of (variables_chain kind)) ≡ length (vdrs (before ++ after)) → eof now s.gdr ≡ length now → length now ≤ image_limit → Good now
    taken_good first good all count eof_is short = good_image_if sound splices first good (record {
      counted = counted good count;
      apart = apart_if sound splices good (λ x y i j differ. absurd i) (λ x y i beside. absurd i);
      own_ruled = tt;
      owned = owned_left (left_by sound r.at list) good.owned_once r.edit (λ m i. r.mine m (r.born m i)) all says.freed;
    }) eof_is short
