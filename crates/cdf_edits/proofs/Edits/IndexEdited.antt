-- One variable of a kind has another index by now, and its descriptor stays but for MaxRec, VXRhead and VXRtail: what follows of the image.

use Rattle.cdf_edits.proofs.Common.{Avoids, Away, Edit, Good, HasShape, HasVariable, Hold, In, IsChain, IsIndex, Kind, List, Mark, Nodes, OwnedOnce, Same, Shape, VariableShape, [], ap, arith, avoided, count_of, cpr_link, cpr_type, eof, fixed_size, gdr_type, gdr_uir_head, head_of, image_limit, index_rows, inl, inr, is_a, is_a-type, is_max_rec, is_record_type, keeps_file, length, linkable-in, linkable-type, max, name_in, number, owned, refl, shape, shapes_of, size_at, subst, sym, tile_lies, true, type_at, type_in, uir_type, unmarked, variable_records, variables_chain, vdr_max_rec, vdr_name, vdr_num, vdr_vxr_head, vdrs, word_kept, ℕ, ◌++◌, ◌+◌, ◌∙◌, ◌∷◌, ◌≡◌, ◌≤◌, ◌⊎◌}
use Rattle.cdf_edits.proofs.Edits.Common.{Each-in, FileSame, cpr_own, IsRuled, Kept, OwnEdit, VdrAlike, VdrStays, all_variable_records, cpr_behind, cpr_stays, end_stays, file_same, fixed_long, head_size, head_type, keeps_all_attributes, keeps_kind, kept, kind_chain, name_stays, named_before, other_kind, own_ruled, packed_stays, stays_alike, variable_rules_alike, with_shapes}
use Rattle.std.proofs.Common.{not, ◌==◌}
use Rattle.cdf_edits.proofs.Edits.StandsAmong.{StandsAmong, sound, tile, typed, long, has, fits, behind_in, through, least_size}
use Rattle.cdf_edits.proofs.Edits.OwnEdited as of_own
use Rattle.cdf_edits.proofs.Frame.VdrStays as vdr_of

pub record IndexEdit (b now : List ℕ) (kind : Kind) (own : VariableShape) (index : Nodes) (new list : List ℕ) (marks : List Mark) (reborn : List ℕ) : Type 0 where
  pub edit : Edit b now (shape b).records new marks reborn
  pub file_clear : keeps_file marks ≡ true
  pub attributes_clear : keeps_all_attributes marks ≡ true
  pub other_clear : keeps_kind marks (other_kind kind) ≡ true
  pub cpr_clear : unmarked marks cpr_type ≡ true
  pub head_clear : avoided marks gdr_type (head_of (variables_chain kind)).place ((head_of (variables_chain kind)).place + (head_of (variables_chain kind)).width) ≡ true
  pub count_clear : avoided marks gdr_type (count_of (variables_chain kind)).place ((count_of (variables_chain kind)).place + (count_of (variables_chain kind)).width) ≡ true
  pub beside : (m : ℕ) → In m (all_variable_records (shape b)) → (In m (variable_records own) → ⊥) → Away marks (type_at b m) m
  pub avoids : (m lo hi : ℕ) → (hi ≤ 24) ⊎ (44 ≤ lo) → Avoids marks (type_in (variables_chain kind)) m lo hi
  pub typed : (m : ℕ) → In m reborn → (is_record_type (type_at now m) ≡ true) × (fixed_size (type_at now m) ≤ size_at now m)
  pub unused_chain : IsChain now new uir_type (number now (shape b).gdr gdr_uir_head) list
  pub index_now : IsIndex now new (number now own.vdr vdr_vxr_head) index

module _ {b now : List ℕ} {kind : Kind} {before : List VariableShape} {own : VariableShape} {after : List VariableShape} {index : Nodes} {new list : List ℕ} {marks : List Mark} {reborn : List ℕ} (good : Good b) (at : StandsAmong b kind before own after) (x : IndexEdit b now kind own index new list marks reborn) where
  abbrev s : Shape
  s = shape b

  abbrev v : ℕ
  v = own.vdr

  abbrev type : ℕ
  type = type_in (variables_chain kind)

  abbrev mine : VariableShape
  mine = record own { index = index }

  h : HasShape b s
  h = (sound good at).has_shape

  pub file : FileSame b now
  file = file_same (sound good at) x.edit x.file_clear

  -- ---- its descriptor

  pub part : (lo hi : ℕ) → (hi ≤ 24) ⊎ (44 ≤ lo) → hi ≤ size_at b v → Same b now (v + lo) (v + hi)
  part lo hi side fit = x.edit.part v type lo hi (tile good at) (typed good at) (x.avoids v 0 12 (inl (omega arith))) (x.avoids v lo hi side) fit

  pub part_of : (lo hi : ℕ) → (hi ≤ 24) ⊎ (44 ≤ lo) → hi ≤ 340 → Same b now (v + lo) (v + hi)
  part_of lo hi side l = part lo hi side (through hi 340 (size_at b v) l (long good at))

  pub vdr_size : size_at now v ≡ size_at b v
  vdr_size = head_size b now v (part_of 0 12 (inl (omega arith)) (omega arith))

  pub vdr_type : type_at now v ≡ type_at b v
  vdr_type = head_type b now v (part_of 0 12 (inl (omega arith)) (omega arith))

  pub stays : VdrStays b now v
  stays = grind (arith, vdr_type, part_of 20 24 (inl (omega arith)) (omega arith), part 44 (size_at b v) (inr (omega arith)) (omega arith), (tile_lies b 8 (length b) s.records v h.tiled (tile good at)).high, (fits good at).0)

  pub vdr_alike : VdrAlike b now v v
  vdr_alike = stays_alike file stays

  pub name_same : name_in now v vdr_name ≡ name_in b v vdr_name
  name_same = name_stays file stays

  nums_same : (m : ℕ) → In m (vdrs (shapes_of s kind)) → number now m vdr_num ≡ number b m vdr_num
  nums_same m i =
      let ok = (kind_chain kind h).linkable m i in
      let inside = linkable-in b s.records type m ok in
      let is = linkable-type b s.records type m ok in
      let far = through 340 (fixed_size type) (size_at b m) (least_size kind) (fixed_long b s h type m inside is) in
      word_kept b now (m + 68) (m + 72) (x.edit.part m type 68 72 inside is (x.avoids m 0 12 (inl (omega arith))) (x.avoids m 68 72 (inr (omega arith))) (omega arith)) (m + vdr_num.place) 4 (omega arith) (omega arith)

  has_now : HasVariable now new mine
  has_now = record { indexed = x.index_now; packed_by = vdr_of.cpr_stays file stays ∙ (has good at).packed_by }

  pub own_edit : OwnEdit b now kind own index new list marks reborn
  own_edit = grind (arith, x, nums_same, has_now, λ (m : ℕ). x.avoids m 0 20 (inl (omega arith)))

  -- ---- its rules

  pub cpr_kept : (m : ℕ) → In m own.cpr → Kept b now m
  cpr_kept m i = kept x.edit m cpr_type (behind_in good at m (cpr_behind own m i)) (is_a-type b s.records cpr_type m (Each-in (λ y. is_a b s.records cpr_type y ≡ true) own.cpr (fits good at).3 m i)) x.cpr_clear

  abbrev before_it : IsRuled b s.records own
  before_it = own_ruled good at own_edit

  pub ruled : Hold (index_rows now new v index) → is_max_rec (number now v vdr_max_rec) ≡ true → IsRuled now new mine
  ruled rows max = (
    variable_rules_alike file vdr_alike (subst (λ (n : ℕ). size_at b v ≤ n) (sym vdr_size) (omega arith)) s.records new [] [] before_it.0 (ap (λ (xs : List ℕ). not (length xs == 0)) name_same ∙ before_it.0.0) refl
        (rw (vdr_size, end_stays file stays) (fits good at).0) (packed_stays file stays)
        (λ c is. let i = cpr_own (has good at) c in cpr_stays b now s.records new (cpr_link b v) is (cpr_kept (cpr_link b v) i) (x.edit.sub (cpr_link b v) (behind_in good at (cpr_link b v) (cpr_behind own (cpr_link b v) i)))) max,
    rows,
  )

  pub good_now : Hold (index_rows now new v index) → is_max_rec (number now v vdr_max_rec) ≡ true → OwnedOnce now (with_shapes s kind new list (before ++ mine ∷ after)) → eof now s.gdr ≡ length now → length now ≤ image_limit → Good now
  good_now rows max owned end short = of_own.good_by good at own_edit (ruled rows max) (named_before good at own_edit name_same) owned end short
