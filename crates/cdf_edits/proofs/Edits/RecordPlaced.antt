-- An image whose records and unused list alone are others: a record was taken from an image and written, or nothing was done.
use Rattle.cdf_edits.proofs.Common.{Among, Changed, Edit, Fills, HasShape, In, IsSound, Kind, List, Mark, Shape, [], ap, arith, content, eof, length, refl, shape, shape_is, size_at, subst, sym, taking_marks, type_at, type_in, uir_type, variables_chain, vxr_bytes, vxr_type, whole, with_space, ℕ, ◌++◌, ◌∙◌, ◌∷◌, ◌≡◌}
use Rattle.cdf_edits.proofs.Edits.Composing.{changed_edit}
use Rattle.cdf_edits.proofs.Edits.MadeRecord.{filled_edit, filled_sound, filled_content, end_now}
use Rattle.cdf_edits.proofs.Edits.StepEdits.{some_bytes}

-- ---- marks

-- a record of so many bytes is taken, and written with its type
abbrev pub placing_marks : List ℕ → ℕ → ℕ → List Mark
placing_marks unused place need = taking_marks unused place need ++ whole uir_type place need ∷ []

-- VXRhead and VXRtail of a descriptor
abbrev pub links_mark : Kind → ℕ → Mark
links_mark kind v = record { type = type_in (variables_chain kind); tiles = Among (v ∷ []); place = 28; width = 16 }

-- ---- a record is placed, or nothing is done

-- from an image to one with more records, which is sound, has its content, and ends where it says
pub record Grows (b now : List ℕ) (marks : List Mark) (reborn : List ℕ) : Type 0 where
  pub edit : Edit b now (shape b).records (shape now).records marks reborn
  pub sound : IsSound now (shape now)
  pub same_shape : shape now ≡ with_space (shape b) (shape now).records (shape now).unused
  pub content_stays : content now ≡ content b
  pub end_is : eof now (shape now).gdr ≡ length now

nothing_changed : (b : List ℕ) → Changed b b []
nothing_changed b = record { longer = omega arith; same = λ place l o. refl }

pub still_edit : {b : List ℕ} {s : Shape} → HasShape b s → Edit b b s.records s.records [] []
still_edit {b = b} {s = s} h = changed_edit b b s.records [] [] [] h.tiled refl (nothing_changed b) tt (some_bytes b s h)

pub grows_not : {b : List ℕ} → IsSound b (shape b) → eof b (shape b).gdr ≡ length b → Grows b b [] []
grows_not {b = b} sound end = record { edit = still_edit sound.has_shape; sound = sound; same_shape = refl; content_stays = refl; end_is = end }

module _ {b taken now : List ℕ} {need place type : ℕ} (sound : IsSound b (shape b)) (fills : Fills b taken now (shape b) (shape now).records (shape now).unused need place type) where
  placed_shape : shape now ≡ with_space (shape b) (shape now).records (shape now).unused
  placed_shape = shape_is now _ (filled_sound sound fills).has_shape

  pub placed_grows : Grows b now (placing_marks (shape b).unused place need) (place ∷ [])
  placed_grows =
      let sound_now = subst (IsSound now) (sym placed_shape) (filled_sound sound fills) in
      let end = ap (λ (s : Shape). eof now s.gdr) placed_shape ∙ end_now sound fills (still_edit (filled_sound sound fills).has_shape) refl refl in
      grind (arith, filled_edit sound fills, sound_now, placed_shape, filled_content sound fills, end)

-- a node that was taken
pub record NodeStands (now : List ℕ) (room at : ℕ) : Type 0 where
  pub inside : In at (shape now).records
  pub typed : type_at now at ≡ vxr_type
  pub size_is : size_at now at ≡ vxr_bytes room
