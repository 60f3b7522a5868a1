-- One variable of a good image among those of its kind: where it stands, and that its links, its records and its rules are as they are to be.
use Rattle.cdf_edits.proofs.Common.{Good, HasShape, HasVariable, In, In-append_left, IsSound, Kind, List, R, Shape, VariableFits, VariableShape, Z, [], ap, arith, fixed_size, flat_map, good_is_sound, index_types, inl, inr, is_in, is_linkable, leaves_of, length, linkable-in, linkable-type, refl, shape, size_at, subst, sym, tile_lies, true, type_at, type_in, variable_records, variables_chain, vdrs, ℕ, ◌++◌, ◌+◌, ◌∙◌, ◌∷◌, ◌≡◌, ◌≤◌, is_compressed, false, Each, Each-split, variables}
use Rattle.cdf_format.specs.NotRead.{IsRead}
use Rattle.cdf_edits.proofs.Edits.PlainVariables.{all_loose}
use Rattle.cdf_edits.proofs.Edits.InRecords.{places_of}
use Rattle.cdf_edits.proofs.Edits.RecordFrame.{index_records}
use Rattle.cdf_edits.proofs.Edits.StepEdits.{fixed_long}
use Rattle.cdf_edits.proofs.Edits.VariableCopied.{block_behind}
use Rattle.cdf_edits.proofs.Edits.VariableFrame.{AreOurs, ours_parts, index_typed, variables_in}
use Rattle.cdf_edits.proofs.Frame.OwnersApart.{all_variable_records}
use Rattle.cdf_edits.proofs.Edits.VariableKept.{OnlyVariable, only_variable}
use Rattle.cdf_edits.proofs.Edits.VariableKinds.{kind_chain, kind_ours, of_kind}
pub use Rattle.cdf_edits.specs.Edits.Standing.{StandsAmong}

pub through : (x y z : ℕ) → x ≤ y → y ≤ z → x ≤ z
through x y z p q = omega arith

-- one of some variables
pub in_middle : (before : List VariableShape) (own : VariableShape) (after : List VariableShape) → In own.vdr (vdrs (before ++ own ∷ after))
in_middle [] own after = inl refl
in_middle (v ∷ before) own after = inr (in_middle before own after)

pub least_size : (kind : Kind) → 340 ≤ fixed_size (type_in (variables_chain kind))
least_size R = omega arith
least_size Z = omega arith

-- ---- a variable of a good image

module _ {b : List ℕ} {kind : Kind} {before : List VariableShape} {own : VariableShape} {after : List VariableShape} (good : Good b) (at : StandsAmong b kind before own after) where
  abbrev pub s : Shape
  s = shape b

  abbrev pub v : ℕ
  v = own.vdr

  abbrev pub type : ℕ
  type = type_in (variables_chain kind)

  pub sound : IsSound b s
  sound = good_is_sound b good

  h : HasShape b s
  h = sound.has_shape

  linked : is_linkable b s.records type v ≡ true
  linked = (kind_chain kind h).linkable v (subst (λ (vs : List VariableShape). In v (vdrs vs)) (sym at.was) (in_middle before own after))

  pub tile : In v s.records
  tile = linkable-in b s.records type v linked

  pub typed : type_at b v ≡ type
  typed = linkable-type b s.records type v linked

  pub long : 340 ≤ size_at b v
  long = through 340 (fixed_size type) (size_at b v) (least_size kind) (fixed_long b s h type v tile typed)

  pub high : v + size_at b v ≤ length b
  high = (tile_lies b 8 (length b) s.records v h.tiled tile).high

  pub name_room : v + 340 ≤ length b
  name_room = let n = long in let l = high in omega arith

  pub ours : AreOurs b s before × AreOurs b s (own ∷ after)
  ours = ours_parts b s before (own ∷ after) (subst (AreOurs b s) at.was (kind_ours b s sound kind))

  pub after_ours : AreOurs b s after
  after_ours = (ours_parts b s (own ∷ []) after ours.1).1

  pub has : HasVariable b s.records own
  has = ours.1.has.0

  pub fits : VariableFits b s.records own
  fits = ours.1.fits.0

  pub behind_ours : (m : ℕ) → In m (index_records own) → In m (all_variable_records s)
  behind_ours m i = ours.1.sub m (In-append_left m (variable_records own) (flat_map variable_records after) (inr i))

  pub behind_in : (m : ℕ) → In m (index_records own) → In m s.records
  behind_in m i = variables_in b s sound m (behind_ours m i)

  pub only : OnlyVariable b s kind before after v
  only = only_variable sound kind before own after at.was v (inl refl)

  -- by its type it is no block of its own
  pub no_block : In v (places_of (leaves_of own.index)) → ⊥
  no_block i = clash kind (ap (λ (x : ℕ). is_in x index_types) (sym typed) ∙ index_typed b s own has fits v (block_behind own v i))
    where
      clash : (kind : Kind) → is_in (type_in (variables_chain kind)) index_types ≡ true → ⊥
      clash R e = cc
      clash Z e = cc

  -- it is not packed where none is
  pub loose_by : IsRead b → is_compressed b own.vdr ≡ false
  loose_by read =
      let is = λ (v : VariableShape). is_compressed b v.vdr ≡ false in
      (Each-split is before (own ∷ after) (subst (Each is) at.was (of_kind is kind s (all_loose b (variables s) read)))).1.0
