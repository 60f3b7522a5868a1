-- A variable of a good image that is not compressed: it has no CPR, and no block of it is packed (rule 8.6).
use Rattle.cdf_edits.proofs.Common.{Bool, Each, HasVariable, Hold, Hold-split, Leaf, LeafFits, List, VariableFits, VariableShape, [], ap, cvvr_type, false, flat_map, if◌then◌else◌, index_rows, inl, inr, is_a, is_a-type, is_compressed, leaf_rows, leaves_of, nodes_rows, refl, sym, true, true≢false, vvr_type, ℕ, ◌==◌, ◌∙◌, ◌∷◌, ◌≡◌}
use Rattle.cdf_edits.proofs.Edits.MarkLemmas.{or_cases}
use Rattle.cdf_format.proofs.RowLemmas.{Hold-asked}
use Rattle.cdf_format.proofs.SoundLemmas.{IsPackedAs, leaves_packed}
use Rattle.cdf_format.proofs.Tests.{both}
use Rattle.cdf_format.specs.IndexRules.{cvvr_rows, holds_packed, vvr_rows}
use Rattle.cdf_format.specs.NotRead.{unread_variables}
use Rattle.cdf_format.specs.Rules.{asked}
use Rattle.cdf_format.specs.Shape.{vdrs}
use Rattle.cdf_model.specs.Limits.{record_number_limit}
use Rattle.std.specs.Prelude.{negsuc, not, pos}

-- ---- the flag

loose_if : (p : Bool) → not p ≡ true → p ≡ false
loose_if true e = absurd cc
loose_if false e = refl

pub all_loose : (b : List ℕ) (vs : List VariableShape) → Hold (unread_variables b (vdrs vs)) → Each (λ v. is_compressed b v.vdr ≡ false) vs
all_loose b [] read = tt
all_loose b (v ∷ more) read = (loose_if (is_compressed b v.vdr) read.0, all_loose b more read.1)

pub read_if : (b : List ℕ) (vs : List VariableShape) → Each (λ v. is_compressed b v.vdr ≡ false) vs → Hold (unread_variables b (vdrs vs))
read_if b [] loose = tt
read_if b (v ∷ more) loose = (ap not loose.0, read_if b more loose.1)

-- ---- the blocks

-- its records stand in a VVR
abbrev pub IsPlainBlock : List ℕ → List ℕ → Leaf → Type 0
IsPlainBlock b records leaf = (is_a b records vvr_type leaf.place ≡ true) × (leaf.packed ≡ false)

pub record IsUncompressed (b records : List ℕ) (v : VariableShape) : Type 0 where
  pub no_cpr : v.cpr ≡ []
  pub plain_blocks : Each (IsPlainBlock b records) (leaves_of v.index)

none_if : (p : Bool) (cpr : ℕ) → p ≡ false → (if p then cpr ∷ [] else []) ≡ []
none_if true cpr e = absurd cc
none_if false cpr e = refl

module _ (b records : List ℕ) (vdr : ℕ) (loose : is_compressed b vdr ≡ false) where
  no_packed_block : (leaf : Leaf) → Hold (leaf_rows b records vdr leaf) → is_a b records cvvr_type leaf.place ≡ true → ⊥
  no_packed_block leaf rules is =
      let rows = Hold-asked (is_a b records cvvr_type leaf.place) (cvvr_rows b vdr leaf) (Hold-split (asked (is_a b records vvr_type leaf.place) (vvr_rows b vdr leaf)) _ rules).1 is in
      true≢false (sym (both (is_compressed b vdr) (holds_packed b leaf.place) rows.0).0 ∙ loose)

  plain_each : (leaves : List Leaf) → Each (LeafFits b records vdr) leaves → Each (IsPackedAs b records) leaves → Hold (flat_map (leaf_rows b records vdr) leaves) → Each (IsPlainBlock b records) leaves
  plain_each [] fits packed rules = tt
  plain_each (leaf ∷ more) fits packed rules =
      let parts = Hold-split (leaf_rows b records vdr leaf) (flat_map (leaf_rows b records vdr) more) rules in (
        elim (or_cases (is_a b records vvr_type leaf.place) (is_a b records cvvr_type leaf.place) fits.0.0) [
          | inl p ↦ (p, sym packed.0 ∙ ap (λ (t : ℕ). t == cvvr_type) (is_a-type b records vvr_type leaf.place p))
          | inr p ↦ absurd (no_packed_block leaf parts.0 p)
        ],
        plain_each more fits.1 packed.1 parts.1,
      )

pub is_uncompressed : {b records : List ℕ} (v : VariableShape) → HasVariable b records v → VariableFits b records v → Hold (index_rows b records v.vdr v.index) → is_compressed b v.vdr ≡ false → IsUncompressed b records v
is_uncompressed {b = b} {records = records} v has fits rules loose = record {
  no_cpr = sym has.packed_by ∙ none_if (is_compressed b v.vdr) _ loose;
  plain_blocks = plain_each b records v.vdr loose (leaves_of v.index) fits.2 (leaves_packed b records 8 v.index has.indexed.has_nodes)
      (Hold-split (nodes_rows b records (negsuc 0) (pos record_number_limit) v.index) (flat_map (leaf_rows b records v.vdr) (leaves_of v.index)) rules).1;
}
