-- The records of a leaf of a variable of a good image have no more bytes than an image: those of a block that is not packed lie in it (rule 8.5), and one that is packed has no more of them than a block may (rule 8.7).
use Rattle.cdf_cuts.proofs.Common.{Bool, Leaf, List, [], ap, arith, cvvr_type, false, flat_map, image_limit, inl, inr, leaves_of, length, size_at, sym, tile_lies, true, true≢false, ℕ, ◌*◌, ◌+◌, ◌-◌, ◌==◌, ◌∙◌, ◌∷◌, ◌≡◌, ◌≤◌}
use Rattle.cdf_edits.proofs.Common.{Good, Hold, Hold-split, Kind, LeafFits, VariableShape, cvvr_rows, is_a, is_a-type, le_of, leaf_rows, nodes_rows, record_bytes, record_limit, record_number_limit, refl, shape, subst, suc, type_at, vvr_rows, vvr_type}
use Rattle.cdf_edits.proofs.Edits.Common.{StandsAmong, behind_in, count_is, fits, has, sound}
use Rattle.cdf_edits.proofs.Edits.LeafPieces.{InOrder, IsOneOf, in_order, of_each, place_in}
use Rattle.cdf_edits.proofs.Edits.MarkLemmas.{or_cases}
use Rattle.cdf_edits.proofs.Edits.PlainLeaves.{leaves_ascend, own_rules}
use Rattle.cdf_edits.proofs.Edits.VariableCopied.{block_behind}
use Rattle.cdf_format.proofs.RowLemmas.{Hold-asked}
use Rattle.cdf_format.proofs.SoundLemmas.{IsPackedAs, leaves_packed}
use Rattle.cdf_format.specs.Rules.{asked}
use Rattle.cdf_format.specs.VariableFields.{plain_size}
use Rattle.std.specs.Prelude.{negsuc, pos}

-- the rules on one block of an index
rows_of : (b records : List ℕ) (vdr : ℕ) (leaves : List Leaf) → Hold (flat_map (leaf_rows b records vdr) leaves) → (l : Leaf) → IsOneOf leaves l → Hold (leaf_rows b records vdr l)
rows_of b records vdr [] rows l i = absurd i
rows_of b records vdr (x ∷ more) rows l (inl q) = subst (λ (y : Leaf). Hold (leaf_rows b records vdr y)) q (Hold-split (leaf_rows b records vdr x) (flat_map (leaf_rows b records vdr) more) rows).0
rows_of b records vdr (x ∷ more) rows l (inr i) = rows_of b records vdr more (Hold-split (leaf_rows b records vdr x) (flat_map (leaf_rows b records vdr) more) rows).1 l i

module _ {b : List ℕ} (good : Good b) {kind : Kind} {before : List VariableShape} {own : VariableShape} {after : List VariableShape} (among : StandsAmong b kind before own after) (l : Leaf) (i : IsOneOf (leaves_of own.index) l) where
  abbrev records : List ℕ
  records = (shape b).records

  abbrev leaves : List Leaf
  leaves = leaves_of own.index

  fit : LeafFits b records own.vdr l
  fit = of_each (LeafFits b records own.vdr) leaves l (fits good among).2 i

  typed : (type_at b l.place == cvvr_type) ≡ l.packed
  typed = of_each (IsPackedAs b records) leaves l (leaves_packed b records 8 own.index (has good among).indexed.has_nodes) i

  rules : Hold (leaf_rows b records own.vdr l)
  rules = rows_of b records own.vdr leaves (Hold-split (nodes_rows b records (negsuc 0) (pos record_number_limit) own.index) (flat_map (leaf_rows b records own.vdr) leaves) (own_rules good among).1).1 l i

  -- a block that is packed is a CVVR
  is_packed : l.packed ≡ true → is_a b records cvvr_type l.place ≡ true
  is_packed e = elim (or_cases (is_a b records vvr_type l.place) (is_a b records cvvr_type l.place) fit.0) [
    | inl p ↦ absurd (true≢false (sym e ∙ sym typed ∙ ap (λ (t : ℕ). t == cvvr_type) (is_a-type b records vvr_type l.place p)))
    | inr p ↦ p
  ]

  packed_rules : l.packed ≡ true → Hold (cvvr_rows b own.vdr l)
  packed_rules e = Hold-asked (is_a b records cvvr_type l.place) (cvvr_rows b own.vdr l) (Hold-split (asked (is_a b records vvr_type l.place) (vvr_rows b own.vdr l)) _ rules).1 (is_packed e)

  pub leaf_in_order : InOrder 0 (suc record_number_limit) l
  leaf_in_order = in_order 0 (suc record_number_limit) leaves (leaves_ascend good among) l i

  size_is : plain_size b own.vdr l ≡ (l.last + 1 - l.first) * record_bytes b own.vdr
  size_is = let o = leaf_in_order in ap (λ (n : ℕ). n * record_bytes b own.vdr) (count_is l (omega (arith, o.before)) o.ordered)

  module _ (short : length b ≤ image_limit) where
    plain_small : (packed : Bool) → l.packed ≡ packed → plain_size b own.vdr l ≤ image_limit
    plain_small true e = let le = le_of (plain_size b own.vdr l) record_limit (packed_rules e).1.0 in omega (arith, le)
    plain_small false e =
        let room : 12 + plain_size b own.vdr l ≤ size_at b l.place = rw e at fit.1 in
        let lies = tile_lies b 8 (length b) records l.place (sound good among).has_shape.tiled (behind_in good among l.place (block_behind own l.place (place_in leaves l i))) in
        omega (arith, room, lies.high, short)

    pub records_small : (l.last + 1 - l.first) * record_bytes b own.vdr ≤ image_limit
    records_small = rw size_is at (plain_small l.packed refl)
