-- The bytes of a block of a good image, packed or not, are as many as its records have (rules 8.5 and 8.8), and what the rules say of one that is packed (8.6 to 8.8).
use Rattle.cdf_var_records.proofs.Common.{Bool, Good, IsVdr, Kind, List, [], ap, arith, both, drop, false, fits, le_of, leaves_of, length, length-drop, length-take, nat_le, number, record_bytes, record_limit, refl, shape, sound, subst, suc, sym, take, true, ℕ, ◌*◌, ◌+◌, ◌-◌, ◌==◌, ◌∙◌, ◌∷◌, ◌≡◌, ◌≤◌}
use Rattle.cdf_edits.proofs.Common.{Hold, Hold-split, LeafFits, cvvr_c_size, cvvr_rows, cvvr_type, eqb-true, flat_map, inl, inr, is_a, is_a-type, is_compressed, leaf_rows, nodes_rows, record_number_limit, size_at, tile_lies, true≢false, type_at, unpacks_to, vvr_rows, vvr_type}
use Rattle.cdf_edits.proofs.Edits.Common.{behind_in, count_is, has}
use Rattle.cdf_edits.proofs.Edits.LeafPieces.{IsOneOf, in_order, of_each, place_in}
use Rattle.cdf_edits.proofs.Edits.MarkLemmas.{or_cases}
use Rattle.cdf_edits.proofs.Edits.PlainLeaves.{leaves_ascend, own_rules}
use Rattle.cdf_edits.proofs.Edits.VariableCopied.{block_behind}
use Rattle.cdf_format.proofs.RowLemmas.{Hold-asked}
use Rattle.cdf_format.proofs.SoundLemmas.{IsPackedAs, leaves_packed}
use Rattle.cdf_format.specs.Content.{plain_bytes}
use Rattle.cdf_format.specs.VariableFields.{plain_size}
use Rattle.cdf_format.specs.Index.{Leaf}
use Rattle.cdf_format.specs.Rules.{asked}
use Rattle.cdf_format.specs.Stored.{packed_bytes}
use Rattle.cdf_model.specs.RunLengths.{is_cut, plain_of}
use Rattle.cdf_var_records.proofs.PadSites.{at, own}
use Rattle.std.specs.Prelude.{negsuc, pos}

pub piece_long : (xs : List ℕ) (at n : ℕ) → at + n ≤ length xs → length (take n (drop at xs)) ≡ n
piece_long xs at n le = omega (arith, length-take n (drop at xs), length-drop at xs)

unpacks_long : (packed : List ℕ) (n : ℕ) (cut : Bool) → is_cut packed ≡ cut → unpacks_to packed n ≡ true → length (plain_of packed) ≡ n
unpacks_long packed n true is e = let none : false ≡ true = rw (is, unpacks_to) at e in absurd cc
unpacks_long packed n false is e = eqb-true (length (plain_of packed)) n (rw (is, unpacks_to) at e)

-- the rules on one block of an index
rows_of : (b records : List ℕ) (vdr : ℕ) (leaves : List Leaf) → Hold (flat_map (leaf_rows b records vdr) leaves) → (l : Leaf) → IsOneOf leaves l → Hold (leaf_rows b records vdr l)
rows_of b records vdr [] rows l i = absurd i
rows_of b records vdr (x ∷ more) rows l (inl q) = subst (λ (y : Leaf). Hold (leaf_rows b records vdr y)) q (Hold-split (leaf_rows b records vdr x) (flat_map (leaf_rows b records vdr) more) rows).0
rows_of b records vdr (x ∷ more) rows l (inr i) = rows_of b records vdr more (Hold-split (leaf_rows b records vdr x) (flat_map (leaf_rows b records vdr) more) rows).1 l i

module _ {b : List ℕ} {kind : Kind} {vdr : ℕ} (good : Good b) (v : IsVdr b kind vdr) (l : Leaf) (i : IsOneOf (leaves_of (own good v).index) l) where
  abbrev records : List ℕ
  records = (shape b).records

  abbrev leaves : List Leaf
  leaves = leaves_of (own good v).index

  fit : LeafFits b records vdr l
  fit = of_each (LeafFits b records vdr) leaves l (fits good (at good v)).2 i

  typed : (type_at b l.place == cvvr_type) ≡ l.packed
  typed = of_each (IsPackedAs b records) leaves l (leaves_packed b records 8 (own good v).index (has good (at good v)).indexed.has_nodes) i

  rules : Hold (leaf_rows b records vdr l)
  rules = rows_of b records vdr leaves (Hold-split (nodes_rows b records (negsuc 0) (pos record_number_limit) (own good v).index) (flat_map (leaf_rows b records vdr) leaves) (own_rules good (at good v)).1).1 l i

  lies : l.place + size_at b l.place ≤ length b
  lies = (tile_lies b 8 (length b) records l.place (sound good (at good v)).has_shape.tiled (behind_in good (at good v) l.place (block_behind (own good v) l.place (place_in leaves l i)))).high

  -- a block that is packed is a CVVR
  is_packed : l.packed ≡ true → is_a b records cvvr_type l.place ≡ true
  is_packed e = elim (or_cases (is_a b records vvr_type l.place) (is_a b records cvvr_type l.place) fit.0) [
    | inl p ↦ absurd (true≢false (sym e ∙ sym typed ∙ ap (λ (t : ℕ). t == cvvr_type) (is_a-type b records vvr_type l.place p)))
    | inr p ↦ p
  ]

  packed_rules : l.packed ≡ true → Hold (cvvr_rows b vdr l)
  packed_rules e = Hold-asked (is_a b records cvvr_type l.place) (cvvr_rows b vdr l) (Hold-split (asked (is_a b records vvr_type l.place) (vvr_rows b vdr l)) _ rules).1 (is_packed e)

  bytes_long : (packed : Bool) → l.packed ≡ packed → length (plain_bytes b vdr l) ≡ plain_size b vdr l
  bytes_long true e = rw e (unpacks_long (packed_bytes b l.place) (plain_size b vdr l) _ refl (packed_rules e).1.1.0)
  bytes_long false e =
      let room : 12 + plain_size b vdr l ≤ size_at b l.place = rw e at fit.1 in
      rw e (piece_long b (l.place + 12) (plain_size b vdr l) (omega (arith, room, lies)))

  size_is : plain_size b vdr l ≡ (l.last + 1 - l.first) * record_bytes b vdr
  size_is =
      let o = in_order 0 (suc record_number_limit) leaves (leaves_ascend good (at good v)) l i in
      ap (λ (n : ℕ). n * record_bytes b vdr) (count_is l (omega (arith, o.before)) o.ordered)

  pub block_long : length (plain_bytes b vdr l) ≡ (l.last + 1 - l.first) * record_bytes b vdr
  block_long = bytes_long l.packed refl ∙ size_is

  -- what the rules say of a block that is packed
  module _ (packed : l.packed ≡ true) where
    pub packed_inside : l.place + 24 + number b l.place cvvr_c_size ≤ length b
    packed_inside =
        let holds = both (nat_le (number b l.place cvvr_c_size) 0x7fffffffffffffff) _ (both (is_compressed b vdr) _ (packed_rules packed).0).1 in
        let room : 24 + number b l.place cvvr_c_size ≤ size_at b l.place = le_of _ _ holds.1 in
        omega (arith, room, lies)

    pub packed_fits : unpacks_to (packed_bytes b l.place) ((l.last + 1 - l.first) * record_bytes b vdr) ≡ true
    packed_fits = ap (unpacks_to (packed_bytes b l.place)) (sym size_is) ∙ (packed_rules packed).1.1.0

    pub packed_small : (l.last + 1 - l.first) * record_bytes b vdr ≤ record_limit
    packed_small = let le = le_of (plain_size b vdr l) record_limit (packed_rules packed).1.0 in omega (arith, le, size_is)
