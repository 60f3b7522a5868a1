-- The block of a leaf of a packed variable of a good image: its plain bytes are as many as its records have, and they can be read (rules 8.5 to 8.8).
use Rattle.std.proofs.Common.{Bool, List, [], ap, arith, drop, false, if◌then◌else◌, inl, inr, length, refl, subst, suc, sym, take, true, ℕ, ◌*◌, ◌+◌, ◌-◌, ◌∙◌, ◌∷◌, ◌≡◌, ◌≤◌}
use Rattle.std.proofs.Common.{length-drop, length-take}
use Rattle.cdf_edits.proofs.Common.{Good, Hold, Hold-split, Kind, LeafFits, VariableShape, both, cvvr_c_size, cvvr_rows, cvvr_type, eqb-true, flat_map, is_a, is_a-type, is_compressed, leaf_rows, leaves_of, nat_le, nodes_rows, number, plain_bytes, plain_size, record_bytes, record_number_limit, shape, size_at, tile_lies, true≢false, type_at, unpacks_to, vvr_rows, vvr_type}
use Rattle.cdf_edits.proofs.Edits.Common.{StandsAmong, fits, has, sound}
use Rattle.cdf_edits.proofs.Edits.LeafPieces.{IsOneOf, of_each}
use Rattle.cdf_edits.proofs.Edits.MarkLemmas.{or_cases}
use Rattle.cdf_edits.proofs.Edits.PlainLeaves.{own_rules}
use Rattle.cdf_format.proofs.RowLemmas.{Hold-asked}
use Rattle.cdf_format.proofs.SoundLemmas.{IsPackedAs, leaves_packed}
use Rattle.cdf_format.specs.Index.{Leaf}
use Rattle.cdf_format.specs.Rules.{asked}
use Rattle.cdf_format.specs.Records.{vvr_records}
use Rattle.cdf_format.specs.Stored.{field_bytes, packed_bytes}
use Rattle.cdf_model.specs.Limits.{image_limit}
use Rattle.cdf_model.specs.Place.{record_limit}
use Rattle.cdf_model.specs.RunLengths.{is_cut, plain_of}
use Rattle.cdf_blocks.proofs.BlockOf.{block_in, range_of, size_is}
use Rattle.cdf_edits.proofs.Common.{le_of}
use Rattle.std.specs.Prelude.{negsuc, pos, ◌==◌}
use Rattle.cdf_blocks.specs.Reading.{PlainStands, block_size}

pub piece_long : (xs : List ℕ) (at n : ℕ) → at + n ≤ length xs → length (take n (drop at xs)) ≡ n
piece_long xs at n le = omega (arith, length-take n (drop at xs), length-drop at xs)

unpacks_long : (packed : List ℕ) (n : ℕ) (cut : Bool) → is_cut packed ≡ cut → unpacks_to packed n ≡ true → length (plain_of packed) ≡ n
unpacks_long packed n true is e = let none : false ≡ true = rw (is, unpacks_to) at e in absurd cc
unpacks_long packed n false is e = eqb-true (length (plain_of packed)) n (rw (is, unpacks_to) at e)

-- the rules on one block of an index
rows_of : (b records : List ℕ) (vdr : ℕ) (leaves : List Leaf) → Hold (flat_map (leaf_rows b records vdr) leaves) → (l : Leaf) → IsOneOf leaves l → Hold (leaf_rows b records vdr l)
rows_of b records vdr [] rows l i = absurd i
rows_of b records vdr (x ∷ more) rows l (inl q) = subst (λ (y : Leaf). Hold (leaf_rows b records vdr y)) q (Hold-split (leaf_rows b records vdr x) (flat_map (leaf_rows b records vdr) more) rows).0
rows_of b records vdr (x ∷ more) rows l (inr i) = rows_of b records vdr more (Hold-split (leaf_rows b records vdr x) (flat_map (leaf_rows b records vdr) more) rows).1 l i

module _ {b : List ℕ} {kind : Kind} {before : List VariableShape} {own : VariableShape} {after : List VariableShape} (good : Good b) (at : StandsAmong b kind before own after) (l : Leaf) (i : IsOneOf (leaves_of own.index) l) where
  abbrev records : List ℕ
  records = (shape b).records

  fit : LeafFits b records own.vdr l
  fit = of_each (LeafFits b records own.vdr) (leaves_of own.index) l (fits good at).2 i

  typed : (type_at b l.place == cvvr_type) ≡ l.packed
  typed = of_each (IsPackedAs b records) (leaves_of own.index) l (leaves_packed b records 8 own.index (has good at).indexed.has_nodes) i

  rules : Hold (leaf_rows b records own.vdr l)
  rules = rows_of b records own.vdr (leaves_of own.index) (Hold-split (nodes_rows b records (negsuc 0) (pos record_number_limit) own.index) (flat_map (leaf_rows b records own.vdr) (leaves_of own.index)) (own_rules good at).1).1 l i

  lies : l.place + size_at b l.place ≤ length b
  lies = (tile_lies b 8 (length b) records l.place (sound good at).has_shape.tiled (block_in good at l i)).high

  -- a block that is packed is a CVVR
  is_packed : l.packed ≡ true → is_a b records cvvr_type l.place ≡ true
  is_packed e = elim (or_cases (is_a b records vvr_type l.place) (is_a b records cvvr_type l.place) fit.0) [
    | inl p ↦ absurd (true≢false (sym e ∙ sym typed ∙ ap (λ (t : ℕ). t == cvvr_type) (is_a-type b records vvr_type l.place p)))
    | inr p ↦ p
  ]

  packed_rules : l.packed ≡ true → Hold (cvvr_rows b own.vdr l)
  packed_rules e = Hold-asked (is_a b records cvvr_type l.place) (cvvr_rows b own.vdr l) (Hold-split (asked (is_a b records vvr_type l.place) (vvr_rows b own.vdr l)) _ rules).1 (is_packed e)

  bytes_long : (packed : Bool) → l.packed ≡ packed → length (plain_bytes b own.vdr l) ≡ plain_size b own.vdr l
  bytes_long true e = rw e (unpacks_long (packed_bytes b l.place) (plain_size b own.vdr l) _ refl (packed_rules e).1.1.0)
  bytes_long false e =
      let room : 12 + plain_size b own.vdr l ≤ size_at b l.place = rw e at fit.1 in
      rw e (piece_long b (l.place + 12) (plain_size b own.vdr l) (omega (arith, room, lies)))

  module _ (size : ℕ) (sized : size ≡ record_bytes b own.vdr) where
    pub plain_size_is : plain_size b own.vdr l ≡ block_size l size
    plain_size_is = size_is good at l i l (record { begins = omega arith; ordered = (range_of good at l i).ordered; ends = omega arith }) ∙ ap (λ (n : ℕ). (l.last + 1 - l.first) * n) (sym sized)

    pub plain_long : length (plain_bytes b own.vdr l) ≡ block_size l size
    plain_long = bytes_long l.packed refl ∙ plain_size_is

    module _ (short : length b ≤ image_limit) where
      loose : l.packed ≡ false → l.place + (12 + block_size l size) ≤ length b
      loose e = let room : 12 + plain_size b own.vdr l ≤ size_at b l.place = rw e at fit.1 in omega (arith, room, lies, plain_size_is)

      packed_small : l.packed ≡ true → block_size l size ≤ record_limit
      packed_small e = let le = le_of (plain_size b own.vdr l) record_limit (packed_rules e).1.0 in omega (arith, le, plain_size_is)

      inside : l.packed ≡ true → l.place + 24 + number b l.place cvvr_c_size ≤ length b
      inside e =
          let holds = both (nat_le (number b l.place cvvr_c_size) 0x7fffffffffffffff) _ (both (is_compressed b own.vdr) _ (packed_rules e).0).1 in
          let room : 24 + number b l.place cvvr_c_size ≤ size_at b l.place = le_of _ _ holds.1 in
          omega (arith, room, lies)

      small : (packed : Bool) → l.packed ≡ packed → block_size l size ≤ image_limit
      small true e = omega (arith, packed_small e)
      small false e = omega (arith, loose e, short)

      pub plain_stands : PlainStands b l (block_size l size)
      plain_stands = record {
        loose = loose;
        inside = inside;
        fits = λ e. ap (unpacks_to (packed_bytes b l.place)) (sym plain_size_is) ∙ (packed_rules e).1.1.0;
        small = small l.packed refl;
        packed_small = packed_small;
      }

-- ---- what is read

pub reads_packed : (b : List ℕ) (vdr : ℕ) (l : Leaf) (bytes : List ℕ) → l.packed ≡ true → bytes ≡ plain_of (packed_bytes b l.place) → bytes ≡ plain_bytes b vdr l
reads_packed b vdr l bytes p e = e ∙ ap (λ (q : Bool). if q then plain_of (packed_bytes b l.place) else field_bytes b l.place (vvr_records (plain_size b vdr l))) (sym p)

pub reads_loose : (b : List ℕ) (vdr size : ℕ) (l : Leaf) (bytes : List ℕ) → l.packed ≡ false → plain_size b vdr l ≡ size → bytes ≡ take size (drop (l.place + 12) b) → bytes ≡ plain_bytes b vdr l
reads_loose b vdr size l bytes p s e =
    e ∙ ap (λ (n : ℕ). take n (drop (l.place + 12) b)) (sym s) ∙ ap (λ (q : Bool). if q then plain_of (packed_bytes b l.place) else field_bytes b l.place (vvr_records (plain_size b vdr l))) (sym p)
