-- A block of a good image has as many plain bytes as its records, packed or not; and where it stays while a variable changes, so do these.
use Rattle.cdf_edits.proofs.Common.{Act, Bool, Good, Hold, Hold-split, In, Kind, Leaf, LeafFits, List, Stays, VariableShape, [], ap, arith, asked, byte, bytes_kept, cvvr_c_size, cvvr_rows, cvvr_type, drop, eqb-true, false, flat_map, inl, inr, is_a, is_a-type, leaf_rows, leaves_of, length, length-drop, length-take, nodes_rows, number, packed_bytes, plain_bytes, plain_size, record_bytes, record_number_limit, refl, shape, size_at, subst, suc, sym, tile_lies, true, true≢false, type_at, unpacks_to, vvr_rows, vvr_type, ℕ, ◌*◌, ◌+◌, ◌-◌, ◌==◌, ◌∙◌, ◌∷◌, ◌≡◌, ◌≤◌}
use Rattle.cdf_edits.proofs.Edits.Common.{StandsAmong, behind_in, block_behind, count_is, fits, has, sound}
use Rattle.cdf_edits.proofs.Edits.LeafPieces.{IsOneOf, in_order, of_each, place_in}
use Rattle.cdf_edits.proofs.Edits.MarkLemmas.{or_cases}
use Rattle.cdf_edits.proofs.Edits.PlainLeaves.{leaves_ascend, own_rules}
use Rattle.cdf_edits.proofs.Frame.Meaning.{packed_same}
use Rattle.cdf_edits.proofs.Frame.VdrAlike.{plain_alike}
use Rattle.cdf_edits.proofs.Frame.VdrStays.{stays_alike}
use Rattle.cdf_edits.specs.Frame.Kept.{Kept}
use Rattle.cdf_format.proofs.RowLemmas.{Hold-asked}
use Rattle.cdf_format.proofs.SoundLemmas.{IsPackedAs, leaves_packed}
use Rattle.cdf_format.specs.Records.{vvr_records}
use Rattle.cdf_format.specs.Stored.{field_bytes}
use Rattle.cdf_model.specs.RunLengths.{is_cut, plain_of}
use Rattle.cdf_puts.proofs.GoesThen.{stays}
use Rattle.cdf_puts.specs.Going.{GoesOn}
use Rattle.std.proofs.Common.{take}
use Rattle.std.specs.Prelude.{negsuc, pos}

-- ---- as long as its records

piece_long : (xs : List ℕ) (at n : ℕ) → at + n ≤ length xs → length (take n (drop at xs)) ≡ n
piece_long xs at n le = omega (arith, length-take n (drop at xs), length-drop at xs)

unpacks_long : (packed : List ℕ) (n : ℕ) (cut : Bool) → is_cut packed ≡ cut → unpacks_to packed n ≡ true → length (plain_of packed) ≡ n
unpacks_long packed n true is e = let none : false ≡ true = rw (is, unpacks_to) at e in absurd cc
unpacks_long packed n false is e = eqb-true (length (plain_of packed)) n (rw (is, unpacks_to) at e)

-- the rules on one block of an index
rows_of : (b records : List ℕ) (vdr : ℕ) (leaves : List Leaf) → Hold (flat_map (leaf_rows b records vdr) leaves) → (l : Leaf) → IsOneOf leaves l → Hold (leaf_rows b records vdr l)
rows_of b records vdr [] rows l i = absurd i
rows_of b records vdr (x ∷ more) rows l (inl q) = subst (λ (y : Leaf). Hold (leaf_rows b records vdr y)) q (Hold-split (leaf_rows b records vdr x) (flat_map (leaf_rows b records vdr) more) rows).0
rows_of b records vdr (x ∷ more) rows l (inr i) = rows_of b records vdr more (Hold-split (leaf_rows b records vdr x) (flat_map (leaf_rows b records vdr) more) rows).1 l i

module _ {b : List ℕ} {kind : Kind} {before : List VariableShape} {own : VariableShape} {after : List VariableShape} (good : Good b) (at : StandsAmong b kind before own after) (l : Leaf) (i : IsOneOf (leaves_of own.index) l) where
  abbrev records : List ℕ
  records = (shape b).records

  abbrev leaves : List Leaf
  leaves = leaves_of own.index

  pub leaf_fits : LeafFits b records own.vdr l
  leaf_fits = of_each (LeafFits b records own.vdr) leaves l (fits good at).2 i

  typed : (type_at b l.place == cvvr_type) ≡ l.packed
  typed = of_each (IsPackedAs b records) leaves l (leaves_packed b records 8 own.index (has good at).indexed.has_nodes) i

  rules : Hold (leaf_rows b records own.vdr l)
  rules = rows_of b records own.vdr leaves (Hold-split (nodes_rows b records (negsuc 0) (pos record_number_limit) own.index) (flat_map (leaf_rows b records own.vdr) leaves) (own_rules good at).1).1 l i

  pub block_in_records : In l.place records
  block_in_records = behind_in good at l.place (block_behind own l.place (place_in leaves l i))

  lies : l.place + size_at b l.place ≤ length b
  lies = (tile_lies b 8 (length b) records l.place (sound good at).has_shape.tiled block_in_records).high

  -- a block that is packed is a CVVR
  is_packed : l.packed ≡ true → is_a b records cvvr_type l.place ≡ true
  is_packed e = elim (or_cases (is_a b records vvr_type l.place) (is_a b records cvvr_type l.place) leaf_fits.0) [
    | inl p ↦ absurd (true≢false (sym e ∙ sym typed ∙ ap (λ (t : ℕ). t == cvvr_type) (is_a-type b records vvr_type l.place p)))
    | inr p ↦ p
  ]

  packed_rules : l.packed ≡ true → Hold (cvvr_rows b own.vdr l)
  packed_rules e = Hold-asked (is_a b records cvvr_type l.place) (cvvr_rows b own.vdr l) (Hold-split (asked (is_a b records vvr_type l.place) (vvr_rows b own.vdr l)) _ rules).1 (is_packed e)

  bytes_long : (packed : Bool) → l.packed ≡ packed → length (plain_bytes b own.vdr l) ≡ plain_size b own.vdr l
  bytes_long true e = rw e (unpacks_long (packed_bytes b l.place) (plain_size b own.vdr l) _ refl (packed_rules e).1.1.0)
  bytes_long false e =
      let room : 12 + plain_size b own.vdr l ≤ size_at b l.place = rw e at leaf_fits.1 in
      rw e (piece_long b (l.place + 12) (plain_size b own.vdr l) (omega (arith, room, lies)))

  size_is : plain_size b own.vdr l ≡ (l.last + 1 - l.first) * record_bytes b own.vdr
  size_is =
      let o = in_order 0 (suc record_number_limit) leaves (leaves_ascend good at) l i in
      ap (λ (n : ℕ). n * record_bytes b own.vdr) (count_is l (omega (arith, o.before)) o.ordered)

  pub block_long : length (plain_bytes b own.vdr l) ≡ (l.last + 1 - l.first) * record_bytes b own.vdr
  block_long = bytes_long l.packed refl ∙ size_is

  -- ---- a block that stays

  pub stays_kept : {now : List ℕ} → Stays b now l.place [] → Kept b now l.place
  stays_kept {now = now} s =
      let tile = tile_lies b 8 (length b) records l.place (sound good at).has_shape.tiled block_in_records in
      record {
        same = record { each = λ p low high. let e : l.place + (p - l.place) ≡ p = omega arith in subst (λ (x : ℕ). byte now x ≡ byte b x) e (s.same (p - l.place) (omega arith) tt) };
        inside = tile.high;
        long = tile.long;
      }

  module _ {now : List ℕ} {own' : VariableShape} {acts : List Act} (one : GoesOn b now kind before own own' after acts) (kept : Kept b now l.place) where
    same_by : (packed : Bool) → l.packed ≡ packed → plain_bytes now own.vdr l ≡ plain_bytes b own.vdr l
    same_by true e =
        let fit : 24 + number b l.place cvvr_c_size ≤ size_at b l.place = rw e at leaf_fits.1 in
        rw e (ap plain_of (packed_same b now one.file l.place kept fit))
    same_by false e =
        let fit : 12 + plain_size b own.vdr l ≤ size_at b l.place = rw e at leaf_fits.1 in
        rw e (ap (λ (n : ℕ). field_bytes now l.place (vvr_records n)) (plain_alike one.file (stays_alike one.file (stays good at one.descriptor)) l) ∙ bytes_kept b now l.place kept.same (vvr_records (plain_size b own.vdr l)) fit kept.inside one.file.longer)

    pub plain_kept : plain_bytes now own'.vdr l ≡ plain_bytes b own.vdr l
    plain_kept = ap (λ (vdr : ℕ). plain_bytes now vdr l) one.vdr_is ∙ same_by l.packed refl
