-- What is stored in the record of a block is what its plain bytes are stored as: the rules of the block, and how it is packed.
use Rattle.std.proofs.Common.{Bool, List, [], ap, arith, false, length, max, refl, replicate, suc, sym, true, zero, ℕ, ◌++◌, ◌+◌, ◌∙◌, ◌∷◌, ◌≡◌, ◌≤◌}
use Rattle.std.specs.Prelude.{nat_le, nat_lt, ◌&&◌}
use Rattle.cdf_edits.proofs.Common.{Hold, LeafFits, both, eq-eqb, holds_packed, is_a, is_compressed, is_in-true, leb-true, nat_tests, number, of_le, packed_bytes, plain_bytes, plain_size, size_at, type_at, unpacks_to}
use Rattle.cdf_edits.specs.Index.Written.{WellPacked, block_end, is_worth_packing}
use Rattle.cdf_format.specs.Index.{Leaf}
use Rattle.cdf_format.specs.IndexRules.{leaf_rows}
use Rattle.cdf_format.specs.RecordTypes.{cvvr_type, vvr_type}
use Rattle.cdf_edits.proofs.Common.{bytes_kept, number_kept}
use Rattle.cdf_edits.proofs.Edits.Common.{Kept}
use Rattle.cdf_format.specs.Fields.{counted}
use Rattle.cdf_format.specs.Records.{cvvr_c_size, cvvr_packed, vvr_records}
use Rattle.std.specs.Int.{cast_signed, w64}
use Rattle.cdf_format.specs.Stored.{field_bytes}
use Rattle.cdf_format.specs.Tiles.{In}
use Rattle.cdf_model.specs.Limits.{image_limit}
use Rattle.cdf_model.specs.Place.{record_limit}
use Rattle.cdf_model.specs.RunLengths.{Packs, is_cut, plain_of}
use Rattle.cdf_blocks.specs.Blocks.{Holds, StoredAs, stored_end, type_of_block}

packs_are : (packed plain : List ℕ) → Packs packed plain → (is_cut packed ≡ false) × (plain_of packed ≡ plain)
packs_are [] plain e = (refl, sym e)
packs_are (suc b ∷ more) plain (rest, e, packs) = let r = packs_are more rest packs in (r.0, ap (λ (xs : List ℕ). suc b ∷ xs) r.1 ∙ sym e)
packs_are (zero ∷ []) plain packs = absurd packs
packs_are (zero ∷ n ∷ more) plain (rest, e, packs) = let r = packs_are more rest packs in (r.0, ap (λ (xs : List ℕ). replicate (suc n) 0 ++ xs) r.1 ∙ sym e)

-- packed bytes of these stand for just so many
unpack_to : (packed plain : List ℕ) (n : ℕ) → Packs packed plain → length plain ≡ n → unpacks_to packed n ≡ true
unpack_to packed plain n p e = let r = packs_are packed plain p in rw (r.0, unpacks_to) (eq-eqb (length (plain_of packed)) n (ap length r.1 ∙ e))

-- packed they are shorter
shorter : (n m : ℕ) → (nat_le n record_limit && nat_lt (24 + m) (12 + n)) ≡ true → 24 + m ≤ 12 + n
shorter n m e = leb-true (24 + m) (12 + n) (lt_le (24 + m) (12 + n) (both (nat_le n record_limit) (nat_lt (24 + m) (12 + n)) e).1)
  where
    lt_le : (a c : ℕ) → nat_lt a c ≡ true → nat_le a c ≡ true
    lt_le a c e = grind (arith, nat_tests, e)

pub stored_room : (plain bytes : List ℕ) (packed : Bool) → StoredAs plain packed bytes → stored_end packed (length bytes) ≤ 12 + length plain
stored_room plain bytes true a = shorter (length plain) (length bytes) a.stores.2
stored_room plain bytes false a = omega (arith, ap length a.stores)

-- so a record that ends there needs no more than one of the plain bytes
pub need_most : (plain bytes : List ℕ) (packed : Bool) (end : ℕ) → end ≡ stored_end packed (length bytes) → StoredAs plain packed bytes → max 28 end ≤ max 28 (12 + length plain)
need_most plain bytes packed end e a = let r = stored_room plain bytes packed a in omega arith

-- a block stands there, and holds these bytes
pub record BlockStands (now records : List ℕ) (l : Leaf) (bytes : List ℕ) : Type 0 where
  pub there : In l.place records
  pub typed : type_at now l.place ≡ type_of_block l.packed
  pub room : stored_end l.packed (length bytes) ≤ size_at now l.place
  pub holds : Holds now l.place bytes l.packed
  pub short : length bytes ≤ image_limit

-- they are those of a leaf of a packed variable
pub record BlockIs (now records : List ℕ) (vdr : ℕ) (l : Leaf) (plain : List ℕ) : Type 0 where
  pub plain_is : plain_bytes now vdr l ≡ plain
  pub fits : LeafFits now records vdr l
  pub rules : Hold (leaf_rows now records vdr l)
  pub well : WellPacked now vdr l

module _ (now records : List ℕ) (vdr : ℕ) (first last place : ℕ) (plain bytes : List ℕ) (rle : is_compressed now vdr ≡ true) where
  abbrev leaf_of : Bool → Leaf
  leaf_of packed = record { first = first; last = last; place = place; packed = packed }

  small : is_worth_packing plain bytes ≡ true → length plain ≤ record_limit
  small e = leb-true (length plain) record_limit (both (nat_le (length plain) record_limit) (nat_lt (24 + length bytes) (12 + length plain)) e).0

  packed_is : plain_size now vdr (leaf_of true) ≡ length plain → BlockStands now records (leaf_of true) bytes → StoredAs plain true bytes → BlockIs now records vdr (leaf_of true) plain
  packed_is many s a =
      let t : is_a now records cvvr_type place ≡ true = rw (is_in-true place records s.there, s.typed) refl in
      let v : is_a now records vvr_type place ≡ false = rw (is_in-true place records s.there, s.typed) refl in
      let is : plain_of (packed_bytes now place) ≡ plain = ap plain_of s.holds.1 ∙ (packs_are bytes plain a.stores.0).1 in
      let count : number now place cvvr_c_size ≤ 9223372036854775807 = omega (arith, s.holds.0, s.short) in
      let fit : 24 + number now place cvvr_c_size ≤ size_at now place = omega (arith, s.holds.0, s.room) in
      let row6 : (is_compressed now vdr && holds_packed now place) ≡ true = rw (rle, of_le _ _ count, of_le _ _ fit) refl in
      let row7 : nat_le (plain_size now vdr (leaf_of true)) record_limit ≡ true = of_le _ _ (omega (arith, many, small a.stores.2)) in
      let row8 : unpacks_to (packed_bytes now place) (plain_size now vdr (leaf_of true)) ≡ true = rw s.holds.1 (unpack_to bytes plain (plain_size now vdr (leaf_of true)) a.stores.0 (sym many)) in
      record {
        plain_is = is;
        fits = (rw (t, v) refl, fit);
        rules = rw (t, v) (row6, (row7, (row8, tt)));
        well = record { chosen = rw is a.chosen; longest = λ e. rw s.holds.1 a.stores.1 };
      }

  loose_is : plain_size now vdr (leaf_of false) ≡ length plain → BlockStands now records (leaf_of false) bytes → StoredAs plain false bytes → BlockIs now records vdr (leaf_of false) plain
  loose_is many s a =
      let t : is_a now records cvvr_type place ≡ false = rw (is_in-true place records s.there, s.typed) refl in
      let v : is_a now records vvr_type place ≡ true = rw (is_in-true place records s.there, s.typed) refl in
      let long : length bytes ≡ plain_size now vdr (leaf_of false) = ap length a.stores ∙ sym many in
      let is : plain_bytes now vdr (leaf_of false) ≡ plain = ap (λ (n : ℕ). field_bytes now place (vvr_records n)) (sym long) ∙ s.holds ∙ a.stores in
      let fit : 12 + plain_size now vdr (leaf_of false) ≤ size_at now place = omega (arith, long, s.room) in
      record {
        plain_is = is;
        fits = (rw (t, v) refl, fit);
        rules = rw (t, v) (of_le _ _ fit, tt);
        well = record { chosen = rw is a.chosen; longest = λ e. absurd cc };
      }

  pub block_is : (packed : Bool) → plain_size now vdr (leaf_of packed) ≡ length plain → BlockStands now records (leaf_of packed) bytes → StoredAs plain packed bytes → BlockIs now records vdr (leaf_of packed) plain
  block_is true = packed_is
  block_is false = loose_is

  -- where its bytes end
  pub end_is : (packed : Bool) → plain_size now vdr (leaf_of packed) ≡ length plain → BlockStands now records (leaf_of packed) bytes → StoredAs plain packed bytes → block_end now vdr (leaf_of packed) ≡ stored_end packed (length bytes)
  end_is true many s a = ap (λ (n : ℕ). 24 + n) s.holds.0
  end_is false many s a = ap (λ (n : ℕ). 12 + n) (many ∙ sym (ap length a.stores))

-- ---- a block whose record stays

counted_most : (n : ℕ) → counted (cast_signed w64 n) ≤ n
counted_most n = grind arith

pub holds_kept : (mid now : List ℕ) (place : ℕ) (bytes : List ℕ) (packed : Bool) → Kept mid now place → length mid ≤ length now → stored_end packed (length bytes) ≤ size_at mid place → Holds mid place bytes packed → Holds now place bytes packed
holds_kept mid now place bytes true k longer fit h =
    let c = number_kept mid now place k.same cvvr_c_size (omega (arith, fit)) in
    let n = counted (cast_signed w64 (number mid place cvvr_c_size)) in
    (c ∙ h.0, ap (λ (m : ℕ). field_bytes now place (cvvr_packed (counted (cast_signed w64 m)))) c ∙ bytes_kept mid now place k.same (cvvr_packed n) (omega (arith, counted_most (number mid place cvvr_c_size), h.0, fit)) k.inside longer ∙ h.1)
holds_kept mid now place bytes false k longer fit h = bytes_kept mid now place k.same (vvr_records (length bytes)) (omega (arith, fit)) k.inside longer ∙ h
