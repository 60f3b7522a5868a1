-- The blocks of a variable, as they stand.
use Rattle.std.proofs.Common.{Bool, List, [], ap, append_assoc, ap₂, arith, inl, inr, length, lit<, map, refl, replicate, subst, sym, true, ℕ, ℤ, ◌%◌, ◌*◌, ◌-◌, ◌++◌, ◌+◌, ◌<◌, ◌^◌, ◌∙◌, ◌∷◌, ◌≡◌, ◌≤◌}
use Rattle.std.proofs.lemmas.Bool.{and_parts, leb-true, lt-ltb, ltb-true}
use Rattle.std.proofs.lemmas.Int.{to_z_pos}
use Rattle.std.proofs.lemmas.List.{drop_at, length-append, length-replicate, take_at}
use Rattle.std.specs.Int.{cast_signed, w64}
use Rattle.std.specs.List.{enumerate_from, filter, flat_map}
use Rattle.std.specs.Prelude.{nat_le, nat_lt, if◌then◌else◌}
use Rattle.cdf_model.specs.ByteOrder.{parts, turned}
use Rattle.cdf_model.specs.DataSet.{Variable, extent}
use Rattle.cdf_model.specs.Limits.{record_number_limit}
use Rattle.cdf_model.specs.Place.{record_limit}
use Rattle.cdf_model.specs.RunLengths.{plain_of}
use Rattle.cdf_model.specs.Types.{size_of}
use Rattle.cdf_format.proofs.Members.{either}
use Rattle.cdf_format.specs.Content.{leaf_records, plain_bytes, records_in}
use Rattle.cdf_format.specs.Fields.{counted, integer8, number}
use Rattle.cdf_format.specs.Index.{Leaf, leaf}
use Rattle.cdf_format.specs.Records.{cvvr_bytes, cvvr_c_size, cvvr_packed, cvvr_rfu_a, record_type, vvr_bytes, vvr_records}
use Rattle.cdf_format.specs.RecordTypes.{cvvr_type, vvr_type}
use Rattle.cdf_format.specs.Shape.{Each, is_compressed}
use Rattle.cdf_format.specs.Stored.{field_bytes, is_little, packed_bytes}
use Rattle.cdf_format.specs.VariableFields.{counted4, max_rec_at, plain_size, record_bytes, records_of_leaf, type_of_variable}
use Rattle.cdf_edits.proofs.Edits.LeafRecords.{count_is, signed}
use Rattle.cdf_edits.proofs.Space.LaidOut.{IsType, typed_body, value_laid}
use Rattle.cdf_edits.specs.Index.Blocks.{block_count, record_length}
use Rattle.cdf_edits.specs.Index.Written.{is_worth_packing}
use Rattle.cdf_edits.specs.Space.Placing.{IsBody, laid_out, type_of_body}
use Rattle.cdf_values.proofs.TurnedLemmas.{back, size_stays}
unfoldable use Rattle.cdf_writer.specs.Bodies.{cvvr_body, vvr_body}
use Rattle.cdf_writer.specs.Bodies.{spared, whole_record}
use Rattle.cdf_writer.specs.Fine.{FineRecord, Rise}
use Rattle.cdf_writer.specs.Groups.{first_number, goes_on, last_number}
use Rattle.cdf_writer.specs.Laying.{block_body, blocks_of, is_packed, plain_of_block}
use Rattle.cdf_writer.specs.Packing.{packed_of}
use Rattle.cdf_writer.proofs.GroupLemmas.{IsGroup, groups_are, joined, joined_back, run_last, run_numbered}
use Rattle.cdf_writer.proofs.PackedBack.{plain_back}
use Rattle.cdf_writer.proofs.Stands.{Standing}

-- ---- the bodies of blocks

spared_size : (body : List ℕ) → 20 ≤ length (spared body)
spared_size body = omega (arith, length-append body (replicate (28 - 8 - length body) 0), length-replicate {A = ℕ} (28 - 8 - length body) 0)

vvr_is_type : IsType vvr_type 28
vvr_is_type = record { small = lit< tt; real = refl; in_use = λ e. cc; fixed = omega arith; enough = omega arith }

cvvr_is_type : IsType cvvr_type 28
cvvr_is_type = record { small = lit< tt; real = refl; in_use = λ e. cc; fixed = omega arith; enough = omega arith }

zeros : List ℕ → List ℕ
zeros body = replicate (28 - 8 - length body) 0

pub vvr_made : (plain : List ℕ) → (type_of_body (vvr_body plain) ≡ vvr_type) × IsBody (vvr_body plain)
unfolding vvr_body
vvr_made plain =
    let front = laid_out ((record_type, vvr_type) ∷ []) in
    typed_body [] (plain ++ replicate (28 - 8 - length (front ++ plain)) 0) (vvr_body plain) vvr_is_type (append_assoc front plain (replicate (28 - 8 - length (front ++ plain)) 0)) (let l = spared_size (front ++ plain) in omega arith)

pub cvvr_made : (packed : List ℕ) → (type_of_body (cvvr_body packed) ≡ cvvr_type) × IsBody (cvvr_body packed)
unfolding cvvr_body
cvvr_made packed =
    let front = laid_out ((record_type, cvvr_type) ∷ (cvvr_rfu_a, 0) ∷ (cvvr_c_size, length packed) ∷ []) in
    typed_body ((cvvr_rfu_a, 0) ∷ (cvvr_c_size, length packed) ∷ []) (packed ++ replicate (28 - 8 - length (front ++ packed)) 0) (cvvr_body packed) cvvr_is_type (append_assoc front packed (replicate (28 - 8 - length (front ++ packed)) 0)) (let l = spared_size (front ++ packed) in omega arith)

pub vvr_long : (plain : List ℕ) → 12 + length plain ≤ 8 + length (vvr_body plain)
unfolding vvr_body
vvr_long plain =
    let front = laid_out ((record_type, vvr_type) ∷ []) in
    omega (arith, length-append (front ++ plain) (replicate (28 - 8 - length (front ++ plain)) 0), length-append front plain)

pub cvvr_long : (packed : List ℕ) → 24 + length packed ≤ 8 + length (cvvr_body packed)
unfolding cvvr_body
cvvr_long packed =
    let front = laid_out ((record_type, cvvr_type) ∷ (cvvr_rfu_a, 0) ∷ (cvvr_c_size, length packed) ∷ []) in
    omega (arith, length-append (front ++ packed) (replicate (28 - 8 - length (front ++ packed)) 0), length-append front packed)

-- the record that stands there has these plain bytes
vvr_reads : (b : List ℕ) (place : ℕ) (plain : List ℕ) → Standing b place (vvr_body plain) → field_bytes b place (vvr_records (length plain)) ≡ plain
unfolding vvr_body
vvr_reads b place plain s =
    let front = laid_out ((record_type, vvr_type) ∷ []) in
    let spare = replicate (28 - 8 - length (front ++ plain)) 0 in
    let w = value_laid b place 8 ((record_type, vvr_type) ∷ []) plain (spare ++ s.behind.rest) (s.behind.there ∙ append_assoc (front ++ plain) spare s.behind.rest) refl (lit< tt, tt) in
    w.1

pub record CvvrReads (b : List ℕ) (place : ℕ) (packed : List ℕ) : Type 0 where
  pub size_is : number b place cvvr_c_size ≡ length packed
  pub bytes_are : field_bytes b place (cvvr_packed (length packed)) ≡ packed

pub cvvr_reads : (b : List ℕ) (place : ℕ) (packed : List ℕ) → length packed ≤ record_limit → Standing b place (cvvr_body packed) → CvvrReads b place packed
unfolding cvvr_body
cvvr_reads b place packed small s =
    let fields = (record_type, cvvr_type) ∷ (cvvr_rfu_a, 0) ∷ (cvvr_c_size, length packed) ∷ [] in
    let front = laid_out fields in
    let spare = replicate (28 - 8 - length (front ++ packed)) 0 in
    let w = value_laid b place 8 ((record_type, cvvr_type) ∷ (cvvr_rfu_a, 0) ∷ (cvvr_c_size, length packed) ∷ []) packed (spare ++ s.behind.rest) (s.behind.there ∙ append_assoc (front ++ packed) spare s.behind.rest) refl (lit< tt, (lit< tt, (fits (length packed) small, tt))) in
    record { size_is = w.0.1.1.0; bytes_are = w.1 }
  where
    fits : (k : ℕ) → k ≤ 67108864 → k < 256 ^ 8
    fits k le = omega arith

pub signed8_small : (n : ℕ) → n ≤ 67108864 → counted (cast_signed w64 n) ≡ n
signed8_small n le = ap counted (to_z_pos w64 n (omega arith))

-- ---- what a block of a variable is in an image

-- of the variable, what its blocks are read by
pub record VdrMeans (b : List ℕ) (vdr : ℕ) (little : Bool) (v : Variable) : Type 0 where
  pub type_is : type_of_variable b vdr ≡ v.type
  pub size_is : record_bytes b vdr ≡ record_length v
  pub little_is : is_little b ≡ little
  pub max_is : max_rec_at b vdr ≡ v.max_rec
  pub rle_is : is_compressed b vdr ≡ v.rle

abbrev pub P : Variable → ℕ × List ℕ → Type 0
P v pair = FineRecord v pair.0 pair.1

module _ (v : Variable) (little : Bool) (even : record_length v % size_of v.type ≡ 0) where
  plain : List (ℕ × List ℕ) → List ℕ
  plain group = plain_of_block little v group

  stored_size : (pair : ℕ × List ℕ) → P v pair → length (turned v.type little pair.1) ≡ record_length v
  stored_size pair p = size_stays v.type little pair.1 (subst (λ (n : ℕ). n % size_of v.type ≡ 0) (sym p.whole) even) ∙ p.whole

  pub plain_length : (group : List (ℕ × List ℕ)) → Each (P v) group → length (plain_of_block little v group) ≡ length group * record_length v
  plain_length [] e = omega arith
  plain_length (pair ∷ group) e = omega (arith, length-append (turned v.type little pair.1) (plain_of_block little v group), stored_size pair e.0, plain_length group e.1)

  plain_parts : (group : List (ℕ × List ℕ)) → Each (P v) group → parts (record_length v) (length group) (plain_of_block little v group) ≡ map (λ pair. turned v.type little pair.1) group
  plain_parts [] e = refl
  plain_parts (pair ∷ group) e =
      let x = turned v.type little pair.1 in
      let rest = plain_of_block little v group in
      let long = stored_size pair e.0 in
      ap₂ (λ (y : List ℕ) (ys : List (List ℕ)). y ∷ ys) (take_at x rest (record_length v) long) (ap (parts (record_length v) (length group)) (drop_at x rest (record_length v) long) ∙ plain_parts group e.1)

  turned_back : (group : List (ℕ × List ℕ)) → Each (P v) group → map (turned v.type little) (map (λ (pair : ℕ × List ℕ). turned v.type little pair.1) group) ≡ map (λ pair. pair.1) group
  turned_back [] e = refl
  turned_back (pair ∷ group) e = ap₂ (λ (y : List ℕ) (ys : List (List ℕ)). y ∷ ys) (back v.type little pair.1 (subst (λ (n : ℕ). n % size_of v.type ≡ 0) (sym e.0.whole) even)) (turned_back group e.1)

  -- the leaf of a block that stands at a place
  abbrev pub leaf_at : ℕ → List (ℕ × List ℕ) → Leaf
  leaf_at place group = leaf (first_number group) (last_number group) place (is_packed v.rle (plain_of_block little v group))

  module _ (b : List ℕ) (vdr : ℕ) (m : VdrMeans b vdr little v) where
    abbrev IsBlock : List (ℕ × List ℕ) → Type 0
    IsBlock group = IsGroup (P v) (block_count v) group

    pub worth : (group : List (ℕ × List ℕ)) → is_packed v.rle (plain_of_block little v group) ≡ true → (v.rle ≡ true) × (length (plain_of_block little v group) ≤ record_limit) × (length (packed_of (plain_of_block little v group)) ≤ record_limit)
    worth group e =
        let x = plain_of_block little v group in
        let p = and_parts v.rle (is_worth_packing x (packed_of x)) e in
        let q = and_parts (nat_le (length x) record_limit) (nat_lt (cvvr_bytes (length (packed_of x))) (vvr_bytes (length x))) p.1 in
        let short = leb-true (length x) record_limit q.0 in
        let less = ltb-true (cvvr_bytes (length (packed_of x))) (vvr_bytes (length x)) q.1 in
        (p.0, short, omega arith)

    module _ (small : extent v.max_rec ≤ 2147483647) where
      pub number_small : (group : List (ℕ × List ℕ)) → IsBlock group → (first_number group ≤ last_number group) × (last_number group ≤ record_number_limit) × (last_number group + 1 ≡ first_number group + length group)
      number_small [] g = let s = g.some in absurd (omega arith)
      number_small (pair ∷ group) g =
          let last = run_last (P v) (block_count v) pair.0 pair group g.run in
          let low = last_low pair group g.each in
          (omega (arith, last), omega (arith, last_low pair group g.each), omega (arith, last))
        where
          last_low : (pair : ℕ × List ℕ) (group : List (ℕ × List ℕ)) → Each (P v) (pair ∷ group) → last_number (pair ∷ group) < extent v.max_rec
          last_low pair [] e = e.0.numbered
          last_low pair (next ∷ group) e = last_low next group e.1

      pub count_of : (place : ℕ) (group : List (ℕ × List ℕ)) → IsBlock group → records_of_leaf (leaf_at place group) ≡ length group
      count_of place group g = let n = number_small group g in omega (arith, count_is (leaf_at place group) n.1 n.0, n.2)

      pub size_of_leaf : (place : ℕ) (group : List (ℕ × List ℕ)) → IsBlock group → plain_size b vdr (leaf_at place group) ≡ length (plain_of_block little v group)
      size_of_leaf place group g = ap₂ (λ (x y : ℕ). x * y) (count_of place group g) m.size_is ∙ sym (plain_length group g.each)

      pub plain_there : (place : ℕ) (group : List (ℕ × List ℕ)) → IsBlock group → Standing b place (block_body little v group) → plain_bytes b vdr (leaf_at place group) ≡ plain_of_block little v group
      plain_there place group g s = let x = plain_of_block little v group in elim (either (is_packed v.rle x)) [
        | inl e ↦
            let w = worth group e in
            let st = subst (λ (p : Bool). Standing b place (if p then cvvr_body (packed_of x) else vvr_body x)) e s in
            let r = cvvr_reads b place (packed_of x) w.2 st in
            let size : counted (integer8 b place cvvr_c_size) ≡ length (packed_of x) = ap (λ (n : ℕ). counted (cast_signed w64 n)) r.size_is ∙ signed8_small (length (packed_of x)) w.2 in
            let bytes : packed_bytes b place ≡ packed_of x = ap (λ (n : ℕ). field_bytes b place (cvvr_packed n)) size ∙ r.bytes_are in
            ap (λ (p : Bool). if p then plain_of (packed_bytes b place) else field_bytes b place (vvr_records (plain_size b vdr (leaf_at place group)))) e ∙ ap plain_of bytes ∙ plain_back x
        | inr e ↦
            let st = subst (λ (p : Bool). Standing b place (if p then cvvr_body (packed_of x) else vvr_body x)) e s in
            ap (λ (p : Bool). if p then plain_of (packed_bytes b place) else field_bytes b place (vvr_records (plain_size b vdr (leaf_at place group)))) e
            ∙ ap (λ (n : ℕ). field_bytes b place (vvr_records n)) (size_of_leaf place group g) ∙ vvr_reads b place x st
      ]

      -- its records are those of the block
      pub leaf_means : (place : ℕ) (group : List (ℕ × List ℕ)) → IsBlock group → Standing b place (block_body little v group) → leaf_records b vdr (leaf_at place group) ≡ group
      leaf_means place group g s =
          let x = plain_of_block little v group in
          let n = number_small group g in
          let first : counted4 (first_number group) ≡ first_number group = ap counted (signed (first_number group) (omega arith)) in
          let plain_is = plain_there place group g s in
          let count = count_of place group g in
          let turn : turned (type_of_variable b vdr) (is_little b) ≡ turned v.type little = ap₂ turned m.type_is m.little_is in
          (λ i. enumerate_from (first i) (map (turn i) (parts (m.size_is i) (count i) (plain_is i))))
          ∙ ap (λ (l : List (List ℕ)). enumerate_from (first_number group) (map (turned v.type little) l)) (plain_parts group g.each)
          ∙ ap (enumerate_from (first_number group)) (turned_back group g.each)
          ∙ run_numbered (P v) (block_count v) (first_number group) group g.run

      -- ---- all blocks, from a place on

      abbrev pub leaves_from : ℕ → List (List (ℕ × List ℕ)) → List Leaf
      leaves_from place [] = []
      leaves_from place (group ∷ more) = leaf_at place group ∷ leaves_from (place + length (whole_record (block_body little v group))) more

      abbrev pub BlocksStand : ℕ → List (List (ℕ × List ℕ)) → Type 0
      BlocksStand place [] = Unit {0}
      BlocksStand place (group ∷ more) = Standing b place (block_body little v group) × BlocksStand (place + length (whole_record (block_body little v group))) more

      pub leaves_mean : (place : ℕ) (groups : List (List (ℕ × List ℕ))) → Each IsBlock groups → BlocksStand place groups → flat_map (leaf_records b vdr) (leaves_from place groups) ≡ joined groups
      leaves_mean place [] g s = refl
      leaves_mean place (group ∷ more) g s = ap₂ (λ (xs ys : List (ℕ × List ℕ)). xs ++ ys) (leaf_means place group g.0 s.0) (leaves_mean (place + length (whole_record (block_body little v group))) more g.1 s.1)

      none_past : (xs : List (ℕ × List ℕ)) → Each (P v) xs → filter (λ pair. nat_lt pair.0 (extent v.max_rec)) xs ≡ xs
      none_past [] e = refl
      none_past (pair ∷ xs) e = rw (lt-ltb pair.0 (extent v.max_rec) e.0.numbered) (ap (λ (l : List (ℕ × List ℕ)). pair ∷ l) (none_past xs e.1))

      pub records_mean : (place : ℕ) → Rise 0 v.recs → Each (P v) v.recs → 1 ≤ block_count v → BlocksStand place (blocks_of v) → records_in b vdr (leaves_from place (blocks_of v)) ≡ v.recs
      records_mean place rise e some s =
          let g = groups_are (P v) (block_count v) 0 v.recs some rise e in
          ap (λ (z : ℤ). filter (λ pair. nat_lt pair.0 (extent z)) (flat_map (leaf_records b vdr) (leaves_from place (blocks_of v)))) m.max_is ∙ ap (filter (λ pair. nat_lt pair.0 (extent v.max_rec))) (leaves_mean place (blocks_of v) g.0 s ∙ joined_back (goes_on (block_count v)) v.recs) ∙ none_past v.recs e
