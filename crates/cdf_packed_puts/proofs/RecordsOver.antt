-- Records one after the other, and written over those of a block.
use Rattle.std.proofs.Common.{List, [], ap, append_assoc, append-nil, arith, drop, if◌then◌else◌, length, refl, suc, sym, take, zero, ℕ, ◌*◌, ◌++◌, ◌+◌, ◌-◌, ◌==◌, ◌∙◌, ◌≡◌, ◌≤◌}
use Rattle.std.proofs.Common.{take-append-drop}
use Rattle.cdf_base.proofs.Puts.{put_more}
use Rattle.cdf_base.specs.Bytes.{put}
use Rattle.cdf_edits.proofs.Edits.LeafPieces.{times_le}
use Rattle.cdf_edits.specs.Commands.PutSteps.{Put, records_from}
use Rattle.cdf_format.specs.Stored.{is_little}
use Rattle.cdf_model.specs.ByteOrder.{turned}
use Rattle.cdf_model.specs.Reading.{pad_record}
use Rattle.cdf_puts.proofs.PutSpot.{one_more, record_long, records_long}
use Rattle.cdf_puts.specs.Putting.{record_put, records_put}

-- the first of some records, and the others
records_first : (raw pad : List ℕ) (r count k : ℕ) → records_put raw pad r (suc count) k ≡ record_put raw pad r k ++ records_put raw pad r count (k + 1)
records_first raw pad r zero k = let z : k + 0 ≡ k = omega arith in ap (record_put raw pad r) z ∙ sym (append-nil (record_put raw pad r k))
records_first raw pad r (suc count) k =
    let z : k + suc count ≡ k + 1 + count = omega arith in
    ap (λ (xs : List ℕ). xs ++ record_put raw pad r (k + suc count)) (records_first raw pad r count k)
    ∙ append_assoc (record_put raw pad r k) (records_put raw pad r count (k + 1)) (record_put raw pad r (k + suc count))
    ∙ ap (λ (j : ℕ). record_put raw pad r k ++ (records_put raw pad r count (k + 1) ++ record_put raw pad r j)) z

-- they are those that a put says
pub records_are : (p : Put) (b raw pad : List ℕ) (r : ℕ) → p.rec ≡ r → p.raw ≡ raw → pad ≡ turned p.found.variable.type (is_little b) (pad_record p.found.variable) → (count k : ℕ) → records_put raw pad r count k ≡ records_from p b k count
records_are p b raw pad r rec_is raw_is pad_is zero k = refl
records_are p b raw pad r rec_is raw_is pad_is (suc count) k =
    let here : record_put raw pad r k ≡ (if k == p.rec then p.raw else turned p.found.variable.type (is_little b) (pad_record p.found.variable)) = rw (rec_is, raw_is, pad_is) refl in
    records_first raw pad r count k ∙ (λ i. here i ++ records_are p b raw pad r rec_is raw_is pad_is count (k + 1) i)

-- none is written
pub put_none : (xs : List ℕ) (at : ℕ) → put xs at [] ≡ xs
unfolding put
put_none xs at = let z : at + 0 ≡ at = omega arith in ap (λ (n : ℕ). take at xs ++ drop n xs) z ∙ take-append-drop at xs

-- some records, and others behind them, among all
pub piece_fits : (a m c n : ℕ) → a + m ≤ c → a * n + m * n ≤ c * n
piece_fits a m c n le = omega (arith, times_le (a + m) c n le)

module _ (raw pad : List ℕ) (r : ℕ) (pad_long : length pad ≡ length raw) where
  abbrev size : ℕ
  size = length raw

  pub one_long : (k : ℕ) → length (record_put raw pad r k) ≡ size
  one_long k = record_long raw pad r size refl pad_long k

  -- one record more lies in the block
  pub one_fits : (first last k i : ℕ) → first ≤ k → k + i ≤ last → (k - first) * size + i * size + size ≤ (last + 1 - first) * size
  one_fits first last k i le lt = omega (arith, times_le (k - first + i + 1) (last + 1 - first) size (omega arith))

  -- one record more is written
  pub one_written : (old plain : List ℕ) (at k i : ℕ) → plain ≡ put old at (records_put raw pad r i k) → at + i * size + size ≤ length old → put plain (at + i * size) (record_put raw pad r (k + i)) ≡ put old at (records_put raw pad r (i + 1) k)
  one_written old plain at k i e fits =
      let many = records_long raw pad r size refl pad_long i k in
      let place : at + i * size ≡ at + length (records_put raw pad r i k) = omega (arith, many) in
      ap (λ (xs : List ℕ). put xs (at + i * size) (record_put raw pad r (k + i))) e
      ∙ ap (λ (n : ℕ). put (put old at (records_put raw pad r i k)) n (record_put raw pad r (k + i))) place
      ∙ put_more old (records_put raw pad r i k) (record_put raw pad r (k + i)) at (omega (arith, many, one_long (k + i), fits))
      ∙ ap (put old at) (sym (one_more raw pad r i k))
