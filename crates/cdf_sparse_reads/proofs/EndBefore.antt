-- Where the records before a bound end that leaves have, by the last leaf that begins before it.
use Rattle.cdf_edits.proofs.Common.{Leaf, List, None, Some, arith, min, sym, ℕ, ◌+◌, ◌-◌, ◌<◌, ◌∙◌, ◌≡◌}
use Rattle.cdf_edits.proofs.Edits.LeafRecords.{Ascending}
use Rattle.cdf_index.specs.Order.{leaf_of}
use Rattle.cdf_var_records.proofs.LeafItems.{same_leaf}
use Rattle.cdf_var_records.proofs.PreviousRecord.{IsLast, last_is, none_begins}
use Rattle.cdf_var_records.specs.Previous.{last_begun}
use Rattle.cdf_sparse_reads.specs.Left.{IsEnd}

module _ (bound : ℕ) (leaves : List Leaf) (some : 0 < bound) where
  -- no leaf begins before the bound
  pub none_before : last_begun (bound - 1) leaves ≡ None → IsEnd leaves bound 0
  none_before e = record { inside = omega arith; none = λ k low lt. none_begins (bound - 1) k leaves e (omega arith); has = λ some. absurd (omega arith) }

  -- the last one that does reaches up to the bound, or ends before it
  pub last_before : (upto : ℕ) (l : Leaf) → Ascending 0 upto leaves → Some l ≡ last_begun (bound - 1) leaves → IsEnd leaves bound (min l.last (bound - 1) + 1)
  last_before upto l a e = record { inside = omega arith; none = λ k low lt. is.none k (omega arith) (omega arith); has = λ some gone. absurd (let q : Some l ≡ None = sym (there (min l.last (bound - 1) + 1 - 1) (omega arith)) ∙ gone in cc) }
    where
      is : IsLast (bound - 1) leaves l
      is = last_is (bound - 1) 0 upto leaves l a (sym e)

      there : (m : ℕ) → m ≡ min l.last (bound - 1) → leaf_of m leaves ≡ Some l
      there m same = same_leaf l.last m 0 upto leaves l a is.has (let begins = is.begins in let ordered = is.ordered in omega arith) (omega arith)
