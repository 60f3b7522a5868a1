-- What the rules say of a variable of a good image in which records are put: one that is not packed has no CPR.
use Rattle.cdf_puts.proofs.Common.{Good, Kind, List, StandsAmong, VariableShape, [], cuts_before_put, false, is_compressed, refl, ℕ, ◌≡◌, Nodes, Variable, firsts_before_put, firsts_of, next_first, ranges_before_put, ranges_of}
use Rattle.cdf_edits.proofs.Edits.PlainLeaves.{uncompressed}

-- ---- where nothing has to be cut, a put begins with the index as it is

pub uncut_ranges : (v : Variable) (index : Nodes) (r : ℕ) → cuts_before_put v r ≡ false → ranges_before_put v index r ≡ ranges_of index
uncut_ranges v index r uncut = rw uncut refl

pub uncut_nexts : (v : Variable) (index : Nodes) (r m : ℕ) → cuts_before_put v r ≡ false → next_first m (firsts_before_put v index r) ≡ next_first m (firsts_of index)
uncut_nexts v index r m uncut = rw uncut refl

-- ---- what the rules say

module _ {b : List ℕ} {kind : Kind} {before : List VariableShape} {own : VariableShape} {after : List VariableShape} (good : Good b) (at : StandsAmong b kind before own after) where
  pub no_cpr : is_compressed b own.vdr ≡ false → own.cpr ≡ []
  no_cpr loose = (uncompressed good at loose).no_cpr
