-- The plain bytes of the block of a leaf, packed or not, as they are read (own).
use Rattle.std.specs.Prelude.{◌≡◌, ◌≤◌, ℕ, ◌+◌, ◌-◌, ◌*◌, List, length, true, false}
use Rattle.cdf_format.specs.Fields.{LiesIn, number}
use Rattle.cdf_format.specs.Index.{Leaf}
use Rattle.cdf_format.specs.IndexRules.{unpacks_to}
use Rattle.cdf_format.specs.Records.{cvvr_c_size, cvvr_packed, vvr_bytes}
use Rattle.cdf_format.specs.Stored.{packed_bytes}
use Rattle.cdf_model.specs.Limits.{image_limit}
use Rattle.cdf_model.specs.Place.{record_limit}

-- how many plain bytes the block of a leaf has whose records have so many each
abbrev pub block_size : Leaf → ℕ → ℕ
block_size l size = (l.last + 1 - l.first) * size

-- The block of a leaf has so many plain bytes: it lies in the image, and where it is packed, its bytes stand for just so many.
pub record PlainStands (b : List ℕ) (l : Leaf) (size : ℕ) : Type 0 where
  pub loose : l.packed ≡ false → l.place + vvr_bytes size ≤ length b
  pub inside : l.packed ≡ true → LiesIn b l.place (cvvr_packed (number b l.place cvvr_c_size))
  pub fits : l.packed ≡ true → unpacks_to (packed_bytes b l.place) size ≡ true
  pub small : size ≤ image_limit
  pub packed_small : l.packed ≡ true → size ≤ record_limit
