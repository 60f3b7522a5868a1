-- What of an image stays in another one: the bytes of a record, what the CDR and the GDR say of other records, and the sizes and types of records (own).
use Rattle.std.specs.Prelude.{◌≡◌, ◌≤◌, ℕ, ◌+◌, List, length}
use Rattle.cdf_format.specs.Bytes.{Same}
use Rattle.cdf_format.specs.Fields.{gdr_offset, r_num_dims, r_sizes, size_at, type_at}
use Rattle.cdf_format.specs.Shape.{shape}
use Rattle.cdf_format.specs.Stored.{is_little}
use Rattle.cdf_format.specs.Tiles.{In}

-- what the CDR and the GDR say of other records
pub record FileSame (b now : List ℕ) : Type 0 where
  pub longer : length b ≤ length now
  pub gdr_is : gdr_offset now ≡ gdr_offset b
  pub little : is_little now ≡ is_little b
  pub dimensions : r_num_dims now (gdr_offset now) ≡ r_num_dims b (gdr_offset b)
  pub sizes : r_sizes now (gdr_offset now) ≡ r_sizes b (gdr_offset b)

-- the bytes of a record
pub record Kept (b now : List ℕ) (m : ℕ) : Type 0 where
  pub same : Same b now m (m + size_at b m)
  pub inside : m + size_at b m ≤ length b
  pub long : 12 ≤ size_at b m

-- a record that stands in both images with its bytes
pub record Stood (b now : List ℕ) (m : ℕ) : Type 0 where
  pub stands : In m (shape now).records
  pub whole : Kept b now m

-- the sizes and types of records, which may be more now
pub record SameHeads (b now records records' : List ℕ) : Type 0 where
  pub sizes : (m : ℕ) → In m records → size_at now m ≡ size_at b m
  pub types : (m : ℕ) → In m records → type_at now m ≡ type_at b m
  pub sub : (m : ℕ) → In m records → In m records'
