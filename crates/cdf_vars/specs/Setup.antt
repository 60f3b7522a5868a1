-- What the steps of `setup` leave of an image (own).
use Rattle.std.specs.Prelude.{◌≡◌, ℕ, ◌+◌, ◌-◌, ◌^◌, ◌<◌, List, length, take, drop}
use Rattle.cdf_base.specs.Bytes.{put}
use Rattle.cdf_edits.specs.Space.Giving.{IsGiven}
use Rattle.cdf_edits.specs.Space.Taking.{IsTaken}
use Rattle.cdf_format.specs.Fields.{LiesIn, with_field, gdr_offset}
use Rattle.cdf_format.specs.NewFile.{of_4_bytes}
use Rattle.cdf_format.specs.Records.{past, record_size, cdr_place, cdr_gdr_offset, cdr_encoding, cdr_flags, gdr_bytes, gdr_r_num_dims, gdr_r_dim_sizes}
use Rattle.cdf_format.specs.Shape.{shape}

-- rNumDims and rDimSizes of the GDR at a place are written
abbrev pub with_dims : List ℕ → ℕ → List ℕ → List ℕ
with_dims b gdr dims = put (with_field b gdr gdr_r_num_dims (length dims)) (gdr + (gdr_r_dim_sizes (length dims)).place) (of_4_bytes dims)

-- GDRoffset, Encoding and Flags of the CDR are written
abbrev pub with_cdr : List ℕ → ℕ → ℕ → ℕ → List ℕ
with_cdr b gdr code bits = with_field (with_field (with_field b cdr_place cdr_gdr_offset gdr) cdr_place cdr_encoding code) cdr_place cdr_flags bits

-- The dimensions are written into the GDR at a place, and then the CDR, which leads to it; they lie in the image, and each number has room in its field.
pub record WritesHeads (b now : List ℕ) (gdr code bits : ℕ) (dims : List ℕ) : Type 0 where
  pub mid : List ℕ
  pub dims_are : mid ≡ with_dims b gdr dims
  pub cdr_is : now ≡ with_cdr mid gdr code bits
  pub lies : LiesIn b gdr (gdr_r_dim_sizes (length dims))
  pub gdr_fits : gdr < 256 ^ cdr_gdr_offset.width
  pub code_fits : code < 256 ^ cdr_encoding.width
  pub bits_fit : bits < 256 ^ cdr_flags.width

-- the bytes of a GDR between its size and the sizes of its dimensions
abbrev pub gdr_fields : List ℕ → ℕ → List ℕ
gdr_fields b gdr = take (gdr_bytes 0 - past record_size) (drop (gdr + past record_size) b)

-- A GDR was made at a place, and the CDR says that it is the one; the old one still stands.
pub record MakesGdr (b late : List ℕ) (code bits : ℕ) (dims : List ℕ) (place : ℕ) : Type 0 where
  pub taken : List ℕ
  pub copied : List ℕ
  pub is_taken : IsTaken b taken (shape b) (shape taken) (gdr_bytes (length dims)) place
  pub copy : copied ≡ put taken (place + past record_size) (gdr_fields taken (gdr_offset b))
  pub heads : WritesHeads copied late place code bits dims

-- Then the old one was freed.
pub record MovesGdr (b now : List ℕ) (code bits : ℕ) (dims : List ℕ) : Type 0 where
  pub place : ℕ
  pub late : List ℕ
  pub made : MakesGdr b late code bits dims place
  pub given : IsGiven late now (shape late) (shape now) (gdr_offset b)
