-- rMaxRec, which no rule reads (CDF Internal Format Description, "Global Descriptor Record": rMaxRec; own: only a command that changes the MaxRec of an r variable writes it).
use Rattle.std.specs.Prelude.{◌≡◌, ℕ, ℤ, max, List, map, bytes_eq, if◌then◌else◌}
use Rattle.std.specs.List.{fold}
use Rattle.cdf_model.specs.DataSet.{DataSet, extent}
use Rattle.cdf_model.specs.RecordSteps.{last_number}
use Rattle.cdf_format.specs.Content.{content}
use Rattle.cdf_format.specs.Fields.{integer4, gdr_offset}
use Rattle.cdf_format.specs.Records.{gdr_r_max_rec}

abbrev pub r_extents : DataSet → List ℕ
r_extents d = map (λ v. extent v.max_rec) d.r_variables

-- the greatest MaxRec of the r variables, or -1
abbrev pub greatest_r_max_rec : DataSet → ℤ
greatest_r_max_rec d = last_number (fold max 0 (r_extents d))

abbrev pub r_max_rec : List ℕ → ℤ
r_max_rec b = integer4 b (gdr_offset b) gdr_r_max_rec

-- it is written where the MaxRec of an r variable changes
abbrev pub RMaxRecFollows : List ℕ → List ℕ → Type 0
RMaxRecFollows b now = r_max_rec now ≡ (if bytes_eq (r_extents (content b)) (r_extents (content now)) then r_max_rec b else greatest_r_max_rec (content now))
