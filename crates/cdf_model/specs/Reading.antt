-- What a record reads as (CDF User's Guide, Variables: pad values, sparse records).
use Rattle.std.specs.Prelude.{ℕ, List, nat_lt, if◌then◌else◌}
use Rattle.std.specs.List.{repeat}
use Rattle.std.specs.Option.{unwrap_or}
use Rattle.cdf_model.specs.declared.kinds.Sparse.{Sparse}
use Rattle.cdf_model.specs.declared.kinds.Sparse.TheVariants.{Previous}
use Rattle.cdf_model.specs.DataSet.{Variable, extent}
use Rattle.cdf_model.specs.Numbered.{item_at, item_before}
use Rattle.cdf_model.specs.Pads.{default_value}
use Rattle.cdf_model.specs.Place.{value_count}

-- a value where none was written
abbrev pub pad_value : Variable → List ℕ
pad_value v = unwrap_or v.pad (default_value v.type v.elems)

abbrev pub pad_record : Variable → List ℕ
pad_record v = repeat (value_count v.dims v.varys) (pad_value v)

-- a record that is missing
abbrev pub missing : Sparse → Variable → ℕ → List ℕ
missing Previous v r = unwrap_or (item_before r v.recs) (pad_record v)
missing rule v r = pad_record v

-- where records do not vary, the record of number 0 is read for each
abbrev pub number_read : Variable → ℕ → ℕ
number_read v r = if v.vary then r else 0

-- a record past the greatest number is a pad, under every rule
abbrev pub read_at : Variable → ℕ → List ℕ
read_at v r = if nat_lt r (extent v.max_rec) then unwrap_or (item_at r v.recs) (missing v.sparse v r) else pad_record v

abbrev pub read : Variable → ℕ → List ℕ
read v r = read_at v (number_read v r)
