-- The head of a data set from the records that have it.
use Rattle.std.specs.Prelude.{ℕ, List}
use Rattle.std.specs.Int.{w32, cast_unsigned}
use Rattle.cdf_format.specs.Content.{majority_of}
use Rattle.cdf_format.specs.Fields.{has_bit}
use Rattle.cdf_format.specs.Records.{cdr_majority_bit, cdr_checksum_bit}
use Rattle.cdf_model.specs.declared.head.Head.{Head}
use Rattle.cdf_records.specs.declared.cdr.Cdr.{Cdr}
use Rattle.cdf_records.specs.declared.gdr.Gdr.{Gdr}

abbrev pub head_with : Cdr → Gdr → List ℕ → Head
head_with cdr gdr rdims = record {
  version = cdr.version;
  release = cdr.release;
  increment = cdr.increment;
  encoding = cast_unsigned w32 cdr.encoding;
  majority = majority_of (has_bit cdr.flags cdr_majority_bit);
  md5 = has_bit cdr.flags cdr_checksum_bit;
  rdims = rdims;
  attrs = cast_unsigned w32 gdr.num_attr;
  rvars = cast_unsigned w32 gdr.nr_vars;
  zvars = cast_unsigned w32 gdr.nz_vars;
}
