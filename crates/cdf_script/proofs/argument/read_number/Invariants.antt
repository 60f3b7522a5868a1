use Rattle.std.proofs.Common.{◌≡◌, ◌^◌, ◌<◌, drop}
use Rattle.std.specs.List.{fold}
use Rattle.cdf_model.specs.Arguments.{value}
use Rattle.cdf_script.proofs.Numbers.{longer}
use Rattle.cdf_script.proofs.argument.read_number.Given as goal

abbrev pub invariant-loop-byte : goal.invariant-loop-byte
invariant-loop-byte l = record {
  so_far : value l.word ≡ fold longer l.number (drop l.byte-index l.word);
  fits : l.number < 2 ^ 32;
}
