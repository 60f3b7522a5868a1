use Rattle.std.proofs.Common.{drop, ◌++◌, ◌≡◌}
use Rattle.std.specs.List.{flat_map}
use Rattle.byteorder.specs.Endian.{big_bytes}
use Rattle.cdf_writer.proofs.bodies.push_numbers.Given as goal

abbrev pub invariant-loop-number : goal.invariant-loop-number
invariant-loop-number l = record {
  pushed : l.bytes.items ++ flat_map (big_bytes 4) (drop l.number-index l.numbers) ≡ l.fn.bytes.items ++ flat_map (big_bytes 4) l.numbers;
}
