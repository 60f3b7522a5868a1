use Rattle.std.proofs.Common.{drop, map, ◌++◌, ◌≡◌}
use Rattle.std.specs.List.{flat_map}
use Rattle.byteorder.specs.Endian.{big_bytes}
use Rattle.cdf_writer.specs.Bodies.{vary_code}
use Rattle.cdf_writer.proofs.variables.push_varys.Given as goal

abbrev pub invariant-loop-varies : goal.invariant-loop-varies
invariant-loop-varies l = record {
  pushed : l.bytes.items ++ flat_map (big_bytes 4) (map vary_code (drop l.varies-index l.varys)) ≡ l.fn.bytes.items ++ flat_map (big_bytes 4) (map vary_code l.varys);
}
