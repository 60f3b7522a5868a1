use Rattle.cdf_vars.proofs.Common.{big_bytes, drop, flat_map, map, vary_code, ◌++◌, ◌≡◌}
use Rattle.cdf_vars.proofs.descriptor.push_varys.Given as goal

abbrev pub invariant-loop-varies : goal.invariant-loop-varies
invariant-loop-varies l = record {
  pushed : l.bytes.items ++ flat_map (big_bytes 4) (map vary_code (drop l.varies-index l.varys)) ≡ l.fn.bytes.items ++ flat_map (big_bytes 4) (map vary_code l.varys);
}
