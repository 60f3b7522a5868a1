use Rattle.cdf_vars.proofs.Common.{big_bytes, drop, flat_map, length, ◌++◌, ◌∷◌, ◌≡◌}
use Rattle.cdf_vars.proofs.descriptor.push_sizes.Given as goal

abbrev pub invariant-loop-size : goal.invariant-loop-size
invariant-loop-size l = record {
  pushed : l.bytes.items ++ flat_map (big_bytes 4) (drop l.size-index l.dims) ≡ l.fn.bytes.items ++ flat_map (big_bytes 4) (length l.dims ∷ l.dims);
}
