use Rattle.std.proofs.Common.{drop, ◌++◌, ◌≡◌}
use Rattle.std.specs.List.{flat_map}
use Rattle.byteorder.specs.Endian.{big_bytes}
use Rattle.cdf_writer.specs.declared.bodies.NodeEntry.{NodeEntry}
use Rattle.cdf_writer.proofs.index.push_lasts.Given as goal

abbrev pub invariant-loop-entry : goal.invariant-loop-entry
invariant-loop-entry l = record {
  pushed : l.body.items ++ flat_map (λ (e : NodeEntry). big_bytes 4 e.last) (drop l.entry-index l.entries) ≡ l.fn.body.items ++ flat_map (λ (e : NodeEntry). big_bytes 4 e.last) l.entries;
}
