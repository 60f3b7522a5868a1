use Rattle.cdf_structure.proofs.Common.{Block, IsFor, IsToldOf, map, take, ◌++◌, ◌∷◌}
use Rattle.cdf_structure.proofs.indexes.own.Given as goal

abbrev pub invariant-loop-block : goal.invariant-loop-block
invariant-loop-block l = record {
  marks : IsFor l.tiles l.owners;
  told : IsToldOf l.tiles (l.fn.variable.vdr ∷ l.fn.index.nodes.list.items ++ map (λ (block : Block). block.place) (take l.block-index l.fn.index.blocks.items)) l.fn.owners l.owners;
}
