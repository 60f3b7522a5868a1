-- Where a record stands in its block.
use Rattle.cdf_index.proofs.Common.{HoldsRecords, List, drop, plain_bytes, plain_piece, record_bytes, record_in, seen, sym, take, ℕ, ◌*◌, ◌+◌, ◌-◌, ◌≡◌, ◌≤◌}
use Rattle.cdf_index.specs.declared.nodes.Leaf.{Leaf}

pub record_is : (b : List ℕ) (leaf : Leaf) (size rec vdr : ℕ) → HoldsRecords b leaf size → leaf.first ≤ rec → rec ≤ leaf.last → record_bytes b vdr ≡ size
    → take size (drop (leaf.at + (12 + (rec - leaf.first) * size)) b) ≡ record_in (plain_bytes b vdr (seen leaf)) size (rec - leaf.first)
record_is b leaf size rec vdr holds from upto is = sym (plain_piece b vdr size rec (seen leaf) holds.plain holds.small is from upto)
