use Rattle.std.proofs.lemmas.Simd.{map-map}
use Rattle.cdf_index.proofs.collecting.index_records.Goals as goal

pub returns-clause-value : goal.returns-clause-value
returns-clause-value g c =
    let parts = c.in_ok-parts.ensures in
    simp (c.in_ok-extend_from_slice.ensures.items, c.in_ok-places.ensures, c.deref.ensures.value, c.deref-2.ensures.value, parts.leaves, parts.nodes, map-map)
