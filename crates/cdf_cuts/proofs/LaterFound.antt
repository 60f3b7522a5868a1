-- The leaf that has a record and later ones is the one that is found by the record, if it reaches past it.
use Rattle.cdf_cuts.proofs.Common.{Leaf, List, None, Some, ap, arith, sym, suc, ℕ, ◌+◌, ◌*◌, ◌<◌, ◌-◌, ◌∙◌, ◌≡◌, ◌≤◌, length, leaves_of, tile_lies, false}
use Rattle.cdf_edits.proofs.Common.{Good, Kind, VariableShape, record_bytes, record_number_limit, shape}
use Rattle.cdf_edits.proofs.Edits.Common.{StandsAmong, sound}
use Rattle.cdf_edits.proofs.Edits.LeafPieces.{IsOneOf, find_covering, place_in}
use Rattle.cdf_edits.proofs.Edits.LeafRecords.{Ascending}
use Rattle.cdf_edits.proofs.Edits.PlainLeaves.{plain_leaf}
use Rattle.cdf_edits.proofs.Edits.VariableCopied.{block_behind}
use Rattle.cdf_index.proofs.Common.{behind_in, leaf_of}
use Rattle.cdf_index.specs.Sight.{seen}
use Rattle.cdf_index.specs.declared.nodes.Leaf.{Leaf as FoundLeaf}
use Rattle.cdf_puts.proofs.PutBytes.{found_covering}
use Rattle.cdf_cuts.specs.Moving.{IsLater}
use Rattle.cdf_format.specs.Shape.{is_compressed}

pub later_some : {last : ℕ} (leaves : List Leaf) (found : FoundLeaf) → leaf_of last leaves ≡ Some (seen found) → last < found.last → IsLater last leaves (Some found)
later_some {last = last} leaves found e lt = let f = found_covering last leaves (seen found) e in (f.0, record { reaches = f.1.0; later = lt })

pub later_none : {last : ℕ} (leaves : List Leaf) → Ascending 0 (suc record_number_limit) leaves → leaf_of last leaves ≡ None → IsLater last leaves None
later_none {last = last} leaves a e l i h =
    let q : Some l ≡ None = sym (find_covering last 0 (suc record_number_limit) leaves a l i h.reaches (let t = h.later in omega arith)) ∙ e in
    absurd cc

pub later_ends : {last : ℕ} (leaves : List Leaf) (found : FoundLeaf) → Ascending 0 (suc record_number_limit) leaves → leaf_of last leaves ≡ Some (seen found) → found.last ≤ last → IsLater last leaves None
later_ends {last = last} leaves found a e le l i h =
    let q : Some l ≡ Some (seen found) = sym (find_covering last 0 (suc record_number_limit) leaves a l i h.reaches (let t = h.later in omega arith)) ∙ e in
    let same : l ≡ seen found = cc in
    absurd (omega (arith, h.later, le, ap (λ (x : Leaf). x.last) same))

-- its block has room for its records
pub found_room : {b : List ℕ} {kind : Kind} {before : List VariableShape} {own : VariableShape} {after : List VariableShape} (good : Good b) (at : StandsAmong b kind before own after) → is_compressed b own.vdr ≡ false → (found : FoundLeaf) → IsOneOf (leaves_of own.index) (seen found) → found.at + (12 + (found.last + 1 - found.first) * record_bytes b own.vdr) ≤ length b
found_room {b = b} {own = own} good at loose found i =
    let x = plain_leaf good at loose (seen found) i in
    omega (arith, x.room, (tile_lies b 8 (length b) (shape b).records found.at (sound good at).has_shape.tiled (behind_in good at found.at (block_behind own found.at (place_in (leaves_of own.index) (seen found) i)))).high)
