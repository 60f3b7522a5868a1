use Rattle.cdf_var_records.proofs.Common.{List, ap, arith, bound_is, firsts_of, index_at, least_first_past, leaves_of, next_first, option_map, record_number_limit, seen, suc, sym, ℕ, ◌∙◌, ◌≡◌}
use Rattle.cdf_edits.proofs.Edits.LeafPieces.{InOrder, in_order}
use Rattle.cdf_puts.proofs.PutBytes.{found_covering}
use Rattle.cdf_var_records.proofs.PackedRoomCount.{leaf_block, no_block}
use Rattle.cdf_var_records.proofs.packed_room.read_block_room.Given.{Over}
use Rattle.cdf_var_records.proofs.packed_room.read_block_room.Goals.{In-Some}
use Rattle.cdf_var_records.proofs.packed_room.read_block_room.Goals as goal

-- the leaf that is found is one of the index
found_order : (g : Over) (c : In-Some g) → InOrder 0 (suc record_number_limit) (seen c.in-Some.leaf)
found_order g c =
    let leaves = leaves_of (index_at (g.A.Area.image c.args.area.now) c.args.search.now.head) in
    let found = sym c.in_ok-found.ensures.value ∙ ap (option_map seen) c.in-Some.is in
    in_order 0 (suc record_number_limit) leaves c.requires.order (seen c.in-Some.leaf) (found_covering c.args.search.now.rec leaves (seen c.in-Some.leaf) found).0

pub overflow_add-result : goal.overflow_add-result
overflow_add-result g c = let o = found_order g (goal.at.overflow_add-result g c).In-Some in omega (arith, o.before)

pub room_of-requires-clause-order : goal.room_of-requires-clause-order
room_of-requires-clause-order g c = (found_order g (goal.at.room_of-requires-clause-order g c).In-Some).ordered

pub returns-in-Some-clause-room : goal.returns-in-Some-clause-room
returns-in-Some-clause-room g c =
    let nodes = index_at (g.A.Area.image c.args.area.now) c.args.search.now.head in
    let o = found_order g (goal.at.returns-in-Some-clause-room g c).In-Some in
    let found = sym c.in_ok-found.ensures.value ∙ ap (option_map seen) c.in-Some.is in
    leaf_block nodes c.args.rec_bytes c.args.search.now.rec (seen c.in-Some.leaf) c.room_of.result c.requires.order found (omega (arith, o.before)) c.room_of.ensures

pub returns-clause-room : goal.returns-clause-room
returns-clause-room g c =
    let nodes = index_at (g.A.Area.image c.args.area.now) c.args.search.now.head in
    let same = c.leaf.ensures.area.image in
    let next : c.unwrap_or.result ≡ next_first c.args.search.now.rec (firsts_of nodes) = c.unwrap_or.ensures ∙ bound_is nodes c.args.search.now.rec c.in_ok-next.next (c.in_ok-next.ensures.value ∙ ap (λ (x : List ℕ). least_first_past c.args.search.now.rec (index_at x c.args.search.now.head)) same) in
    let none = sym c.in_ok-found.ensures.value ∙ ap (option_map seen) c.in_default.is in
    no_block nodes c.args.rec_bytes c.args.search.now.rec c.unwrap_or.result none c.requires.within next
