use Rattle.cdf_var_records.proofs.Common.{List, Nodes, Variable, ap, ap₂, arith, extent, index_at, ranges_of, record_number_limit, shared_room, subst, true, variable_at, ℕ, ◌∙◌, ◌≡◌}
use Rattle.cdf_edits.specs.Index.Blocks.{record_length}
use Rattle.cdf_var_records.proofs.PackedRoomCount.{cut_rewrites, flag_is, uncut_rewrites}
use Rattle.cdf_var_records.proofs.RecordReading.{lies, record_size_is}
use Rattle.cdf_var_records.proofs.packed_room.read_packed_room.Given.{Over}
use Rattle.cdf_var_records.proofs.packed_room.read_packed_room.Goals.{In_ok-extent}
use Rattle.cdf_var_records.proofs.packed_room.read_packed_room.Goals as goal
use Rattle.std.specs.Prelude.{IfOk}

pub read_extent-requires : goal.read_extent-requires
read_extent-requires g c = let l = lies c.requires.good c.requires.form in omega arith

abbrev v : (g : Over) (c : In_ok-extent g) → Variable
v g c = variable_at (g.A.Area.image c.args.area.now) c.args.form.now.place.vdr

abbrev nodes : (g : Over) (c : In_ok-extent g) → Nodes
nodes g c = index_at (g.A.Area.image c.args.area.now) c.args.head

-- the variable is packed, and so long are its records
is_packed : (g : Over) (c : In_ok-extent g) → (v g c).rle ≡ true
is_packed g c = flag_is (g.A.Area.image c.args.area.now) c.args.form.now.place.vdr c.requires.form.place.flags_are c.says_packed.ensures ∙ c.if-not-says_packed.false

size_is : (g : Over) (c : In_ok-extent g) → c.record_size_of-rec_bytes.result ≡ record_length (v g c)
size_is g c = c.record_size_of-rec_bytes.ensures ∙ record_size_is c.requires.good c.requires.form

pub returns-then-extent-from-clause-room : goal.returns-then-extent-from-clause-room
returns-then-extent-from-clause-room g c =
    let here = (goal.at.returns-then-extent-from-clause-room g c).In_ok-extent in
    let count : c.in_ok-extent.extent ≡ extent (v g here).max_rec = c.in_ok-extent.ensures.extent in
    let all = cut_rewrites (v g here) (nodes g here) c.args.rec c.args.from c.record_size_of-rec_bytes.result (is_packed g here) c.requires.from (size_is g here) c.requires.within c.requires.order (omega (arith, count, c.if-extent-from.true)) in
    let same = ap₂ (λ (k : ℕ) (x : List ℕ). shared_room c.record_size_of-rec_bytes.result k record_number_limit (ranges_of (index_at x c.args.head))) count c.read_extent.ensures.area.image in
    subst (λ (n : ℕ). IfOk c.read_shared_room.result (λ room. room ≡ n)) (same ∙ all) c.read_shared_room.ensures.room

pub returns-clause-room : goal.returns-clause-room
returns-clause-room g c =
    let here = (goal.at.returns-clause-room g c).In_ok-extent in
    let count : c.in_ok-extent.extent ≡ extent (v g here).max_rec = c.in_ok-extent.ensures.extent in
    let all = uncut_rewrites (v g here) (nodes g here) c.args.rec c.args.from c.record_size_of-rec_bytes.result (is_packed g here) c.requires.from (size_is g here) (omega (arith, count, c.if-extent-from.false)) in
    let same = ap (λ (x : List ℕ). shared_room c.record_size_of-rec_bytes.result c.args.from c.args.rec (ranges_of (index_at x c.args.head))) c.read_extent.ensures.area.image in
    subst (λ (n : ℕ). IfOk c.read_shared_room-2.result (λ room. room ≡ n)) (same ∙ all) c.read_shared_room-2.ensures.room
