use Rattle.std.proofs.Common.{ap, arith, length, refl, ◌≡◌, ◌≤◌}
use Rattle.cdf_area.proofs.Calls.{edit_done, edit_failed, edit_more, edits_by_read, keeps_by_read, read_once}
use Rattle.cdf_format.specs.Fields.{size_at}
use Rattle.cdf_format.specs.Index.{Leaf}
use Rattle.cdf_index.specs.Sight.{seen}
use Rattle.cdf_blocks.specs.Blocks.{stored_end}
use Rattle.cdf_blocks.proofs.StoringCalls.{few_bytes, goes_is, kept_is, leaf_again, record_lies, shortened_by_moving, shortened_by_writing}
use Rattle.cdf_blocks.proofs.storing.store_block.Goals as goal

pub keeps_record-requires-clause-lies : goal.keeps_record-requires-clause-lies
keeps_record-requires-clause-lies g c = let r = record_lies c.requires.leaf in omega (arith, r.0, r.1)

pub keeps_record-requires-clause-few : goal.keeps_record-requires-clause-few
keeps_record-requires-clause-few g c = few_bytes c.requires.leaf c.requires.limit

pub returns-in_err-keeps-clause-area : goal.returns-in_err-keeps-clause-area
returns-in_err-keeps-clause-area g c = edit_failed (record { frame = refl; faults = refl }) (edits_by_read c.in_err-keeps.ensures.area) c.from_residual.ensures.1

pub rewrite_block-requires-clause-leaf : goal.rewrite_block-requires-clause-leaf
rewrite_block-requires-clause-leaf g c = let k = kept_is c.in_ok-keeps.ensures.keeps c.if-keeps.true in leaf_again c.in_ok-keeps.ensures.area.image (λ i. (c.in_ok-keeps.ensures.area.frame i).limit) k.0 c.requires.leaf

pub rewrite_block-requires-clause-room : goal.rewrite_block-requires-clause-room
rewrite_block-requires-clause-room g c =
    let k : (c.args.leaf.now.packed ≡ c.args.packed) × (stored_end c.args.packed (length c.args.bytes.now) ≤ size_at (g.A.Area.image c.args.area.now) c.args.leaf.now.at) = kept_is c.in_ok-keeps.ensures.keeps c.if-keeps.true in
    rw (c.in_ok-keeps.ensures.area.image, k.0) k.1

pub returns-in_err-rewritten-clause-area : goal.returns-in_err-rewritten-clause-area
returns-in_err-rewritten-clause-area g c = edit_failed (keeps_by_read (read_once c.in_ok-keeps.ensures.area)) c.in_err-rewritten.ensures.area c.from_residual-in_err-rewritten.ensures.1

pub returns-then-keeps-clause-shortened : goal.returns-then-keeps-clause-shortened
returns-then-keeps-clause-shortened g c = λ kind before own after plain k. (let kept = kept_is c.in_ok-keeps.ensures.keeps c.if-keeps.true in shortened_by_writing k c.requires.limit (seen c.in_ok-rewritten.rewritten) kept.0 kept.1 (rw c.in_ok-keeps.ensures.area.image at c.in_ok-rewritten.ensures.rewritten) c.in_ok-rewritten.ensures.leaf)

pub returns-then-keeps-clause-first : goal.returns-then-keeps-clause-first
returns-then-keeps-clause-first g c = ap (λ (l : Leaf). l.first) c.in_ok-rewritten.ensures.leaf

pub returns-then-keeps-clause-last : goal.returns-then-keeps-clause-last
returns-then-keeps-clause-last g c = ap (λ (l : Leaf). l.last) c.in_ok-rewritten.ensures.leaf

pub returns-then-keeps-clause-area : goal.returns-then-keeps-clause-area
returns-then-keeps-clause-area g c = edit_done (edit_more (keeps_by_read (read_once c.in_ok-keeps.ensures.area)) c.in_ok-rewritten.ensures.area)

pub returns-in_err-new-clause-area : goal.returns-in_err-new-clause-area
returns-in_err-new-clause-area g c = edit_failed (keeps_by_read (read_once c.in_ok-keeps.ensures.area)) c.in_err-new.ensures.area c.from_residual-in_err-new.ensures.1

pub returns-clause-shortened : goal.returns-clause-shortened
returns-clause-shortened g c = λ kind before own after plain k. shortened_by_moving k c.requires.limit (seen c.in_ok-new.new) (rw c.in_ok-keeps.ensures.area.image at c.in_ok-new.ensures.moved) c.in_ok-new.ensures.first c.in_ok-new.ensures.last c.in_ok-new.ensures.packed (goes_is c.in_ok-keeps.ensures.keeps c.if-keeps.false)

pub returns-clause-area : goal.returns-clause-area
returns-clause-area g c = edit_done (edit_more (keeps_by_read (read_once c.in_ok-keeps.ensures.area)) c.in_ok-new.ensures.area)
