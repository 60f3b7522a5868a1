use Rattle.std.proofs.Common.{Bool, length, subst, sym, ◌+◌, ◌≤◌}
use Rattle.cdf_blocks.specs.Blocks.{Overwritten, stored_end}
use Rattle.cdf_blocks.proofs.PlainWritten.{plain_written}
use Rattle.cdf_blocks.proofs.overwriting.overwrite_block.Goals as goal

pub returns-clause-written : goal.returns-clause-written
returns-clause-written g c =
    let b = g.A.Area.image c.args.area.now in
    let at = c.args.leaf.now.at in
    let xs = c.args.bytes.now in
    let room = subst (λ (p : Bool). at + stored_end p (length xs) ≤ length b) c.if-leaf.false c.requires.room in
    subst (λ (p : Bool). Overwritten b (g.A.Area.image c.set.new.self) at p xs) (sym c.if-leaf.false) (plain_written b (g.A.Area.image c.set.new.self) at xs c.in_ok-set.ensures.written room)
