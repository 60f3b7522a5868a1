use Rattle.std.proofs.Common.{◌≡◌, ◌/◌, ◌%◌, ap, length, sym, ◌∙◌, arith}
use Rattle.std.proofs.Math.ListN.{length-set}
use Rattle.cdf_base.specs.Bytes.{put}
use Rattle.cdf_store.proofs.Joined.{Put, put_piece, put_over}
use Rattle.cdf_store.proofs.pieces.Pieces.put_page.Goals as goal

written : (c : goal.After-drop-index_mut) → Put c.self.inside.list.items c.args.place c.args.page c.args.page.items
written c =
    let bytes = ap (λ v. length v.bytes) c.self.view_is in
    let first : c.args.place % 65536 ≡ 0 = grind arith in
    let over = put_over c.index.result.now.items (c.args.place % 65536) c.args.page.items first (grind arith) in
    put_piece c.self.inside.list.items c.args.place c.index.result.now c.self.invariant.0 c.index.ensures (omega arith) (grind arith) c.args.page c.args.page.items (omega arith) c.requires.whole (sym over)

pub invariant_of-self : goal.invariant_of-self
invariant_of-self c = let r = written c in (r.pieces, omega (arith, r.size), omega (arith, c.self.invariant.2, length-set c.self.inside.list.items (c.args.place / 65536) c.args.page))

pub returns-then-len-clause-bytes : goal.returns-then-len-clause-bytes
returns-then-len-clause-bytes c = (written c).bytes ∙ ap (λ v. put v.bytes c.args.place c.args.page.items) c.self.view_is
