use Rattle.cdf_cuts.proofs.Common.{List, ap, arith, length, ℕ, ◌+◌, ◌∙◌, ◌≡◌, ◌≤◌}
use Rattle.std.specs.Prelude.{drop, take}
use Rattle.std.proofs.lemmas.List.{length-drop, length-take}
use Rattle.cdf_cuts.proofs.PiecesMoved.{piece_moved}
use Rattle.cdf_cuts.proofs.moving.move_piece.Goals as goal

whole_piece : (b : List ℕ) (from count : ℕ) → from + count ≤ length b → length (take count (drop from b)) ≡ count
whole_piece b from count room = grind (arith, length-drop {A = ℕ}, length-take {A = ℕ})

pub returns-clause-moved : goal.returns-clause-moved
returns-clause-moved g c =
    let written = rw (c.in_ok-piece.ensures.area.image, c.deref.ensures.value) at c.in_ok-set.ensures.written in
    piece_moved _ _ c.in_ok-piece.piece.items c.args.from c.args.to c.args.count c.requires.order c.requires.room (ap length c.in_ok-piece.ensures.bytes ∙ whole_piece _ c.args.from c.args.count c.requires.room) c.in_ok-piece.ensures.bytes written
