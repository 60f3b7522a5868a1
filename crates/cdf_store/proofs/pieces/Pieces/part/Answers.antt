use Rattle.std.proofs.Common.{◌≡◌, ◌∙◌, ℕ, ◌+◌, ◌-◌, ◌%◌, List, drop, take, length, ap, arith}
use Rattle.cdf_store.proofs.Joined.{joined_bound, lend_piece}
use Rattle.cdf_store.proofs.pieces.Pieces.part.Goals as goal

pub index-piece-requires : goal.index-piece-requires
index-piece-requires c =
    let bound = joined_bound c.self.inside.list.items c.self.invariant.0 in
    let bytes = ap (λ v. length v.bytes) c.self.view_is in
    omega (arith, bound, bytes)

pub slice_bounds-result-end-2 : goal.slice_bounds-result-end-2
slice_bounds-result-end-2 c =
    let bound = joined_bound c.self.inside.list.items c.self.invariant.0 in
    let bytes = ap (λ v. length v.bytes) c.self.view_is in
    let lent = lend_piece c.self.inside.list.items c.args.place c.index-piece.result.now c.self.invariant.0 c.index-piece.ensures (omega (arith, bytes)) (omega (arith, bound, bytes)) c.args.count c.requires.piece (omega (arith, bytes, c.requires.inside)) in
    omega (arith, lent.0, c.deref.ensures.len)

pub returns : goal.returns
returns c =
    let bound = joined_bound c.self.inside.list.items c.self.invariant.0 in
    let bytes = ap (λ v. length v.bytes) c.self.view_is in
    let lent = lend_piece c.self.inside.list.items c.args.place c.index-piece.result.now c.self.invariant.0 c.index-piece.ensures (omega (arith, bytes)) (omega (arith, bound, bytes)) c.args.count c.requires.piece (omega (arith, bytes, c.requires.inside)) in
    let count : c.args.place % 65536 + c.args.count - c.args.place % 65536 ≡ c.args.count = omega arith in
    ap (λ n. take n (drop (c.args.place % 65536) c.deref.result.now)) count
    ∙ ap (λ (l : List ℕ). take c.args.count (drop (c.args.place % 65536) l)) c.deref.ensures.value
    ∙ lent.1 ∙ ap (λ v. take c.args.count (drop c.args.place v.bytes)) c.self.view_is
