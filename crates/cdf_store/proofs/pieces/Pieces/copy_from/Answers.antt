use Rattle.std.proofs.Common.{arith, subst}
use Rattle.cdf_store.specs.Reading.{ReadsPiece}
use Rattle.cdf_store.proofs.Joined.{joined_bound, read_piece}
use Rattle.cdf_store.proofs.pieces.Pieces.copy_from.Goals as goal

pub index-requires : goal.index-requires
index-requires c = let bound = joined_bound c.self.inside.list.items c.self.invariant.0 in grind arith

pub returns : goal.returns
returns c =
    let bound = joined_bound c.self.inside.list.items c.self.invariant.0 in
    let given = read_piece c.self.inside.list.items c.args.place c.index.result.now c.self.invariant.0 c.index.ensures (omega arith) (omega arith) c.copy_from.result c.copy_from.new.out (rw c.deref.ensures.value at c.copy_from.ensures) in
    subst (λ v. ReadsPiece v.bytes c.args.place c.copy_from.new.out c.copy_from.result) c.self.view_is given
