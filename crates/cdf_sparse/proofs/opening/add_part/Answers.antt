use Rattle.cdf_cuts.proofs.Common.{arith, inl, subst, sym, ◌∙◌}
use Rattle.cdf_edits.proofs.Common.{Good}
use Rattle.cdf_index.proofs.OneVariable.{one_of}
use Rattle.cdf_cuts.proofs.CutCalls as by
use Rattle.cdf_sparse.proofs.opening.add_part.Goals as goal

pub overflow_add-vdr : goal.overflow_add-vdr
overflow_add-vdr g c = let one = one_of (g.A.Area.image c.args.area.now) c.args.vdr c.requires.vdr in omega (arith, by.head_lies _ c.requires.good one.among one.vdr_is, c.requires.room, c.requires.limit)

pub read_unsigned8-requires : goal.read_unsigned8-requires
read_unsigned8-requires g c = let one = one_of (g.A.Area.image c.args.area.now) c.args.vdr c.requires.vdr in omega (arith, by.head_lies _ c.requires.good one.among one.vdr_is)

pub start_of-requires-clause-index : goal.start_of-requires-clause-index
start_of-requires-clause-index g c =
    let one = one_of (g.A.Area.image c.args.area.now) c.args.vdr c.requires.vdr in
    rw (c.in_ok-head.ensures.area.image, c.in_ok-head.ensures.value) (by.index_is _ c.requires.good one.among one.vdr_is).0

pub add_leaf-requires-clause-good : goal.add_leaf-requires-clause-good
add_leaf-requires-clause-good g c = subst Good (sym (c.in_ok-start.ensures.area.image ∙ c.in_ok-head.ensures.area.image)) c.requires.good

pub add_leaf-requires-clause-block : goal.add_leaf-requires-clause-block
add_leaf-requires-clause-block g c = inl c.requires.block

pub returns-clause-added : goal.returns-clause-added
returns-clause-added g c = let same = c.in_ok-start.ensures.area.image ∙ c.in_ok-head.ensures.area.image in rw same at c.add_leaf.ensures.added
