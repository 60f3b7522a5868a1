use Rattle.cdf_leaves.proofs.adding.put_along.Goals as goal

pub widen_way-requires-clause-stands : goal.widen_way-requires-clause-stands
widen_way-requires-clause-stands g c = rw c.deref.ensures.value (c.requires.stands _ _ c.in_ok-at.ensures.put)
