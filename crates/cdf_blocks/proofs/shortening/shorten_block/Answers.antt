use Rattle.std.proofs.Common.{false, true}
use Rattle.std.proofs.lemmas.Result.{IfOk-weaker}
use Rattle.cdf_blocks.specs.Blocks.{StoredAs}
use Rattle.cdf_blocks.proofs.StoringCalls.{has_leaf, leaf_of, stored_packed, stored_plain}
use Rattle.cdf_blocks.proofs.shortening.shorten_block.Goals as goal

pub store_block-requires-clause-leaf : goal.store_block-requires-clause-leaf
store_block-requires-clause-leaf g c =
    has_leaf true c.deref.result.now
    (rw c.deref.ensures.value (stored_packed c.args.plain.now c.in-Some.runs.items (rw c.in-Some.is at c.in_ok-packed.ensures.chosen) (rw c.in-Some.is at c.in_ok-packed.ensures.packs) (rw c.in-Some.is at c.in_ok-packed.ensures.longest) (rw c.in-Some.is at c.in_ok-packed.ensures.worth)))
    c.requires.leaf

pub store_block-requires-in-None-clause-leaf : goal.store_block-requires-in-None-clause-leaf
store_block-requires-in-None-clause-leaf g c = has_leaf false c.args.plain.now (stored_plain c.args.plain.now (rw c.in-None.is at c.in_ok-packed.ensures.chosen)) c.requires.leaf

pub returns-in-Some-clause-shortened : goal.returns-in-Some-clause-shortened
returns-in-Some-clause-shortened g c =
    let stored : StoredAs c.args.plain.now true c.deref.result.now = rw c.deref.ensures.value (stored_packed c.args.plain.now c.in-Some.runs.items (rw c.in-Some.is at c.in_ok-packed.ensures.chosen) (rw c.in-Some.is at c.in_ok-packed.ensures.packs) (rw c.in-Some.is at c.in_ok-packed.ensures.longest) (rw c.in-Some.is at c.in_ok-packed.ensures.worth)) in
    IfOk-weaker c.store_block.result _ _ (λ new shortened kind before own after p. shortened kind before own after c.args.plain.now (leaf_of true c.deref.result.now stored p)) c.store_block.ensures.shortened

pub returns-in-None-clause-shortened : goal.returns-in-None-clause-shortened
returns-in-None-clause-shortened g c =
    IfOk-weaker c.store_block-in-None.result _ _ (λ new shortened kind before own after p. shortened kind before own after c.args.plain.now (leaf_of false c.args.plain.now (stored_plain c.args.plain.now (rw c.in-None.is at c.in_ok-packed.ensures.chosen)) p)) c.store_block-in-None.ensures.shortened
