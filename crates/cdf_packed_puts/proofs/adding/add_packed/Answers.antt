use Rattle.std.proofs.Common.{false, true}
use Rattle.std.proofs.lemmas.Result.{on_ok_weaker}
use Rattle.cdf_blocks.specs.Blocks.{StoredAs}
use Rattle.cdf_blocks.proofs.StoringCalls.{stored_packed, stored_plain}
use Rattle.cdf_packed_puts.proofs.AddingCalls.{has_stored}
use Rattle.cdf_packed_puts.proofs.adding.add_packed.Goals as goal

pub add_stored-requires-clause-vacancy : goal.add_stored-requires-clause-vacancy
add_stored-requires-clause-vacancy g c =
    has_stored true c.deref.result.now
    (rw c.deref.ensures.value (stored_packed c.args.plain.now c.in-Some.runs.items (rw c.in-Some.is at c.in_ok-packed.ensures.chosen) (rw c.in-Some.is at c.in_ok-packed.ensures.packs) (rw c.in-Some.is at c.in_ok-packed.ensures.longest) (rw c.in-Some.is at c.in_ok-packed.ensures.worth)))
    c.requires.vacancy

pub add_stored-requires-in-None-clause-vacancy : goal.add_stored-requires-in-None-clause-vacancy
add_stored-requires-in-None-clause-vacancy g c = has_stored false c.args.plain.now (stored_plain c.args.plain.now (rw c.in-None.is at c.in_ok-packed.ensures.chosen)) c.requires.vacancy

pub returns-in-Some-clause-added : goal.returns-in-Some-clause-added
returns-in-Some-clause-added g c =
    let stored : StoredAs c.args.plain.now true c.deref.result.now = rw c.deref.ensures.value (stored_packed c.args.plain.now c.in-Some.runs.items (rw c.in-Some.is at c.in_ok-packed.ensures.chosen) (rw c.in-Some.is at c.in_ok-packed.ensures.packs) (rw c.in-Some.is at c.in_ok-packed.ensures.longest) (rw c.in-Some.is at c.in_ok-packed.ensures.worth)) in
    on_ok_weaker c.add_stored.result (λ added kind before own after v. added kind before own after c.args.plain.now v stored) c.add_stored.ensures.added

pub returns-in-None-clause-added : goal.returns-in-None-clause-added
returns-in-None-clause-added g c =
    on_ok_weaker c.add_stored-in-None.result (λ added kind before own after v. added kind before own after c.args.plain.now v (stored_plain c.args.plain.now (rw c.in-None.is at c.in_ok-packed.ensures.chosen))) c.add_stored-in-None.ensures.added
