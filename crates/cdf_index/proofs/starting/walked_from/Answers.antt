use Rattle.cdf_index.proofs.StartFound.{known_leads, known_node}
use Rattle.cdf_index.proofs.starting.walked_from.Goals as goal

pub see_node-requires-clause-node : goal.see_node-requires-clause-node
see_node-requires-clause-node g c = known_node c.requires.index c.in-Some.node (rw c.in-Some.is at c.requires.known)

pub returns-then-seen-gt0-clause-from : goal.returns-then-seen-gt0-clause-from
returns-then-seen-gt0-clause-from g c =
    let e = c.in_ok-seen.ensures in
    rw (← e.place) (known_leads c.requires.index c.args.rec c.in_ok-seen.seen (rw (c.in-Some.is, ← e.place) at c.requires.known) e.meets c.if-seen-gt0.true)
