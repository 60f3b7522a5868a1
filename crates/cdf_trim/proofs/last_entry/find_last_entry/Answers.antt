use Rattle.cdf_trim.proofs.WayToLast.{known_leads, leads_node, leads_used, no_leaf, sees_last}
use Rattle.cdf_trim.proofs.last_entry.find_last_entry.Goals as goal

pub returns-then-head-eq0-clause-last : goal.returns-then-head-eq0-clause-last
returns-then-head-eq0-clause-last g c = no_leaf c.requires.index c.requires.tidy c.if-head-eq0.true

pub find_end-requires-clause-index : goal.find_end-requires-clause-index
find_end-requires-clause-index g c = rw c.unwrap_or-start.ensures (known_leads c.requires.index c.requires.tidy c.args.known c.requires.known c.if-head-eq0.false).has

pub find_end-requires-clause-some : goal.find_end-requires-clause-some
find_end-requires-clause-some g c = rw c.unwrap_or-start.ensures (known_leads c.requires.index c.requires.tidy c.args.known c.requires.known c.if-head-eq0.false).some

pub find_end-requires-clause-tidy : goal.find_end-requires-clause-tidy
find_end-requires-clause-tidy g c = rw c.unwrap_or-start.ensures (known_leads c.requires.index c.requires.tidy c.args.known c.requires.known c.if-head-eq0.false).tidy

pub read_last-requires-clause-node : goal.read_last-requires-clause-node
read_last-requires-clause-node g c = rw c.find_end.ensures.area.image (leads_node c.in_ok-end.ensures.end.leads)

pub read_last-requires-clause-used : goal.read_last-requires-clause-used
read_last-requires-clause-used g c = rw c.find_end.ensures.area.image (leads_used c.in_ok-end.ensures.end.leads)

pub returns-clause-last : goal.returns-clause-last
returns-clause-last g c =
    let leads = known_leads c.requires.index c.requires.tidy c.args.known c.requires.known c.if-head-eq0.false in
    let end = rw c.unwrap_or-start.ensures at c.in_ok-end.ensures.end in
    sees_last leads end c.in_ok-last.last (rw c.find_end.ensures.area.image at c.in_ok-last.ensures.entry)
