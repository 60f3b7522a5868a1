use Rattle.cdf_index.proofs.Common.{read_more}
use Rattle.cdf_trim.proofs.WayToLast.{leads_here, leads_next, leads_node, leads_on, leads_used}
use Rattle.cdf_trim.proofs.last_entry.find_end.Goals as goal

pub read_link_on-requires-clause-node : goal.read_link_on-requires-clause-node
read_link_on-requires-clause-node g c = leads_node (leads_here c.requires.index c.requires.some c.requires.tidy)

pub read_link_on-requires-clause-used : goal.read_link_on-requires-clause-used
read_link_on-requires-clause-used g c = leads_used (leads_here c.requires.index c.requires.some c.requires.tidy)

pub read_link_on-requires-in-loop-next-clause-node : goal.read_link_on-requires-in-loop-next-clause-node
read_link_on-requires-in-loop-next-clause-node g c =
    let i = c.loop-next.invariant in
    rw i.area.image (leads_node (leads_next i.leads c.loop-next.next i.next c.loop-next-test.true).leads)

pub read_link_on-requires-in-loop-next-clause-used : goal.read_link_on-requires-in-loop-next-clause-used
read_link_on-requires-in-loop-next-clause-used g c =
    let i = c.loop-next.invariant in
    rw i.area.image (leads_used (leads_next i.leads c.loop-next.next i.next c.loop-next-test.true).leads)

pub loop-next-smaller : goal.loop-next-smaller
loop-next-smaller g c =
    let i = c.loop-next.invariant in
    (leads_next i.leads c.loop-next.next i.next c.loop-next-test.true).fewer

pub loop-next-preserved : goal.loop-next-preserved
loop-next-preserved g c =
    let i = c.loop-next.invariant in
    record {
      leads = leads_on i.leads (leads_next i.leads c.loop-next.next i.next c.loop-next-test.true).leads;
      next = rw i.area.image at c.in_ok-next-2.ensures.link;
      area = read_more i.area c.in_ok-next-2.ensures.area;
    }
