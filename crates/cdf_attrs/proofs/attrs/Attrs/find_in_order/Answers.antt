use Rattle.cdf_attrs.proofs.Common.{List, ap, option_map, subst, sym, ℕ, ◌∙◌}
use Rattle.cdf_attrs.proofs.KnownAttributes.{of_one, places_known, some_ordered}
use Rattle.cdf_attrs.proofs.ShownAttributes.{entry_found, few_some, found_stands}
use Rattle.cdf_attrs.specs.Known.{KnowsOrder}
use Rattle.cdf_attrs.specs.Showing.{numbered_entry}
use Rattle.cdf_attrs.proofs.attrs.Attrs.find_in_order.Goals as goal

pub returns-clause-entry : goal.returns-clause-entry
returns-clause-entry g c =
    let b = g.A.Area.image c.args.area.now in
    ap (option_map (numbered_entry b)) c.get-found.ensures ∙ entry_found b c.requires.good c.in_ok-order.ensures.chain c.requires.attribute c.in_ok-order.ensures.order c.args.i

pub returns-clause-few : goal.returns-clause-few
returns-clause-few g c = few_some (g.A.Area.image c.args.area.now) c.requires.good c.in_ok-order.ensures.chain c.requires.attribute c.in_ok-order.ensures.order c.args.i c.get-found.result c.get-found.ensures

pub returns-clause-member : goal.returns-clause-member
returns-clause-member g c = found_stands (g.A.Area.image c.args.area.now) c.requires.good c.in_ok-order.ensures.chain c.requires.attribute c.in_ok-order.ensures.order c.args.i c.get-found.result c.get-found.ensures

pub returns-clause-known : goal.returns-clause-known
returns-clause-known g c =
    some_ordered c.take_order.ensures.known c.self.view_is c.in_ok-order.order (record {
      of_one = of_one (places_known (rw c.take_order.ensures.area.image at c.take_order.ensures.known) c.self.view_is) c.requires.attribute c.in_ok-order.ensures.chain;
      knows = subst (λ (x : List ℕ). KnowsOrder x c.in_ok-order.order) (sym c.take_order.ensures.area.image) c.in_ok-order.ensures.order;
    })
