use Rattle.cdf_attrs.proofs.Common.{Known, Some, ap, sym, ◌∙◌, ◌≡◌}
use Rattle.cdf_attrs.proofs.KnownAttributes.{more_known, none_ordered, of_one, ordered_known, places_known}
use Rattle.cdf_attrs.proofs.OtherChains.{same_chain}
use Rattle.cdf_attrs.specs.Known.{KeepsEntries, KnownOrder}
use Rattle.cdf_attrs.proofs.attrs.Attrs.take_order.Goals as goal

pub returns-then-are_same_entries-clause-order : goal.returns-then-are_same_entries-clause-order
returns-then-are_same_entries-clause-order g c =
    let v = ap (λ (k : Known). k.order) c.self.view_is in
    let is : c.args.self.now.order ≡ Some c.in-Some.kept = cc (v, c.take.ensures.value, c.in-Some.is) in
    (c.requires.known.order_is c.in-Some.kept is).knows

pub returns-then-are_same_entries-clause-known : goal.returns-then-are_same_entries-clause-known
returns-then-are_same_entries-clause-known g c = none_ordered c.requires.known c.self.view_is c.take.new.self c.take.ensures.after

pub take_entries-requires-clause-known : goal.take_entries-requires-clause-known
take_entries-requires-clause-known g c = none_ordered c.requires.known c.self.view_is c.take.new.self c.take.ensures.after

pub returns-clause-order : goal.returns-clause-order
returns-clause-order g c =
    let done = c.in_ok-order.ensures in
    ordered_known (g.A.Area.image c.args.area.now) c.in_ok-entries.entries c.in_ok-order.order c.in_ok-entries.ensures.entries done.chain done.all done.rise

pub returns-then-are_same_entries-clause-chain : goal.returns-then-are_same_entries-clause-chain
returns-then-are_same_entries-clause-chain g c = sym (ap (λ (k : KnownOrder). k.chain) c.kept.view_is) ∙ same_chain _ _ (sym c.are_same_entries.ensures ∙ c.if-are_same_entries.true)

pub returns-clause-known : goal.returns-clause-known
returns-clause-known g c =
    let before = c.take_entries.ensures.known in
    let keeps : KeepsEntries (g.A.Area.image c.args.area.now) c.self-2.inside.places.items c.in_ok-entries.entries = record { of_one = of_one (places_known before c.self-2.view_is) c.requires.attribute c.in_ok-entries.ensures.chain; knows = c.in_ok-entries.ensures.entries } in
    rw c.take_entries.ensures.area.image (more_known before c.self-2.view_is c.in_ok-entries.entries _ keeps c.keep_chain.ensures)
