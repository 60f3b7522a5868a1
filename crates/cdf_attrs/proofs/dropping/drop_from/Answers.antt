use Rattle.cdf_attrs.proofs.Common.{arith, false, good_is_sound, is_global, on_ok_weaker, rules, shape, sym, ◌≡◌}
use Rattle.cdf_attrs.proofs.AttributeChain.{adr_inside, of_attribute}
use Rattle.cdf_attrs.proofs.DroppedChains as from
use Rattle.cdf_attrs.proofs.dropping.drop_from.Goals as goal

pub read_scope-requires : goal.read_scope-requires
read_scope-requires g c = let b = g.A.Area.image c.args.area.now in let l = adr_inside b (shape b) (good_is_sound b c.requires.good).has_shape c.args.adr c.requires.adr in omega arith

pub returns-then-is_global-clause-good : goal.returns-then-is_global-clause-good
returns-then-is_global-clause-good g c = rw c.in_ok-scope.ensures.area.image c.requires.good

pub load-requires-clause-good : goal.load-requires-clause-good
load-requires-clause-good g c = rw c.in_ok-scope.ensures.area.image c.requires.good

pub load-requires-clause-attribute : goal.load-requires-clause-attribute
load-requires-clause-attribute g c = rw (c.in_ok-scope.ensures.area.image, c.entries_chain.ensures) (of_attribute (g.A.Area.image c.args.area.now) c.args.adr c.requires.adr c.entries_of-kind.result)

pub drop_number-requires-clause-good : goal.drop_number-requires-clause-good
drop_number-requires-clause-good g c = rw (c.in_ok-entries.ensures.area.image, c.in_ok-scope.ensures.area.image) c.requires.good

pub drop_number-requires-clause-attribute : goal.drop_number-requires-clause-attribute
drop_number-requires-clause-attribute g c =
    let own : is_global c.in_ok-scope.scope ≡ false = sym c.if-is_global.ensures in
    rw (c.in_ok-entries.ensures.area.image, c.in_ok-scope.ensures.area.image, c.entries_of-kind.ensures) (from.scoped (g.A.Area.image c.args.area.now) c.args.adr c.requires.adr c.args.kind (rw c.in_ok-scope.ensures.scope at own))

pub lower_entries-requires : goal.lower_entries-requires
lower_entries-requires g c =
    let d = from.dropping c.args.kind c.requires.good c.requires.adr c.requires.short c.in_ok-scope.ensures.area.image c.in_ok-scope.ensures.scope (sym c.if-is_global.ensures) c.entries_of-kind.ensures c.entries_chain.ensures
    c.in_ok-entries.ensures.area.image c.in_ok-entries.ensures.chain c.in_ok-entries.ensures.entries c.in_ok-left.ensures.drops c.in_ok-left.ensures.good c.in_ok-left.ensures.left in
    record { long = d.0.long; small = d.0.small; lie = d.0.lie; field = d.0.field }

pub returns : goal.returns
returns g c =
    let d = from.dropping c.args.kind c.requires.good c.requires.adr c.requires.short c.in_ok-scope.ensures.area.image c.in_ok-scope.ensures.scope (sym c.if-is_global.ensures) c.entries_of-kind.ensures c.entries_chain.ensures
    c.in_ok-entries.ensures.area.image c.in_ok-entries.ensures.chain c.in_ok-entries.ensures.entries c.in_ok-left.ensures.drops c.in_ok-left.ensures.good c.in_ok-left.ensures.left in
    let after = on_ok_weaker c.lower_entries.result (d.1 (g.A.Area.image c.lower_entries.new.area)) c.lower_entries.ensures.lowers in
    record {
      global = search rules;
      dropped = on_ok_weaker c.lower_entries.result (λ k own. k.0) after;
      good = on_ok_weaker c.lower_entries.result (λ k. k.1.0) after;
      keeps = on_ok_weaker c.lower_entries.result (λ k. k.1.1) after;
      area = search rules;
    }
