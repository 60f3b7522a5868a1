use Rattle.cdf_attrs.proofs.Common.{Good, List, adrs, ap, good_is_sound, shape, subst, sym, ℕ, ◌∙◌}
use Rattle.cdf_attrs.proofs.AttributeChain.{attribute_members, has_attribute_chain}
use Rattle.cdf_attrs.proofs.AttributesRead.{counted_members}
use Rattle.cdf_attrs.proofs.attrs.Attrs.items.Goals as goal

pub read_chain-requires-clause-sound : goal.read_chain-requires-clause-sound
read_chain-requires-clause-sound g c = good_is_sound (g.A.Area.image c.args.area.now) c.requires.good

pub read_chain-requires-clause-chain : goal.read_chain-requires-clause-chain
read_chain-requires-clause-chain g c = let b = g.A.Area.image c.args.area.now in has_attribute_chain b (shape b) (good_is_sound b c.requires.good).has_shape

pub read_chain-requires-clause-counted : goal.read_chain-requires-clause-counted
read_chain-requires-clause-counted g c = counted_members (g.A.Area.image c.args.area.now) c.requires.good

pub read_items-requires-clause-good : goal.read_items-requires-clause-good
read_items-requires-clause-good g c = subst Good (sym c.in_ok-places.ensures.area.image) c.requires.good

pub read_items-requires-clause-places : goal.read_items-requires-clause-places
read_items-requires-clause-places g c =
    let b = g.A.Area.image c.args.area.now in
    c.deref.ensures.value ∙ c.in_ok-places.ensures.members ∙ attribute_members b (shape b) (good_is_sound b c.requires.good).has_shape ∙ ap (λ (x : List ℕ). adrs (shape x)) (sym c.in_ok-places.ensures.area.image)
