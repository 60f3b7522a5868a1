use Rattle.cdf_attrs.proofs.Common.{Good, List, adrs, ap, attribute_names, content, good_is_sound, shape, subst, sym, ℕ, ◌∙◌}
use Rattle.cdf_attrs.proofs.AttributeChain.{attribute_members, has_attribute_chain}
use Rattle.cdf_attrs.proofs.AttributesRead.{counted_members}
use Rattle.cdf_attrs.proofs.KnownAttributes.{none_known}
use Rattle.cdf_attrs.proofs.attrs.Attrs.load.Goals as goal

pub read_chain-requires-clause-sound : goal.read_chain-requires-clause-sound
read_chain-requires-clause-sound g c = good_is_sound (g.A.Area.image c.args.area.now) c.requires

pub read_chain-requires-clause-chain : goal.read_chain-requires-clause-chain
read_chain-requires-clause-chain g c = let b = g.A.Area.image c.args.area.now in has_attribute_chain b (shape b) (good_is_sound b c.requires).has_shape

pub read_chain-requires-clause-counted : goal.read_chain-requires-clause-counted
read_chain-requires-clause-counted g c = counted_members (g.A.Area.image c.args.area.now) c.requires

pub read_names-requires-clause-good : goal.read_names-requires-clause-good
read_names-requires-clause-good g c = subst Good (sym c.in_ok-places.ensures.area.image) c.requires

pub read_names-requires-clause-places : goal.read_names-requires-clause-places
read_names-requires-clause-places g c =
    let b = g.A.Area.image c.args.area.now in
    c.deref.ensures.value ∙ c.in_ok-places.ensures.members ∙ attribute_members b (shape b) (good_is_sound b c.requires).has_shape ∙ ap (λ (x : List ℕ). adrs (shape x)) (sym c.in_ok-places.ensures.area.image)

pub returns-clause-known : goal.returns-clause-known
returns-clause-known g c =
    let b = g.A.Area.image c.args.area.now in
    none_known b c.in_ok-names.names c.in_ok-places.places.items _
    (c.in_ok-names.ensures.names ∙ ap (λ (x : List ℕ). attribute_names (content x)) c.in_ok-places.ensures.area.image)
    (c.in_ok-places.ensures.members ∙ attribute_members b (shape b) (good_is_sound b c.requires).has_shape) c.new.ensures.items
