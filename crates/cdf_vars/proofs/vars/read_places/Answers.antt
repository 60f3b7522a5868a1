use Rattle.cdf_vars.proofs.Common.{Chain, HasChain, HolderStands, IfOk-weaker, counted_in, good_is_sound, length, members_of, shape, subst, sym, ◌≡◌}
use Rattle.cdf_vars.proofs.VariableChains.{counted_members, has_variable_chain, holder_stands}
use Rattle.cdf_vars.proofs.NamesRead.{places_read}
use Rattle.cdf_vars.proofs.vars.read_places.Goals as goal

pub read_chain-requires-clause-sound : goal.read_chain-requires-clause-sound
read_chain-requires-clause-sound g c = good_is_sound (g.A.Area.image c.args.area.now) c.requires

pub read_chain-requires-clause-holder : goal.read_chain-requires-clause-holder
read_chain-requires-clause-holder g c = let b = g.A.Area.image c.args.area.now in subst (HolderStands b) (sym c.chain_of.ensures) (holder_stands b c.args.kind)

pub read_chain-requires-clause-chain : goal.read_chain-requires-clause-chain
read_chain-requires-clause-chain g c = let b = g.A.Area.image c.args.area.now in subst (HasChain b) (sym c.chain_of.ensures) (has_variable_chain b (shape b) (good_is_sound b c.requires).has_shape c.args.kind)

pub read_chain-requires-clause-counted : goal.read_chain-requires-clause-counted
read_chain-requires-clause-counted g c = let b = g.A.Area.image c.args.area.now in subst (λ (chain : Chain). counted_in b chain ≡ length (members_of b chain)) (sym c.chain_of.ensures) (counted_members b c.requires c.args.kind)

pub returns-clause-places : goal.returns-clause-places
returns-clause-places g c = IfOk-weaker c.read_chain.result _ _ (λ places. places_read (g.A.Area.image c.args.area.now) c.requires c.args.kind c.chain_of.result c.chain_of.ensures places.items) c.read_chain.ensures.members
