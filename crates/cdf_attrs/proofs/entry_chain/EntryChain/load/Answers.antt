use Rattle.cdf_attrs.proofs.Common.{All, List, good_is_sound, subst, ℕ, ◌∙◌, ◌≤◌}
use Rattle.cdf_attrs.proofs.EntriesRead.{numbers_at, places_inside, entries_known}
use Rattle.cdf_attrs.proofs.EntryChains.{holder_stands, chain_there, counted}
use Rattle.cdf_attrs.proofs.entry_chain.EntryChain.load.Goals as goal

pub read_chain-requires-clause-sound : goal.read_chain-requires-clause-sound
read_chain-requires-clause-sound g c = good_is_sound (g.A.Area.image c.args.area.now) c.requires.good

pub read_chain-requires-clause-holder : goal.read_chain-requires-clause-holder
read_chain-requires-clause-holder g c = holder_stands (g.A.Area.image c.args.area.now) c.requires.good c.args.chain c.requires.attribute

pub read_chain-requires-clause-chain : goal.read_chain-requires-clause-chain
read_chain-requires-clause-chain g c = chain_there (g.A.Area.image c.args.area.now) c.requires.good c.args.chain c.requires.attribute

pub read_chain-requires-clause-counted : goal.read_chain-requires-clause-counted
read_chain-requires-clause-counted g c = counted (g.A.Area.image c.args.area.now) c.requires.good c.args.chain c.requires.attribute

pub read_numbers-requires : goal.read_numbers-requires
read_numbers-requires g c = places_inside (g.A.Area.image c.args.area.now) (g.A.Area.image c.read_chain.new.area) c.requires.good c.args.chain c.requires.attribute c.in_ok-places.ensures.area.image c.deref.result.now (c.deref.ensures.value ∙ c.in_ok-places.ensures.members)

pub returns-clause-entries : goal.returns-clause-entries
returns-clause-entries g c =
    entries_known (g.A.Area.image c.args.area.now) c.args.chain c.in_ok-numbers.numbers.items c.in_ok-places.places.items c.in_ok-places.ensures.members
    (c.in_ok-numbers.ensures.numbers ∙ (λ i. numbers_at (c.in_ok-places.ensures.area.image i) (c.deref.ensures.value i)))

pub invariant_of-result : goal.invariant_of-result
invariant_of-result g c = subst (λ (xs : List ℕ). All (λ n. n ≤ c.bound_of-bound.result) xs) c.deref-2.ensures.value c.bound_of-bound.ensures
