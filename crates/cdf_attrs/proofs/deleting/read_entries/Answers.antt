use Rattle.cdf_attrs.proofs.Common.{G, Z, entries_chain, good_is_sound}
use Rattle.cdf_attrs.proofs.AttributeChain.{of_attribute}
use Rattle.cdf_attrs.proofs.EntryChains.{holder_stands, chain_there, counted}
use Rattle.cdf_attrs.proofs.deleting.read_entries.Goals as goal

pub read_chain-requires : goal.read_chain-requires
read_chain-requires g c =
    let at = of_attribute _ c.args.adr c.requires.adr G in
    record { sound = good_is_sound _ c.requires.good; holder = holder_stands _ c.requires.good (entries_chain G c.args.adr) at; chain = chain_there _ c.requires.good (entries_chain G c.args.adr) at; counted = counted _ c.requires.good (entries_chain G c.args.adr) at }

pub read_chain-requires-2 : goal.read_chain-requires-2
read_chain-requires-2 g c =
    let at = of_attribute _ c.args.adr c.requires.adr Z in
    rw c.in_ok-entries.ensures.area.image (record { sound = good_is_sound _ c.requires.good; holder = holder_stands _ c.requires.good (entries_chain Z c.args.adr) at; chain = chain_there _ c.requires.good (entries_chain Z c.args.adr) at; counted = counted _ c.requires.good (entries_chain Z c.args.adr) at })
