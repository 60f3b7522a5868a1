use Rattle.cdf_attrs.proofs.KeptEntries.{others_among, others_apart}
use Rattle.cdf_attrs.proofs.KnownAttributes.{entries_known, fewer_known}
use Rattle.cdf_attrs.proofs.OtherChains.{same_chain}
use Rattle.cdf_attrs.specs.Known.{KeepsEntries}
use Rattle.std.proofs.lemmas.List.Elements.{All-contains}
use Rattle.cdf_attrs.proofs.attrs.Attrs.take_entries.Goals as goal

pub returns-in-Some-clause-chain : goal.returns-in-Some-clause-chain
returns-in-Some-clause-chain g c = same_chain _ _ c.in-Some.ensures.taken.0

pub returns-in-Some-clause-entries : goal.returns-in-Some-clause-entries
returns-in-Some-clause-entries g c =
    (All-contains (KeepsEntries (g.A.Area.image c.args.area.now) c.self.inside.places.items) c.self.inside.entries.items c.in-Some.kept (entries_known c.requires.known c.self.view_is) c.in-Some.ensures.taken.1).knows

pub returns-in-Some-clause-others : goal.returns-in-Some-clause-others
returns-in-Some-clause-others g c = others_apart c.args.chain c.self.inside.entries.items c.take_chain.new.kept.items c.take_chain.ensures.others

pub returns-in-Some-clause-known : goal.returns-in-Some-clause-known
returns-in-Some-clause-known g c = fewer_known c.requires.known c.self.view_is c.take_chain.new.kept.items (others_among c.args.chain c.self.inside.entries.items c.take_chain.new.kept.items c.take_chain.ensures.others)

pub returns-clause-others : goal.returns-clause-others
returns-clause-others g c = others_apart c.args.chain c.self.inside.entries.items c.take_chain.new.kept.items c.take_chain.ensures.others

pub returns-clause-known : goal.returns-clause-known
returns-clause-known g c = fewer_known c.requires.known c.self.view_is c.take_chain.new.kept.items (others_among c.args.chain c.self.inside.entries.items c.take_chain.new.kept.items c.take_chain.ensures.others)
