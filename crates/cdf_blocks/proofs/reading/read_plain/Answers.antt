use Rattle.std.proofs.Common.{arith}
use Rattle.std.proofs.lemmas.Result.{IfOk-weaker}
use Rattle.cdf_index.specs.Sight.{seen}
use Rattle.cdf_blocks.proofs.LeafBlock.{reads_loose, reads_packed}
use Rattle.cdf_blocks.proofs.reading.read_plain.Goals as goal

pub read_unpacked-requires-clause-inside : goal.read_unpacked-requires-clause-inside
read_unpacked-requires-clause-inside g c = c.requires.stands.inside c.if-leaf.true

pub read_unpacked-requires-clause-fits : goal.read_unpacked-requires-clause-fits
read_unpacked-requires-clause-fits g c = c.requires.stands.fits c.if-leaf.true

pub read_unpacked-requires-clause-small : goal.read_unpacked-requires-clause-small
read_unpacked-requires-clause-small g c = c.requires.stands.packed_small c.if-leaf.true

pub returns-then-leaf-clause-plain : goal.returns-then-leaf-clause-plain
returns-then-leaf-clause-plain g c = IfOk-weaker c.read_unpacked.result _ _ (λ x e vdr s. reads_packed (g.A.Area.image c.args.area.now) vdr (seen c.args.leaf.now) x.items c.if-leaf.true e) c.read_unpacked.ensures.plain

pub overflow_add-leaf : goal.overflow_add-leaf
overflow_add-leaf g c = omega (arith, c.requires.stands.loose c.if-leaf.false, c.requires.short)

pub read_bytes-requires : goal.read_bytes-requires
read_bytes-requires g c = omega (arith, c.requires.stands.loose c.if-leaf.false)

pub returns-clause-plain : goal.returns-clause-plain
returns-clause-plain g c = IfOk-weaker c.read_bytes.result _ _ (λ x e vdr s. reads_loose (g.A.Area.image c.args.area.now) vdr c.args.size (seen c.args.leaf.now) x.items c.if-leaf.false s e) c.read_bytes.ensures.bytes
