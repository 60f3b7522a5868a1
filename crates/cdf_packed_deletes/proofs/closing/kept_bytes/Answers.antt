use Rattle.std.proofs.Common.{◌∙◌}
use Rattle.cdf_index.specs.Sight.{seen}
use Rattle.cdf_packed_deletes.proofs.Parts.{ends_fit}
use Rattle.cdf_packed_deletes.proofs.closing.kept_bytes.Goals as goal

pub both_ends-requires : goal.both_ends-requires
both_ends-requires c = ends_fit c.args.first c.args.last c.requires.order (seen c.args.leaf.now) c.requires.cut c.args.rec_bytes c.args.plain.now c.requires.long c.from.result c.from-2.result (c.from.ensures ∙ c.saturating_sub.ensures) (c.from-2.ensures ∙ c.saturating_sub-2.ensures)
