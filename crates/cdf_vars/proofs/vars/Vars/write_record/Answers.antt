use Rattle.std.proofs.Common.{sym, ◌∙◌}
use Rattle.cdf_vars.proofs.vars.Vars.write_record.Goals as goal

pub write_packed-requires-clause-packed : goal.write_packed-requires-clause-packed
write_packed-requires-clause-packed g c = sym (c.is_packed.ensures (g.A.Area.image c.args.area.now) c.requires.can.is.is_form) ∙ c.if-is_packed.true

pub write_unpacked-requires-clause-unpacked : goal.write_unpacked-requires-clause-unpacked
write_unpacked-requires-clause-unpacked g c = sym (c.is_packed.ensures (g.A.Area.image c.args.area.now) c.requires.can.is.is_form) ∙ c.if-is_packed.false
