use Rattle.cdf_vars.proofs.Common.{edit_failed, refl, sym, ◌∙◌}
use Rattle.cdf_vars.proofs.PutRead.{form_vdr}
use Rattle.cdf_vars.proofs.vars.Vars.write_past.Goals as goal

pub write_packed_past-requires-clause-packed : goal.write_packed_past-requires-clause-packed
write_packed_past-requires-clause-packed g c = sym (c.is_packed.ensures (g.A.Area.image c.args.area.now) c.requires.can.is.is_form) ∙ c.if-is_packed.true

pub write_unpacked_past-requires-clause-unpacked : goal.write_unpacked_past-requires-clause-unpacked
write_unpacked_past-requires-clause-unpacked g c = sym (c.is_packed.ensures (g.A.Area.image c.args.area.now) c.requires.can.is.is_form) ∙ c.if-is_packed.false

pub write_unpacked_past-requires-clause-tidy : goal.write_unpacked_past-requires-clause-tidy
write_unpacked_past-requires-clause-tidy g c says = c.is_tidy-tidy.ensures (g.A.Area.image c.args.area.now) c.requires.good (form_vdr c.requires.good c.requires.can.is.is_form) c.requires.starts says

pub returns-then-is_packed-clause-starts : goal.returns-then-is_packed-clause-starts
returns-then-is_packed-clause-starts g c =
    c.in_ok-write_packed_past.ensures.forgotten _ (c.forget_index.ensures.known _ c.requires.good c.requires.starts) c.forget_index.ensures.forgotten

pub returns-clause-starts : goal.returns-clause-starts
returns-clause-starts g c =
    c.note_cut.ensures _ _ c.requires.good c.requires.starts (λ says. c.in_ok-stays.ensures.starts says _ c.requires.starts c.requires.expects) c.in_ok-stays.ensures.forgotten c.in_ok-stays.ensures.tidy

pub returns-in_err-stays-clause-area : goal.returns-in_err-stays-clause-area
returns-in_err-stays-clause-area g c = edit_failed (record { frame = refl; faults = refl }) c.in_err-stays.ensures.area c.from_residual-in_err-stays.ensures.1
