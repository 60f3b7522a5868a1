use Rattle.cdf_vars.proofs.Common.{arith, extent, inl, max_rec_at, on_ok_weaker, ◌≤◌}
use Rattle.cdf_vars.proofs.PutRaised.{raised_to, raised_ruled}
use Rattle.cdf_vars.proofs.vars.Vars.raise_max_rec.Goals as goal

pub write_max_rec-requires-clause-ruled : goal.write_max_rec-requires-clause-ruled
write_max_rec-requires-clause-ruled g c = raised_ruled c.args.rec c.requires.within

pub returns-clause-raised : goal.returns-clause-raised
returns-clause-raised g c =
    let le : extent (max_rec_at (g.A.Area.image c.args.area.now) c.args.target.now.form.place.vdr) ≤ c.args.rec = omega (arith, c.requires.count, c.if-rec-count.false) in
    on_ok_weaker c.write_max_rec.result (λ written v e. inl (le, raised_to c.args.rec c.requires.within (written v e))) c.write_max_rec.ensures.written
