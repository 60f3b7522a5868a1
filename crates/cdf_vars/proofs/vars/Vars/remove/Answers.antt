use Rattle.cdf_vars.proofs.Common.{Known, KnowsKind, R, Z, ap, subst, sym}
use Rattle.cdf_vars.proofs.RemovalAnswers.{on_ok_all, knows_other}
use Rattle.cdf_vars.proofs.vars.Vars.remove.Goals as goal

pub returns-in-R-clause-known : goal.returns-in-R-clause-known
returns-in-R-clause-known g c =
    let z = subst (KnowsKind (g.A.Area.image c.args.area.now) Z) (sym (ap (λ (k : Known). k.z) c.self.view_is)) c.requires.known.z_known in
    on_ok_all c.remove.result (λ removed known same. record { r_known = known; z_known = knows_other c.requires.good removed z }) c.remove.ensures.removed c.remove.ensures.known c.remove.ensures.known

pub returns-in-Z-clause-known : goal.returns-in-Z-clause-known
returns-in-Z-clause-known g c =
    let r = subst (KnowsKind (g.A.Area.image c.args.area.now) R) (sym (ap (λ (k : Known). k.r) c.self.view_is)) c.requires.known.r_known in
    on_ok_all c.remove-in-Z.result (λ removed known same. record { r_known = knows_other c.requires.good removed r; z_known = known }) c.remove-in-Z.ensures.removed c.remove-in-Z.ensures.known c.remove-in-Z.ensures.known
