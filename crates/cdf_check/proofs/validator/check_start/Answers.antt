use Rattle.cdf_check.proofs.Common.{none_found, one_found, phase0, phase1, phase2, phase3}
use Rattle.cdf_check.proofs.validator.check_start.Goals as goal

pub returns-in-Some-3-clause-verdict : goal.returns-in-Some-3-clause-verdict
returns-in-Some-3-clause-verdict g c =
    let f = g.A.Area.image c.args.area.now in
    let length = none_found (phase0 f) _ c.check_length.ensures c.in_default.is in
    let magic = none_found (phase1 f) _ c.in_ok-finding.ensures.found c.in_default-2.is in
    let cdr = one_found (phase2 f) _ _ (rw c.check_magic.ensures.area.image at c.in_ok-finding-2.ensures.found) c.in-Some-3.is in
    rw c.in_phase-in-Some-3.ensures (length, (magic, cdr))

pub returns-in-Some-4-clause-verdict : goal.returns-in-Some-4-clause-verdict
returns-in-Some-4-clause-verdict g c =
    let f = g.A.Area.image c.args.area.now in
    let length = none_found (phase0 f) _ c.check_length.ensures c.in_default.is in
    let magic = none_found (phase1 f) _ c.in_ok-finding.ensures.found c.in_default-2.is in
    let cdr = none_found (phase2 f) _ (rw c.check_magic.ensures.area.image at c.in_ok-finding-2.ensures.found) c.in_default-3.is in
    let gdr = one_found (phase3 f) _ _ (rw (c.check_cdr.ensures.area.image, c.check_magic.ensures.area.image) at c.in_ok-finding-3.ensures.found) c.in-Some-4.is in
    rw c.in_phase-in-Some-4.ensures (length, (magic, (cdr, gdr)))
