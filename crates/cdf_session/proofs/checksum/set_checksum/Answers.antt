use Rattle.cdf_session.proofs.Common.{ap, arith, cdr_fits, length, ◌∙◌}
use Rattle.std.proofs.lemmas.Result.{on_ok_weaker}
use Rattle.cdf_session.proofs.ChecksumLemmas.{flags_written, flags_changed, flags_read}
use Rattle.cdf_session.proofs.checksum.set_checksum.Goals as goal

pub read_cdr-requires : goal.read_cdr-requires
read_cdr-requires g c = omega (arith, cdr_fits (g.A.Area.image c.args.area.now) c.requires)

pub set_cdr_flags-requires : goal.set_cdr_flags-requires
set_cdr_flags-requires g c =
    let same = ap length c.read_cdr.ensures.area.image in
    omega (arith, cdr_fits (g.A.Area.image c.args.area.now) c.requires)

pub returns-clause-flags : goal.returns-clause-flags
returns-clause-flags g c =
    on_ok_weaker c.set_cdr_flags.result (λ written. flags_written (g.A.Area.image c.args.area.now) (g.A.Area.image c.read_cdr.new.area) (g.A.Area.image c.set_cdr_flags.new.area) c.checksum_flags.result c.requires c.read_cdr.ensures.area.image written c.checksum_flags.type_inv
    ∙ c.checksum_flags.ensures ∙ flags_read (g.A.Area.image c.args.area.now) c.in_ok-cdr.cdr c.args.md5 c.in_ok-cdr.ensures.value) c.set_cdr_flags.ensures.ok

pub returns-clause-changed : goal.returns-clause-changed
returns-clause-changed g c =
    on_ok_weaker c.set_cdr_flags.result (λ written. flags_changed (g.A.Area.image c.args.area.now) (g.A.Area.image c.read_cdr.new.area) (g.A.Area.image c.set_cdr_flags.new.area) c.checksum_flags.result c.requires c.read_cdr.ensures.area.image written) c.set_cdr_flags.ensures.ok
