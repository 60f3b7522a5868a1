use Rattle.cdf_pages.proofs.Common.{ap, arith, file_of, length, length-written}
use Rattle.cdf_pages.proofs.Grew.{part_grown, written_grown}
use Rattle.cdf_pages.proofs.Touched.{touches_part, touches_write}
use Rattle.cdf_pages.proofs.growth.append.Goals as goal

pub returns-in_err-write_at-clause-grown : goal.returns-in_err-write_at-clause-grown
returns-in_err-write_at-clause-grown g c first new fits same h =
    part_grown first (g.S.Store.disk c.args.store.now) new c.args.place c.args.bytes.now h c.requires.place fits same (g.S.Store.disk c.write_at.new.self) c.in_err-write_at.ensures.part

pub returns-in_err-write_at-clause-touched : goal.returns-in_err-write_at-clause-touched
returns-in_err-write_at-clause-touched g c =
    touches_part _ (g.S.Store.disk c.args.store.now) (g.S.Store.disk c.write_at.new.self) c.args.place c.args.bytes.now (λ n within. (omega arith, omega (arith, within))) c.in_err-write_at.ensures.part

pub returns-clause-long : goal.returns-clause-long
returns-clause-long g c =
    let long = length-written (file_of (g.S.Store.disk c.args.store.now)) c.args.place c.args.bytes.now (omega (arith, c.requires.place)) in
    omega (arith, ap (λ d. length (file_of d)) c.in_ok-write_at.ensures.ok, long, c.requires.place)

pub returns-clause-grown : goal.returns-clause-grown
returns-clause-grown g c first new fits same h =
    written_grown first (g.S.Store.disk c.args.store.now) new c.args.place c.args.bytes.now h c.requires.place fits same (g.S.Store.disk c.write_at.new.self) c.in_ok-write_at.ensures.ok

pub returns-clause-touched : goal.returns-clause-touched
returns-clause-touched g c = touches_write _ (g.S.Store.disk c.args.store.now) (g.S.Store.disk c.write_at.new.self) c.args.place c.args.bytes.now (omega arith, omega arith) c.in_ok-write_at.ensures.ok
