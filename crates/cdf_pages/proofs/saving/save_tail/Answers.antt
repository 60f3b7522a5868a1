use Rattle.cdf_pages.proofs.Common.{ap, arith, eqb-true, false, file_of, length, refl, suc, sym, zero, ℕ, ◌+◌, ◌<◌, ◌∙◌, ◌≡◌}
use Rattle.std.proofs.Common.{eqb}
use Rattle.cdf_pages.proofs.Between.{front_part, front_written, long_part, long_written, part_between, written_between}
use Rattle.cdf_pages.proofs.Images.{put_empty}
use Rattle.cdf_pages.proofs.Filling.{on_err}
use Rattle.cdf_pages.proofs.Touched.{touches_none, touches_part, touches_write}
use Rattle.cdf_pages.proofs.WritesOver.{over_none, over_part, over_write}
use Rattle.cdf_pages.proofs.saving.save_tail.Goals as goal

pub returns-then-is_empty-clause-written : goal.returns-then-is_empty-clause-written
returns-then-is_empty-clause-written g c = sym (put_empty _ c.args.place c.args.front.now (eqb-true (length c.args.front.now) 0 (sym c.is_empty.ensures ∙ c.if-is_empty.true)))

pub returns-then-is_empty-clause-touched : goal.returns-then-is_empty-clause-touched
returns-then-is_empty-clause-touched g c = touches_none _ _ _ refl

pub returns-in_err-write_at-clause-front : goal.returns-in_err-write_at-clause-front
returns-in_err-write_at-clause-front g c = front_part (g.S.Store.disk c.args.store.now) (g.S.Store.disk c.write_at.new.self) c.args.place c.args.front.now (omega (arith, c.requires.place)) c.in_err-write_at.ensures.part

pub returns-in_err-write_at-clause-long : goal.returns-in_err-write_at-clause-long
returns-in_err-write_at-clause-long g c = long_part (g.S.Store.disk c.args.store.now) (g.S.Store.disk c.write_at.new.self) c.args.place (c.args.place + length c.args.front.now) c.args.front.now (omega arith) c.requires.place c.in_err-write_at.ensures.part

pub returns-in_err-write_at-clause-between : goal.returns-in_err-write_at-clause-between
returns-in_err-write_at-clause-between g c first new whole fits same h =
    part_between first (g.S.Store.disk c.args.store.now) new c.args.place c.args.front.now h whole fits same (g.S.Store.disk c.write_at.new.self) c.in_err-write_at.ensures.part

pub returns-in_err-write_at-clause-touched : goal.returns-in_err-write_at-clause-touched
returns-in_err-write_at-clause-touched g c =
    touches_part _ (g.S.Store.disk c.args.store.now) (g.S.Store.disk c.write_at.new.self) c.args.place c.args.front.now (λ n within. (omega arith, omega (arith, within))) c.in_err-write_at.ensures.part

pub returns-clause-written : goal.returns-clause-written
returns-clause-written g c = ap (λ d. file_of d) c.in_ok-write_at.ensures.ok

pub returns-clause-front : goal.returns-clause-front
returns-clause-front g c = front_written (g.S.Store.disk c.args.store.now) (g.S.Store.disk c.write_at.new.self) c.args.place c.args.front.now (omega (arith, c.requires.place)) c.in_ok-write_at.ensures.ok

pub returns-clause-long : goal.returns-clause-long
returns-clause-long g c = long_written (g.S.Store.disk c.args.store.now) (g.S.Store.disk c.write_at.new.self) c.args.place (c.args.place + length c.args.front.now) c.args.front.now (omega arith) c.requires.place c.in_ok-write_at.ensures.ok

pub returns-clause-between : goal.returns-clause-between
returns-clause-between g c first new whole fits same h =
    written_between first (g.S.Store.disk c.args.store.now) new c.args.place c.args.front.now h whole fits same (g.S.Store.disk c.write_at.new.self) c.in_ok-write_at.ensures.ok

pub returns-clause-touched : goal.returns-clause-touched
returns-clause-touched g c = touches_write _ (g.S.Store.disk c.args.store.now) (g.S.Store.disk c.write_at.new.self) c.args.place c.args.front.now (omega arith, omega arith) c.in_ok-write_at.ensures.ok

-- there is a byte of it
some_front : (n : ℕ) → eqb n 0 ≡ false → 0 < n
some_front zero e = cc e
some_front (suc n) e = omega arith

pub returns-then-is_empty-clause-over : goal.returns-then-is_empty-clause-over
returns-then-is_empty-clause-over g c = over_none _ _

pub returns-in_err-write_at-clause-over : goal.returns-in_err-write_at-clause-over
returns-in_err-write_at-clause-over g c = over_part (g.S.Store.disk c.args.store.now) (g.S.Store.disk c.write_at.new.self) _ _ c.args.place (length c.args.front.now) c.requires.place c.in_err-write_at.ensures.left

pub returns-in_err-write_at-clause-idle : goal.returns-in_err-write_at-clause-idle
returns-in_err-write_at-clause-idle g c none = absurd (omega (arith, none, some_front (length c.args.front.now) (sym c.is_empty.ensures ∙ c.if-is_empty.false)))

pub returns-in_err-write_at-clause-some : goal.returns-in_err-write_at-clause-some
returns-in_err-write_at-clause-some g c = on_err _ (some_front (length c.args.front.now) (sym c.is_empty.ensures ∙ c.if-is_empty.false))

pub returns-clause-over : goal.returns-clause-over
returns-clause-over g c =
    over_write (g.S.Store.disk c.args.store.now) (g.S.Store.disk c.write_at.new.self) _ _ c.args.place (length c.args.front.now) c.requires.place (some_front (length c.args.front.now) (sym c.is_empty.ensures ∙ c.if-is_empty.false)) c.in_ok-write_at.ensures.unstored

pub returns-clause-idle : goal.returns-clause-idle
returns-clause-idle g c none = absurd (omega (arith, none, some_front (length c.args.front.now) (sym c.is_empty.ensures ∙ c.if-is_empty.false)))
