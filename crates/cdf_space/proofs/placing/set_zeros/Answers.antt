use Rattle.cdf_space.proofs.Common.{List, OnOk, put, subst, take-replicate, ℕ, ◌≡◌}
use Rattle.cdf_space.proofs.placing.set_zeros.Goals as goal

pub returns-clause-written : goal.returns-clause-written
returns-clause-written g c =
    subst (λ (xs : List ℕ). OnOk c.set.result (g.A.Area.image c.set.new.self ≡ put (g.A.Area.image c.args.area.now) c.args.from xs)) (take-replicate c.args.count 4096 0 c.requires.piece) c.set.ensures.written
