use Rattle.cdf_session.proofs.Common.{AreOf, IfOk, List, subst, ℕ, ◌∙◌}
use Rattle.cdf_session.proofs.NewFileLemmas.{new_fits, written_new, good_new, on_ok}
use Rattle.cdf_session.proofs.new_file.write_new.Goals as goal

pub set-requires : goal.set-requires
set-requires g c = new_fits (g.A.Area.image c.args.area.now) (g.A.Area.image c.extend.new.self) c.deref.result.now c.requires.empty c.in_ok-extend.ensures.longer (c.deref.ensures.value ∙ c.in_ok-bytes.ensures)

pub load-requires : goal.load-requires
load-requires g c =
    let written = written_new (g.A.Area.image c.args.area.now) (g.A.Area.image c.extend.new.self) c.deref.result.now (g.A.Area.image c.set.new.self) c.requires.empty c.in_ok-extend.ensures.longer (c.deref.ensures.value ∙ c.in_ok-bytes.ensures) c.in_ok-set.ensures.written in
    good_new (g.A.Area.image c.set.new.self) written

pub returns-clause-image : goal.returns-clause-image
returns-clause-image g c =
    let written = written_new (g.A.Area.image c.args.area.now) (g.A.Area.image c.extend.new.self) c.deref.result.now (g.A.Area.image c.set.new.self) c.requires.empty c.in_ok-extend.ensures.longer (c.deref.ensures.value ∙ c.in_ok-bytes.ensures) c.in_ok-set.ensures.written in
    on_ok c.load.result (c.load.ensures.area.image ∙ written)

pub returns-clause-known : goal.returns-clause-known
returns-clause-known g c =
    let written = written_new (g.A.Area.image c.args.area.now) (g.A.Area.image c.extend.new.self) c.deref.result.now (g.A.Area.image c.set.new.self) c.requires.empty c.in_ok-extend.ensures.longer (c.deref.ensures.value ∙ c.in_ok-bytes.ensures) c.in_ok-set.ensures.written in
    subst (λ (b : List ℕ). IfOk c.load.result (AreOf b)) written c.load.ensures.known
