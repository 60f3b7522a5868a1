use Rattle.cdf_space.proofs.Common.{Tallies, arith, shape, subst}
use Rattle.cdf_space.proofs.Counting.{parts, space_is}
use Rattle.cdf_space.proofs.measuring.space_of.Goals as goal

pub overflow_sub-result-2 : goal.overflow_sub-result-2
overflow_sub-result-2 g c =
    let b = g.A.Area.image c.args.area.now in
    let listed = subst (λ x. Tallies x (shape x).unused c.in_ok-listed.listed) c.tally_unused.ensures.area.image c.in_ok-listed.ensures.tally in
    let p = parts b (shape b) c.requires.sound c.size-eof.result c.in_ok-unused.unused c.in_ok-listed.listed c.size-eof.ensures c.in_ok-unused.ensures.tally listed in
    omega (arith, p.used)

pub overflow_sub-result-3 : goal.overflow_sub-result-3
overflow_sub-result-3 g c =
    let b = g.A.Area.image c.args.area.now in
    let listed = subst (λ x. Tallies x (shape x).unused c.in_ok-listed.listed) c.tally_unused.ensures.area.image c.in_ok-listed.ensures.tally in
    (parts b (shape b) c.requires.sound c.size-eof.result c.in_ok-unused.unused c.in_ok-listed.listed c.size-eof.ensures c.in_ok-unused.ensures.tally listed).count

pub overflow_sub-result-4 : goal.overflow_sub-result-4
overflow_sub-result-4 g c =
    let b = g.A.Area.image c.args.area.now in
    let listed = subst (λ x. Tallies x (shape x).unused c.in_ok-listed.listed) c.tally_unused.ensures.area.image c.in_ok-listed.ensures.tally in
    (parts b (shape b) c.requires.sound c.size-eof.result c.in_ok-unused.unused c.in_ok-listed.listed c.size-eof.ensures c.in_ok-unused.ensures.tally listed).bytes

pub returns-clause-value : goal.returns-clause-value
returns-clause-value g c =
    let b = g.A.Area.image c.args.area.now in
    let listed = subst (λ x. Tallies x (shape x).unused c.in_ok-listed.listed) c.tally_unused.ensures.area.image c.in_ok-listed.ensures.tally in
    space_is b (shape b) c.requires.sound c.size-eof.result c.in_ok-unused.unused c.in_ok-listed.listed c.size-eof.ensures c.in_ok-unused.ensures.tally listed
