use Rattle.cdf_attrs.proofs.Common.{All, KnownEntries, subst, ◌≤◌}
use Rattle.cdf_attrs.proofs.NumberBounds.{is_greatest, number_fits}
use Rattle.cdf_attrs.proofs.entry_chain.EntryChain.greatest_with.Goals as goal

pub overflow_cast-result : goal.overflow_cast-result
overflow_cast-result c =
    let all = subst (λ (e : KnownEntries). All (λ n. n ≤ c.self.inside.bound) e.numbers) c.self.view_is c.self.invariant in
    number_fits c.args.num c.self.inside.bound c.args.self.now.numbers c.if-num-self.true all c.requires

pub returns-then-num-self : goal.returns-then-num-self
returns-then-num-self c =
    let all = subst (λ (e : KnownEntries). All (λ n. n ≤ c.self.inside.bound) e.numbers) c.self.view_is c.self.invariant in
    is_greatest c.args.num c.self.inside.bound c.args.self.now.numbers c.if-num-self.true all c.requires
