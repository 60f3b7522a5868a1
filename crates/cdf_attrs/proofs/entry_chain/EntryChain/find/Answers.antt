use Rattle.cdf_attrs.proofs.Common.{All, KnownEntries, subst, ◌≤◌}
use Rattle.cdf_attrs.proofs.NumberBounds.{none_above}
use Rattle.cdf_attrs.proofs.entry_chain.EntryChain.find.Goals as goal

pub returns-then-num-self : goal.returns-then-num-self
returns-then-num-self c =
    let all = subst (λ (e : KnownEntries). All (λ n. n ≤ c.self.inside.bound) e.numbers) c.self.view_is c.self.invariant in
    none_above c.args.num c.self.inside.bound c.args.self.now.numbers c.if-num-self.true all
