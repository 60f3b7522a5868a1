use Rattle.cdf_space.proofs.Common.{last_got, on_ok_weaker, take, ◌∙◌}
use Rattle.cdf_space.proofs.TakenOut.{member_there, behind_there, first_cdr, first_room, first_some, taken_out}
use Rattle.cdf_space.proofs.chains.take_out.Goals as goal

pub chain_remove-requires-clause-member : goal.chain_remove-requires-clause-member
chain_remove-requires-clause-member g c = member_there (g.A.Area.image c.args.area.now) c.args.chain c.args.members.now c.args.number c.requires.sound c.requires.lists c.requires.within

pub chain_remove-requires-clause-behind : goal.chain_remove-requires-clause-behind
chain_remove-requires-clause-behind g c =
    c.copied-behind.ensures ∙ c.last.ensures.value ∙ last_got (take c.args.number c.args.members.now)
    ∙ behind_there (g.A.Area.image c.args.area.now) c.args.chain c.args.members.now c.args.number c.requires.sound c.requires.lists c.requires.within

pub count_down-requires-clause-cdr : goal.count_down-requires-clause-cdr
count_down-requires-clause-cdr g c = first_cdr (g.A.Area.image c.args.area.now) c.args.chain c.args.members.now c.args.number c.requires.sound c.requires.lists c.requires.within c.in_ok-chain_remove.ensures.removed

pub count_down-requires-clause-inside : goal.count_down-requires-clause-inside
count_down-requires-clause-inside g c = first_room (g.A.Area.image c.args.area.now) c.args.chain c.args.members.now c.args.number c.requires.sound c.requires.lists c.requires.within c.in_ok-chain_remove.ensures.removed

pub count_down-requires-clause-some : goal.count_down-requires-clause-some
count_down-requires-clause-some g c = first_some (g.A.Area.image c.args.area.now) c.args.chain c.args.members.now c.args.number c.requires.sound c.requires.lists c.requires.within c.in_ok-chain_remove.ensures.removed

pub returns-clause-taken : goal.returns-clause-taken
returns-clause-taken g c = on_ok_weaker _ (λ less. taken_out (g.A.Area.image c.args.area.now) c.args.chain c.args.members.now c.args.number c.requires.sound c.requires.lists c.requires.within c.in_ok-chain_remove.ensures.removed _ less) c.count_down.ensures.counted
