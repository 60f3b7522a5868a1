use Rattle.cdf_space.proofs.Common.{List, None, ap, arith, before, is_in, last_or, subst, sym, true, ℕ, ◌∙◌, ◌≡◌}
use Rattle.cdf_space.proofs.AddedRecord.{filled_members, filled_stands, filled_has_chain, filled_joins, is_exchanged}
use Rattle.cdf_space.proofs.adding.exchange_record.Goals as goal

pub chain_replace-requires-clause-holder : goal.chain_replace-requires-clause-holder
chain_replace-requires-clause-holder g c = filled_stands (g.A.Area.image c.args.area.now) c.args.chain c.args.bytes.now c.requires.sound c.requires.holder c.requires.chain c.requires.kind _ c.in_ok-place.place c.in_ok-place.ensures.placed

pub chain_replace-requires-clause-chain : goal.chain_replace-requires-clause-chain
chain_replace-requires-clause-chain g c = filled_has_chain (g.A.Area.image c.args.area.now) c.args.chain c.args.bytes.now c.requires.sound c.requires.holder c.requires.chain c.requires.kind _ c.in_ok-place.place c.in_ok-place.ensures.placed

pub chain_replace-requires-clause-member : goal.chain_replace-requires-clause-member
chain_replace-requires-clause-member g c = subst (λ (ms : List ℕ). is_in c.args.member ms ≡ true) (sym (filled_members (g.A.Area.image c.args.area.now) c.args.chain c.args.bytes.now c.requires.sound c.requires.holder c.requires.chain c.requires.kind _ c.in_ok-place.place c.in_ok-place.ensures.placed)) c.requires.member

pub chain_replace-requires-clause-behind : goal.chain_replace-requires-clause-behind
chain_replace-requires-clause-behind g c = c.requires.behind ∙ ap (λ (ms : List ℕ). last_or None (before c.args.member ms)) (sym (filled_members (g.A.Area.image c.args.area.now) c.args.chain c.args.bytes.now c.requires.sound c.requires.holder c.requires.chain c.requires.kind _ c.in_ok-place.place c.in_ok-place.ensures.placed))

pub chain_replace-requires-clause-joins : goal.chain_replace-requires-clause-joins
chain_replace-requires-clause-joins g c = filled_joins (g.A.Area.image c.args.area.now) c.args.chain c.args.bytes.now c.requires.sound c.requires.holder c.requires.chain c.requires.kind _ c.in_ok-place.place c.in_ok-place.ensures.placed

pub chain_replace-requires-clause-short : goal.chain_replace-requires-clause-short
chain_replace-requires-clause-short g c = omega (arith, c.in_ok-place.ensures.placed.longest, c.requires.room, c.requires.limit)

pub returns-clause-exchanged : goal.returns-clause-exchanged
returns-clause-exchanged g c = is_exchanged (g.A.Area.image c.args.area.now) c.args.chain c.args.bytes.now c.requires.sound c.requires.holder c.requires.chain c.requires.kind _ c.in_ok-place.place c.in_ok-place.ensures.placed (g.A.Area.image c.chain_replace.new.area) c.in_ok-chain_replace.ensures.replaced
