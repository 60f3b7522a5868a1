use Rattle.cdf_space.proofs.Common.{None, ap, arith, last_or, subst, sym, ℕ, ◌+◌, ◌<◌, ◌^◌, ◌∙◌}
use Rattle.cdf_space.proofs.AddedRecord.{filled_members, filled_stands, filled_has_chain, filled_joins, mid_long, count_room, counted_then, is_added}
use Rattle.cdf_space.proofs.adding.append_record.Goals as goal

pub chain_append-requires-clause-holder : goal.chain_append-requires-clause-holder
chain_append-requires-clause-holder g c = filled_stands (g.A.Area.image c.args.area.now) c.args.chain c.args.bytes.now c.requires.sound c.requires.holder c.requires.chain c.requires.kind _ c.in_ok-place.place c.in_ok-place.ensures.placed

pub chain_append-requires-clause-chain : goal.chain_append-requires-clause-chain
chain_append-requires-clause-chain g c = filled_has_chain (g.A.Area.image c.args.area.now) c.args.chain c.args.bytes.now c.requires.sound c.requires.holder c.requires.chain c.requires.kind _ c.in_ok-place.place c.in_ok-place.ensures.placed

pub chain_append-requires-clause-last : goal.chain_append-requires-clause-last
chain_append-requires-clause-last g c = c.requires.last ∙ ap (last_or None) (sym (filled_members (g.A.Area.image c.args.area.now) c.args.chain c.args.bytes.now c.requires.sound c.requires.holder c.requires.chain c.requires.kind _ c.in_ok-place.place c.in_ok-place.ensures.placed))

pub chain_append-requires-clause-joins : goal.chain_append-requires-clause-joins
chain_append-requires-clause-joins g c = filled_joins (g.A.Area.image c.args.area.now) c.args.chain c.args.bytes.now c.requires.sound c.requires.holder c.requires.chain c.requires.kind _ c.in_ok-place.place c.in_ok-place.ensures.placed

pub chain_append-requires-clause-short : goal.chain_append-requires-clause-short
chain_append-requires-clause-short g c = omega (arith, c.in_ok-place.ensures.placed.longest, c.requires.room, c.requires.limit)

pub count_up-requires-clause-cdr : goal.count_up-requires-clause-cdr
count_up-requires-clause-cdr g c = let l = mid_long (g.A.Area.image c.args.area.now) c.args.chain c.args.bytes.now c.requires.sound c.requires.holder c.requires.chain c.requires.kind _ c.in_ok-place.place c.in_ok-place.ensures.placed (g.A.Area.image c.chain_append.new.area) c.in_ok-chain_append.ensures.appended in omega arith

pub count_up-requires-clause-inside : goal.count_up-requires-clause-inside
count_up-requires-clause-inside g c = count_room (g.A.Area.image c.args.area.now) c.args.chain c.args.bytes.now c.requires.sound c.requires.holder c.requires.chain c.requires.kind _ c.in_ok-place.place c.in_ok-place.ensures.placed (g.A.Area.image c.chain_append.new.area) c.in_ok-chain_append.ensures.appended

pub count_up-requires-clause-few : goal.count_up-requires-clause-few
count_up-requires-clause-few g c = subst (λ (n : ℕ). n + 1 < 2 ^ 32) (sym (counted_then (g.A.Area.image c.args.area.now) c.args.chain c.args.bytes.now c.requires.sound c.requires.holder c.requires.chain c.requires.kind _ c.in_ok-place.place c.in_ok-place.ensures.placed (g.A.Area.image c.chain_append.new.area) c.in_ok-chain_append.ensures.appended)) c.requires.few

pub returns-clause-added : goal.returns-clause-added
returns-clause-added g c = is_added (g.A.Area.image c.args.area.now) c.args.chain c.args.bytes.now c.requires.sound c.requires.holder c.requires.chain c.requires.kind _ c.in_ok-place.place c.in_ok-place.ensures.placed (g.A.Area.image c.chain_append.new.area) c.in_ok-chain_append.ensures.appended _ c.requires.few c.in_ok-count_up.ensures.counted
