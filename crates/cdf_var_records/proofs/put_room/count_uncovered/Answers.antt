use Rattle.cdf_var_records.proofs.Common.{arith, extent, index_at, max_rec_at, variable_at, ◌+◌, ◌-◌, ◌<◌, ◌∙◌, ◌≡◌}
use Rattle.cdf_var_records.proofs.PutRoomNeeded.{cut_first, first_upto}
use Rattle.cdf_var_records.proofs.put_room.count_uncovered.Goals as goal

pub returns-then-extent-from-clause-count : goal.returns-then-extent-from-clause-count
returns-then-extent-from-clause-count g c =
    let b = g.A.Area.image c.args.area.now in
    let past : extent (max_rec_at b c.args.vdr) < c.args.from = omega (arith, c.in_ok-extent.ensures.extent, c.if-extent-from.true) in
    let upto = first_upto (variable_at b c.args.vdr) c.args.rec c.args.from c.requires.from in
    let same : c.args.rec - c.args.from + 1 ≡ c.args.rec + 1 - c.args.from = omega (arith, upto) in
    same ∙ cut_first (variable_at b c.args.vdr) (index_at b c.args.head) c.args.rec c.args.from c.requires.from c.requires.order past
