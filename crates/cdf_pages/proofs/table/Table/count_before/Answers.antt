use Rattle.cdf_pages.proofs.Common.{[], arith, if◌then◌else◌, is_some, length, page_at, rules, sym, ◌<◌, ◌≡◌}
use Rattle.cdf_pages.proofs.Slots.{none_counted, one_counted, page_read}
use Rattle.cdf_pages.proofs.table.Table.count_before.Goals as goal

pub loop-at-init : goal.loop-at-init
loop-at-init c = sym (none_counted [])

pub loop-at-preserved : goal.loop-at-preserved
loop-at-preserved c =
    let lt : c.loop-at.at < length c.args.self.now = search rules in
    let one : c.from-count.result ≡ (if is_some (page_at c.args.self.now c.loop-at.at) then 1 else 0) = search (rules, page_read) in
    omega (arith, c.loop-at.invariant, one, one_counted c.args.self.now c.loop-at.at lt)
