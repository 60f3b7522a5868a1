use Rattle.cdf_pages.proofs.Common.{file_of, length, page_at, true, ◌≡◌}
use Rattle.cdf_pages.proofs.Growing.{some_not_none}
use Rattle.cdf_pages.proofs.Images.{some_of}
use Rattle.cdf_pages.proofs.Settled.{dropped_backed, dropped_same}
use Rattle.cdf_pages.proofs.settling.settle_page.Goals as goal

pub returns-clause-image : goal.returns-clause-image
returns-clause-image g c =
    let P = page_at c.args.sheets.now.changed in
    let page = some_of (P c.args.number) (some_not_none _ c.requires.there) in
    let settled : c.in_ok-is_settled.field-0 ≡ true = c.if-not-branch.false in
    dropped_same P (page_at c.take.new.self.changed) (file_of (g.S.Store.disk c.args.store.now)) page.0 c.args.sheets.now.length c.args.number page.1 c.take.ensures.gone c.take.ensures.others
    (c.in_ok-is_settled.ensures.shows settled page.0 page.1)

pub returns-clause-backed : goal.returns-clause-backed
returns-clause-backed g c =
    let settled : c.in_ok-is_settled.field-0 ≡ true = c.if-not-branch.false in
    dropped_backed (page_at c.args.sheets.now.changed) (page_at c.take.new.self.changed) (length (file_of (g.S.Store.disk c.args.store.now))) c.args.sheets.now.length c.args.number c.take.ensures.others
    (c.in_ok-is_settled.ensures.backed settled) c.requires.backed
