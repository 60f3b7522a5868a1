use Rattle.cdf_pages.proofs.Common.{ap, arith, file_of, image_of, page_at, sym, take, ◌+◌, ◌-◌, ◌∙◌, ◌≡◌}
use Rattle.cdf_pages.proofs.Images.{image_take, image_size}
use Rattle.cdf_pages.proofs.paged_area.PagedAreaArea.shorten.Goals as goal

pub returns-clause-shorter : goal.returns-clause-shorter
returns-clause-shorter g c =
    let P = page_at c.args.self.now.sheets.changed in
    let F = file_of (g.S.Store.disk c.args.self.now.store) in
    let L = c.args.self.now.sheets.length in
    let n = c.args.n in
    let back : L - n + n ≡ L = omega (arith, c.requires.room, image_size P F L) in
    sym (ap (λ z. take (z - n) (image_of P F L)) (image_size P F L) ∙ ap (λ z. take (L - n) (image_of P F z)) (sym back) ∙ image_take P F (L - n) n)
