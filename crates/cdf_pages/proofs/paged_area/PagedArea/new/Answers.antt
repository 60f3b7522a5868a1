use Rattle.cdf_pages.proofs.Common.{ap, arith, file_of, image_of, page_at, ◌∙◌}
use Rattle.cdf_pages.proofs.Images.{image_file}
use Rattle.cdf_pages.proofs.paged_area.PagedArea.new.Goals as goal

pub returns-clause-image : goal.returns-clause-image
returns-clause-image g c =
    let P = page_at c.new-sheets.result.changed in
    let F = file_of (g.S.Store.disk c.args.store) in
    ap (image_of P F) c.new-sheets.ensures.length ∙ image_file P F c.args.size c.new-sheets.ensures.none (omega (arith, c.requires.size, c.requires.file_size))
