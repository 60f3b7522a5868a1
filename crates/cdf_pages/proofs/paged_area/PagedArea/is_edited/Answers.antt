use Rattle.cdf_pages.proofs.Common.{Backed, List, None, Option, arith, file_of, length, page_at, suc, zero, ℕ, ◌≡◌, ◌≤◌}
use Rattle.cdf_pages.proofs.Images.{image_file, length-image}
use Rattle.cdf_pages.proofs.paged_area.PagedArea.is_edited.Goals as goal

-- an image of which no page is changed stands in the file
backed_within : (p : ℕ → Option (List ℕ)) (long n : ℕ) → Backed p long n → ((q : ℕ) → p q ≡ None) → n ≤ long
backed_within p long zero backed none = omega arith
backed_within p long (suc n) backed none = omega (arith, backed n (omega arith) (none _))

pub returns-clause-front : goal.returns-clause-front
returns-clause-front g c = λ is.
    let self = c.args.self.now in
    let P = page_at self.sheets.changed in
    let F = file_of (g.S.Store.disk self.store) in
    let none = self.unedited is in
    rw (length-image P F self.sheets.length) (image_file P F self.sheets.length none (backed_within P (length F) self.sheets.length self.backed none))
