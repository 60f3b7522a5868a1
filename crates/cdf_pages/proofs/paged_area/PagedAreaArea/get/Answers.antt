use Rattle.cdf_pages.proofs.Common.{ap, arith, file_of, length, sym, ◌∙◌}
use Rattle.cdf_pages.proofs.Growing.{serves_same}
use Rattle.cdf_pages.proofs.paged_area.PagedAreaArea.get.Goals as goal

pub invariant_of-self : goal.invariant_of-self
invariant_of-self g c =
    let self = c.args.self.now in
    let e = c.read_range.ensures in
    let size = ap (λ d. length (file_of d)) e.disk in
    record {
      backed = λ i lt none. let stood = self.backed i lt none in omega (arith, stood, size);
      base_backed = λ marked is. let old = self.base_backed marked is in (old.0, λ i lt none. let stood = old.1 i lt none in omega (arith, stood, size));
      serves = serves_same g.S.Store.lends _ _ _ _ c.read_range.new.clean.entries (ap (λ d. file_of d) (sym e.disk)) e.serves;
      measured = self.measured ∙ sym size;
      valid = e.valid;
      cap = e.cap ∙ self.cap;
      unedited = self.unedited;
    }
