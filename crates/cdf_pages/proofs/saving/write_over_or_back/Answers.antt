use Rattle.cdf_pages.proofs.Common.{Disk, HoldsGrown, IsChangedRange, Touches, ap, arith, file_of, image_of, is_in, length, page_at, subst, sym, ◌++◌, ◌∙◌}
use Rattle.cdf_pages.proofs.Back.{back_backed, back_failed, back_image}
use Rattle.cdf_pages.proofs.Between.{holds_between_first}
use Rattle.cdf_pages.proofs.Disks.{is_held}
use Rattle.cdf_pages.proofs.Grew.{grown_between}
use Rattle.cdf_pages.proofs.WritesOver.{unless_failed}
use Rattle.cdf_pages.proofs.saving.write_over_or_back.Goals as goal

pub cut_back-kept-requires-clause-held : goal.cut_back-kept-requires-clause-held
cut_back-kept-requires-clause-held g c =
    let d = g.S.Store.disk c.args.store.now in
    let h = c.in-Err.ensures.failed d (holds_between_first d _ (g.met.S.Store.whole c.args.store.now) c.requires.held) in
    is_held d (g.S.Store.disk c.write_over.new.store) h.bytes h.holds

pub cut_back-kept-requires-clause-size : goal.cut_back-kept-requires-clause-size
cut_back-kept-requires-clause-size g c = omega (arith, c.in-Err.ensures.whole, c.requires.long)

pub returns-in-Ok-clause-saved : goal.returns-in-Ok-clause-saved
returns-in-Ok-clause-saved g c first h = c.in-Ok.ensures.saved first (grown_between first (g.S.Store.disk c.args.store.now) _ h)

pub returns-in-Ok-clause-backed : goal.returns-in-Ok-clause-backed
returns-in-Ok-clause-backed g c i lt none = omega (arith, lt, c.write_over.ensures.long)

pub returns-in-Err-clause-failed : goal.returns-in-Err-clause-failed
returns-in-Err-clause-failed g c first at h =
    let back = c.cut_back-kept.ensures in
    let new = image_of (page_at c.args.sheets.now.changed) (file_of (g.S.Store.disk c.args.store.now)) c.args.sheets.now.length ++ c.args.tail.now in
    back_failed first (g.S.Store.disk c.write_over.new.store) (g.S.Store.disk c.cut_back-kept.new.store) new c.args.file_size at c.cut_back-kept.result
    (λ yes. subst (λ (x : Disk g.S.Store.Under). HoldsGrown first new x) (sym (c.write_over.ensures.over.untouched (back.unchanged yes)).0) h) back.kept back.stays
    (c.in-Err.ensures.failed first (grown_between first (g.S.Store.disk c.args.store.now) new h))

pub returns-in-Err-clause-image : goal.returns-in-Err-clause-image
returns-in-Err-clause-image g c =
    let back = c.cut_back-kept.ensures in
    back_image (page_at c.write_over.new.sheets.changed) (g.S.Store.disk c.write_over.new.store) (g.S.Store.disk c.cut_back-kept.new.store) c.args.file_size c.args.sheets.now.length c.cut_back-kept.result
    (λ yes. c.in-Err.ensures.backed c.requires.backed (back.unchanged yes)) back.kept back.stays
    ∙ c.write_over.ensures.image

pub returns-in-Err-clause-backed : goal.returns-in-Err-clause-backed
returns-in-Err-clause-backed g c =
    let back = c.cut_back-kept.ensures in
    back_backed (page_at c.write_over.new.sheets.changed) (g.S.Store.disk c.write_over.new.store) (g.S.Store.disk c.cut_back-kept.new.store) c.args.file_size c.args.sheets.now.length c.cut_back-kept.result
    (omega (arith, c.in-Err.ensures.whole, c.requires.long)) c.write_over.ensures.long (λ yes. c.in-Err.ensures.backed c.requires.backed (back.unchanged yes)) back.kept back.stays

pub returns-in-Err-clause-touched : goal.returns-in-Err-clause-touched
returns-in-Err-clause-touched g c =
    subst (Touches (IsChangedRange (is_in (page_at c.args.sheets.now.changed)) c.args.sheets.now.length (length c.args.tail.now)) (g.S.Store.disk c.args.store.now).touched) (sym c.cut_back-kept.ensures.touched) c.write_over.ensures.touched

pub returns-in-Err-clause-growth : goal.returns-in-Err-clause-growth
returns-in-Err-clause-growth g c = unless_failed c.cut_back-kept.result (λ no. ap (λ x. x.growth) (c.cut_back-kept.ensures.left no) ∙ c.write_over.ensures.over.growth)

pub returns-in-Err-clause-idle : goal.returns-in-Err-clause-idle
returns-in-Err-clause-idle g c none = unless_failed c.cut_back-kept.result (λ no. c.cut_back-kept.ensures.left no ∙ c.write_over.ensures.idle none)
