use Rattle.cdf_pages.proofs.Common.{FailsSaving, Holds, IsChangedRange, List, Ok, OnOk, Touches, ap, arith, file_of, image_of, is_in, is_some, length, page_at, refl, subst, sym, tail_bytes, ℕ, ◌++◌, ◌∙◌}
use Rattle.cdf_pages.proofs.Filling.{on_ok_map, true_not_false}
use Rattle.cdf_pages.proofs.Images.{image_size}
use Rattle.cdf_pages.proofs.SavedArea.{no_mark, saved_already, saved_serves, saved_whole}
use Rattle.cdf_pages.proofs.Touched.{touches_none}
use Rattle.cdf_pages.proofs.WritesOver.{apart_same}
use Rattle.cdf_pages.proofs.paged_area.PagedArea.save.Goals as goal

pub save_image-outcome-requires-clause-unmarked : goal.save_image-outcome-requires-clause-unmarked
save_image-outcome-requires-clause-unmarked g c = no_mark _ c.args.self.now.sheets.marked c.requires.unmarked

pub invariant_of-self : goal.invariant_of-self
invariant_of-self g c =
    let self = c.args.self.now in
    let e = c.save_image-outcome.ensures in
    let P = page_at self.sheets.changed in
    let F = file_of (g.S.Store.disk self.store) in
    record {
      backed = λ i lt none. e.backed i (omega (arith, lt, e.length)) none;
      base_backed = λ size is. (let no = e.marked in cc);
      serves = saved_serves g.S.Store.lends P (page_at c.save_image-outcome.new.sheets.changed) F _ self.sheets.length _ e.length e.image self.clean.entries e.less self.serves;
      measured = c.size-self.ensures;
      valid = self.valid;
      cap = self.cap;
      unedited = λ is q. e.less q (self.unedited is q);
    }

pub returns-then-has_nothing_to_save-clause-saved : goal.returns-then-has_nothing_to_save-clause-saved
returns-then-has_nothing_to_save-clause-saved g c =
    let self = c.args.self.now in
    let found = c.has_nothing_to_save.ensures.0 c.if-has_nothing_to_save.true in
    let no_tail = found.no_tail in
    rw no_tail (saved_whole (g.S.Store.disk self.store) (page_at self.sheets.changed) self.sheets.length (g.met.S.Store.whole self.store) c.requires.held found.unchanged self.backed found.short)

pub returns-then-has_nothing_to_save-clause-unchanged : goal.returns-then-has_nothing_to_save-clause-unchanged
returns-then-has_nothing_to_save-clause-unchanged g c = (c.has_nothing_to_save.ensures.0 c.if-has_nothing_to_save.true).unchanged

pub returns-then-has_nothing_to_save-clause-touched : goal.returns-then-has_nothing_to_save-clause-touched
returns-then-has_nothing_to_save-clause-touched g c = touches_none _ _ _ refl

pub returns-clause-saved : goal.returns-clause-saved
returns-clause-saved g c =
    let self = c.args.self.now in
    subst (λ (l : List ℕ). OnOk c.save_image-outcome.result (Holds (g.S.Store.disk self.store) (image_of (page_at self.sheets.changed) (file_of (g.S.Store.disk self.store)) self.sheets.length ++ l) (g.S.Store.disk c.save_image-outcome.new.store)))
    c.tail_slice-bytes.ensures.bytes c.save_image-outcome.ensures.saved

pub returns-clause-failed : goal.returns-clause-failed
returns-clause-failed g c =
    let self = c.args.self.now in
    subst (λ (l : List ℕ). FailsSaving (g.S.Store.disk self.store) (image_of (page_at self.sheets.changed) (file_of (g.S.Store.disk self.store)) self.sheets.length ++ l) (g.S.Store.disk c.save_image-outcome.new.store) c.save_image-outcome.result)
    c.tail_slice-bytes.ensures.bytes c.save_image-outcome.ensures.failed

pub returns-clause-image : goal.returns-clause-image
returns-clause-image g c =
    ap (λ m. image_of (page_at c.save_image-outcome.new.sheets.changed) (file_of (g.S.Store.disk c.save_image-outcome.new.store)) m) c.save_image-outcome.ensures.length ∙ c.save_image-outcome.ensures.image

pub returns-clause-unchanged : goal.returns-clause-unchanged
returns-clause-unchanged g c = on_ok_map c.save_image-outcome.result (λ none q. ap is_some (none q)) c.save_image-outcome.ensures.none

pub returns-clause-touched : goal.returns-clause-touched
returns-clause-touched g c =
    let self = c.args.self.now in
    let P = page_at self.sheets.changed in
    let size = image_size P (file_of (g.S.Store.disk self.store)) self.sheets.length in
    subst (λ (m : ℕ). Touches (IsChangedRange (is_in P) m (length (tail_bytes c.args.tail))) (g.S.Store.disk self.store).touched (g.S.Store.disk c.save_image-outcome.new.store).touched) (sym size)
    (subst (λ (l : List ℕ). Touches (IsChangedRange (is_in P) self.sheets.length (length l)) (g.S.Store.disk self.store).touched (g.S.Store.disk c.save_image-outcome.new.store).touched) c.tail_slice-bytes.ensures.bytes c.save_image-outcome.ensures.touched)

pub returns-clause-not_called : goal.returns-clause-not_called
returns-clause-not_called g c h = absurd (true_not_false (sym (c.has_nothing_to_save.ensures.1 h) ∙ c.if-has_nothing_to_save.false))

pub returns-then-has_nothing_to_save-clause-apart : goal.returns-then-has_nothing_to_save-clause-apart
returns-then-has_nothing_to_save-clause-apart g c = apart_same {T = Unit {0}} (Ok tt) (g.S.Store.unstored c.args.self.now.store) (g.S.Store.unstored c.args.self.now.store) refl

pub returns-clause-synced : goal.returns-clause-synced
returns-clause-synced g c h = absurd (true_not_false (sym (c.has_nothing_to_save.ensures.1 h) ∙ c.if-has_nothing_to_save.false))

pub returns-clause-untouched : goal.returns-clause-untouched
returns-clause-untouched g c h =
    let self = c.args.self.now in
    absurd (true_not_false (sym (c.has_nothing_to_save.ensures.1 (saved_already (page_at self.sheets.changed) self.edited _ _ c.args.tail self.unedited h)) ∙ c.if-has_nothing_to_save.false))

pub returns-clause-unfailed : goal.returns-clause-unfailed
returns-clause-unfailed g c h =
    let self = c.args.self.now in
    absurd (true_not_false (sym (c.has_nothing_to_save.ensures.1 (saved_already (page_at self.sheets.changed) self.edited _ _ c.args.tail self.unedited h)) ∙ c.if-has_nothing_to_save.false))
