use Rattle.cdf_pages.proofs.Common.{LiesIn, arith, cases_lt, file_of, inl, inr, page_at, pages_to, refl, rules, sym, ◌*◌, ◌<◌, ◌∙◌, ◌≤◌}
use Rattle.cdf_pages.proofs.Filling.{on_err, on_ok_map, true_not_false}
use Rattle.cdf_pages.proofs.SavedPage.{behind_stays, forgotten_same, goes_or_stays, less_saved}
use Rattle.cdf_pages.proofs.Slots.{some_before}
use Rattle.cdf_pages.proofs.Touched.{touches_none}
use Rattle.cdf_pages.proofs.WritesOver.{over_none}
use Rattle.cdf_pages.proofs.saving.save_first.Goals as goal

pub save_page-requires-clause-writes : goal.save_page-requires-clause-writes
save_page-requires-clause-writes g c =
    let inside : c.args.number * 65536 < c.args.end = search rules in
    omega (arith, c.requires.writes, some_before c.args.sheets.now.changed c.args.number (pages_to c.args.end) (omega (arith, inside)) c.requires.there)

pub returns-then-is_within-clause-writes : goal.returns-then-is_within-clause-writes
returns-then-is_within-clause-writes g c = on_ok_map c.save_page.result (λ before. omega (arith, before, c.save_page.ensures.spare.writes)) c.save_page.ensures.before

pub returns-clause-image : goal.returns-clause-image
returns-clause-image g c =
    let past : c.args.end ≤ c.args.number * 65536 = elim (cases_lt (c.args.number * 65536) c.args.end) [
      | inl within ↦ absurd (true_not_false (sym (c.is_within.ensures.1 within) ∙ c.if-is_within.false))
      | inr after ↦ after
    ] in
    forgotten_same (page_at c.args.sheets.now.changed) (page_at c.take.new.self.changed) (file_of (g.S.Store.disk c.args.store.now)) c.args.sheets.now.length c.args.number c.args.end past c.take.ensures.gone c.requires.behind c.take.ensures.others

pub returns-clause-behind : goal.returns-clause-behind
returns-clause-behind g c =
    behind_stays (page_at c.args.sheets.now.changed) (page_at c.take.new.self.changed) _ _ c.args.end c.args.sheets.now.length (λ i low. refl) (goes_or_stays (page_at c.args.sheets.now.changed) (page_at c.take.new.self.changed) c.args.number c.take.ensures.gone c.take.ensures.others) c.requires.behind

pub returns-clause-writes : goal.returns-clause-writes
returns-clause-writes g c =
    let past : c.args.end ≤ c.args.number * 65536 = elim (cases_lt (c.args.number * 65536) c.args.end) [
      | inl within ↦ absurd (true_not_false (sym (c.is_within.ensures.1 within) ∙ c.if-is_within.false))
      | inr after ↦ after
    ] in
    omega (arith, c.take.ensures.behind (pages_to c.args.end) (omega (arith, past)))

pub returns-clause-less : goal.returns-clause-less
returns-clause-less g c = less_saved (page_at c.args.sheets.now.changed) (page_at c.take.new.self.changed) c.args.number c.take.ensures.gone c.take.ensures.others

pub returns-clause-touched : goal.returns-clause-touched
returns-clause-touched g c = touches_none (LiesIn c.args.number) _ _ refl

pub returns-then-is_within-clause-left : goal.returns-then-is_within-clause-left
returns-then-is_within-clause-left g c =
    let inside : c.args.number * 65536 < c.args.end = search rules in
    let some = some_before c.args.sheets.now.changed c.args.number (pages_to c.args.end) (omega (arith, inside)) c.requires.there in
    on_err c.save_page.result (omega (arith, some, c.save_page.ensures.spare.writes))

pub returns-then-is_within-clause-inside : goal.returns-then-is_within-clause-inside
returns-then-is_within-clause-inside g c =
    let inside : c.args.number * 65536 < c.args.end = search rules in
    on_err c.save_page.result inside

pub returns-then-is_within-clause-idle : goal.returns-then-is_within-clause-idle
returns-then-is_within-clause-idle g c none =
    let inside : c.args.number * 65536 < c.args.end = search rules in
    absurd (omega (arith, inside, none))

pub returns-clause-over : goal.returns-clause-over
returns-clause-over g c = over_none _ _

pub returns-clause-kept : goal.returns-clause-kept
returns-clause-kept g c unchanged q inside =
    let past : c.args.end ≤ c.args.number * 65536 = elim (cases_lt (c.args.number * 65536) c.args.end) [
      | inl within ↦ absurd (true_not_false (sym (c.is_within.ensures.1 within) ∙ c.if-is_within.false))
      | inr after ↦ after
    ] in
    c.take.ensures.others q (λ e. omega (arith, past, inside, e))
