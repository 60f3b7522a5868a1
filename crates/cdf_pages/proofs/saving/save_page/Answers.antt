use Rattle.cdf_pages.proofs.Common.{LiesIn, List, Some, ap, arith, file_of, image_of, inl, inr, length, length-append, length-take-le, min, page_at, refl, rules, sym, take, ℕ, ◌*◌, ◌++◌, ◌+◌, ◌-◌, ◌<◌, ◌∙◌, ◌≡◌, ◌≤◌}
use Rattle.cdf_pages.proofs.Between.{long_part, long_written, part_between, same_part, same_written, written_between}
use Rattle.cdf_pages.proofs.Images.{image_pages, image_size}
use Rattle.cdf_pages.proofs.SavedPage.{behind_stays, given_back, goes_or_stays, page_in_image, part_same, saved_same}
use Rattle.cdf_pages.proofs.Touched.{touches_part, touches_write}
use Rattle.cdf_pages.proofs.Filling.{true_not_false}
use Rattle.cdf_pages.proofs.WritesOver.{over_change, over_part, over_write}
use Rattle.cdf_pages.proofs.saving.save_page.Goals as goal

-- ---- the page was written

pub returns-in-Ok-clause-image : goal.returns-in-Ok-clause-image
returns-in-Ok-clause-image g c =
    let P = page_at c.args.sheets.now.changed in
    let Q = page_at c.take.new.self.changed in
    let page = c.into_bytes.result.items in
    let xs = take c.live_bytes-count.result page in
    let there = sym c.take.ensures.page ∙ c.in-Some.is ∙ ap Some (sym c.into_bytes.ensures.bytes) in
    let short : length xs ≤ 65536 = search rules in
    ap (λ d. image_of Q (file_of d) c.args.sheets.now.length) c.in-Ok.ensures.ok
    ∙ saved_same P Q _ page xs c.args.sheets.now.length c.args.number there (omega (arith, c.requires.inside, c.requires.end, c.requires.long)) short c.take.ensures.others c.args.end c.take.ensures.gone c.requires.inside (ap (λ m. take m page) c.live_bytes-count.ensures) c.into_bytes.ensures.size c.requires.behind

-- the page's bytes end before the end
written_inside : (page : List ℕ) (end number count : ℕ) → number * 65536 < end → count ≡ min 65536 (end - number * 65536) → length page ≡ 65536 → number * 65536 + length (take count page) ≤ end
written_inside page end number count inside is size = omega (arith, inside, is, length-take-le count page (omega (arith, is, size)))

pub returns-in-Ok-clause-long : goal.returns-in-Ok-clause-long
returns-in-Ok-clause-long g c =
    let page = c.into_bytes.result.items in
    long_written (g.S.Store.disk c.args.store.now) (g.S.Store.disk c.write_page.new.self) (c.args.number * 65536) c.args.end (take c.live_bytes-count.result page)
    (written_inside page c.args.end c.args.number c.live_bytes-count.result c.requires.inside c.live_bytes-count.ensures c.into_bytes.ensures.size) (omega (arith, c.requires.end, c.requires.long)) c.in-Ok.ensures.ok

pub returns-in-Ok-clause-same : goal.returns-in-Ok-clause-same
returns-in-Ok-clause-same g c =
    let page = c.into_bytes.result.items in
    same_written (g.S.Store.disk c.args.store.now) (g.S.Store.disk c.write_page.new.self) (c.args.number * 65536) c.args.end (take c.live_bytes-count.result page)
    (written_inside page c.args.end c.args.number c.live_bytes-count.result c.requires.inside c.live_bytes-count.ensures c.into_bytes.ensures.size) (omega (arith, c.requires.end, c.requires.long)) c.in-Ok.ensures.ok

pub returns-in-Ok-clause-behind : goal.returns-in-Ok-clause-behind
returns-in-Ok-clause-behind g c =
    let page = c.into_bytes.result.items in
    let same = same_written (g.S.Store.disk c.args.store.now) (g.S.Store.disk c.write_page.new.self) (c.args.number * 65536) c.args.end (take c.live_bytes-count.result page)
    (written_inside page c.args.end c.args.number c.live_bytes-count.result c.requires.inside c.live_bytes-count.ensures c.into_bytes.ensures.size) (omega (arith, c.requires.end, c.requires.long)) c.in-Ok.ensures.ok in
    behind_stays (page_at c.args.sheets.now.changed) (page_at c.take.new.self.changed) _ _ c.args.end c.args.sheets.now.length same (goes_or_stays (page_at c.args.sheets.now.changed) (page_at c.take.new.self.changed) c.args.number c.take.ensures.gone c.take.ensures.others) c.requires.behind

pub returns-in-Ok-clause-between : goal.returns-in-Ok-clause-between
returns-in-Ok-clause-between g c first tail whole h =
    let page = c.into_bytes.result.items in
    let xs = take c.live_bytes-count.result page in
    let there = sym c.take.ensures.page ∙ c.in-Some.is ∙ ap Some (sym c.into_bytes.ensures.bytes) in
    let in_image = page_in_image (page_at c.args.sheets.now.changed) (file_of (g.S.Store.disk c.args.store.now)) page xs tail c.args.sheets.now.length c.args.number c.args.end there c.into_bytes.ensures.size
    (ap (λ m. take m page) c.live_bytes-count.ensures) c.requires.inside c.requires.end in
    let image = image_of (page_at c.args.sheets.now.changed) (file_of (g.S.Store.disk c.args.store.now)) c.args.sheets.now.length in
    let long : length (image ++ tail) ≤ length (file_of (g.S.Store.disk c.args.store.now)) = omega (arith, whole, length-append image tail, image_size (page_at c.args.sheets.now.changed) (file_of (g.S.Store.disk c.args.store.now)) c.args.sheets.now.length) in
    written_between first (g.S.Store.disk c.args.store.now) _ (c.args.number * 65536) xs h long in_image.0 in_image.1 (g.S.Store.disk c.write_page.new.self) c.in-Ok.ensures.ok

pub returns-in-Ok-clause-touched : goal.returns-in-Ok-clause-touched
returns-in-Ok-clause-touched g c =
    let xs = take c.live_bytes-count.result c.into_bytes.result.items in
    let short : length xs ≤ 65536 = search rules in
    touches_write (LiesIn c.args.number) (g.S.Store.disk c.args.store.now) (g.S.Store.disk c.write_page.new.self) (c.args.number * 65536) xs (omega arith, omega (arith, short)) c.in-Ok.ensures.ok

-- some of its bytes lie before the end, and all that are written
some_inside : (end number count : ℕ) → number * 65536 < end → count ≡ min 65536 (end - number * 65536) → (0 < count) × (number * 65536 + count ≤ end)
some_inside end number count inside is = (omega (arith, inside, is), omega (arith, inside, is))

pub returns-in-Ok-clause-over : goal.returns-in-Ok-clause-over
returns-in-Ok-clause-over g c =
    let some = some_inside c.args.end c.args.number c.live_bytes-count.result c.requires.inside c.live_bytes-count.ensures in
    over_write (g.S.Store.disk c.args.store.now) (g.S.Store.disk c.write_page.new.self) (g.S.Store.unstored c.args.store.now) (g.S.Store.unstored c.write_page.new.self) (c.args.number * 65536) c.live_bytes-count.result
    (omega (arith, some.1, c.requires.end, c.requires.long)) some.0 c.in-Ok.ensures.unstored

pub returns-in-Ok-clause-kept : goal.returns-in-Ok-clause-kept
returns-in-Ok-clause-kept g c unchanged =
    let some = some_inside c.args.end c.args.number c.live_bytes-count.result c.requires.inside c.live_bytes-count.ensures in
    let changed = over_change (length (file_of (g.S.Store.disk c.args.store.now))) (c.args.number * 65536) c.live_bytes-count.result (g.S.Store.unstored c.args.store.now) (omega (arith, some.1, c.requires.end, c.requires.long)) some.0 in
    absurd (true_not_false (sym (ap (λ x. x.change) c.in-Ok.ensures.unstored ∙ changed) ∙ unchanged))

-- ---- it came back, and is what it was

same : (g : _) (c : goal.After-put g) (q : ℕ) → page_at c.put.new.self.changed q ≡ page_at c.args.sheets.now.changed q
same g c =
    let back = c.put.ensures.added ∙ ap Some (c.new.ensures ∙ c.in-Err.ensures.back ∙ c.into_bytes.ensures.bytes) ∙ sym c.in-Some.is ∙ c.take.ensures.page in
    given_back (page_at c.args.sheets.now.changed) (page_at c.take.new.self.changed) (page_at c.put.new.self.changed) c.args.number back c.take.ensures.others c.put.ensures.others

pub returns-in-Err-clause-image : goal.returns-in-Err-clause-image
returns-in-Err-clause-image g c =
    let P = page_at c.args.sheets.now.changed in
    let Q = page_at c.put.new.self.changed in
    let F = file_of (g.S.Store.disk c.args.store.now) in
    let n = c.args.sheets.now.length in
    let page = c.into_bytes.result.items in
    let xs = take c.live_bytes-count.result page in
    let there = sym c.take.ensures.page ∙ c.in-Some.is ∙ ap Some (sym c.into_bytes.ensures.bytes) in
    let short : length xs ≤ 65536 = search rules in
    image_pages P Q _ n (same g c)
    ∙ elim c.in-Err.ensures.part [
      | inl none ↦ ap (λ d. image_of P (file_of d) n) none
      | inr w ↦ ap (λ d. image_of P (file_of d) n) w.2 ∙ part_same P P F page (take w.0 xs) n c.args.number there (omega (arith, c.requires.inside, c.requires.end, c.requires.long)) (omega (arith, short, w.1, length-take-le w.0 xs w.1)) (λ q e. refl)
    ]

pub returns-in-Err-clause-long : goal.returns-in-Err-clause-long
returns-in-Err-clause-long g c =
    let page = c.into_bytes.result.items in
    long_part (g.S.Store.disk c.args.store.now) (g.S.Store.disk c.write_page.new.self) (c.args.number * 65536) c.args.end (take c.live_bytes-count.result page)
    (written_inside page c.args.end c.args.number c.live_bytes-count.result c.requires.inside c.live_bytes-count.ensures c.into_bytes.ensures.size) (omega (arith, c.requires.end, c.requires.long)) c.in-Err.ensures.part

pub returns-in-Err-clause-same : goal.returns-in-Err-clause-same
returns-in-Err-clause-same g c =
    let page = c.into_bytes.result.items in
    same_part (g.S.Store.disk c.args.store.now) (g.S.Store.disk c.write_page.new.self) (c.args.number * 65536) c.args.end (take c.live_bytes-count.result page)
    (written_inside page c.args.end c.args.number c.live_bytes-count.result c.requires.inside c.live_bytes-count.ensures c.into_bytes.ensures.size) (omega (arith, c.requires.end, c.requires.long)) c.in-Err.ensures.part

pub returns-in-Err-clause-behind : goal.returns-in-Err-clause-behind
returns-in-Err-clause-behind g c =
    let page = c.into_bytes.result.items in
    let unwritten = same_part (g.S.Store.disk c.args.store.now) (g.S.Store.disk c.write_page.new.self) (c.args.number * 65536) c.args.end (take c.live_bytes-count.result page)
    (written_inside page c.args.end c.args.number c.live_bytes-count.result c.requires.inside c.live_bytes-count.ensures c.into_bytes.ensures.size) (omega (arith, c.requires.end, c.requires.long)) c.in-Err.ensures.part in
    behind_stays (page_at c.args.sheets.now.changed) (page_at c.put.new.self.changed) _ _ c.args.end c.args.sheets.now.length unwritten (λ q. inr (same g c q)) c.requires.behind

pub returns-in-Err-clause-between : goal.returns-in-Err-clause-between
returns-in-Err-clause-between g c first tail whole h =
    let page = c.into_bytes.result.items in
    let xs = take c.live_bytes-count.result page in
    let there = sym c.take.ensures.page ∙ c.in-Some.is ∙ ap Some (sym c.into_bytes.ensures.bytes) in
    let in_image = page_in_image (page_at c.args.sheets.now.changed) (file_of (g.S.Store.disk c.args.store.now)) page xs tail c.args.sheets.now.length c.args.number c.args.end there c.into_bytes.ensures.size
    (ap (λ m. take m page) c.live_bytes-count.ensures) c.requires.inside c.requires.end in
    let image = image_of (page_at c.args.sheets.now.changed) (file_of (g.S.Store.disk c.args.store.now)) c.args.sheets.now.length in
    let long : length (image ++ tail) ≤ length (file_of (g.S.Store.disk c.args.store.now)) = omega (arith, whole, length-append image tail, image_size (page_at c.args.sheets.now.changed) (file_of (g.S.Store.disk c.args.store.now)) c.args.sheets.now.length) in
    part_between first (g.S.Store.disk c.args.store.now) _ (c.args.number * 65536) xs h long in_image.0 in_image.1 (g.S.Store.disk c.write_page.new.self) c.in-Err.ensures.part

pub returns-in-Err-clause-touched : goal.returns-in-Err-clause-touched
returns-in-Err-clause-touched g c =
    let xs = take c.live_bytes-count.result c.into_bytes.result.items in
    let short : length xs ≤ 65536 = search rules in
    touches_part (LiesIn c.args.number) (g.S.Store.disk c.args.store.now) (g.S.Store.disk c.write_page.new.self) (c.args.number * 65536) xs (λ n within. (omega arith, omega (arith, within, short))) c.in-Err.ensures.part

pub returns-in-Err-clause-over : goal.returns-in-Err-clause-over
returns-in-Err-clause-over g c =
    let some = some_inside c.args.end c.args.number c.live_bytes-count.result c.requires.inside c.live_bytes-count.ensures in
    over_part (g.S.Store.disk c.args.store.now) (g.S.Store.disk c.write_page.new.self) (g.S.Store.unstored c.args.store.now) (g.S.Store.unstored c.write_page.new.self) (c.args.number * 65536) c.live_bytes-count.result
    (omega (arith, some.1, c.requires.end, c.requires.long)) c.in-Err.ensures.left

pub returns-in-Err-clause-back : goal.returns-in-Err-clause-back
returns-in-Err-clause-back g c q = same g c q

pub returns-in-Err-clause-others : goal.returns-in-Err-clause-others
returns-in-Err-clause-others g c q else = same g c q

pub returns-in-Err-clause-kept : goal.returns-in-Err-clause-kept
returns-in-Err-clause-kept g c unchanged q inside = same g c q
