use Rattle.cdf_pages.proofs.Common.{None, Serves, ap, arith, file_of, is_some, page_at, refl, sym, ◌*◌, ◌+◌, ◌/◌, ◌∙◌, ◌≡◌}
use Rattle.cdf_pages.proofs.Filling.{none_is}
use Rattle.cdf_pages.proofs.Growing.{serves_file, out_by, fewer_by, apart_by}
use Rattle.cdf_pages.proofs.Keys.{removed_none}
use Rattle.cdf_pages.proofs.Lent.{changed_missing}
use Rattle.cdf_pages.proofs.owning.own_page.Goals as goal

pub take_page-requires-clause-backed : goal.take_page-requires-clause-backed
take_page-requires-clause-backed g c j lt low =
    let here : (c.args.number * 65536 + j) / 65536 ≡ c.args.number = omega arith in
    let gone : page_at c.args.sheets.now.changed c.args.number ≡ None =
    ap (λ m. page_at m c.args.number) (sym c.keep_page.ensures.changed) ∙ none_is (page_at c.keep_page.new.self.changed c.args.number) (sym c.has.ensures ∙ c.if-has.false) in
    c.requires.backed (c.args.number * 65536 + j) (omega (arith, low, c.keep_page.ensures.length)) (ap (page_at c.args.sheets.now.changed) here ∙ gone)

pub take_page-requires-clause-serves : goal.take_page-requires-clause-serves
take_page-requires-clause-serves g c kept e =
    serves_file g.S.Store.lends _ _ c.args.sheets.now.length _ c.args.number kept refl c.keep_page.ensures.length (c.requires.serves kept e).1

pub returns-then-has-clause-out : goal.returns-then-has-clause-out
returns-then-has-clause-out g c =
    changed_missing (λ kept. Serves g.S.Store.lends (file_of (g.S.Store.disk c.args.store.now)) c.args.sheets.now.length c.args.number kept) _ (page_at c.args.sheets.now.changed c.args.number)
    (ap (λ m. is_some (page_at m c.args.number)) (sym c.keep_page.ensures.changed) ∙ sym c.has.ensures ∙ c.if-has.true) c.requires.serves

pub returns-then-has-clause-gone : goal.returns-then-has-clause-gone
returns-then-has-clause-gone g c =
    sym (removed_none c.args.number c.args.clean.now.entries
    (changed_missing (λ kept. Serves g.S.Store.lends (file_of (g.S.Store.disk c.args.store.now)) c.args.sheets.now.length c.args.number kept) _ (page_at c.args.sheets.now.changed c.args.number)
    (ap (λ m. is_some (page_at m c.args.number)) (sym c.keep_page.ensures.changed) ∙ sym c.has.ensures ∙ c.if-has.true) c.requires.serves))

pub returns-in_err-page-clause-fewer : goal.returns-in_err-page-clause-fewer
returns-in_err-page-clause-fewer g c = fewer_by c.args.number c.args.clean.now.entries c.take_page.new.clean.entries c.len-count.ensures.valid.0 c.take_page.ensures.clean

pub returns-in_err-add-clause-fewer : goal.returns-in_err-add-clause-fewer
returns-in_err-add-clause-fewer g c = fewer_by c.args.number c.args.clean.now.entries c.take_page.new.clean.entries c.len-count.ensures.valid.0 c.take_page.ensures.clean

pub returns-clause-out : goal.returns-clause-out
returns-clause-out g c = out_by c.args.number c.args.clean.now.entries c.take_page.new.clean.entries c.len-count.ensures.valid.0 c.take_page.ensures.clean

pub returns-clause-fewer : goal.returns-clause-fewer
returns-clause-fewer g c = fewer_by c.args.number c.args.clean.now.entries c.take_page.new.clean.entries c.len-count.ensures.valid.0 c.take_page.ensures.clean

pub returns-clause-apart : goal.returns-clause-apart
returns-clause-apart g c = apart_by c.args.number _ _ _ (out_by c.args.number c.args.clean.now.entries c.take_page.new.clean.entries c.len-count.ensures.valid.0 c.take_page.ensures.clean) (λ q e. c.in_ok-add.ensures.others q e ∙ ap (λ m. page_at m q) c.keep_page.ensures.changed)
