use Rattle.cdf_pages.proofs.Common.{None, Serves, ap, arith, false, file_of, inl, inr, is_some, length, option_copied, page_at, refl, subst, sym, true, ◌*◌, ◌+◌, ◌/◌, ◌∙◌, ◌≡◌}
use Rattle.cdf_pages.proofs.Images.{image_part, file_part}
use Rattle.cdf_pages.proofs.Costs.{takes_same}
use Rattle.cdf_pages.proofs.Filling.{on_ok_map}
use Rattle.cdf_pages.proofs.reading.read_within.Goals as goal

pub returns-in-Some-clause-bytes : goal.returns-in-Some-clause-bytes
returns-in-Some-clause-bytes g c =
    c.read.ensures.bytes ∙ image_part (page_at c.args.sheets.now.changed) (file_of (g.S.Store.disk c.args.store.now)) c.in-Some.page.now c.args.sheets.now.length c.args.number c.args.place (length c.args.out.now)
    (sym c.page.ensures ∙ ap option_copied c.in-Some.is) c.read.ensures.whole c.requires.room c.requires.inside

pub read_clean-requires-clause-backed : goal.read_clean-requires-clause-backed
read_clean-requires-clause-backed g c j lt low =
    let here : (c.args.number * 65536 + j) / 65536 ≡ c.args.number = omega arith in
    let gone : page_at c.args.sheets.now.changed c.args.number ≡ None = sym c.page.ensures ∙ ap option_copied c.in_default.is in
    c.requires.backed (c.args.number * 65536 + j) low (ap (page_at c.args.sheets.now.changed) here ∙ gone)

pub returns-clause-bytes : goal.returns-clause-bytes
returns-clause-bytes g c =
    let gone : page_at c.args.sheets.now.changed c.args.number ≡ None = sym c.page.ensures ∙ ap option_copied c.in_default.is in
    let part = file_part (page_at c.args.sheets.now.changed) (file_of (g.S.Store.disk c.args.store.now)) c.args.sheets.now.length c.args.number c.args.place (length c.args.out.now) gone c.requires.room c.requires.inside
    (λ j lt low. let here : (c.args.number * 65536 + j) / 65536 ≡ c.args.number = omega arith in c.requires.backed (c.args.number * 65536 + j) low (ap (page_at c.args.sheets.now.changed) here ∙ gone)) in
    on_ok_map c.read_clean.result (λ e. e ∙ part) c.read_clean.ensures.bytes

pub returns-clause-serves : goal.returns-clause-serves
returns-clause-serves g c q p e =
    let gone : page_at c.args.sheets.now.changed c.args.number ≡ None = sym c.page.ensures ∙ ap option_copied c.in_default.is in
    elim (c.read_clean.ensures.fewer q p e) [
      | inl old ↦ c.requires.serves q p old
      | inr new ↦ (ap (page_at c.args.sheets.now.changed) new.0 ∙ gone, subst (λ x. Serves g.S.Store.lends (file_of (g.S.Store.disk c.args.store.now)) c.args.sheets.now.length x p) (sym new.0) new.1)
    ]

pub returns-in-Some-clause-used : goal.returns-in-Some-clause-used
returns-in-Some-clause-used g c =
    let there : is_some (page_at c.args.sheets.now.changed c.args.number) ≡ true = ap is_some (sym c.page.ensures ∙ ap option_copied c.in-Some.is) in
    rw there refl

pub returns-in-Some-clause-taken : goal.returns-in-Some-clause-taken
returns-in-Some-clause-taken g c = takes_same _ _ _ refl

pub returns-clause-used : goal.returns-clause-used
returns-clause-used g c =
    let gone : is_some (page_at c.args.sheets.now.changed c.args.number) ≡ false = ap is_some (sym c.page.ensures ∙ ap option_copied c.in_default.is) in
    rw gone c.read_clean.ensures.used

pub returns-clause-taken : goal.returns-clause-taken
returns-clause-taken g c =
    let gone : is_some (page_at c.args.sheets.now.changed c.args.number) ≡ false = ap is_some (sym c.page.ensures ∙ ap option_copied c.in_default.is) in
    rw gone c.read_clean.ensures.taken
