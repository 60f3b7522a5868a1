use Rattle.cdf_pages.proofs.Common.{None, Some, ap, get, inl, inr, nat_cmp, page_at, rules, subst, sym, was, ◌∙◌, ◌≡◌}
use Rattle.cdf_pages.proofs.Covered.{was_log}
use Rattle.cdf_pages.proofs.Images.{same_or_not}
use Rattle.cdf_pages.proofs.sheets.Sheets.begin_page.Goals as goal

pub returns-clause-was : goal.returns-clause-was
returns-clause-was c other =
    let page = page_at c.args.self.now.changed c.args.number in
    let now : get nat_cmp c.insert.new.self c.args.number ≡ Some c.log_of-old.result = search rules in
    let before : get nat_cmp c.args.self.now.kept c.args.number ≡ None = search rules in
    let log : was (Some c.log_of-old.result) page ≡ page = ap (λ o. was (Some o) page) c.log_of-old.ensures ∙ was_log page c.has.ensures in
    elim (same_or_not other c.args.number) [
      | inl same ↦ subst (λ q. was (get nat_cmp c.insert.new.self q) (page_at c.args.self.now.changed q) ≡ was (get nat_cmp c.args.self.now.kept q) (page_at c.args.self.now.changed q)) (sym same)
          (ap (λ o. was o page) now ∙ log ∙ ap (λ o. was o page) (sym before))
      | inr differs ↦ ap (λ o. was o (page_at c.args.self.now.changed other)) (search rules)
    ]
