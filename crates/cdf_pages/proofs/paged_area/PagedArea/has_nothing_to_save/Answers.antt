use Rattle.cdf_pages.proofs.Common.{IfNone, None, Option, Some, ap, arith, false, file_of, is_some, page_at, sym, ◌∙◌, ◌≡◌}
use Rattle.std.proofs.lemmas.Bool.{le-leb, leb-true}
use Rattle.std.specs.Prelude.{not}
use Rattle.cdf_pages.proofs.Filling.{none_is, true_not_false}
use Rattle.cdf_pages.proofs.Images.{image_size}
use Rattle.cdf_pages.proofs.paged_area.PagedArea.has_nothing_to_save.Goals as goal
use Rattle.cdf_pages.proofs.paged_area.PagedArea.has_nothing_to_save.Goals.{then-is_none, else-is_none}

where_none : {X : Type 0} {A : Type 0} (o : Option X) → is_some o ≡ false → IfNone o A → A
where_none None e a = a
where_none (Some x) e a = absurd (true_not_false e)

pub returns-then-is_none-2 : goal.returns-then-is_none-2
returns-then-is_none-2 g c =
    let self = c.args.self.now in
    let size = image_size (page_at self.sheets.changed) (file_of (g.S.Store.disk self.store)) self.sheets.length in
    elim c.if-is_none.branch [
      | then-is_none w ↦
          let none = where_none c.first.result (c.is_none.ensures ∙ ap not w.if-is_none.true) c.first.ensures.none in
          let no_tail = none_is c.args.tail.now (w.is_none-then-is_none.ensures ∙ ap not (sym w.value-is ∙ c.if-is_none-2.true)) in (
            λ le. record { unchanged = λ q. ap is_some (none q); short = (let short = leb-true self.file_size self.sheets.length le in omega (arith, short, self.measured, size)); no_tail = no_tail },
            λ h. (let short = h.short in le-leb self.file_size self.sheets.length (omega (arith, short, self.measured, size))),
          )
      | else-is_none w ↦ absurd (true_not_false (sym c.if-is_none-2.true ∙ w.value-is ∙ w.if-is_none.false))
    ]
