use Rattle.std.proofs.Common.{rules, ◌≡◌, ◌∙◌, ◌++◌, ◌∷◌, [], ap, ap₂, List, length}
use Rattle.cdf_area.specs.declared.undo_log.Span.{Span}
use Rattle.cdf_area.specs.OldBytes.{Old, olds_of}
use Rattle.cdf_area.proofs.Olds.{olds_of-push}
use Rattle.cdf_area.proofs.undo_log.UndoLog.push.Goals as goal

pub returns-clause-kept : goal.returns-clause-kept
returns-clause-kept c =
    let span : Span = record { place = c.args.place; count = length c.args.bytes.now } in
    let spans : c.push.new.self.items ≡ c.self.inside.spans.items ++ span ∷ [] = search rules in
    let saved : c.extend_from_slice.new.self.items ≡ c.self.inside.saved.items ++ c.args.bytes.now = search rules in
    ap₂ olds_of spans saved
    ∙ olds_of-push c.self.inside.spans.items c.self.inside.saved.items span c.args.bytes.now c.self.invariant (search rules)
    ∙ ap (λ (olds : List Old). olds ++ record { place = c.args.place; bytes = c.args.bytes.now } ∷ []) c.self.view_is
