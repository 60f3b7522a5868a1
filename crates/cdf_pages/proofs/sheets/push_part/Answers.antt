use Rattle.cdf_pages.proofs.Common.{AllLieBelow, Some, ap, arith, same_Some, subst, sym, was, ◌∙◌}
use Rattle.cdf_pages.proofs.Covered.{below_kept, covers_kept, was_kept}
use Rattle.cdf_pages.proofs.sheets.push_part.Goals as goal

pub returns-in-Some-clause-covers : goal.returns-in-Some-clause-covers
returns-in-Some-clause-covers c =
    covers_kept _ _ c.args.page.now _ c.args.from c.args.upto c.piece.ensures.bytes c.requires.order (omega (arith, c.requires.room, c.piece.ensures.whole)) c.push.result c.requires.room c.push.ensures.kept

pub returns-in-Some-clause-was : goal.returns-in-Some-clause-was
returns-in-Some-clause-was c =
    ap (λ l. Some l) (was_kept _ _ c.args.page.now _ c.args.from c.args.upto c.piece.ensures.bytes c.requires.order (omega (arith, c.requires.room, c.piece.ensures.whole)) c.push.result c.push.ensures.kept c.push.ensures.stays)
    ∙ ap (λ o. was (Some o) (Some c.args.page.now)) (sym c.in-Some.is)

pub returns-in-Some-clause-below : goal.returns-in-Some-clause-below
returns-in-Some-clause-below c below olds is =
    subst (AllLieBelow 65536) (same_Some _ _ is)
    (below_kept _ _ c.args.page.now _ c.args.from c.args.upto c.piece.ensures.bytes c.requires.order (omega (arith, c.requires.room, c.piece.ensures.whole)) c.push.result 65536 c.requires.room c.push.ensures.kept c.push.ensures.stays (below _ c.in-Some.is))
