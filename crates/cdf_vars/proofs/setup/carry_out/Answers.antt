use Rattle.cdf_vars.proofs.Common.{MovesGdr, ap, arith, cdr_fits, on_ok_weaker, ℕ, ◌∙◌}
use Rattle.cdf_vars.proofs.SetUpAnswers.{fits_gdr}
use Rattle.cdf_vars.proofs.SetUpFollows.{majority_flags, keeps_follows, moves_follows}
use Rattle.cdf_vars.proofs.setup.carry_out.Goals as goal

pub write_heads-requires-clause-cdr : goal.write_heads-requires-clause-cdr
write_heads-requires-clause-cdr g c = omega (arith, cdr_fits (g.A.Area.image c.args.area.now) c.requires.good)

pub write_heads-requires-clause-room : goal.write_heads-requires-clause-room
write_heads-requires-clause-room g c = fits_gdr _ _ _ c.requires.good c.requires.gdr (omega (arith, c.requires.size, c.if-dims-heads.true))

pub returns-then-dims-heads-clause-follows : goal.returns-then-dims-heads-clause-follows
returns-then-dims-heads-clause-follows g c =
    let r = c.requires in
    let bits = c.majority_flags.ensures ∙ ap (λ (n : ℕ). majority_flags n c.args.majority) r.flags in
    on_ok_weaker _ (keeps_follows _ _ r.good r.empty r.fine _ r.encoding bits r.gdr (omega (arith, r.size)) (omega (arith, r.room, r.limit))) c.write_heads.ensures.written

pub returns-else-dims-heads-clause-follows : goal.returns-else-dims-heads-clause-follows
returns-else-dims-heads-clause-follows g c =
    let r = c.requires in
    let bits = c.majority_flags.ensures ∙ ap (λ (n : ℕ). majority_flags n c.args.majority) r.flags in
    on_ok_weaker _ (λ (moves : MovesGdr (g.A.Area.image c.args.area.now) (g.A.Area.image c.move_gdr.new.area) c.args.encoding c.majority_flags.result c.args.dims.now).
    moves_follows _ _ r.good r.empty r.fine moves.made _ _ r.encoding bits (omega (arith, r.size)) moves.given (omega (arith, r.room, r.limit)))
    c.move_gdr.ensures.moved
