use Rattle.cdf_check.proofs.Common.{None, add-one, broken_member, cpr_at, false, get_or, holds_more, inl, is_compressed, is_some, not, refl, sym, true, unread_variable, ◌∙◌, ◌≡◌}
use Rattle.cdf_structure.proofs.IndexLists.{had_at}
use Rattle.cdf_structure.proofs.IndexSteps.{cpr_stands}
use Rattle.cdf_check.proofs.image_rules.check_read.Goals as goal

pub returns-then-is_some : goal.returns-then-is_some
returns-then-is_some c = record {
  found = λ b are.
      let i = c.loop-i.i in
      let vdrs = c.args.vdrs.now in
      let vdr = get_or vdrs i 0 in
      let cpr = get_or c.args.cprs.now i None in
      let packed : is_compressed b vdr ≡ true = sym (cpr_stands b vdr cpr (had_at (cpr_at b) vdrs c.args.cprs.now i None c.loop-i-test.true are)) ∙ sym c.is_some.ensures ∙ c.if-is_some.true in
      let wrong : not (is_compressed b vdr) ≡ false = rw packed refl in
      broken_member (unread_variable b) vdrs i 0 99 vdr c.loop-i-test.true (inl (refl, refl, wrong));
}

pub loop-i-preserved : goal.loop-i-preserved
loop-i-preserved c = λ b are.
    let i = c.loop-i.i in
    let vdrs = c.args.vdrs.now in
    let vdr = get_or vdrs i 0 in
    let cpr = get_or c.args.cprs.now i None in
    let plain : is_compressed b vdr ≡ false = sym (cpr_stands b vdr cpr (had_at (cpr_at b) vdrs c.args.cprs.now i None c.loop-i-test.true are)) ∙ sym c.is_some.ensures ∙ c.if-is_some.false in
    let right : not (is_compressed b vdr) ≡ true = rw plain refl in
    rw add-one (holds_more (unread_variable b) vdrs i 0 c.loop-i-test.true (c.loop-i.invariant b are) (right, tt))
