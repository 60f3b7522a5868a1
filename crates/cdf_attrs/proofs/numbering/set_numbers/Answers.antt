use Rattle.cdf_attrs.proofs.Common.{AllLie, List, Numbered, ap, at_drop_more, drop, edit_more, edits_by_write, map, subst, sym, with_writes, write_of, ℕ, ◌+◌, ◌∙◌}
use Rattle.cdf_attrs.proofs.DeletingSteps.{lie_still}
use Rattle.cdf_attrs.proofs.numbering.set_numbers.Goals as goal

pub loop-numbered-preserved : goal.loop-numbered-preserved
loop-numbered-preserved g c =
    let l = c.loop-numbered in
    let b = g.A.Area.image c.args.area.now in
    let before = g.A.Area.image l.area in
    let now = g.A.Area.image c.set_unsigned4.new.area in
    let call = c.in_ok-set_unsigned4.ensures in
    let none : Numbered = record { at = 0; field = 0; number = 0 } in
    let next = at_drop_more (map write_of) c.args.numbers.now l.numbered-index none c.loop-numbered-test.true in
    let lie = subst (AllLie before) next l.invariant.lie in
    let goes = ap (with_writes before) (sym next) ∙ l.invariant.goes in
    record {
      lie = lie_still before now (map write_of (drop (l.numbered-index + 1) c.args.numbers.now)) call.area.size lie.1;
      goes = ap (λ (x : List ℕ). with_writes x (map write_of (drop (l.numbered-index + 1) c.args.numbers.now))) call.ok ∙ goes;
      area = edit_more l.invariant.area (edits_by_write call.area);
    }
