use Rattle.cdf_vars.proofs.Common.{ap, arith, edit_more, edits_by_write, get_or, got_in, of_z-to_z, vdr_num, w32, with_field, ◌+◌, ◌∙◌}
use Rattle.cdf_vars.proofs.RemovalAnswers.{lie_still, one_numbered}
use Rattle.cdf_vars.proofs.removing.set_numbers.Goals as goal

pub set_vdr_num-requires : goal.set_vdr_num-requires
set_vdr_num-requires g c = let l = c.loop-i.invariant.lie _ (got_in c.args.places.now c.loop-i.i c.loop-i-test.true) in omega arith

pub loop-i-preserved : goal.loop-i-preserved
loop-i-preserved g c =
    let l = c.loop-i in
    let call = c.in_ok-set_vdr_num.ensures in
    let b = g.A.Area.image l.area in
    let place = get_or c.args.places.now l.i 0 in
    let number = of_z-to_z w32 (c.args.first + l.i) (let few = c.requires.few in let lt = c.loop-i-test.true in omega arith) in
    record {
      lie = lie_still (g.A.Area.image l.area) (g.A.Area.image c.set_vdr_num.new.area) c.args.places.now call.area.size l.invariant.lie;
      goes = one_numbered (g.A.Area.image l.area) (g.A.Area.image c.set_vdr_num.new.area) c.args.places.now c.args.first l.i _ c.loop-i-test.true (call.ok ∙ ap (with_field b place vdr_num) number) l.invariant.goes;
      area = edit_more l.invariant.area (edits_by_write call.area);
    }
