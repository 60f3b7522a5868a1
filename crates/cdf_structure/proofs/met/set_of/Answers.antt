use Rattle.cdf_structure.proofs.Common.{ap, get_or, is_in, sym, take, take_at_read, ◌∙◌}
use Rattle.cdf_structure.proofs.Sets.{agrees_more}
use Rattle.cdf_structure.proofs.met.set_of.Goals as goal

pub loop-number-preserved : goal.loop-number-preserved
loop-number-preserved c =
    let l = c.loop-number in
    let list = c.args.list.now in
    let number = get_or list l.number-index 0 in
    record {
      same = λ n. c.in_ok-insert.ensures.updates.0 n ∙ rw (l.invariant.same n) (agrees_more n number (take l.number-index list)) ∙ ap (is_in n) (sym (take_at_read list l.number-index 0 c.loop-number-test.true).1);
    }
