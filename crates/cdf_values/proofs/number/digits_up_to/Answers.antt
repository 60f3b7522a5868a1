use Rattle.cdf_values.proofs.Common.{arith, at_drop_more, digits_from, drop, get_or, sym, ◌+◌, ◌∙◌}
use Rattle.cdf_values.proofs.NumberLemmas.{stops_at}
use Rattle.cdf_values.proofs.number.digits_up_to.Goals as goal

pub returns-in_err-number : goal.returns-in_err-number
returns-in_err-number c =
    let word = c.args.word.now in
    let i = c.loop-byte.byte-index in
    let n = c.loop-byte.number in
    let here = at_drop_more (digits_from c.args.most n) word i 0 (omega arith) in
    let stop = stops_at c.args.most n (get_or word i 0) (drop (i + 1) word) (sym c.with_digit.ensures ∙ c.in_err-number.was) in
    c.from_residual.ensures ∙ sym (sym c.loop-byte.invariant.same ∙ here ∙ stop)
