use Rattle.cdf_var_records.proofs.Common.{List, ap, repeat_more, sym, ℕ, ◌++◌, ◌∙◌}
use Rattle.cdf_var_records.proofs.record.repeated.Goals as goal

pub loop-preserved : goal.loop-preserved
loop-preserved c = c.in_ok-extend_from_slice.ensures.items ∙ ap (λ (xs : List ℕ). xs ++ c.args.value.now) c.loop.invariant ∙ sym (repeat_more c.loop.counter c.args.value.now)
