use Rattle.cdf_var_records.proofs.Common.{repeat, ◌≡◌}
use Rattle.cdf_var_records.proofs.record.repeated.Given as goal

abbrev pub invariant-loop : goal.invariant-loop
invariant-loop l = l.bytes.items ≡ repeat l.counter l.value
