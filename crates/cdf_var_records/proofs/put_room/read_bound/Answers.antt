use Rattle.cdf_var_records.proofs.Common.{IndexSize, ap, arith}
use Rattle.cdf_var_records.proofs.put_room.read_bound.Goals as goal

pub returns-clause-within : goal.returns-clause-within
returns-clause-within g c =
    let is = c.in_ok-size.ensures.value in
    record { few = omega (arith, ap (λ (s : IndexSize). s.entries) is); narrow = omega (arith, ap (λ (s : IndexSize). s.widest) is) }

pub returns-clause-large : goal.returns-clause-large
returns-clause-large g c = λ lt. rw (c.in_ok-size.ensures.value) at lt
