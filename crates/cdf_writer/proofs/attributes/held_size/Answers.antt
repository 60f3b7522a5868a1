use Rattle.std.proofs.Common.{List, ap, length, sym, ℕ, ◌+◌, ◌∙◌}
use Rattle.cdf_writer.proofs.EntriesTaken.{held_size_at}
use Rattle.cdf_writer.proofs.attributes.held_size.Goals as goal

pub returns-in-Some-clause-size : goal.returns-in-Some-clause-size
returns-in-Some-clause-size c = ap (λ (l : List ℕ). 56 + length l) c.as_slice.ensures ∙ sym (held_size_at c.args.a.now c.in-Some.held c.in-Some.is)
