use Rattle.std.proofs.Common.{◌∙◌}
use Rattle.cdf_writer_tests.specs.Example.{example}
use Rattle.cdf_writer_tests.proofs.Fines.{fine}
use Rattle.cdf_writer_tests.proofs.writing.example_in.Goals as goal

pub written-requires-clause-fine : goal.written-requires-clause-fine
written-requires-clause-fine c = (example, fine, c.deref.ensures.value ∙ c.in_ok-events.ensures)
