use Rattle.std.proofs.Common.{Ok, subst}
use Rattle.cdf_model.proofs.SayableForms.{sayable-kept}
use Rattle.cdf_model.specs.Grammar.{parse}
use Rattle.cdf_model.specs.Lines.{kept}
use Rattle.cdf_script.specs.Asking.{Parses}
use Rattle.cdf_script.specs.declared.parsing.Parsed.{Parsed}
use Rattle.cdf_convert_tests.proofs.made.run_line.Goals as goal

pub run_command-requires : goal.run_command-requires
run_command-requires c =
    let line = c.args.line.now in
    sayable-kept line c.in-Ok-Cmd.c (subst (λ (parsed : Parsed). Parses (parse (kept line)) (Ok parsed)) c.in-Ok-Cmd.field-0-is c.in-Ok-Cmd.ensures)
