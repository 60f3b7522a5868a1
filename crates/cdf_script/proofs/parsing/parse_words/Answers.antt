use Rattle.cdf_model.specs.Grammar.{parse_words}
use Rattle.cdf_script.proofs.Takes.{parse_fails}
use Rattle.cdf_script.proofs.parsing.parse_words.Goals as goal

pub returns-in_err-verb : goal.returns-in_err-verb
returns-in_err-verb c =
    parse_fails (parse_words c.args.line_length c.args.arguments.now) c.from_residual.result _ c.from_residual.ensures.1 (c.in_err-verb.ensures c.args.line_length)
