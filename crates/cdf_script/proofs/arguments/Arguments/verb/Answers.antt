use Rattle.cdf_script.proofs.Verbs.{names_verb, names_nothing}
use Rattle.cdf_script.proofs.arguments.Arguments.verb.Goals as goal

pub returns-in_default : goal.returns-in_default
returns-in_default c = rw c.unknown_word.ensures (names_nothing c.in_ok-word.ensures c.as_slice.ensures c.in_default.ensures)

pub returns : goal.returns
returns c = names_verb c.in_ok-word.ensures c.as_slice.ensures c.in-Some.ensures
