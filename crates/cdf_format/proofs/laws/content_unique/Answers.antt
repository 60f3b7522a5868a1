use Rattle.cdf_format.proofs.ShapeLemmas.{only_content, content_is}
use Rattle.cdf_format.proofs.laws.content_unique.Goals as goal

pub returns-clause-unique : goal.returns-clause-unique
returns-clause-unique c = only_content

pub returns-clause-computed : goal.returns-clause-computed
returns-clause-computed c = content_is
