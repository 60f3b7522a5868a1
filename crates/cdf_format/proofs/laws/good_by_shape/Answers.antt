use Rattle.cdf_format.proofs.GoodImageLemmas.{good_by_rules, good_image, rules_by_good}
use Rattle.cdf_format.specs.Shape.{shape}
use Rattle.cdf_format.proofs.laws.good_by_shape.Goals as goal

pub returns-clause-from_rules : goal.returns-clause-from_rules
returns-clause-from_rules c = λ b long first rules. good_image b (shape b) (good_by_rules b long first rules)

pub returns-clause-to_rules : goal.returns-clause-to_rules
returns-clause-to_rules c = rules_by_good
