use Rattle.cdf_format.proofs.GoodImageLemmas.{by_shape, good_image}
use Rattle.cdf_format.proofs.SealedRules.{sealed_keeps, sealed_kept}
use Rattle.cdf_format.specs.Shape.{shape}
use Rattle.cdf_format.proofs.laws.sealed_keeps_all_rules.Goals as goal

pub returns-clause-from_shape : goal.returns-clause-from_shape
returns-clause-from_shape c = λ b s first good. sealed_keeps b s first (by_shape b s good)

pub returns-clause-to_shape : goal.returns-clause-to_shape
returns-clause-to_shape c = λ b long rules. let kept = sealed_kept b long rules in (kept.0, good_image b (shape b) kept.1)
