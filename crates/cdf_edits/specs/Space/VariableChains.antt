-- The chain of the variables of a kind.
use Rattle.cdf_edits.specs.declared.chain.Chain.{Chain}
use Rattle.cdf_edits.specs.declared.chain.Chain.TheVariants.{RVars, ZVars}
use Rattle.cdf_model.specs.declared.kinds.Kind.{Kind}
use Rattle.cdf_model.specs.declared.kinds.Kind.TheVariants.{R, Z}

abbrev pub variables_chain : Kind → Chain
variables_chain R = RVars
variables_chain Z = ZVars
