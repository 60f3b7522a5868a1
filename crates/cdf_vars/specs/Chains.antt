-- The chains of the variables of a file (CDF Internal Format Description, "Global Descriptor Record": rVDRhead, zVDRhead).
use Rattle.cdf_edits.specs.declared.chain.Chain.{Chain}
use Rattle.cdf_edits.specs.Space.VariableChains.{variables_chain}
use Rattle.cdf_model.specs.declared.kinds.Kind.{Kind}

-- the chain of the variables of a kind
abbrev pub chain_of : Kind → Chain
chain_of kind = variables_chain kind
