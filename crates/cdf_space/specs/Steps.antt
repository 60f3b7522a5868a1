-- Where the links of a chain stand (CDF Internal Format Description, "Attribute Descriptor Record" and the others: the field of the next record).
use Rattle.std.specs.Prelude.{ℕ, ◌+◌, List, Some, None}
use Rattle.std.specs.declared.option.Option.{Option}
use Rattle.cdf_edits.specs.Space.Chains.{holder_of, head_of}
use Rattle.cdf_edits.specs.declared.chain.Chain.{Chain}
use Rattle.cdf_format.specs.Chains.{next_field}

-- the next field of a record of the chain, or the head where there is none
abbrev pub link_place : List ℕ → Chain → Option ℕ → ℕ
link_place b c None = holder_of b c + (head_of c).place
link_place b c (Some member) = member + next_field.place
