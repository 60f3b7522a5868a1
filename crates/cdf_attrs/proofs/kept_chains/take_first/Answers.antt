use Rattle.std.proofs.Common.{arith, rules}
use Rattle.cdf_attrs.proofs.KeptEntries.{contains_removed, first_taken, first_within}
use Rattle.std.proofs.lemmas.List.Elements.{All-contains_itself}
use Rattle.cdf_attrs.proofs.kept_chains.take_first.Goals as goal

pub remove-requires : goal.remove-requires
remove-requires c = let within = first_within c.args.chain c.index_of.ensures c.as_slice.ensures.value c.in_ok-i.was in first_of (search (rules, within), grind (arith, within))

pub returns-clause-taken : goal.returns-clause-taken
returns-clause-taken c = first_taken c.args.chain c.index_of.ensures c.as_slice.ensures.value c.in_ok-i.was _ c.remove.ensures.value

pub returns-clause-left : goal.returns-clause-left
returns-clause-left c = contains_removed _ _ _ c.remove.ensures.items

pub returns-in_err-i-clause-left : goal.returns-in_err-i-clause-left
returns-in_err-i-clause-left c = All-contains_itself _
