use Rattle.cdf_attrs.proofs.KeptEntries.{contains_removed}
use Rattle.cdf_attrs.proofs.kept_chains.make_room.Goals as goal
use Rattle.std.proofs.lemmas.List.Elements.{All-contains_itself}

pub returns-then-len-ge-MOST_KEPT : goal.returns-then-len-ge-MOST_KEPT
returns-then-len-ge-MOST_KEPT c = contains_removed _ 0 _ c.remove.ensures.items

pub returns-else-len-ge-MOST_KEPT : goal.returns-else-len-ge-MOST_KEPT
returns-else-len-ge-MOST_KEPT c = All-contains_itself _
