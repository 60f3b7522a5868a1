-- What the check of a phase finds, once it is known which of the two it is.
use Rattle.cdf_structure.proofs.Common.{Finding, Finds, Hold, IsBroken, List, None, Option, Row, Some, ◌≡◌}

pub none_found : (rows : List Row) (found : Option Finding) → Finds rows found → found ≡ None → Hold rows
none_found rows found finds is = rw is at finds

pub one_found : (rows : List Row) (found : Option Finding) (broken : Finding) → Finds rows found → found ≡ Some broken → IsBroken rows broken.rule broken.place
one_found rows found broken finds is = rw is at finds
