-- Rules that were asked one after the other, of which the first broken one is kept.
use Rattle.cdf_structure.proofs.Common.{Finding, Finds, FindsMore, Hold-append, IsBroken-after, IsBroken-before, List, None, Option, Row, Some, [], refl, subst, sym, ◌++◌, ◌≡◌}

pub more_found : (before then now : Option Finding) (xs ys : List Row) → FindsMore before then xs → FindsMore then now ys → FindsMore before now (xs ++ ys)
more_found None None None xs ys p q = Hold-append xs ys p q
more_found None None (Some f) xs ys p q = IsBroken-after xs ys f.rule f.place q
more_found None (Some f) now xs ys p q = subst (Finds (xs ++ ys)) (sym q) (IsBroken-before xs ys f.rule f.place p)
more_found (Some f) then now xs ys p q = subst (λ (o : Option Finding). FindsMore o now ys) p q

pub none_asked : (before : Option Finding) → FindsMore before before []
none_asked None = tt
none_asked (Some f) = refl

pub from_none : (before found : Option Finding) (rows : List Row) → before ≡ None → FindsMore before found rows → Finds rows found
from_none before found rows none p = subst (λ (o : Option Finding). FindsMore o found rows) none p
