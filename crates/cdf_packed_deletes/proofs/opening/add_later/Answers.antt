use Rattle.std.proofs.Common.{ap, arith, ◌∙◌}
use Rattle.cdf_area.specs.Frame.{Frame}
use Rattle.cdf_cuts.proofs.Common.{on_ok_weaker}
use Rattle.cdf_packed_deletes.proofs.OpenAdd.{added_so, has_vacancy, head_so, index_so, short_so}
use Rattle.cdf_packed_deletes.proofs.opening.add_later.Goals as goal

pub overflow_add-vdr : goal.overflow_add-vdr
overflow_add-vdr g c = omega (arith, head_so c.requires.later, short_so c.requires.later c.requires.limit)

pub read_unsigned8-requires : goal.read_unsigned8-requires
read_unsigned8-requires g c = omega (arith, head_so c.requires.later)

pub begin-requires-clause-index : goal.begin-requires-clause-index
begin-requires-clause-index g c = rw (c.in_ok-head.ensures.area.image, c.in_ok-head.ensures.value) (index_so c.requires.later)

pub begin-requires-clause-short : goal.begin-requires-clause-short
begin-requires-clause-short g c = rw (c.in_ok-head.ensures.area.image) (short_so c.requires.later c.requires.limit)

pub add_packed-requires-clause-vacancy : goal.add_packed-requires-clause-vacancy
add_packed-requires-clause-vacancy g c =
    let read = c.in_ok-head.ensures.area in
    let found = c.in_ok-search.ensures.area in
    rw c.deref.ensures.value (has_vacancy (found.image ∙ read.image) (ap (λ (f : Frame g.A.Area.Under). f.limit) (found.frame ∙ read.frame)) (c.in_ok-search.ensures.head ∙ c.in_ok-head.ensures.value) c.in_ok-search.ensures.rec c.in_ok-search.search.start read.image c.in_ok-search.ensures.search.start c.requires.later)

pub add_packed-requires-clause-limit : goal.add_packed-requires-clause-limit
add_packed-requires-clause-limit g c = rw (c.in_ok-search.ensures.area.frame, c.in_ok-head.ensures.area.frame) c.requires.limit

pub returns-clause-added : goal.returns-clause-added
returns-clause-added g c =
    let read = c.in_ok-head.ensures.area in
    let found = c.in_ok-search.ensures.area in
    on_ok_weaker c.add_packed.result (λ adds. added_so (found.image ∙ read.image) (ap (λ (f : Frame g.A.Area.Under). f.limit) (found.frame ∙ read.frame)) (c.in_ok-search.ensures.head ∙ c.in_ok-head.ensures.value) c.in_ok-search.ensures.rec c.in_ok-search.search.start read.image c.in_ok-search.ensures.search.start (rw c.deref.ensures.value at adds)) c.add_packed.ensures.added
