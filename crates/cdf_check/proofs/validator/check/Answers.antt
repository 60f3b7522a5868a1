use Rattle.cdf_check.proofs.Common.{JudgesImage, JudgesStart, None, Some, image_of, length, read_done, read_more, read_once, refl, sym, trailer_length, ◌-◌, ◌∙◌, ◌≡◌, ◌≢◌}
use Rattle.cdf_check.proofs.PhaseSteps.{image_read, last_read, image_some, image_gdr, image_sizes, image_judged, unsealed_judged, seal_fits, seal_held, seal_broken}
use Rattle.cdf_check.proofs.validator.check.Goals as goal

pub check_front-requires-clause-some : goal.check_front-requires-clause-some
check_front-requires-clause-some g c =
    let f = g.A.Area.image c.args.area.now in
    let start : JudgesStart f None = rw c.in_default.is at c.in_ok-broken.ensures.verdict in
    rw (c.size.ensures, c.trailer_length-trailer.ensures, c.in_ok-cdr.ensures.value, c.read_cdr.ensures.area.image, c.check_start.ensures.area.image) (image_some f start)

pub check_front-requires-clause-gdr : goal.check_front-requires-clause-gdr
check_front-requires-clause-gdr g c =
    let f = g.A.Area.image c.args.area.now in
    let start : JudgesStart f None = rw c.in_default.is at c.in_ok-broken.ensures.verdict in
    rw (c.size.ensures, c.trailer_length-trailer.ensures, c.in_ok-cdr.ensures.value, c.read_cdr.ensures.area.image, c.check_start.ensures.area.image) (sym (image_gdr f start))

pub check_front-requires-clause-sizes : goal.check_front-requires-clause-sizes
check_front-requires-clause-sizes g c =
    let f = g.A.Area.image c.args.area.now in
    let start : JudgesStart f None = rw c.in_default.is at c.in_ok-broken.ensures.verdict in
    rw (c.size.ensures, c.trailer_length-trailer.ensures, c.in_ok-cdr.ensures.value, c.read_cdr.ensures.area.image, c.check_start.ensures.area.image) (image_sizes f start)

pub returns-in-Some-2-clause-verdict : goal.returns-in-Some-2-clause-verdict
returns-in-Some-2-clause-verdict g c =
    let f = g.A.Area.image c.args.area.now in
    let start : JudgesStart f None = rw c.in_default.is at c.in_ok-broken.ensures.verdict in
    let size : c.size.result - c.trailer_length-trailer.result ≡ length f - trailer_length f = rw (c.size.ensures, c.trailer_length-trailer.ensures, c.in_ok-cdr.ensures.value, c.read_cdr.ensures.area.image, c.check_start.ensures.area.image) refl in
    let read : g.A.Area.image c.read_cdr.new.area ≡ f = c.read_cdr.ensures.area.image ∙ c.check_start.ensures.area.image in
    image_judged f start c.in-Some-2.broken (image_read f read size (Some c.in-Some-2.broken) (rw c.in-Some-2.is at c.in_ok-broken-2.ensures.verdict))

pub returns-then-trailer-eq0-clause-verdict : goal.returns-then-trailer-eq0-clause-verdict
returns-then-trailer-eq0-clause-verdict g c =
    let f = g.A.Area.image c.args.area.now in
    let start : JudgesStart f None = rw c.in_default.is at c.in_ok-broken.ensures.verdict in
    let size : c.size.result - c.trailer_length-trailer.result ≡ length f - trailer_length f = rw (c.size.ensures, c.trailer_length-trailer.ensures, c.in_ok-cdr.ensures.value, c.read_cdr.ensures.area.image, c.check_start.ensures.area.image) refl in
    let read : g.A.Area.image c.read_cdr.new.area ≡ f = c.read_cdr.ensures.area.image ∙ c.check_start.ensures.area.image in
    let image : JudgesImage (image_of f) None = image_read f read size None (rw c.in_default-2.is at c.in_ok-broken-2.ensures.verdict) in
    unsealed_judged f start image (rw (c.trailer_length-trailer.ensures, c.in_ok-cdr.ensures.value, c.check_start.ensures.area.image) at c.if-trailer-eq0.true)

pub check_trailer-requires : goal.check_trailer-requires
check_trailer-requires g c =
    let f = g.A.Area.image c.args.area.now in
    let start : JudgesStart f None = rw c.in_default.is at c.in_ok-broken.ensures.verdict in
    let some : trailer_length f ≢ 0 = rw (c.trailer_length-trailer.ensures, c.in_ok-cdr.ensures.value, c.check_start.ensures.area.image) at c.if-trailer-eq0.false in
    rw (c.size.ensures, c.trailer_length-trailer.ensures, c.in_ok-cdr.ensures.value, c.check_front.ensures.area.image, c.read_cdr.ensures.area.image, c.check_start.ensures.area.image) (seal_fits f start some)

pub returns-in-Some-3-clause-verdict : goal.returns-in-Some-3-clause-verdict
returns-in-Some-3-clause-verdict g c =
    let f = g.A.Area.image c.args.area.now in
    let start : JudgesStart f None = rw c.in_default.is at c.in_ok-broken.ensures.verdict in
    let size : c.size.result - c.trailer_length-trailer.result ≡ length f - trailer_length f = rw (c.size.ensures, c.trailer_length-trailer.ensures, c.in_ok-cdr.ensures.value, c.read_cdr.ensures.area.image, c.check_start.ensures.area.image) refl in
    let read : g.A.Area.image c.read_cdr.new.area ≡ f = c.read_cdr.ensures.area.image ∙ c.check_start.ensures.area.image in
    let image : JudgesImage (image_of f) None = image_read f read size None (rw c.in_default-2.is at c.in_ok-broken-2.ensures.verdict) in
    let some : trailer_length f ≢ 0 = rw (c.trailer_length-trailer.ensures, c.in_ok-cdr.ensures.value, c.check_start.ensures.area.image) at c.if-trailer-eq0.false in
    let broken = last_read f (c.check_front.ensures.area.image ∙ read) size (Some c.in-Some-3.finding) (rw c.in-Some-3.is at c.in_ok-finding.ensures.found) in
    rw c.in_phase.ensures (seal_broken f start some image c.in-Some-3.finding.rule c.in-Some-3.finding.place broken)

pub returns-in-Some-3-clause-area : goal.returns-in-Some-3-clause-area
returns-in-Some-3-clause-area g c = read_done (read_more (read_more (read_more (read_once c.in_ok-broken.ensures.area) c.in_ok-cdr.ensures.area) c.in_ok-broken-2.ensures.area) c.in_ok-finding.ensures.area)

pub returns-in-None-clause-verdict : goal.returns-in-None-clause-verdict
returns-in-None-clause-verdict g c =
    let f = g.A.Area.image c.args.area.now in
    let start : JudgesStart f None = rw c.in_default.is at c.in_ok-broken.ensures.verdict in
    let size : c.size.result - c.trailer_length-trailer.result ≡ length f - trailer_length f = rw (c.size.ensures, c.trailer_length-trailer.ensures, c.in_ok-cdr.ensures.value, c.read_cdr.ensures.area.image, c.check_start.ensures.area.image) refl in
    let read : g.A.Area.image c.read_cdr.new.area ≡ f = c.read_cdr.ensures.area.image ∙ c.check_start.ensures.area.image in
    let image : JudgesImage (image_of f) None = image_read f read size None (rw c.in_default-2.is at c.in_ok-broken-2.ensures.verdict) in
    let some : trailer_length f ≢ 0 = rw (c.trailer_length-trailer.ensures, c.in_ok-cdr.ensures.value, c.check_start.ensures.area.image) at c.if-trailer-eq0.false in
    seal_held f start some image (last_read f (c.check_front.ensures.area.image ∙ read) size None (rw c.in-None.is at c.in_ok-finding.ensures.found))
