use Rattle.cdf_vars.proofs.Common.{IfOk-weaker, PutVal}
use Rattle.cdf_vars.proofs.vars.Vars.put_val.Goals as goal

pub put_bytes-requires : goal.put_bytes-requires
put_bytes-requires g c =
    let may = rw c.in-Put.is at c.in_ok-target.ensures.request in
    let stays = c.read_value_request.ensures.area in
    rw (stays.image, stays.frame) (record { good = c.requires.good; known = c.requires.known; can = may.can; starts = c.read_value_request.ensures.starts; fits = c.requires.fits; limit = c.requires.limit })

pub returns-in-Put-clause-answers : goal.returns-in-Put-clause-answers
returns-in-Put-clause-answers g c =
    let may = rw c.in-Put.is at c.in_ok-target.ensures.request in
    let answers = rw (c.read_value_request.ensures.area.image, c.read_value_request.ensures.area.frame) at c.put_bytes.ensures.answers in
    IfOk-weaker c.put_bytes.result _ _ (λ o answer. answer (PutVal c.args.name.now c.args.rec c.args.index.now c.args.words.now) c.args.name.now may.so) answers

pub returns-in-Refused-clause-answers : goal.returns-in-Refused-clause-answers
returns-in-Refused-clause-answers g c = rw (c.read_value_request.ensures.area.image) ((rw c.in-Refused.is at c.in_ok-target.ensures.request) _)
