use Rattle.std.proofs.Common.{arith, length, subst, sym, ◌∙◌}
use Rattle.cdf_writer.specs.Compact.{bodies}
use Rattle.cdf_writer.specs.Progress.{begins, goes_on, run}
use Rattle.cdf_writer.specs.Stops.{CutAt}
use Rattle.cdf_writer.specs.Shown.{IsStarted, begin_bodies, event_bodies}
use Rattle.cdf_writer.proofs.Putting.{cut_at_start, first_next, if_err_weaker, started_unless, took_again}
use Rattle.cdf_writer.proofs.TakenEvents.{cut_in_whole, event_whole, goes_next, shown_size, sound_of, starts_with_head}
use Rattle.cdf_writer.proofs.writer.Writer.put.Goals as goal

pub take_first-requires-clause-head : goal.take_first-requires-clause-head
take_first-requires-clause-head g c = starts_with_head c.requires.0 c.args.e.now c.requires.2 (sym c.requires.1.shows.part_is ∙ c.in-Start.is)

pub take_first-requires-clause-whole : goal.take_first-requires-clause-whole
take_first-requires-clause-whole g c = event_whole c.requires.0 c.args.e.now c.requires.2

pub returns-in-Start-clause-took : goal.returns-in-Start-clause-took
returns-in-Start-clause-took g c taken took =
    let old = c.args.self.now in
    let new = c.take_first.new in
    let e = c.args.e.now in
    let start = sym took.shows.part_is ∙ c.in-Start.is in
    took_again g.A.Area.image g.A.Area.frame old (record { alloc = old.alloc; area = new.area; file = new.file; part = new.part }) taken e (begins (run taken) e) c.take_first.result took
    (first_next taken e start)
    c.take_first.ensures.area.frame
    (c.take_first.ensures.shows (run taken) took.shows)
    c.take_first.ensures.area.fits

pub returns-in-Start-clause-too_large : goal.returns-in-Start-clause-too_large
returns-in-Start-clause-too_large g c taken d rest took fine are =
    let limit = (g.A.Area.frame c.args.self.now.area).limit in
    let e = c.args.e.now in
    let start = sym took.shows.part_is ∙ c.in-Start.is in
    if_err_weaker c.take_first.result (CutAt limit 8 (begin_bodies e)) (CutAt limit 8 (bodies d)) (λ stop cut. cut_at_start limit d taken e rest stop fine are start cut) c.take_first.ensures.area.cut

pub take_event-requires-clause-limit : goal.take_event-requires-clause-limit
take_event-requires-clause-limit g c = omega (arith, c.requires.1.most)

pub take_event-requires-clause-within : goal.take_event-requires-clause-within
take_event-requires-clause-within g c = c.requires.1.within

pub take_event-requires-clause-started : goal.take_event-requires-clause-started
take_event-requires-clause-started g c = started_unless c.args.self.now.part c.in_default.not-Start

pub take_event-requires-clause-whole : goal.take_event-requires-clause-whole
take_event-requires-clause-whole g c = event_whole c.requires.0 c.args.e.now c.requires.2

pub take_event-requires-clause-shown : goal.take_event-requires-clause-shown
take_event-requires-clause-shown g c = (run c.requires.0, c.requires.1.shows)

pub returns-clause-took : goal.returns-clause-took
returns-clause-took g c taken took =
    let old = c.args.self.now in
    let new = c.take_event.new in
    let e = c.args.e.now in
    let started = subst IsStarted took.shows.part_is (started_unless old.part c.in_default.not-Start) in
    took_again g.A.Area.image g.A.Area.frame old (record { alloc = old.alloc; area = new.area; file = new.file; part = new.part }) taken e (goes_on (run taken) e) c.take_event.result took
    (goes_next taken e started)
    c.take_event.ensures.area.frame
    (c.take_event.ensures.shows (run taken) took.shows)
    c.take_event.ensures.area.fits

pub returns-clause-too_large : goal.returns-clause-too_large
returns-clause-too_large g c taken d rest took fine are =
    let old = c.args.self.now in
    let limit = (g.A.Area.frame old.area).limit in
    let long = length (g.A.Area.image old.area) in
    let e = c.args.e.now in
    let started = started_unless old.part c.in_default.not-Start in
    if_err_weaker c.take_event.result (CutAt limit long (event_bodies long old.part old.file.little e)) (CutAt limit 8 (bodies d))
    (λ stop cut. cut_in_whole limit d taken e rest long stop fine are (sound_of took.shows started) (shown_size took.shows started)
    (subst (λ (t : Type 0). t) (λ i. CutAt limit long (event_bodies long (took.shows.part_is i) (took.shows.file_is i).little e) stop) cut))
    c.take_event.ensures.area.cut
