use Rattle.cdf_vars.proofs.Common.{Good, read_done, read_more, read_once, subst, sym}
use Rattle.cdf_vars.proofs.NextEvents.{no_next, shows_next}
use Rattle.cdf_vars.proofs.vars.Vars.next_record.Goals as goal

pub read_next-requires-clause-good : goal.read_next-requires-clause-good
read_next-requires-clause-good g c = subst Good (sym c.reader_of.ensures.area.image) c.requires.good

pub returns-in_default-next-clause-event : goal.returns-in_default-next-clause-event
returns-in_default-next-clause-event g c =
    let found = rw c.in-Some.is at c.in_ok-reader.ensures.reader in
    no_next found c.reader_of.ensures.area.image c.args.from (rw c.in_default-next.is at c.in_ok-next.ensures.next)

pub returns-clause-event : goal.returns-clause-event
returns-clause-event g c =
    let found = rw c.in-Some.is at c.in_ok-reader.ensures.reader in
    shows_next found c.reader_of.ensures.area.image c.args.from c.read_next.new.self.form c.read_next.ensures.form c.in-Some-next.stored (rw c.in-Some-next.is at c.in_ok-next.ensures.next) (rw c.in-Some-next.is at c.in_ok-next.ensures.few) c.record_event.result c.record_event.ensures

pub returns-clause-area : goal.returns-clause-area
returns-clause-area g c = read_done (read_more (read_once c.in_ok-reader.ensures.area) c.in_ok-next.ensures.area)

pub returns-in_default-next-clause-area : goal.returns-in_default-next-clause-area
returns-in_default-next-clause-area g c = read_done (read_more (read_once c.in_ok-reader.ensures.area) c.in_ok-next.ensures.area)
