use Rattle.cdf_check.proofs.Common.{Finds, In-get_or, None, Some, add-one, broken_member, entry_rows, get_or, holds_more, read_more}
use Rattle.cdf_check.proofs.entries.check_each.Goals as goal

pub check_entry-requires-clause-entry : goal.check_entry-requires-clause-entry
check_entry-requires-clause-entry g c =
    let l = c.loop-entry in
    let m = get_or c.args.entries.now l.entry-index 0 in
    rw l.invariant.area.image (c.requires.entries m (In-get_or c.args.entries.now l.entry-index c.loop-entry-test.true))

pub returns-in-Some-clause-found : goal.returns-in-Some-clause-found
returns-in-Some-clause-found g c =
    let l = c.loop-entry in
    let b = g.A.Area.image c.args.area.now in
    let m = get_or c.args.entries.now l.entry-index 0 in
    let here : Finds (entry_rows b c.args.adr m) (Some c.in-Some.broken) = rw (c.in-Some.is, l.invariant.area.image) at c.in_ok-broken.ensures.found in
    broken_member (entry_rows b c.args.adr) c.args.entries.now l.entry-index 0 c.in-Some.broken.rule c.in-Some.broken.place c.loop-entry-test.true here

pub loop-entry-preserved : goal.loop-entry-preserved
loop-entry-preserved g c =
    let l = c.loop-entry in
    let b = g.A.Area.image c.args.area.now in
    let m = get_or c.args.entries.now l.entry-index 0 in
    let here : Finds (entry_rows b c.args.adr m) None = rw (c.in_default.is, l.invariant.area.image) at c.in_ok-broken.ensures.found in
    record {
      area = read_more l.invariant.area c.in_ok-broken.ensures.area;
      rows = rw add-one (holds_more (entry_rows b c.args.adr) c.args.entries.now l.entry-index 0 c.loop-entry-test.true l.invariant.rows here);
    }
