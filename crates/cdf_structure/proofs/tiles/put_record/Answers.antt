use Rattle.cdf_structure.proofs.Common.{List, [], ap, ℕ, ◌++◌, ◌∷◌}
use Rattle.cdf_structure.proofs.RecordSteps.{found_first, unused_more, unused_same}
use Rattle.cdf_structure.proofs.tiles.put_record.Goals as goal

pub returns-in_ok-push-2-clause-sorted : goal.returns-in_ok-push-2-clause-sorted
returns-in_ok-push-2-clause-sorted g c = λ s.
    let b = g.A.Area.image c.args.area.now in
    let place = c.args.place in
    let w = c.args.walked.now in
    let type = c.in_ok-record_type.ensures.value in
    record {
      unused = rw (c.in_ok-push-2.ensures.items, c.in_ok-push.ensures.items, unused_more b w.records.all.items place (rw type at c.if-record_type.true)) (ap (λ (xs : List ℕ). xs ++ place ∷ []) s.unused);
      found = rw (c.or-walked.ensures, c.in_ok-push.ensures.items) (found_first b w.records.all.items place c.in_ok-record_type.record_type c.args.size w.broken c.check_head-here.result type c.requires.size s.found c.check_head-here.ensures);
    }

pub returns-else-record_type-clause-sorted : goal.returns-else-record_type-clause-sorted
returns-else-record_type-clause-sorted g c = λ s.
    let b = g.A.Area.image c.args.area.now in
    let place = c.args.place in
    let w = c.args.walked.now in
    let type = c.in_ok-record_type.ensures.value in
    record {
      unused = rw (c.in_ok-push.ensures.items, unused_same b w.records.all.items place (rw type at c.if-record_type.false)) s.unused;
      found = rw (c.or-walked.ensures, c.in_ok-push.ensures.items) (found_first b w.records.all.items place c.in_ok-record_type.record_type c.args.size w.broken c.check_head-here.result type c.requires.size s.found c.check_head-here.ensures);
    }
