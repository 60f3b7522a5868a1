use Rattle.cdf_structure.proofs.Common.{◌∙◌}
use Rattle.cdf_structure.proofs.Sets.{agrees_more}
use Rattle.cdf_structure.proofs.met.Met.add.Goals as goal

pub returns-in_ok-insert-clause-agrees : goal.returns-in_ok-insert-clause-agrees
returns-in_ok-insert-clause-agrees c = record {
  sorted = λ e. cc (e, c.if-not-self.true);
  same = λ e n. rw c.in_ok-push.ensures.items (c.in_ok-insert.ensures.updates.0 n ∙ rw (c.in_ok-prepare.ensures.agrees.same c.if-not-self.true n) (agrees_more n c.args.number c.prepare.new.self.list.items));
}
