use Rattle.std.proofs.Common.{rules, ap, arith}
use Rattle.cdf_area.specs.OldBytes.{back}
use Rattle.cdf_area.proofs.Backs.{back-kept, take-put_past}
use Rattle.cdf_area.proofs.mem_area.Mark.keep_old.Goals as goal

pub returns-in_ok-push-clause-base : goal.returns-in_ok-push-clause-base
returns-in_ok-push-clause-base c =
    rw c.in_ok-push.ensures.kept (back-kept c.args.self.now.log c.args.bytes.now c.args.place c.args.written.now c.args.self.now.size _ c.requires.range c.requires.size (omega arith) (search rules))

pub returns-else-place-end-clause-base : goal.returns-else-place-end-clause-base
returns-else-place-end-clause-base c =
    ap (back c.args.self.now.log) (take-put_past c.args.bytes.now c.args.place c.args.written.now c.args.self.now.size c.requires.range (search rules))
