use Rattle.std.proofs.Common.{rules}
use Rattle.cdf_bench.proofs.FineFile.{adopted_is_fine}
use Rattle.cdf_bench.proofs.copy.open.Goals as goal

pub returns-in-Ok : goal.returns-in-Ok
returns-in-Ok c = adopted_is_fine c.args.bytes.items c.new.result.bytes.items c.in-Ok.session.bytes.items c.new.ensures.image c.in-Ok.ensures.adopted (λ i. search (rules, c.are_bytes.ensures i))
