use Rattle.std.proofs.Common.{◌-◌}
use Rattle.cdf_convert_tests.proofs.ByteLists.{meant_by_front}
use Rattle.cdf_convert_tests.proofs.made.session_over.Goals as goal

pub returns-in-Ok : goal.returns-in-Ok
returns-in-Ok g c = meant_by_front (g.A.Area.image c.args.area) _ c.in-Ok.ensures.adopted c.requires.bytes c.requires.short
