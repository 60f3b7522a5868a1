use Rattle.std.proofs.Common.{arith}
use Rattle.std.proofs.lemmas.List.{length-take}
use Rattle.cdf_journal_tests.proofs.saving.edit.Goals as goal

-- room was made up to byte 64, and no call since took of it
pub write_at-requires-3-clause-end : goal.write_at-requires-3-clause-end
write_at-requires-3-clause-end c =
    omega (arith, length-take 4 c.args.new.now, c.in_ok-reserve.ensures.end, c.set_len.ensures.spare.end, c.write_at.ensures.spare.end, c.write_at-2.ensures.spare.end)
