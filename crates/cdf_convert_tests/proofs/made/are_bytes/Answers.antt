use Rattle.std.proofs.Common.{arith, length, ◌<◌, ◌≤◌}
use Rattle.cdf_convert_tests.proofs.ByteLists.{all_bytes, one_more}
use Rattle.cdf_convert_tests.proofs.made.are_bytes.Goals as goal

pub loop-byte-preserved : goal.loop-byte-preserved
loop-byte-preserved c =
    let there : c.loop-byte.byte-index < length c.args.bytes.now = omega (arith, c.loop-byte-test.true) in
    one_more c.args.bytes.now c.loop-byte.byte-index _ c.loop-byte.invariant there c.is_byte.ensures

pub returns : goal.returns
returns c =
    let all : length c.args.bytes.now ≤ c.loop-byte.byte-index = omega (arith, c.loop-byte-test.false) in
    all_bytes c.args.bytes.now (λ i lt. c.loop-byte.invariant i (omega (arith, lt, all)))
