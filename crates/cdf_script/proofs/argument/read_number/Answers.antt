use Rattle.std.proofs.Common.{sym}
use Rattle.cdf_script.proofs.Numbers.{too_large, all_digits}
use Rattle.cdf_script.proofs.argument.read_number.Goals as goal

pub returns-in_default : goal.returns-in_default
returns-in_default c = too_large c.args.word.now c.loop-byte.byte-index c.loop-byte.number c.loop-byte-test.true c.loop-byte.invariant.so_far c.in_default.ensures

pub returns : goal.returns
returns c = all_digits c.args.word.now c.loop-byte.byte-index c.loop-byte.number c.loop-byte-test.false c.loop-byte.invariant.so_far (sym c.if-not-is_plain.ensures) c.loop-byte.invariant.fits
