use Rattle.std.proofs.Common.{arith}
use Rattle.cdf_script.proofs.Verbs.{next_dropped, some_left, stands_at}
use Rattle.cdf_script.proofs.arguments.Arguments.place_of_word.Goals as goal

pub loop-passed-preserved : goal.loop-passed-preserved
loop-passed-preserved c = record {
  so_far = next_dropped c.loop-passed.passed c.args.self.now c.loop-passed.left c.skip_word.new.self c.loop-passed.invariant.so_far c.skip_word.ensures;
  below = omega arith;
}

pub unreachable-requires : goal.unreachable-requires
unreachable-requires c = some_left c.loop-passed.passed c.args.number c.args.self.now c.loop-passed.left c.loop-passed.invariant.so_far (omega arith) c.requires c.in_default.ensures.none

pub returns : goal.returns
returns c = stands_at c.loop-passed.passed c.args.number c.args.self.now c.loop-passed.left c.next_word.new.self c.in-Some.word c.place.result c.loop-passed.invariant.so_far (omega arith) c.in-Some.ensures.word c.place.ensures
