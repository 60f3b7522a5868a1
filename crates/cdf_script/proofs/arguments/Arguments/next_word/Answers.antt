use Rattle.std.proofs.Common.{◌∙◌, sym, ap, arith, Ok}
use Rattle.cdf_script.proofs.Words.{takes_word, no_faulty_word}
use Rattle.cdf_script.proofs.arguments.Arguments.next_word.Goals as goal

pub overflow_sub-self : goal.overflow_sub-self
overflow_sub-self c =
    let taken = takes_word c.self.inside.place c.in-Ok-Some.found.used c.self.inside.count c.self.inside.rest.now c.split_at.result.1.now c.in-Ok-Some.found.word c.self.invariant.0
    (rw c.in-Ok-Some.field-0-is at c.in-Ok-Some.ensures.finds) c.split_at.ensures.back in
    omega (arith, taken.1.less)

pub invariant_of-self : goal.invariant_of-self
invariant_of-self c =
    let taken = takes_word c.self.inside.place c.in-Ok-Some.found.used c.self.inside.count c.self.inside.rest.now c.split_at.result.1.now c.in-Ok-Some.found.word c.self.invariant.0
    (rw c.in-Ok-Some.field-0-is at c.in-Ok-Some.ensures.finds) c.split_at.ensures.back in
    (taken.1.count ∙ ap Ok (omega (arith, taken.1.less)), omega arith)

pub unreachable-requires : goal.unreachable-requires
unreachable-requires c = no_faulty_word c.self.inside.place c.self.inside.count c.self.inside.rest.now _ c.self.invariant.0 c.in-Err.ensures.finds

pub returns-in-Ok-Some-clause-word : goal.returns-in-Ok-Some-clause-word
returns-in-Ok-Some-clause-word c =
    let taken = takes_word c.self.inside.place c.in-Ok-Some.found.used c.self.inside.count c.self.inside.rest.now c.split_at.result.1.now c.in-Ok-Some.found.word c.self.invariant.0
    (rw c.in-Ok-Some.field-0-is at c.in-Ok-Some.ensures.finds) c.split_at.ensures.back in
    sym c.self.view_is ∙ taken.1.front
