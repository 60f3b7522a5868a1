use Rattle.cdf_values.proofs.Common.{ap, arith, length, meant, sym, ◌∙◌, ◌≡◌}
use Rattle.cdf_values.proofs.ReadLemmas.{counted, goes_on, stops}
use Rattle.cdf_values.proofs.NotationLemmas.{has_size}
use Rattle.cdf_values.proofs.read.read_values.Goals as goal

pub read_word-requires : goal.read_word-requires
read_word-requires c = has_size c.args.t (meant c.notation_of-notation.result) c.text_size-size.result c.notation_of-notation.ensures c.text_size-size.ensures.fits

pub returns-then-not-is_read-clause-err : goal.returns-then-not-is_read-clause-err
returns-then-not-is_read-clause-err c =
    let t = c.args.t in
    let words = c.args.words.now in
    let refused = rw c.if-not-is_read.true at c.in_ok-is_read.ensures in
    let right : length words ≡ c.args.wanted = omega arith in
    counted t c.args.elems c.args.wanted words right ∙ sym c.loop-word.invariant.same
    ∙ stops t c.args.elems c.text_size-size.result c.loop-word.at (meant c.notation_of-notation.result) c.loop-word.bytes.items c.read_word.new.bytes.items c.in-Some.word.now c.loop-word.rest c.next_word.new.self
    c.notation_of-notation.ensures c.text_size-size.ensures.value c.in-Some.ensures.word refused

pub loop-word-preserved : goal.loop-word-preserved
loop-word-preserved c =
    let read = rw c.if-not-is_read.false at c.in_ok-is_read.ensures in
    record {
      count = omega (arith, ap length c.in-Some.ensures.word);
      same = sym (goes_on c.args.t c.args.elems c.text_size-size.result c.loop-word.at (meant c.notation_of-notation.result) c.loop-word.bytes.items c.read_word.new.bytes.items c.in-Some.word.now c.loop-word.rest c.next_word.new.self
          c.notation_of-notation.ensures c.text_size-size.ensures.value c.in-Some.ensures.word read) ∙ c.loop-word.invariant.same;
    }
