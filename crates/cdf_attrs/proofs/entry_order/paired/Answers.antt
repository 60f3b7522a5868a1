use Rattle.std.proofs.Common.{List, ap, append-nil, length, sym, ℕ, ◌++◌, ◌∙◌}
use Rattle.std.proofs.lemmas.Slice.Zip.{zip_end}
use Rattle.cdf_attrs.proofs.Pairs.{none_left}
use Rattle.cdf_attrs.proofs.entry_order.paired.Goals as goal

pub returns : goal.returns
returns c =
    let all = zip_end c.args.numbers.now c.args.places.now c.loop-number.yielded c.into_iter-number-iterator.result c.loop-number.number-iterator c.next.new.self c.next.result (cc) (cc) c.loop-number.yielded_by c.in-None.is c.next.ensures.steps in
    sym (append-nil c.loop-number.pairs.items) ∙ ap (λ (rest : List (ℕ × ℕ)). c.loop-number.pairs.items ++ rest) (sym (none_left c.args.numbers.now c.args.places.now (length c.loop-number.yielded) all)) ∙ c.loop-number.invariant
