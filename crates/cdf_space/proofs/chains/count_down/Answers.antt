use Rattle.cdf_space.proofs.Common.{Field, ap, count_field, counted_in, field, holder_of, number, on_ok_weaker, with_field, word, ◌+◌, ◌-◌, ◌∙◌, ◌≡◌}
use Rattle.cdf_space.proofs.chains.count_down.Goals as goal

pub returns-clause-counted : goal.returns-clause-counted
returns-clause-counted g c =
    let b = g.A.Area.image c.args.area.now in
    let chain = c.args.chain in
    let at = c.in_ok-at.ensures.holder in
    let place = c.count_place-place.ensures in
    let first = c.in_ok-at.ensures.area.image in
    let same = c.in_ok-count.ensures.area.image ∙ first in
    let count : c.in_ok-count.count ≡ counted_in b chain = c.in_ok-count.ensures.value ∙ (λ i. word (first i) (at i + place i) 4) ∙ ap (number b (holder_of b chain)) (count_field chain) in
    let mid = g.A.Area.image c.read_unsigned4.new.area in
    let now = g.A.Area.image c.set_unsigned4.new.area in
    on_ok_weaker _ (λ (w : now ≡ with_field mid c.in_ok-at.at (field c.count_place-place.result 4) (c.in_ok-count.count - 1)). w ∙ (λ i. with_field (same i) (at i) (field (place i) 4) (count i - 1)) ∙ ap (λ (f : Field). with_field b (holder_of b chain) f (counted_in b chain - 1)) (count_field chain)) c.set_unsigned4.ensures.ok
