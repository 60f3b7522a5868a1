use Rattle.cdf_values.proofs.Common.{[], ap, append_assoc, decimal, length, signed_decimal, signed_of, sym, ◌++◌, ◌-◌, ◌∙◌, ◌∷◌, ◌≡◌}
use Rattle.cdf_values.proofs.RangeLemmas.{negative, within_range}
use Rattle.cdf_values.proofs.number.append_signed.Goals as goal

pub overflow_sub-half : goal.overflow_sub-half
overflow_sub-half c =
    within_range (length c.args.bytes.now) c.half_range-half.result c.number_in-number.result c.requires.some c.half_range-half.ensures c.number_in-number.ensures.fits

pub returns : goal.returns
returns c =
    let bytes = c.args.bytes.now in
    let old = c.args.text.now.items in
    let half = c.half_range-half.result in
    let number = c.number_in-number.result in
    let far = decimal (half - (number - half)) in
    let text : signed_decimal (signed_of bytes) ≡ 45 ∷ far =
    negative bytes half number c.requires.some c.half_range-half.ensures c.number_in-number.ensures.value c.if-number-half.false c.number_in-number.ensures.fits in
    let signed : c.push.new.self.items ≡ old ++ (45 ∷ []) = c.in_ok-push.ensures.items in
    let whole : c.push.new.self.items ++ far ≡ old ++ signed_decimal (signed_of bytes) =
    ap (λ l. l ++ far) signed ∙ append_assoc old (45 ∷ []) far ∙ ap (λ l. old ++ l) (sym text) in
    rw whole at c.append_decimal-2.ensures
