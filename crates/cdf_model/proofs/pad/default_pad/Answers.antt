use Rattle.std.proofs.Common.{◌≡◌, ◌+◌, ◌-◌, ◌*◌, ◌++◌, length, drop, ap, sym, ◌∙◌, arith}
use Rattle.std.specs.List.{repeat}
use Rattle.cdf_model.specs.Pads.{default_element}
use Rattle.cdf_model.proofs.Filled.{filled_more, repeat_more, length-repeat}
use Rattle.cdf_model.proofs.pad.default_pad.Goals as goal
use borrow.Rule.Slice.PartMut.{put_mid}

pub loop-i-preserved : goal.loop-i-preserved
loop-i-preserved c =
    let element = default_element c.args.t in
    let size = length c.default_element-element.result.now in
    let i = c.loop-i.i in
    let same : c.default_element-element.result.now ≡ element = c.default_element-element.ensures in
    let at : length (repeat i element) ≡ i * size = length-repeat i element ∙ ap (λ n. i * n) (sym c.loop-i.invariant.size) in
    record {
      size = c.loop-i.invariant.size;
      out = ap (λ l. put_mid (i * size) ((i + 1) * size - i * size) l c.copy_from_slice.new.self) c.loop-i.invariant.out
          ∙ filled_more (i * size) ((i + 1) * size) size (repeat i element) c.args.out.now c.copy_from_slice.new.self at (omega arith)
          ∙ ap (λ l. l ++ drop ((i + 1) * size) c.args.out.now) (ap (λ l. repeat i element ++ l) (c.copy_from_slice.ensures.after ∙ same) ∙ sym (repeat_more i element));
    }
